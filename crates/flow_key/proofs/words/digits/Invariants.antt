use Rattle.std.proofs.Common.{◌≡◌, ◌≤◌, ◌-◌, take, true, length, eqb}
use Rattle.std.specs.List.{list_all, position_or_len}
use Rattle.std.specs.Char.{is_ascii_digit}
use Rattle.std.specs.Str.Parse.{digits_value}
use Rattle.flow_key.proofs.words.digits.Given as goal

abbrev pub invariant-loop-count : goal.invariant-loop-count
invariant-loop-count l = record {
  inside : l.count ≤ length l.text;
  word : l.count ≤ position_or_len (λ b. eqb b l.at) l.text;
  digits : list_all is_ascii_digit (take l.count l.text) ≡ true;
  is : l.value ≡ digits_value 10 (take l.count l.text);
  bound : l.value ≤ l.most;
}

abbrev pub decreases-loop-count : goal.decreases-loop-count
decreases-loop-count l = length l.text - l.count
