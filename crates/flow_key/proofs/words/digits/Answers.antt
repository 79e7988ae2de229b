use Rattle.std.proofs.Common.{◌+◌, ◌<◌, ◌≡◌, true, eqb, take, arith, get_or}
use Rattle.std.specs.List.{position_or_len}
use Rattle.std.specs.Char.{is_ascii_digit}
use Rattle.std.specs.Str.Parse.{digits_value}
use Rattle.flow_key.proofs.WordLemmas.{digit_here, value_more, digits_more}
use Rattle.flow_key.proofs.FrontLemmas.{ends_by, ends_here, ends_later, worth_front, no_digit, front_too_much}
use Rattle.flow_key.proofs.words.digits.Goals as goal

pub returns-then-b-at-clause-value : goal.returns-then-b-at-clause-value
returns-then-b-at-clause-value c =
    let e = ends_here (λ b. eqb b c.args.at) c.args.text.now c.loop-count.count c.loop-count.invariant.word (grind arith) in
    worth_front c.args.at c.args.most c.args.text.now c.loop-count.count
    c.loop-count.value e c.loop-count.invariant.digits c.loop-count.invariant.is c.loop-count.invariant.bound

pub returns-then-b-at-clause-ends : goal.returns-then-b-at-clause-ends
returns-then-b-at-clause-ends c = ends_here (λ b. eqb b c.args.at) c.args.text.now c.loop-count.count c.loop-count.invariant.word (grind arith)

pub returns-then-not-is_ascii_digit-clause-value : goal.returns-then-not-is_ascii_digit-clause-value
returns-then-not-is_ascii_digit-clause-value c =
    let later = ends_later (λ b. eqb b c.args.at) c.args.text.now c.loop-count.count c.loop-count.invariant.word c.loop-count-test.true (grind arith) in
    no_digit c.args.at c.args.most c.args.text.now c.loop-count.count later cc

pub returns-then-digit-last-clause-value : goal.returns-then-digit-last-clause-value
returns-then-digit-last-clause-value c =
    let later = ends_later (λ b. eqb b c.args.at) c.args.text.now c.loop-count.count c.loop-count.invariant.word c.loop-count-test.true (grind arith) in
    let here : is_ascii_digit (get_or c.args.text.now c.loop-count.count 0) ≡ true = cc in
    let more = value_more c.args.text.now c.loop-count.count c.loop-count-test.true here in
    let lt : c.args.most < digits_value 10 (take (c.loop-count.count + 1) c.args.text.now) = omega (arith, more) in
    front_too_much c.args.at c.args.most c.args.text.now c.loop-count.count later lt

pub loop-count-preserved : goal.loop-count-preserved
loop-count-preserved c =
    let later = ends_later (λ b. eqb b c.args.at) c.args.text.now c.loop-count.count c.loop-count.invariant.word c.loop-count-test.true (grind arith) in
    let here : is_ascii_digit (get_or c.args.text.now c.loop-count.count 0) ≡ true = cc in
    let more = value_more c.args.text.now c.loop-count.count c.loop-count-test.true here in
    record {
      inside = omega arith;
      word = omega (arith, later);
      digits = digits_more c.args.text.now c.loop-count.count c.loop-count-test.true c.loop-count.invariant.digits here;
      is = omega (arith, more);
      bound = omega (arith, digit_here (get_or c.args.text.now c.loop-count.count 0) here);
    }

pub returns-clause-value : goal.returns-clause-value
returns-clause-value c =
    let e : c.loop-count.count ≡ position_or_len (λ b. eqb b c.args.at) c.args.text.now = omega (arith, ends_by (λ b. eqb b c.args.at) c.args.text.now) in
    worth_front c.args.at c.args.most c.args.text.now c.loop-count.count
    c.loop-count.value e c.loop-count.invariant.digits c.loop-count.invariant.is c.loop-count.invariant.bound

pub returns-clause-ends : goal.returns-clause-ends
returns-clause-ends c = omega (arith, ends_by (λ b. eqb b c.args.at) c.args.text.now)
