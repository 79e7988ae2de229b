-- What a whole text says: its scenario, or its first faulty line and why.
use Rattle.std.specs.Prelude.{◌≡◌, ◌==◌, ℕ, ◌+◌, ◌<◌, ◌≤◌, Bool, List, [], ◌∷◌, ◌++◌, ◌⊎◌, length, take, drop, Option, Some, Result, Ok, Err, nat_le}
use Rattle.std.specs.Prelude.{if◌then◌else◌}
use Rattle.std.specs.List.{count_by}
use Rattle.std.specs.Str.Lines.{strip_carriage_return}
use Rattle.flow_key.specs.Words.{words_at}
use Rattle.lg_model.specs.declared.limits.TheConstants.{MOST_TEXT_BYTES}
use Rattle.lg_model.specs.Scenario.{Scenario}
use Rattle.scenario_lines.specs.declared.why.Why.{Why}
use Rattle.scenario_lines.specs.declared.why.Why.TheVariants.{NoDone, TooLong}
use Rattle.scenario_lines.specs.Sections.{is_done}
use Rattle.scenario_lines.specs.Draft.{State, start}
use Rattle.scenario_lines.specs.Line.{line_of}
use Rattle.scenario_text.specs.declared.fault.ScenarioFault.{ScenarioFault}
use Rattle.scenario_text.specs.declared.fault.ScenarioFault.TheVariants as faults

-- A line, counted from 1, and its why.
abbrev pub Fault : Type 0
Fault = ℕ × Why

-- The last line of an input, which has no 0A.
abbrev pub at_end : ℕ → Result State Why → Result Scenario Fault
at_end n (Err why) = Err (n, why)
at_end n (Ok s) = if is_done s.section then Ok s.parts else Err (n, NoDone)

-- What follows a line that has its 0A: nothing after `done` or a fault, else the next line.
abbrev pub after_line : ℕ → Result State Why → (State → Result Scenario Fault) → Result Scenario Fault
after_line n (Err why) next = Err (n, why)
after_line n (Ok s) next = if is_done s.section then Ok s.parts else next s

-- What the parts between the bytes 0A say, from line n and a state on; the last part has no 0A. `long` says that the
-- input has as many bytes as a text may not have.
unfoldable pub lines_say : Bool → ℕ → State → List (List ℕ) → Result Scenario Fault
lines_say long n s [] = Err (n, NoDone)
lines_say long n s (part ∷ []) = if long then Err (n, TooLong) else at_end n (line_of s part)
lines_say long n s (part ∷ next ∷ parts) =
    after_line n (line_of s (strip_carriage_return part)) (λ t. lines_say long (n + 1) t (next ∷ parts))

-- What an input says: the scenario, or the first faulty line and why. Only the first 16,777,216 bytes are looked at.
unfoldable pub reading : List ℕ → Result Scenario Fault
reading input = lines_say (nat_le MOST_TEXT_BYTES (length input)) 1 start (words_at 10 (take MOST_TEXT_BYTES input))

-- ---- the deciding prefix

abbrev pub after_len : Result State Why → (State → ℕ) → ℕ
after_len (Err why) next = 0
after_len (Ok s) next = if is_done s.section then 0 else next s

-- How many bytes decide: those up to and with the 0A of `done` or of the first faulty line, and all where there is none.
unfoldable pub decide : State → List (List ℕ) → ℕ
decide s [] = 0
decide s (part ∷ []) = length part
decide s (part ∷ next ∷ parts) = (length part + 1) + after_len (line_of s (strip_carriage_return part)) (λ t. decide t (next ∷ parts))

unfoldable pub deciding_len : List ℕ → ℕ
deciding_len input = decide start (words_at 10 (take MOST_TEXT_BYTES input))

-- The deciding prefix of an input.
abbrev pub deciding : List ℕ → List ℕ
deciding input = take (deciding_len input) input

-- ---- what a reader promises

-- What was answered is what the input says, unless memory or the source gave out.
abbrev pub Answers : Result Scenario ScenarioFault → Result Scenario Fault → Type 0
Answers (Ok w) said = said ≡ Ok w
Answers (Err (faults.Bad line why)) said = said ≡ Err (line, why)
Answers (Err faults.ReadFault) said = Unit {0}
Answers (Err faults.Memory) said = Unit {0}

-- Some of the input was taken, and its whole deciding prefix with it.
pub record IsTaken (input : List ℕ) (left : Option (List ℕ)) : Type 0 where
  pub taken : ℕ
  pub left_is : left ≡ Some (drop taken input)
  pub decided : deciding_len input ≤ taken

-- No line in the first n bytes decides: whatever byte comes after them, it counts too.
abbrev pub DecideNothing : (input : List ℕ) (n : ℕ) → Type 0
DecideNothing input n = (next : ℕ) → n < deciding_len (take n input ++ next ∷ [])

-- The deciding prefix ends with 0A where it is not all that is looked at, and no shorter prefix decides.
pub record IsShortest (input : List ℕ) : Type 0 where
  pub ended : deciding_len input < length (take MOST_TEXT_BYTES input) → (front : List ℕ) × (deciding input ≡ front ++ 10 ∷ [])
  pub none_before : (n : ℕ) → n < deciding_len input → DecideNothing input n

-- A why of a whole text: its last line is no `done`, or none stands in the bytes that are looked at.
abbrev pub IsUnfinished : Why → Type 0
IsUnfinished why = (why ≡ NoDone) ⊎ (why ≡ TooLong)

-- The line of an unfinished or too long text is one more than the 0A in its deciding prefix.
abbrev pub LawOfTheLastLine : Type 0
LawOfTheLastLine = (input : List ℕ) (n : ℕ) (why : Why) → IsUnfinished why → reading input ≡ Err (n, why)
    → n ≡ count_by (λ b. b == 10) (deciding input) + 1

-- Some of the input was taken, and decides nothing yet.
pub record IsUndecided (input : List ℕ) (left : Option (List ℕ)) : Type 0 where
  pub taken : ℕ
  pub left_is : left ≡ Some (drop taken input)
  pub undecided : DecideNothing input taken

-- What was taken where the answer is a scenario or a fault of the text, and where the source failed.
abbrev pub Took : Result Scenario ScenarioFault → List ℕ → Option (List ℕ) → Type 0
Took (Ok w) input left = IsTaken input left
Took (Err (faults.Bad line why)) input left = IsTaken input left
Took (Err faults.ReadFault) input left = IsUndecided input left
Took (Err faults.Memory) input left = Unit {0}
