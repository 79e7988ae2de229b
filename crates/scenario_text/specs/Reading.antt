-- A reader in the midst of a text.
use Rattle.std.specs.Prelude.{◌≡◌, ℕ, ◌+◌, ◌≤◌, ◌-◌, ◌==◌, Bool, true, false, List, ◌++◌, length, take, drop, slice_index, ◌<◌, All, Option, Some, Result}
use Rattle.std.specs.Prelude.{Ok, Err, nat_le}
use Rattle.flow_key.specs.Words.{words_at}
use Rattle.lg_model.specs.declared.limits.TheConstants.{MOST_TEXT_BYTES}
use Rattle.lg_model.specs.Scenario.{Scenario}
use Rattle.scenario_lines.specs.Draft.{view, FitsSoFar}
use Rattle.scenario_lines.specs.PrintedLen.{printed_len}
use Rattle.scenario_parts.specs.Printed.{text_of}
use Rattle.scenario_text.specs.declared.fault.ScenarioFault.{ScenarioFault}
use Rattle.scenario_text.specs.declared.fault.ScenarioFault.TheVariants as faults
use Rattle.scenario_text.specs.declared.reader.Reader.{Reader}
use Rattle.scenario_text.specs.Text.{Fault, lines_say, reading, decide, deciding_len}

-- A line without a byte 0A.
abbrev pub IsUnbroken : List ℕ → Type 0
IsUnbroken line = All (λ b. (b == 10) ≡ false) line

-- The first 0A of a piece stands after n bytes.
pub record EndsAt (n : ℕ) (piece : List ℕ) : Type 0 where
  pub within : n < length piece
  pub here : slice_index piece n ≡ 10
  pub unbroken : IsUnbroken (take n piece)

-- The pending line has no 0A, and the parts so far fit each other.
pub record IsReader (r : Reader) : Type 0 where
  pub unbroken : IsUnbroken r.pending.items
  pub fits : FitsSoFar r.draft

-- What is said from here on, where these bytes follow.
abbrev pub from_here : Bool → Reader → List ℕ → Result Scenario Fault
from_here long r more = lines_say long r.line (view r.draft) (words_at 10 (r.pending.items ++ more))

-- What feeding did: the same is said as before, of whatever follows.
abbrev pub Fed : Reader → List ℕ → Reader → Result Bool ScenarioFault → Type 0
Fed old piece new (Ok true) = (long : Bool) (more : List ℕ) → from_here long old (piece ++ more) ≡ Ok (view new.draft).parts
Fed old piece new (Ok false) = (long : Bool) (more : List ℕ) → from_here long old (piece ++ more) ≡ from_here long new more
Fed old piece new (Err (faults.Bad line why)) = (long : Bool) (more : List ℕ) → from_here long old (piece ++ more) ≡ Err (line, why)
Fed old piece new (Err faults.ReadFault) = ⊥
Fed old piece new (Err faults.Memory) = Unit {0}

-- How many bytes decide from here on, those of the pending line among them.
abbrev pub needs : Reader → List ℕ → ℕ
needs r more = decide (view r.draft) (words_at 10 (r.pending.items ++ more))

-- What feeding took of the deciding bytes.
abbrev pub Spent : Reader → List ℕ → Reader → Result Bool ScenarioFault → Type 0
Spent old piece new (Ok true) = (more : List ℕ) → needs old (piece ++ more) ≤ length old.pending.items + length piece
Spent old piece new (Ok false) = (more : List ℕ)
    → needs old (piece ++ more) + length new.pending.items ≡ (length old.pending.items + length piece) + needs new more
Spent old piece new (Err (faults.Bad line why)) = (more : List ℕ) → needs old (piece ++ more) ≤ length old.pending.items + length piece
Spent old piece new (Err faults.ReadFault) = ⊥
Spent old piece new (Err faults.Memory) = Unit {0}

-- The bytes that the parts so far take when they are printed, and those of the pending line.
abbrev pub len_so_far : Reader → ℕ
len_so_far r = printed_len (view r.draft) + length r.pending.items

-- What the parts take when they are printed after feeding this many bytes: no more bytes than were fed. After `done`
-- that is the text of the scenario.
abbrev pub Holds : Reader → ℕ → Reader → Result Bool ScenarioFault → Type 0
Holds old count new (Ok true) = length (text_of (view new.draft).parts) ≤ len_so_far old + count
Holds old count new (Ok false) = len_so_far new ≤ len_so_far old + count
Holds old count new (Err e) = Unit {0}

-- The source still has some bytes of the input, and with them the rest of what the input says.
pub record StillSays (input : List ℕ) (taken : ℕ) (left : Option (List ℕ)) (r : Reader) : Type 0 where
  pub bytes : List ℕ
  pub left_is : left ≡ Some bytes
  pub all : taken + length bytes ≡ length input
  pub says : from_here (nat_le MOST_TEXT_BYTES (length input)) r (take (MOST_TEXT_BYTES - taken) bytes) ≡ reading input

-- This many bytes of the input were taken, and whatever follows them, the reader needs what they leave of it.
pub record StillNeeds (input : List ℕ) (taken : ℕ) (left : Option (List ℕ)) (r : Reader) : Type 0 where
  pub left_is : left ≡ Some (drop taken input)
  pub needs_so : (rest : List ℕ) → deciding_len (take taken input ++ rest) + length r.pending.items ≡ taken + needs r (take (MOST_TEXT_BYTES - taken) rest)
