-- What is done at the end of a call with what a command gave.
use Rattle.std.specs.Prelude.{◌≡◌, ◌⊎◌, ℕ, List}
use Rattle.guardian_run.specs.declared.refusal.Refusal.{Refusal}
use Rattle.guardian_run.specs.declared.refusal.Refusal.TheVariants as refusals
use Rattle.guardian_run.specs.declared.status.Status.{Status}
use Rattle.guardian_run.specs.declared.status.Status.TheVariants as status
use Rattle.guardian_run.specs.Changes.{Change}
use Rattle.report_text.specs.Faults.{no_memory_line}
use Rattle.guardian_run.specs.Refusals.{status_of, fault_line}
use Rattle.guardian_run.specs.Ends.{IsOutputEnd, Puts}

-- An output is written, whole or up to where the sink failed.
abbrev pub EndsWith : (text : List ℕ) → (sink : Change) → Status → Type 0
EndsWith text sink s = IsOutputEnd s × Puts s sink text

-- The line of a status is written.
abbrev pub EndsWithLine : (at : Status) → (line : List ℕ) → (sink : Change) → Status → Type 0
EndsWithLine at line sink s = (s ≡ at) × Puts s sink line

-- A line that has a number in it takes memory.
abbrev pub TakesMemory : Refusal → Type 0
TakesMemory refusals.BadWords = ⊥
TakesMemory (refusals.BadScenario n why) = Unit {0}
TakesMemory refusals.ReadFault = ⊥
TakesMemory refusals.DiskFault = ⊥
TakesMemory refusals.NotAJournal = ⊥
TakesMemory (refusals.WrongShape kept asked) = Unit {0}
TakesMemory (refusals.Damaged at) = Unit {0}
TakesMemory (refusals.Full held more) = Unit {0}
TakesMemory refusals.Memory = ⊥
TakesMemory (refusals.Missing s e known width) = Unit {0}
TakesMemory refusals.Blank = ⊥

-- A refusal ends at its status with its line, or where there is no memory for that line at `NoMemory`.
abbrev pub EndsRefused : Refusal → (sink : Change) → Status → Type 0
EndsRefused refusal sink s =
    EndsWithLine (status_of refusal) (fault_line refusal) sink s
    ⊎ (TakesMemory refusal × EndsWithLine status.NoMemory no_memory_line sink s)
