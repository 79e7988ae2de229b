-- What is answered and written where a command is refused.
use Rattle.std.specs.Prelude.{ℕ, List}
use Rattle.scenario_text.specs.declared.fault.ScenarioFault.{ScenarioFault}
use Rattle.scenario_text.specs.declared.fault.ScenarioFault.TheVariants as text
use Rattle.book_file.specs.declared.found.OpenFault.{OpenFault}
use Rattle.book_file.specs.declared.found.OpenFault.TheVariants as file
use Rattle.guardian_run.specs.declared.refusal.Refusal.{Refusal}
use Rattle.guardian_run.specs.declared.refusal.Refusal.TheVariants as refusals
use Rattle.guardian_run.specs.declared.status.Status.{Status}
use Rattle.guardian_run.specs.declared.status.Status.TheVariants as status
use Rattle.report_text.specs.Faults.{usage_line, read_fault_line, disk_fault_line, not_a_journal_line, no_memory_line}
use Rattle.report_text.specs.Faults.{scenario_line, shape_line, damaged_line, full_line, missing_line, blank_line}

-- The refusal of a scenario text that cannot be had.
abbrev pub refusal_of : ScenarioFault → Refusal
refusal_of (text.Bad n why) = refusals.BadScenario n why
refusal_of text.ReadFault = refusals.ReadFault
refusal_of text.Memory = refusals.Memory

-- The refusal of a book file that cannot be had.
abbrev pub file_refusal : OpenFault → Refusal
file_refusal file.DiskFault = refusals.DiskFault
file_refusal file.NotAJournal = refusals.NotAJournal
file_refusal (file.WrongShape kept asked) = refusals.WrongShape kept asked
file_refusal (file.Damaged at) = refusals.Damaged at
file_refusal (file.Full held more) = refusals.Full held more
file_refusal file.Memory = refusals.Memory

-- The status of a refusal.
abbrev pub status_of : Refusal → Status
status_of refusals.BadWords = status.BadWords
status_of (refusals.BadScenario n why) = status.BadScenario
status_of refusals.ReadFault = status.ReadFault
status_of refusals.DiskFault = status.DiskFault
status_of refusals.NotAJournal = status.NotAJournal
status_of (refusals.WrongShape kept asked) = status.WrongShape
status_of (refusals.Damaged at) = status.Damaged
status_of (refusals.Full held more) = status.Full
status_of refusals.Memory = status.NoMemory
status_of (refusals.Missing s e known width) = status.Missing
status_of refusals.Blank = status.Missing

-- And its line.
abbrev pub fault_line : Refusal → List ℕ
fault_line refusals.BadWords = usage_line
fault_line (refusals.BadScenario n why) = scenario_line (n, why)
fault_line refusals.ReadFault = read_fault_line
fault_line refusals.DiskFault = disk_fault_line
fault_line refusals.NotAJournal = not_a_journal_line
fault_line (refusals.WrongShape kept asked) = shape_line kept asked
fault_line (refusals.Damaged at) = damaged_line at
fault_line (refusals.Full held more) = full_line held more
fault_line refusals.Memory = no_memory_line
fault_line (refusals.Missing s e known width) = missing_line s e known width
fault_line refusals.Blank = blank_line
