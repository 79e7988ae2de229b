-- The exit status of each end.
use Rattle.std.specs.Prelude.{ℕ}
use Rattle.guardian_run.specs.declared.status.Status.{Status}
use Rattle.guardian_run.specs.declared.status.Status.TheVariants.{Ok, BadWords, BadScenario, ReadFault, WriteFault}
use Rattle.guardian_run.specs.declared.status.Status.TheVariants.{DiskFault, NotAJournal, WrongShape, Damaged}
use Rattle.guardian_run.specs.declared.status.Status.TheVariants.{Conflict, Full, NoMemory, Missing}

abbrev pub code_of : Status → ℕ
code_of Ok = 0
code_of BadWords = 1
code_of BadScenario = 2
code_of ReadFault = 3
code_of WriteFault = 4
code_of DiskFault = 5
code_of NotAJournal = 6
code_of WrongShape = 7
code_of Damaged = 8
code_of Conflict = 9
code_of Full = 10
code_of NoMemory = 11
code_of Missing = 12
