use Rattle.std.proofs.Common.{take}
use Rattle.std.specs.List.{AllByRecursion}
use Rattle.sketchlet_wire.specs.Spelling.{IsColumn}
use Rattle.sketchlet_wire.proofs.upload.columns_fit.Given as goal

abbrev pub invariant-loop-column : goal.invariant-loop-column
invariant-loop-column l = AllByRecursion IsColumn (take l.column-index l.columns)
