-- A property of each column of a list.
use Rattle.std.specs.Prelude.{List, [], ◌∷◌, ◌++◌}
use Rattle.std.specs.List.{AllByRecursion}
use Rattle.lg_model.specs.Columns.{Column}
use Rattle.sketchlet_wire.specs.Spelling.{IsColumn}

pub each_more : (cs : List Column) (c : Column) → AllByRecursion IsColumn cs → IsColumn c → AllByRecursion IsColumn (cs ++ c ∷ [])
each_more [] c each one = (one, tt)
each_more (x ∷ cs) c each one = (each.0, each_more cs c each.1 one)
