use Rattle.std.specs.Prelude.{◌≡◌, length}
use Rattle.std.specs.Vec.{vec_capacity}
use Rattle.lg_model.specs.declared.column.Key.{Key}
use Rattle.column_book.specs.Blocks.{kept_at}
use Rattle.column_book.proofs.adding.sweep.Given as goal

abbrev pub invariant-loop-key : goal.invariant-loop-key
invariant-loop-key l = record { kept : (q : Key) → kept_at l.blocks.map.entries q ≡ kept_at l.fn.blocks.map.entries q; room : vec_capacity l.ready ≡ vec_capacity l.fn.ready }

abbrev pub decreases-loop-key : goal.decreases-loop-key
decreases-loop-key l = length l.ready.items
