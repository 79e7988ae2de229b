use Rattle.std.specs.Prelude.{◌≡◌, take, IfSome}
use Rattle.std.specs.List.{AllByRecursion}
use Rattle.std.specs.Vec.{vec_capacity}
use Rattle.lg_model.specs.declared.column.Key.{Key}
use Rattle.column_book.specs.Blocks.{spot, kept_at, IsMade}
use Rattle.column_book.specs.Kept.{keys_of}
use Rattle.column_book.proofs.adding.make_all.Given as goal

abbrev pub invariant-loop-column : goal.invariant-loop-column
invariant-loop-column l = record {
  last : IfSome l.last (IsMade l.blocks.map.entries);
  kept : (q : Key) → kept_at l.blocks.map.entries q ≡ kept_at l.fn.blocks.map.entries q;
  made : AllByRecursion (λ (k : Key). IsMade l.blocks.map.entries (spot k)) l.ready.items;
  all : l.ready.items ≡ keys_of (take l.column-index l.columns);
  room : vec_capacity l.ready ≡ vec_capacity l.fn.ready;
}
