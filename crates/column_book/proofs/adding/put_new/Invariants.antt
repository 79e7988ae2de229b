use Rattle.std.specs.Prelude.{◌≡◌, ◌≤◌, take, filter, length}
use Rattle.std.specs.Vec.{vec_capacity}
use Rattle.column_book.specs.Kept.{is_free, IsGrown}
use Rattle.column_book.proofs.adding.put_new.Given as goal

abbrev pub invariant-loop-column : goal.invariant-loop-column
invariant-loop-column l = record {
  grown : IsGrown l.fn.blocks.map.entries l.fn.keys.items l.blocks.map.entries l.keys.items (filter (is_free l.fn.blocks.map.entries) (take l.column-index l.columns));
  room : vec_capacity l.keys ≡ vec_capacity l.fn.keys;
  count : l.count ≡ length (filter (is_free l.fn.blocks.map.entries) (take l.column-index l.columns));
  few : l.count ≤ l.column-index;
}
