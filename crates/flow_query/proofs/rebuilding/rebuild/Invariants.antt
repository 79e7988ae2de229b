use Rattle.std.specs.Prelude.{◌≡◌, ℕ, ◌<◌, IsSomeAnd}
use Rattle.lg_model.specs.Sketch.{IsTable, bucket_in, bucket_at}
use Rattle.lg_model.specs.Answer.{look_in}
use Rattle.column_book.specs.Entries.{content}
use Rattle.flow_query.proofs.rebuilding.rebuild.Given as goal

abbrev pub invariant-loop-index : goal.invariant-loop-index
invariant-loop-index l = record {
  same : l.sketch.shape ≡ l.book.shape;
  table : IsTable l.book.shape l.sketch.table;
  done : (i j : ℕ) → i < l.book.shape.rows → j < l.index → IsSomeAnd (look_in (content l.book.entries) l.switch l.epoch j) (λ cells. bucket_at l.sketch.table i j ≡ bucket_in cells.buckets i);
}
