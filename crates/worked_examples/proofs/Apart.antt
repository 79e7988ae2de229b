-- Contents that cannot be joined.
use Rattle.std.specs.Prelude.{◌≡◌, ℕ, List, [], ◌∷◌}
use Rattle.std.proofs.Common.{ap, arith}
use Rattle.lg_model.specs.declared.column.Bucket.{Bucket}
use Rattle.lg_model.specs.Columns.{Cells}
use Rattle.lg_model.specs.Joining.{AreJoinable}
use Rattle.worked_examples.specs.Networks.{key_of}
use Rattle.worked_examples.specs.Contents.{one, some}

first_bytes : List Bucket → ℕ
first_bytes [] = 0
first_bytes (b ∷ bs) = b.bytes

pub apart : AreJoinable some ((key_of 1 1 0, one 7) ∷ []) → ⊥
unfolding first_bytes
apart h = let n : 7 ≡ 6 = ap (λ (x : Cells). first_bytes x.buckets) (h (key_of 1 1 0)) in omega (arith, n)
