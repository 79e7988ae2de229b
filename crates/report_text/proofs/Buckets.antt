-- The buckets of a column and of a row, one after the other.
use Rattle.std.specs.Prelude.{◌≡◌, ℕ, ◌+◌, ◌<◌, List, [], ◌∷◌, ◌++◌, map, take, length, slice_index_or}
use Rattle.std.specs.List.{flat_map, range_with_len}
use Rattle.std.proofs.Common.{sym, ap, ◌∙◌, append-nil, append_assoc, arith}
use Rattle.std.proofs.lemmas.List.{take_more}
use Rattle.std.proofs.lemmas.List.FromFn.{map-range_with_len_more}
use Rattle.std.proofs.lemmas.Grind.{flat_map-append}
use Rattle.lg_model.specs.declared.column.Bucket.{Bucket}
use Rattle.lg_model.specs.Sketch.{bucket_at}
use Rattle.sumax_sketch.specs.SketchState.{SketchState}
use Rattle.report_text.specs.Columns.{bucket_text, row_text}

text_push : (bs : List Bucket) (b : Bucket) → flat_map bucket_text (bs ++ b ∷ []) ≡ flat_map bucket_text bs ++ bucket_text b
text_push bs b = flat_map-append bucket_text bs (b ∷ []) ∙ ap (λ (t : List ℕ). flat_map bucket_text bs ++ t) (append-nil (bucket_text b))

-- one bucket of a column more
pub column_more : (bs : List Bucket) (n : ℕ) (d b : Bucket) (old now next : List ℕ) → n < length bs → b ≡ slice_index_or bs n d →
    now ≡ old ++ flat_map bucket_text (take n bs) → next ≡ now ++ bucket_text b → next ≡ old ++ flat_map bucket_text (take (n + 1) bs)
column_more bs n d b old now next low at so_far is =
    is ∙ ap (λ (t : List ℕ). t ++ bucket_text b) so_far ∙ append_assoc old (flat_map bucket_text (take n bs)) (bucket_text b)
    ∙ ap (λ (t : List ℕ). old ++ t) (sym (text_push (take n bs) b) ∙ ap (λ (x : Bucket). flat_map bucket_text (take n bs ++ x ∷ [])) at ∙ ap (flat_map bucket_text) (sym (take_more bs n d low)))

-- one bucket of a row more
pub row_more : (s : SketchState) (row n : ℕ) (b : Bucket) (old now next : List ℕ) → b ≡ bucket_at s.table row n →
    now ≡ old ++ row_text s row n → next ≡ now ++ bucket_text b → next ≡ old ++ row_text s row (n + 1)
row_more s row n b old now next at so_far is =
    let bs = map (λ j. bucket_at s.table row j) (range_with_len 0 n) in
    let from : 0 + n ≡ n = omega arith in
    is ∙ ap (λ (t : List ℕ). t ++ bucket_text b) so_far ∙ append_assoc old (row_text s row n) (bucket_text b)
    ∙ ap (λ (t : List ℕ). old ++ t) (sym (text_push bs b) ∙ ap (λ (x : Bucket). flat_map bucket_text (bs ++ x ∷ [])) at
    ∙ ap (flat_map bucket_text) (sym (map-range_with_len_more (λ j. bucket_at s.table row j) 0 n n from)))
