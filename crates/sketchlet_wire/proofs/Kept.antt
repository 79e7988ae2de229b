-- How a column is kept and written, over plain lists.
use Rattle.std.proofs.Common.{◌≡◌, ℕ, get_or, ◌+◌, ◌-◌, ◌*◌, ◌^◌, ◌<◌, ◌≤◌, List, [], ◌∷◌}
use Rattle.std.proofs.Common.{◌++◌, length, take, drop, replicate, slice_set, refl, sym, ap, ◌∙◌, append_assoc, arith}
use Rattle.std.proofs.Math.Numerals.{add-one}
use Rattle.std.specs.List.{flat_map}
use Rattle.std.proofs.lemmas.List.{take_at, drop_at, length-append, length-take, length-drop, drop-drop, drop-replicate, set_at, append-nil, nil_from_length}
use Rattle.std.proofs.lemmas.List.{take_all, take_more, drop_more}
use Rattle.std.proofs.lemmas.List.Concat.{flat_map-append, flat_map-cons}
use borrow.Rule.Slice.PartMut.{put_mid, mid_of}
use Rattle.lg_model.specs.declared.column.Bucket.{Bucket}
use Rattle.lg_model.specs.declared.column.Key.{Key}
use Rattle.lg_model.specs.declared.column.Dims.{Dims}
use Rattle.lg_model.specs.Sketch.{zero_bucket}
use Rattle.sketchlet_wire.specs.Spelling.{IsAdmitted, IsKept, FitBuckets, zeros, bucket_bytes}
use Rattle.sketchlet_wire.specs.Reading.{bucket_from, buckets_from}
use Rattle.sketchlet_wire.proofs.Fields.{fit_front, buckets_len, buckets_more, buckets_from_len}

pub is_kept : (key : Key) (dims : Dims) (buckets : List Bucket) → IsAdmitted key dims → key.switch < 2 ^ 16 → key.epoch < 2 ^ 32 → length buckets ≡ 8
    → FitBuckets buckets
    → drop dims.rows buckets ≡ drop dims.rows zeros → IsKept key dims buckets
is_kept key dims buckets ok switch epoch long fits past =
    let few = ok.few_rows in
    record {
      column = record {
        some_rows = ok.some_rows;
        few_rows = ok.few_rows;
        small_width = ok.small_width;
        index = ok.index;
        switch = switch;
        epoch = epoch;
        cells = record { buckets = omega (arith, length-take dims.rows buckets); fit = fit_front dims.rows buckets fits };
      };
      zeros = past;
    }

-- the buckets once those past the rows are cleared
pub cleared : (n : ℕ) (buckets new : List Bucket) → n ≤ 8 → length buckets ≡ 8 → new ≡ replicate (length (mid_of n (8 - n) buckets)) zero_bucket
    → drop n (put_mid n (8 - n) buckets new) ≡ drop n zeros
cleared n buckets new few long new-is =
    let len : length (mid_of n (8 - n) buckets) ≡ 8 - n = omega (arith, length-take (8 - n) (drop n buckets), length-drop n buckets) in
    let end : drop (8 - n) (drop n buckets) ≡ [] =
    nil_from_length (drop (8 - n) (drop n buckets)) (omega (arith, length-drop (8 - n) (drop n buckets), length-drop n buckets)) in
    drop_at (take n buckets) (new ++ drop (8 - n) (drop n buckets)) n (omega (arith, length-take n buckets))
    ∙ ap (λ (x : List Bucket). new ++ x) end ∙ append-nil new ∙ new-is ∙ ap (λ (k : ℕ). replicate k zero_bucket) len ∙ sym (drop-replicate n 8 zero_bucket)

-- one bucket more is read
pub read_more : (i : ℕ) (bytes : List ℕ) (kept old : List Bucket) → i < length old → kept ≡ buckets_from i bytes ++ drop i old
    → slice_set kept i (bucket_from (drop (6 * i) bytes)) ≡ buckets_from (i + 1) bytes ++ drop (i + 1) old
read_more i bytes kept old lt so_far =
    let b = bucket_from (drop (6 * i) bytes) in
    let y = get_or old i zero_bucket in
    let e : kept ≡ buckets_from i bytes ++ y ∷ drop (i + 1) old = so_far ∙ ap (λ (z : List Bucket). buckets_from i bytes ++ z) (drop_more old i zero_bucket lt) in
    ap (λ (k : List Bucket). slice_set k i b) e ∙ set_at (buckets_from i bytes) y (drop (i + 1) old) b i (buckets_from_len i bytes)
    ∙ sym (append_assoc (buckets_from i bytes) (b ∷ []) (drop (i + 1) old)) ∙ ap (λ (x : List Bucket). x ++ drop (i + 1) old) (sym (buckets_more i bytes))
    ∙ ap (λ (k : ℕ). buckets_from k bytes ++ drop (i + 1) old) (sym (add-one i))

-- a text is put after what was put, up to the end of the bytes
pub put_on : (front text out old : List ℕ) (n k t m : ℕ) → length front ≡ n → out ≡ front ++ drop n old → n ≤ length old → k ≡ length old - n → m ≡ n + t
    → put_mid n k out (text ++ drop t (drop n out)) ≡ (front ++ text) ++ drop m old
put_on front text out old n k t m len so_far fits k-is m-is =
    let there : drop n out ≡ drop n old = ap (drop n) so_far ∙ drop_at front (drop n old) n len in
    let before : take n out ≡ front = ap (take n) so_far ∙ take_at front (drop n old) n len in
    let same : length out ≡ length old = ap length so_far ∙ omega (arith, length-append front (drop n old), length-drop n old) in
    let past : drop k (drop n out) ≡ [] = nil_from_length (drop k (drop n out)) (omega (arith, length-drop k (drop n out), length-drop n out, same, k-is)) in
    let end : drop t (drop n out) ≡ drop m old = ap (drop t) there ∙ drop-drop t n old ∙ ap (λ (x : ℕ). drop x old) (omega (arith, m-is)) in
    ap (λ (x : List ℕ). x ++ ((text ++ drop t (drop n out)) ++ drop k (drop n out))) before
    ∙ ap (λ (x : List ℕ). front ++ ((text ++ drop t (drop n out)) ++ x)) past
    ∙ ap (λ (x : List ℕ). front ++ x) (append-nil (text ++ drop t (drop n out)))
    ∙ ap (λ (x : List ℕ). front ++ (text ++ x)) end
    ∙ sym (append_assoc front text (drop m old))

-- the same, of what a call left that was lent the bytes from there on
pub put_there : (front text out old new : List ℕ) (n k t m : ℕ) → length front ≡ n → out ≡ front ++ drop n old → n ≤ length old → k ≡ length old - n → m ≡ n + t
    → new ≡ text ++ drop t (mid_of n k out) → put_mid n k out new ≡ (front ++ text) ++ drop m old
put_there front text out old new n k t m len so_far fits k-is m-is new-is =
    let same : length out ≡ length old = ap length so_far ∙ omega (arith, length-append front (drop n old), length-drop n old, len, fits) in
    let mid : mid_of n k out ≡ drop n out = take_all k (drop n out) (omega (arith, length-drop n out, same, k-is)) in
    ap (put_mid n k out) (new-is ∙ ap (λ (x : List ℕ). text ++ drop t x) mid) ∙ put_on front text out old n k t m len so_far fits k-is m-is

-- one bucket more is written
pub bucket_more : (out old new : List ℕ) (bs : List Bucket) (b : Bucket) (i n k : ℕ) → n ≡ 6 * i → i < length bs → 6 * length bs ≤ length old
    → k ≡ length old - n → b ≡ get_or bs i zero_bucket
    → out ≡ flat_map bucket_bytes (take i bs) ++ drop (6 * i) old → new ≡ bucket_bytes b ++ drop 6 (mid_of n k out)
    → put_mid n k out new ≡ flat_map bucket_bytes (take (i + 1) bs) ++ drop (6 * (i + 1)) old
bucket_more out old new bs b i n k n-is lt fits k-is b-is so_far new-is =
    let F : List ℕ = flat_map bucket_bytes (take i bs) in
    let len : length F ≡ n = omega (arith, buckets_len (take i bs), length-take i bs, n-is, lt) in
    let so_far2 : out ≡ F ++ drop n old = so_far ∙ ap (λ (x : ℕ). F ++ drop x old) (sym n-is) in
    let taken : take (i + 1) bs ≡ take i bs ++ b ∷ [] = take_more bs i zero_bucket lt ∙ ap (λ (x : Bucket). take i bs ++ x ∷ []) (sym b-is) in
    let single : flat_map bucket_bytes (b ∷ []) ≡ bucket_bytes b = flat_map-cons bucket_bytes b [] ∙ append-nil (bucket_bytes b) in
    let more : flat_map bucket_bytes (take (i + 1) bs) ≡ F ++ bucket_bytes b =
    ap (flat_map bucket_bytes) taken ∙ flat_map-append bucket_bytes (take i bs) (b ∷ []) ∙ ap (λ (x : List ℕ). F ++ x) single in
    put_there F (bucket_bytes b) out old new n k 6 (6 * (i + 1)) len so_far2 (omega (arith, n-is, lt, fits)) k-is (omega (arith, n-is)) new-is
    ∙ ap (λ (x : List ℕ). x ++ drop (6 * (i + 1)) old) (sym more)

-- the cells are written after the head, up to the end of the bytes
pub cells_put : (a d key cells out old new : List ℕ) (k n : ℕ) → length a + (length d + length key) ≡ 14 → 14 ≤ length old → k ≡ length old - 14
    → out ≡ a ++ (d ++ (key ++ drop 14 old))
    → new ≡ cells ++ drop n (mid_of 14 k out) → put_mid 14 k out new ≡ (a ++ (d ++ (key ++ cells))) ++ drop (14 + n) old
cells_put a d key cells out old new k n head fits k-is so_far new-is =
    let front : List ℕ = a ++ (d ++ key) in
    let len : length front ≡ 14 = omega (arith, length-append a (d ++ key), length-append d key, head) in
    let so_far2 : out ≡ front ++ drop 14 old = so_far ∙ simp append_assoc in
    let regroup : front ++ cells ≡ a ++ (d ++ (key ++ cells)) = simp append_assoc in
    put_there front cells out old new 14 k n (14 + n) len so_far2 fits k-is refl new-is
    ∙ ap (λ (x : List ℕ). x ++ drop (14 + n) old) regroup
