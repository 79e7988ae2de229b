-- A field that is read is the field that was written, and what was written is read again.
use Rattle.std.proofs.Common.{◌≡◌, ℕ, zero, suc, ◌+◌, ◌*◌, ◌^◌, ◌<◌, ◌≤◌, ◌||◌, true, false, cond, ltb, eqb, List}
use Rattle.std.proofs.Common.{[], ◌∷◌, ◌++◌, length, take, drop, Result, Ok, Err, refl, sym, ap, subst, ◌∙◌, append_assoc, arith}
use Rattle.std.specs.Int.{w16, w32, to_be_bytes}
use Rattle.std.specs.List.{flat_map}
use Rattle.std.proofs.lemmas.Bool.{ltb-false, ltb-true, le-ltb, eqb-true}
use Rattle.std.proofs.lemmas.List.{drop_at, take-append-drop, length-append, length-drop, drop-drop}
use Rattle.std.proofs.lemmas.List.Concat.{flat_map-cons}
use Rattle.std.proofs.lemmas.Nat.{from_be_bytes-to_be_bytes_2, from_be_bytes-to_be_bytes_4}
use Rattle.byte_fields.specs.Reading.{◌>>=◌, number_at, byte_at}
use Rattle.byte_fields.specs.Law.{IsBytes, Takes}
use Rattle.byte_fields.proofs.Steps.{bind_ok, guard_ok, guarded, ok_is}
use Rattle.byte_fields.proofs.Numbers.{IsBytes-drop, IsBytes-take, IsBytes-rest, Takes-then, wide16, wide32, front_back, number_takes, number_again}
use Rattle.lg_model.specs.declared.column.Bucket.{Bucket}
use Rattle.lg_model.specs.declared.column.Key.{Key}
use Rattle.lg_model.specs.Columns.{Cells, cells_of}
use Rattle.lg_model.specs.Sketch.{zero_bucket}
use Rattle.sketchlet_wire.specs.declared.fault.WireFault.TheVariants.{Short, NotSketchlet, BadRows, BadWidth, BadIndex}
use Rattle.sketchlet_wire.specs.Spelling.{FitsBucket, FitBuckets, FitsKey, AreCells, bucket_bytes, cells_bytes, cells_len, column_key_bytes}
use Rattle.sketchlet_wire.specs.Reading.{mark_at, rows_at, width_at, bucket_from, buckets_from, cells_at, key_of_parts, key_at, admitted_key_at}

-- ---- marks and guarded fields

pub mark_takes : (place mark : ℕ) (bytes rest : List ℕ) → IsBytes bytes → mark_at place mark bytes ≡ Ok rest → Takes bytes (mark ∷ []) rest
unfolding mark_at byte_at
mark_takes place mark [] rest fits e = absurd cc
mark_takes place mark (b ∷ bytes) rest fits e =
    let g = guarded (eqb b mark) (NotSketchlet place) bytes rest e in
    subst (λ (r : List ℕ). Takes (b ∷ bytes) (mark ∷ []) r) g.1
    (record { parts = ap (λ (m : ℕ). m ∷ bytes) (eqb-true _ _ g.0); rest_fits = IsBytes-rest b bytes fits })

pub mark_again : (place mark : ℕ) (rest : List ℕ) → mark_at place mark (mark ∷ rest) ≡ Ok rest
unfolding mark_at byte_at
mark_again place mark rest = grind arith

pub rows_takes : (bytes : List ℕ) (x : ℕ × List ℕ) → IsBytes bytes → rows_at bytes ≡ Ok x → Takes bytes (x.0 ∷ []) x.1 × (1 ≤ x.0) × (x.0 ≤ 8)
unfolding rows_at byte_at
rows_takes [] x fits e = absurd cc
rows_takes (b ∷ bytes) x fits e =
    let made : ℕ × List ℕ = (b, bytes) in
    let g = guard_ok (ltb b 1 || ltb 8 b) (BadRows b) made x e in
    subst (λ (y : ℕ × List ℕ). Takes (b ∷ bytes) (y.0 ∷ []) y.1 × (1 ≤ y.0)
    × (y.0 ≤ 8)) g.1 (record { parts = refl; rest_fits = IsBytes-rest b bytes fits }, grind (arith, g.0), grind (arith, g.0))

pub rows_again : (n : ℕ) (rest : List ℕ) → 1 ≤ n → n ≤ 8 → rows_at (n ∷ rest) ≡ Ok (n, rest)
unfolding rows_at byte_at
rows_again n rest lo hi =
    let a : ltb n 1 ≡ false = le-ltb _ _ lo in
    let b : ltb 8 n ≡ false = le-ltb _ _ hi in
    rw (a, b) refl

pub width_takes : (bytes : List ℕ) (x : ℕ × List ℕ) → IsBytes bytes → width_at bytes ≡ Ok x → Takes bytes (to_be_bytes w16 x.0) x.1 × (x.0 ≤ 4096)
unfolding width_at
width_takes bytes x fits e =
    let a = bind_ok (number_at Short w16 bytes) (λ b. cond (ltb b.0 1 || ltb 4096 b.0) (Err (BadWidth b.0)) (Ok b)) x e in
    let g = guard_ok (ltb a.0.0 1 || ltb 4096 a.0.0) (BadWidth a.0.0) a.0 x a.2 in
    let t = number_takes Short w16 (2 ^ 16) wide16 bytes a.0 fits a.1 in
    subst (λ (y : ℕ × List ℕ). Takes bytes (to_be_bytes w16 y.0) y.1 × (y.0 ≤ 4096)) g.1 (t.0, grind (arith, g.0))

pub width_again : (n : ℕ) (rest : List ℕ) → 1 ≤ n → n ≤ 4096 → width_at (to_be_bytes w16 n ++ rest) ≡ Ok (n, rest)
unfolding width_at
width_again n rest lo hi =
    let a : ltb n 1 ≡ false = le-ltb _ _ lo in
    let b : ltb 4096 n ≡ false = le-ltb _ _ hi in
    rw (number_again Short w16 (2 ^ 16) wide16 n rest (omega arith), a, b) refl

-- ---- keys

pub key_takes : {E : Type 0} (missing : E) (bytes : List ℕ) (x : Key × List ℕ) → IsBytes bytes → key_at missing bytes ≡ Ok x
    → Takes bytes (column_key_bytes x.0) x.1 × FitsKey x.0
unfolding key_at column_key_bytes
key_takes {E = E} missing bytes x fits e =
    let last = λ (switch epoch : ℕ) (index : ℕ × List ℕ). (let r : Result (Key × List ℕ) E = Ok (key_of_parts switch epoch index.0, index.1) in r) in
    let a = bind_ok (number_at missing w16 bytes) (λ s. number_at missing w32 s.1 >>= λ n. number_at missing w16 n.1 >>= λ i. last s.0 n.0 i) x e in
    let b = bind_ok (number_at missing w32 a.0.1) (λ n. number_at missing w16 n.1 >>= λ i. last a.0.0 n.0 i) x a.2 in
    let c = bind_ok (number_at missing w16 b.0.1) (λ i. last a.0.0 b.0.0 i) x b.2 in
    let t1 = number_takes missing w16 (2 ^ 16) wide16 bytes a.0 fits a.1 in
    let t2 = number_takes missing w32 (2 ^ 32) wide32 a.0.1 b.0 t1.0.rest_fits b.1 in
    let t3 = number_takes missing w16 (2 ^ 16) wide16 b.0.1 c.0 t2.0.rest_fits c.1 in
    let s2 = Takes-then a.0.1 (to_be_bytes w32 b.0.0) b.0.1 (to_be_bytes w16 c.0.0) c.0.1 t2.0 t3.0 in
    let s1 = Takes-then bytes (to_be_bytes w16 a.0.0) a.0.1 (to_be_bytes w32 b.0.0 ++ to_be_bytes w16 c.0.0) c.0.1 t1.0 s2 in
    let made : Key × List ℕ = (key_of_parts a.0.0 b.0.0 c.0.0, c.0.1) in
    subst (λ (y : Key × List ℕ). Takes bytes (column_key_bytes y.0) y.1 × FitsKey y.0) {x = made} (ok_is made x c.2)
    (s1, record { switch = t1.1; epoch = t2.1; index = t3.1 })

pub key_again : {E : Type 0} (missing : E) (k : Key) (rest : List ℕ) → FitsKey k → key_at missing (column_key_bytes k ++ rest) ≡ Ok (k, rest)
unfolding key_at column_key_bytes
key_again missing k rest fits =
    rw (
      number_again missing w16 (2 ^ 16) wide16 k.switch (to_be_bytes w32 k.epoch ++ (to_be_bytes w16 k.index ++ rest)) fits.switch,
      number_again missing w32 (2 ^ 32) wide32 k.epoch (to_be_bytes w16 k.index ++ rest) fits.epoch,
      number_again missing w16 (2 ^ 16) wide16 k.index rest fits.index,
    ) refl

pub key_len : (k : Key) → length (column_key_bytes k) ≡ 8
unfolding column_key_bytes
key_len k = refl

pub admitted_takes : (width : ℕ) (bytes : List ℕ) (x : Key × List ℕ) → IsBytes bytes → admitted_key_at width bytes ≡ Ok x
    → Takes bytes (column_key_bytes x.0) x.1 × FitsKey x.0 × (x.0.index < width)
unfolding admitted_key_at
admitted_takes width bytes x fits e =
    let a = bind_ok (key_at Short bytes) (λ k. cond (ltb k.0.index width) (Ok k) (Err (BadIndex k.0.index))) x e in
    let g = guarded (ltb a.0.0.index width) (BadIndex a.0.0.index) a.0 x a.2 in
    let t = key_takes Short bytes a.0 fits a.1 in
    subst (λ (y : Key × List ℕ). Takes bytes (column_key_bytes y.0) y.1 × FitsKey y.0 × (y.0.index < width)) g.1 (t.0, t.1, ltb-true _ _ g.0)

pub admitted_again : (width : ℕ) (k : Key) (rest : List ℕ) → FitsKey k → k.index < width → admitted_key_at width (column_key_bytes k ++ rest) ≡ Ok (k, rest)
unfolding admitted_key_at
admitted_again width k rest fits inside =
    let a : ltb k.index width ≡ true = grind arith in
    rw (key_again Short k rest fits, a) refl

-- ---- buckets

pub bucket_takes : (bytes : List ℕ) → IsBytes bytes → 6 ≤ length bytes → Takes bytes (bucket_bytes (bucket_from bytes)) (drop 6 bytes)
    × FitsBucket (bucket_from bytes)
unfolding bucket_bytes
bucket_takes bytes fits long =
    let fits2 = IsBytes-drop 4 bytes fits in
    let a = front_back w32 (2 ^ 32) wide32 bytes fits (omega arith) in
    let b = front_back w16 (2 ^ 16) wide16 (drop 4 bytes) fits2 (omega (arith, length-drop 4 bytes)) in
    let t1 : Takes bytes (to_be_bytes w32 (bucket_from bytes).bytes) (drop 4 bytes) =
    record { parts = sym (take-append-drop 4 bytes) ∙ ap (λ (t : List ℕ). t ++ drop 4 bytes) (sym a); rest_fits = fits2 } in
    let t2 : Takes (drop 4 bytes) (to_be_bytes w16 (bucket_from bytes).delay) (drop 6 bytes) =
    record {
      parts = sym (take-append-drop 2 (drop 4 bytes)) ∙ ap (λ (r : List ℕ). take 2 (drop 4 bytes) ++ r) (drop-drop 2 4 bytes)
          ∙ ap (λ (t : List ℕ). t ++ drop 6 bytes) (sym b);
      rest_fits = IsBytes-drop 6 bytes fits;
    } in (
      Takes-then bytes _ (drop 4 bytes) _ (drop 6 bytes) t1 t2,
      record {
        bytes = wide32.below (take 4 bytes) (IsBytes-take 4 bytes fits);
        delay = wide16.below (take 2 (drop 4 bytes))
            (IsBytes-take 2 (drop 4 bytes) fits2);
      },
    )

pub zero_fits : FitsBucket zero_bucket
zero_fits = record { bytes = omega arith; delay = omega arith }

no_buckets : FitBuckets []
no_buckets i = zero_fits

fit_more : (b : Bucket) (bs : List Bucket) → FitsBucket b → FitBuckets bs → FitBuckets (b ∷ bs)
fit_more b bs one more zero = one
fit_more b bs one more (suc i) = more i

pub fit_front : (n : ℕ) (bs : List Bucket) → FitBuckets bs → FitBuckets (take n bs)
fit_front zero bs h = no_buckets
fit_front (suc n) [] h = no_buckets
fit_front (suc n) (b ∷ bs) h = fit_more b (take n bs) (h 0) (fit_front n bs (λ i. h (suc i)))

pub buckets_take : (n : ℕ) (bytes : List ℕ) → IsBytes bytes → 6 * n ≤ length bytes →
    Takes bytes (flat_map bucket_bytes (buckets_from n bytes)) (drop (6 * n) bytes) × (length (buckets_from n bytes) ≡ n) × FitBuckets (buckets_from n bytes)
buckets_take zero bytes fits long = (record { parts = refl; rest_fits = fits }, refl, no_buckets)
buckets_take (suc n) bytes fits long =
    let one = bucket_takes bytes fits (omega arith) in
    let more = buckets_take n (drop 6 bytes) (IsBytes-drop 6 bytes fits) (omega (arith, length-drop 6 bytes)) in
    let both = Takes-then bytes (bucket_bytes (bucket_from bytes)) (drop 6 bytes) (flat_map bucket_bytes (buckets_from n (drop 6 bytes)))
    (drop (6 * n) (drop 6 bytes)) one.0 more.0 in
    let k : 6 + 6 * n ≡ 6 * suc n = omega arith in
    let e : drop (6 * n) (drop 6 bytes) ≡ drop (6 * suc n) bytes = drop-drop (6 * n) 6 bytes ∙ ap (λ (m : ℕ). drop m bytes) k in (
      rw flat_map-cons (subst (λ (r : List ℕ). Takes bytes
          (bucket_bytes (bucket_from bytes) ++ flat_map bucket_bytes (buckets_from n (drop 6 bytes))) r) e both),
      ap suc more.1,
      fit_more (bucket_from bytes)
          (buckets_from n (drop 6 bytes)) one.1 more.2,
    )

pub bucket_len : (b : Bucket) → length (bucket_bytes b) ≡ 6
unfolding bucket_bytes
bucket_len b = refl

bucket_is : (b : Bucket) (rest : List ℕ) → FitsBucket b → bucket_from (bucket_bytes b ++ rest) ≡ b
unfolding bucket_bytes
bucket_is b rest fits = λ i. record { bytes = from_be_bytes-to_be_bytes_4 b.bytes fits.bytes i; delay = from_be_bytes-to_be_bytes_2 b.delay fits.delay i }

pub buckets_again : (bs : List Bucket) (rest : List ℕ) → FitBuckets bs → buckets_from (length bs) (flat_map bucket_bytes bs ++ rest) ≡ bs
buckets_again [] rest fits = refl
buckets_again (b ∷ bs) rest fits =
    let regrouped : flat_map bucket_bytes (b ∷ bs) ++ rest ≡ bucket_bytes b ++ (flat_map bucket_bytes bs ++ rest) =
    ap (λ (x : List ℕ). x ++ rest) (flat_map-cons bucket_bytes b bs) ∙ append_assoc (bucket_bytes b) (flat_map bucket_bytes bs) rest in
    let one = bucket_is b (flat_map bucket_bytes bs ++ rest) (fits 0) in
    let more = buckets_again bs rest (λ i. fits (suc i)) in
    ap (buckets_from (suc (length bs))) regrouped
    ∙ ap (λ (r : List ℕ). bucket_from (bucket_bytes b ++ (flat_map bucket_bytes bs ++ rest)) ∷ buckets_from (length bs) r)
    (drop_at (bucket_bytes b) (flat_map bucket_bytes bs ++ rest) 6 (bucket_len b))
    ∙ ap (λ (x : Bucket). x ∷ buckets_from (length bs) (flat_map bucket_bytes bs ++ rest)) one ∙ ap (λ (x : List Bucket). b ∷ x) more

pub buckets_len : (bs : List Bucket) → length (flat_map bucket_bytes bs) ≡ 6 * length bs
unfolding bucket_bytes
buckets_len [] = refl
buckets_len (b ∷ bs) =
    let e : length (flat_map bucket_bytes (b ∷ bs)) ≡ length (bucket_bytes b ++ flat_map bucket_bytes bs) = ap length (flat_map-cons bucket_bytes b bs) in
    omega (arith, e, buckets_len bs, length-append (bucket_bytes b) (flat_map bucket_bytes bs))

pub cells_length : (rows : ℕ) (cells : Cells) → AreCells rows cells → length (cells_bytes cells) ≡ cells_len rows
unfolding cells_bytes
cells_length rows cells are = buckets_len cells.buckets ∙ ap (λ (n : ℕ). 6 * n) are.buckets

buckets_read : {E : Type 0} (missing : E) (bs : List Bucket) (rest : List ℕ) → FitBuckets bs
    → cells_at missing (length bs) (flat_map bucket_bytes bs ++ rest) ≡ Ok (cells_of bs, rest)
unfolding cells_at
buckets_read missing bs rest fits =
    let long : ltb (length (flat_map bucket_bytes bs ++ rest)) (6 * length bs) ≡ false =
    le-ltb _ _ (omega (arith, buckets_len bs, length-append (flat_map bucket_bytes bs) rest)) in
    rw (long, buckets_again bs rest fits, drop_at (flat_map bucket_bytes bs) rest (6 * length bs) (buckets_len bs)) refl

pub cells_again : {E : Type 0} (missing : E) (rows : ℕ) (cells : Cells) (rest : List ℕ) → AreCells rows cells
    → cells_at missing rows (cells_bytes cells ++ rest) ≡ Ok (cells, rest)
unfolding cells_bytes
cells_again missing rows cells rest are =
    ap (λ (n : ℕ). cells_at missing n (flat_map bucket_bytes cells.buckets ++ rest)) (sym are.buckets) ∙ buckets_read missing cells.buckets rest are.fit

pub cells_take : {E : Type 0} (missing : E) (rows : ℕ) (bytes : List ℕ) (x : Cells × List ℕ) → IsBytes bytes → cells_at missing rows bytes ≡ Ok x
    → Takes bytes (cells_bytes x.0) x.1 × AreCells rows x.0
unfolding cells_at cells_bytes
cells_take missing rows bytes x fits e =
    let made : Cells × List ℕ = (cells_of (buckets_from rows bytes), drop (6 * rows) bytes) in
    let g = guard_ok (ltb (length bytes) (6 * rows)) missing made x e in
    let t = buckets_take rows bytes fits (ltb-false _ _ g.0) in
    subst (λ (y : Cells × List ℕ). Takes bytes (cells_bytes y.0) y.1 × AreCells rows y.0) g.1 (t.0, record { buckets = t.1; fit = t.2 })

-- one bucket more
pub buckets_more : (n : ℕ) (bytes : List ℕ) → buckets_from (suc n) bytes ≡ buckets_from n bytes ++ bucket_from (drop (6 * n) bytes) ∷ []
buckets_more zero bytes = refl
buckets_more (suc n) bytes =
    let k : 6 + 6 * n ≡ 6 * suc n = omega arith in
    let e : drop (6 * n) (drop 6 bytes) ≡ drop (6 * suc n) bytes = drop-drop (6 * n) 6 bytes ∙ ap (λ (m : ℕ). drop m bytes) k in
    ap (λ (x : List Bucket). bucket_from bytes ∷ x) (buckets_more n (drop 6 bytes) ∙ ap (λ (r : List ℕ). buckets_from n (drop 6 bytes) ++ bucket_from r ∷ []) e)

pub buckets_from_len : (n : ℕ) (bytes : List ℕ) → length (buckets_from n bytes) ≡ n
buckets_from_len zero bytes = refl
buckets_from_len (suc n) bytes = ap suc (buckets_from_len n (drop 6 bytes))
