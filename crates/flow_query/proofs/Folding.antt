-- The least counters of known buckets, one bucket after the other.
use Rattle.std.specs.Prelude.{◌≡◌, ℕ, zero, suc, ◌+◌, ◌<◌, List, [], ◌∷◌, ◌++◌, map, length, fold, min, slice_index, None, Some}
use Rattle.std.specs.List.{filter_map, range_with_len, cons_option}
use Rattle.std.proofs.Common.{refl, sym, ap, ◌∙◌, arith}
use Rattle.std.proofs.lemmas.List.Elements.{filter_map-append}
use Rattle.std.proofs.lemmas.List.FromFn.{get_or-map-range_with_len}
use Rattle.flow_key.specs.declared.key.FlowKey.{FlowKey}
use Rattle.lg_model.specs.declared.column.Bucket.{Bucket}
use Rattle.lg_model.specs.declared.answer.Answer.{Answer}
use Rattle.lg_model.specs.Placing.{Shape, place, places_of}
use Rattle.lg_model.specs.declared.limits.TheConstants.{LAST_BYTES, LAST_DELAY}
use Rattle.lg_model.specs.Answer.{Look, known_at, value_of}
use Rattle.flow_query.specs.declared.least.Known.{Known}
use Rattle.flow_query.specs.Least.{lower, known_of, known_to}

-- the least counters are those of the lists of counters
fold-lower-bytes : (b : Bucket) (bs : List Bucket) → (fold lower b bs).bytes ≡ fold min b.bytes (map (λ (x : Bucket). x.bytes) bs)
fold-lower-bytes b [] = refl
fold-lower-bytes b (x ∷ bs) = fold-lower-bytes (lower b x) bs

fold-lower-delay : (b : Bucket) (bs : List Bucket) → (fold lower b bs).delay ≡ fold min b.delay (map (λ (x : Bucket). x.delay) bs)
fold-lower-delay b [] = refl
fold-lower-delay b (x ∷ bs) = fold-lower-delay (lower b x) bs

-- what is told of least counters is what is told of their buckets
pub told_of_least : (bs : List Bucket) (known : Known) (least : Bucket) → known ≡ known_of bs → known.least ≡ Some least →
    ◌≡◌ {A = Answer} (record { rows_known = known.rows; bytes = value_of LAST_BYTES (least.bytes ∷ []); delay = value_of LAST_DELAY (least.delay ∷ []) })
    (record { rows_known = length bs; bytes = value_of LAST_BYTES (map (λ (b : Bucket). b.bytes) bs); delay = value_of LAST_DELAY (map (λ (b : Bucket). b.delay) bs) })
told_of_least [] known least is some = let none : None ≡ Some least = sym (ap (λ (k : Known). k.least) is) ∙ some in cc
told_of_least (b ∷ bs) known least is some =
    let both : Some least ≡ Some (fold lower b bs) = sym some ∙ ap (λ (k : Known). k.least) is in
    let same : least ≡ fold lower b bs = cc in
    let bytes = ap (λ (x : Bucket). x.bytes) same ∙ fold-lower-bytes b bs in
    let delay = ap (λ (x : Bucket). x.delay) same ∙ fold-lower-delay b bs in
    λ i. record {
      rows_known = ap (λ (k : Known). k.rows) is i;
      bytes = ap (λ n. value_of LAST_BYTES (n ∷ [])) bytes i;
      delay = ap (λ n. value_of LAST_DELAY (n ∷ [])) delay i;
    }

range-more : (a n j : ℕ) → a + n ≡ j → range_with_len a (suc n) ≡ range_with_len a n ++ j ∷ []
range-more a zero j h = ap (λ k. k ∷ []) (let same : a ≡ j = omega arith in same)
range-more a (suc n) j h = ap (λ ks. a ∷ ks) (range-more (a + 1) n j (omega arith))

-- one row more
pub known_to-more : (look : Look) (shape : Shape) (s e : ℕ) (f : FlowKey) (n : ℕ) →
    known_to look shape s e f (n + 1) ≡ known_to look shape s e f n ++ cons_option (known_at look shape s e f n) []
known_to-more look shape s e f n =
    let one_more : n + 1 ≡ suc n = omega arith in
    ap (λ (ks : List ℕ). filter_map (known_at look shape s e f) ks) (ap (λ k. range_with_len 0 k) one_more ∙ range-more 0 n n (omega arith))
    ∙ filter_map-append (known_at look shape s e f) (range_with_len 0 n) (n ∷ [])

-- the place of a row
pub place_in_row : (shape : Shape) (f : FlowKey) (i : ℕ) → i < shape.rows → slice_index (places_of shape f) i ≡ place shape f i
place_in_row shape f i h = get_or-map-range_with_len (place shape f) 0 shape.rows i i 0 h (omega arith)
