-- A shape that is read is the shape that was written, and what was written is read again.
use Rattle.std.proofs.Common.{◌≡◌, ℕ, zero, suc, ◌^◌, ◌<◌, Bool, true, false, not, cond, eqb, List, []}
use Rattle.std.proofs.Common.{◌∷◌, ◌++◌, length, Option, Some, None, Result, Ok, Err, refl, sym, ap, subst, ◌∙◌, arith}
use Rattle.std.specs.Prelude.{MatchOption}
use Rattle.std.specs.Int.{w16, w64, to_be_bytes}
use Rattle.std.proofs.lemmas.Bool.{le-ltb}
use Rattle.byte_fields.specs.Reading.{◌>>=◌, byte_at, number_at}
use Rattle.byte_fields.specs.Law.{IsBytes, Takes}
use Rattle.byte_fields.proofs.Steps.{bind_ok, guard_ok}
use Rattle.byte_fields.proofs.Numbers.{Takes-then, wide16, wide64, number_takes, number_again, byte_takes, byte_again}
use Rattle.lg_model.specs.declared.scenario.Hash.{Hash}
use Rattle.lg_model.specs.declared.scenario.Hash.TheVariants.{Ports, Seed}
use Rattle.lg_model.specs.Placing.{Shape, IsShape}
use Rattle.sketchlet_wire.specs.Spelling.{dims_bytes}
use Rattle.sketchlet_wire.specs.ShapeFields.{FitsHash, FitsShape, hash_bytes, shape_bytes, hash_of}
use Rattle.sketchlet_wire.specs.ShapeFields.{is_bad_hash, are_bad_dims, hash_at, shape_of_parts, shape_at}

-- ---- hashes

zero_of : (n : ℕ) → not (eqb n 0) ≡ false → n ≡ 0
zero_of zero e = refl
zero_of (suc n) e = absurd (grind (arith, e))

record IsHash (kind seed : ℕ) : Type 0 where
  bytes : hash_bytes (hash_of kind seed) ≡ kind ∷ to_be_bytes w64 seed
  fits : FitsHash (hash_of kind seed)

hash_good : (kind seed : ℕ) → seed < 2 ^ 64 → is_bad_hash kind seed ≡ false → IsHash kind seed
hash_good zero seed lt e = record { bytes = ap (λ (n : ℕ). 0 ∷ to_be_bytes w64 n) (sym (zero_of seed e)); fits = tt }
hash_good (suc zero) seed lt e = record { bytes = refl; fits = lt }
hash_good (suc (suc k)) seed lt e = absurd (grind (arith, e))

hash_takes : {E : Type 0} (missing bad : E) (bytes : List ℕ) (x : Hash × List ℕ) → IsBytes bytes → hash_at missing bad bytes ≡ Ok x
    → Takes bytes (hash_bytes x.0) x.1 × FitsHash x.0
unfolding hash_at
hash_takes {E = E} missing bad bytes x fits e =
    let last = λ (kind : ℕ) (seed : ℕ
    × List ℕ). (let r : Result (Hash × List ℕ) E = cond (is_bad_hash kind seed.0) (Err bad) (Ok (hash_of kind seed.0, seed.1)) in r) in
    let a = bind_ok (byte_at missing bytes) (λ kind. number_at missing w64 kind.1 >>= λ seed. last kind.0 seed) x e in
    let b = bind_ok (number_at missing w64 a.0.1) (λ seed. last a.0.0 seed) x a.2 in
    let made : Hash × List ℕ = (hash_of a.0.0 b.0.0, b.0.1) in
    let g = guard_ok (is_bad_hash a.0.0 b.0.0) bad made x b.2 in
    let t1 = byte_takes missing bytes a.0 fits a.1 in
    let t2 = number_takes missing w64 (2 ^ 64) wide64 a.0.1 b.0 t1.0.rest_fits b.1 in
    let good = hash_good a.0.0 b.0.0 t2.1 g.0 in
    let both : Takes bytes (a.0.0 ∷ to_be_bytes w64 b.0.0) b.0.1 = Takes-then bytes (a.0.0 ∷ []) a.0.1 (to_be_bytes w64 b.0.0) b.0.1 t1.0 t2.0 in
    subst (λ (y : Hash × List ℕ). Takes bytes (hash_bytes y.0) y.1
    × FitsHash y.0) {x = made} g.1 (subst (λ (t : List ℕ). Takes bytes t b.0.1) (sym good.bytes) both, good.fits)

hash_again : {E : Type 0} (missing bad : E) (hash : Hash) (rest : List ℕ) → FitsHash hash → hash_at missing bad (hash_bytes hash ++ rest) ≡ Ok (hash, rest)
unfolding hash_at
hash_again missing bad Ports rest fits =
    rw (byte_again missing 0 (to_be_bytes w64 0 ++ rest), number_again missing w64 (2 ^ 64) wide64 0 rest (omega arith)) refl
hash_again missing bad (Seed n) rest fits = rw (byte_again missing 1 (to_be_bytes w64 n ++ rest), number_again missing w64 (2 ^ 64) wide64 n rest fits) refl

hash_len : (hash : Hash) → length (hash_bytes hash) ≡ 9
hash_len Ports = refl
hash_len (Seed n) = refl

-- ---- shapes

dims_good : (rows width : ℕ) → are_bad_dims rows width ≡ false → IsShape rows width
dims_good rows width e = record { some_rows = grind (arith, e); few_rows = grind (arith, e); some_width = grind (arith, e); few_width = grind (arith, e) }

dims_not_bad : (rows width : ℕ) → IsShape rows width → are_bad_dims rows width ≡ false
dims_not_bad rows width is = rw (le-ltb _ _ is.some_rows, le-ltb _ _ is.few_rows, le-ltb _ _ is.some_width, le-ltb _ _ is.few_width) refl

pub shape_takes : {E : Type 0} (missing bad : E) (bytes : List ℕ) (x : Shape × List ℕ) → IsBytes bytes → shape_at missing bad bytes ≡ Ok x
    → Takes bytes (shape_bytes x.0) x.1 × FitsShape x.0
unfolding shape_at shape_bytes dims_bytes
shape_takes {E = E} missing bad bytes x fits e =
    let last = λ (rows width : ℕ) (hash : Hash
    × List ℕ). (let r : Result (Shape × List ℕ) E = cond (are_bad_dims rows width) (Err bad) (Ok (shape_of_parts rows width hash.0, hash.1)) in r) in
    let a = bind_ok (byte_at missing bytes)
    (λ rows. number_at missing w16 rows.1 >>= λ width. hash_at missing bad width.1 >>= λ hash. last rows.0 width.0 hash) x e in
    let b = bind_ok (number_at missing w16 a.0.1) (λ width. hash_at missing bad width.1 >>= λ hash. last a.0.0 width.0 hash) x a.2 in
    let c = bind_ok (hash_at missing bad b.0.1) (λ hash. last a.0.0 b.0.0 hash) x b.2 in
    let made : Shape × List ℕ = (shape_of_parts a.0.0 b.0.0 c.0.0, c.0.1) in
    let g = guard_ok (are_bad_dims a.0.0 b.0.0) bad made x c.2 in
    let t1 = byte_takes missing bytes a.0 fits a.1 in
    let t2 = number_takes missing w16 (2 ^ 16) wide16 a.0.1 b.0 t1.0.rest_fits b.1 in
    let t3 = hash_takes missing bad b.0.1 c.0 t2.0.rest_fits c.1 in
    let s1 = Takes-then bytes (a.0.0 ∷ []) a.0.1 (to_be_bytes w16 b.0.0) b.0.1 t1.0 t2.0 in
    let s2 = Takes-then bytes (a.0.0 ∷ to_be_bytes w16 b.0.0) b.0.1 (hash_bytes c.0.0) c.0.1 s1 t3.0 in
    subst (λ (y : Shape × List ℕ). Takes bytes (shape_bytes y.0) y.1
    × FitsShape y.0) {x = made} g.1 (s2, record { dims = dims_good a.0.0 b.0.0 g.0; hash = t3.1 })

pub shape_again : {E : Type 0} (missing bad : E) (shape : Shape) (rest : List ℕ) → FitsShape shape
    → shape_at missing bad (shape_bytes shape ++ rest) ≡ Ok (shape, rest)
unfolding shape_at shape_bytes dims_bytes
shape_again missing bad shape rest fits =
    let end : List ℕ = hash_bytes shape.hash ++ rest in
    rw (
      byte_again missing shape.rows (to_be_bytes w16 shape.width ++ end),
      number_again missing w16 (2 ^ 16) wide16 shape.width end (omega (arith, fits.dims.few_width)),
      hash_again missing bad shape.hash rest fits.hash,
      dims_not_bad shape.rows shape.width fits.dims,
    ) refl

pub shape_len : (shape : Shape) → length (shape_bytes shape) ≡ 12
unfolding shape_bytes dims_bytes
shape_len shape = ap (λ (n : ℕ). suc (suc (suc n))) (hash_len shape.hash)

-- What Shape::new answers, by the test on rows and width.
pub shape_made : (rows width : ℕ) (hash : Hash) (r : Option Shape)
    → MatchOption r (IsShape rows width → ⊥) (λ s. IsShape rows width × (s ≡ shape_of_parts rows width hash))
    → r ≡ cond (are_bad_dims rows width) None (Some (shape_of_parts rows width hash))
shape_made rows width hash (Some s) h =
    ap (λ (x : Shape). Some x) h.1 ∙ sym (ap (λ (b : Bool). cond b None (Some (shape_of_parts rows width hash))) (dims_not_bad rows width h.0))
shape_made rows width hash None h = by (are_bad_dims rows width) refl
  where
    by : (b : Bool) → are_bad_dims rows width ≡ b → None ≡ cond b None (Some (shape_of_parts rows width hash))
    by true e = refl
    by false e = absurd (h (dims_good rows width e))
