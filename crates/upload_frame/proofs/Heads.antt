-- The length and the kind at the front of a stream.
use Rattle.std.proofs.Common.{◌≡◌, ℕ, zero, suc, ◌+◌, ◌-◌, ◌<◌, ◌≤◌, ◌⊎◌, Bool, true, false, not, cond, ltb, eqb, ◌||◌, List}
use Rattle.std.proofs.Common.{◌∷◌, ◌++◌, length, take, drop, Option, Some, None, Ok, Err, refl, sym, ap, subst, ◌∙◌, arith, inl, inr}
use Rattle.std.specs.Prelude.{slice_range, slice_index}
use Rattle.std.specs.Int.{w16, from_be_bytes, to_be_bytes}
use Rattle.std.proofs.lemmas.Bool.{cases_lt, lt-ltb, le-ltb, ltb-false}
use Rattle.std.proofs.lemmas.List.{take-append-le, drop-append-le, length-append, length-drop, take_at}
use Rattle.std.proofs.Math.ListN.{get_or-append}
use Rattle.byte_fields.proofs.Numbers.{wide16}
use Rattle.lg_model.specs.declared.limits.TheConstants.{MOST_FRAME_BYTES}
use Rattle.upload_frame.specs.declared.fault.FrameFault.{FrameFault}
use Rattle.upload_frame.specs.declared.fault.FrameFault.TheVariants.{Length}
use Rattle.upload_frame.specs.Front.{Lens, fits_lens, Head, head_of_parts, HeadFront, length_of, with_lens}
use Rattle.upload_frame.specs.Front.{is_bad_length, with_length, head_at, framed, IsLength, IsPart, IsUnfinished}

-- ---- what comes after changes nothing

abbrev pub IsSettledHead : HeadFront → Type 0
IsSettledHead (Ok None) = ⊥
IsSettledHead (Ok (Some h)) = Unit {0}
IsSettledHead (Err f) = Unit {0}

-- A test of the length, after which nothing changes.
late : (n : ℕ) (a b : List ℕ) (x y : HeadFront) → (n ≤ length a → IsSettledHead x → y ≡ x) → IsSettledHead (cond (ltb (length a) n) (Ok None) x)
    → cond (ltb (length (a ++ b)) n) (Ok None) y ≡ cond (ltb (length a) n) (Ok None) x
late n a b x y same settled =
    elim (cases_lt (length a) n) [
      | inl lt ↦ absurd (subst (λ (t : Bool). IsSettledHead (cond t (Ok None) x)) (lt-ltb _ _ lt) settled)
      | inr le ↦
          let here : ltb (length a) n ≡ false = le-ltb _ _ le in
          let more : ltb (length (a ++ b)) n ≡ false = le-ltb _ _ (omega (arith, length-append a b, le)) in
          let s : IsSettledHead x = subst (λ (t : Bool). IsSettledHead (cond t (Ok None) x)) here settled in
          ap (λ (t : Bool). cond t (Ok None) y) more ∙ same le s ∙ ap (λ (t : Bool). cond t (Ok None) x) (sym here)
    ]

-- A test that doesn't look at the bytes after it.
early : (t : Bool) (f : FrameFault) (x y : HeadFront) → (t ≡ false → IsSettledHead x → y ≡ x) → IsSettledHead (cond t (Err f) x)
    → cond t (Err f) y ≡ cond t (Err f) x
early true f x y same settled = refl
early false f x y same settled = same refl settled

range_same : (len : ℕ) (a b : List ℕ) → 3 ≤ length a → 1 ≤ len → len + 2 ≤ length a → slice_range (a ++ b) 3 (len + 2) ≡ slice_range a 3 (len + 2)
range_same len a b long some le =
    ap (take (len + 2 - 3)) (drop-append-le 3 a b long) ∙ take-append-le (len + 2 - 3) (drop 3 a) b (omega (arith, length-drop 3 a))

some_len : (len : ℕ) (t : Bool) → (eqb len 0 || t) ≡ false → 1 ≤ len
some_len zero t e = absurd cc
some_len (suc n) t e = omega arith

abbrev whole : ℕ → ℕ → List ℕ → HeadFront
whole len kind s = Ok (Some (head_of_parts kind len (slice_range s 3 (len + 2))))

abbrev sized : ℕ → ℕ → List ℕ → HeadFront
sized len kind s = cond (ltb (length s) (len + 2)) (Ok None) (whole len kind s)

lens_more : (len kind : ℕ) (r : Option (ℕ × ℕ)) (a b : List ℕ) → 3 ≤ length a → 1 ≤ len → IsSettledHead (with_lens len kind a r)
    → with_lens len kind (a ++ b) r ≡ with_lens len kind a r
lens_more len kind None a b long some settled = refl
lens_more len kind (Some r) a b long some settled =
    early (not (fits_lens r len)) (Length len) (sized len kind a) (sized len kind (a ++ b))
    (λ (_ : not (fits_lens r len) ≡ false) s1. late (len + 2) a b (whole len kind a) (whole len kind (a ++ b))
    (λ le s2. ap (λ (c : List ℕ). (let x : HeadFront = Ok (Some (head_of_parts kind len c)) in x)) (range_same len a b long some le)) s1) settled

abbrev known : Lens → ℕ → List ℕ → HeadFront
known lens len s = with_lens len (slice_index s 2) s (lens (slice_index s 2))

abbrev there : Lens → ℕ → List ℕ → HeadFront
there lens len s = cond (ltb (length s) 3) (Ok None) (known lens len s)

length_more : (lens : Lens) (len : ℕ) (a b : List ℕ) → IsSettledHead (with_length lens len a) → with_length lens len (a ++ b) ≡ with_length lens len a
length_more lens len a b settled =
    early (is_bad_length len) (Length len) (there lens len a) (there lens len (a ++ b))
    (λ ok s1. late 3 a b (known lens len a) (known lens len (a ++ b))
    (λ le s2. ap (λ (k : ℕ). with_lens len k (a ++ b) (lens k)) (get_or-append a b 0 2 le)
    ∙ lens_more len (slice_index a 2) (lens (slice_index a 2)) a b le (some_len len (ltb MOST_FRAME_BYTES len) ok) s2) s1) settled

pub head_more : (lens : Lens) (a b : List ℕ) → IsSettledHead (head_at lens a) → head_at lens (a ++ b) ≡ head_at lens a
unfolding head_at
head_more lens a b settled =
    late 2 a b (with_length lens (length_of a) a) (with_length lens (length_of (a ++ b)) (a ++ b))
    (λ le s. ap (λ (t : List ℕ). with_length lens (from_be_bytes w16 t) (a ++ b)) (take-append-le 2 a b le) ∙ length_more lens (length_of a) a b s) settled

-- ---- what a whole frame passed

abbrev is : Head → HeadFront
is h = Ok (Some h)

late_test : (t : Bool) (x : HeadFront) (h : Head) → cond t (Ok None) x ≡ is h → (t ≡ false) × (x ≡ is h)
late_test true x h e = absurd cc
late_test false x h e = (refl, e)

early_ok : (t : Bool) (f : FrameFault) (x : HeadFront) (h : Head) → cond t (Err f) x ≡ is h → (t ≡ false) × (x ≡ is h)
early_ok true f x h e = absurd cc
early_ok false f x h e = (refl, e)

not_false : (t : Bool) → not t ≡ false → t ≡ true
not_false true e = refl
not_false false e = absurd cc

is_same : (g h : Head) → is g ≡ is h → g ≡ h
is_same g h e = cc

-- A whole frame: what its length, its kind and its fields are.
pub record Whole (lens : Lens) (s : List ℕ) (h : Head) : Type 0 where
  pub len : h.len ≡ length_of s
  pub kind : h.kind ≡ slice_index s 2
  pub body : h.body ≡ slice_range s 3 (length_of s + 2)
  pub range : ℕ × ℕ
  pub known : lens (slice_index s 2) ≡ Some range
  pub fits : fits_lens range (length_of s) ≡ true
  pub some : 1 ≤ length_of s
  pub there : length_of s + 2 ≤ length s

whole_by : (lens : Lens) (s : List ℕ) (h : Head) (r : Option (ℕ × ℕ)) → 1 ≤ length_of s → lens (slice_index s 2) ≡ r
    → with_lens (length_of s) (slice_index s 2) s r ≡ is h → Whole lens s h
whole_by lens s h None some e at = absurd cc
whole_by lens s h (Some r) some e at =
    let len = length_of s in
    let kind = slice_index s 2 in
    let a = early_ok (not (fits_lens r len)) (Length len) (sized len kind s) h at in
    let b = late_test (ltb (length s) (len + 2)) (whole len kind s) h a.1 in
    let same = is_same (head_of_parts kind len (slice_range s 3 (len + 2))) h b.1 in
    record {
      len = ap (λ (x : Head). x.len) (sym same);
      kind = ap (λ (x : Head). x.kind) (sym same);
      body = ap (λ (x : Head). x.body) (sym same);
      range = r;
      known = e;
      fits = not_false _ a.0;
      some = some;
      there = ltb-false _ _ b.0;
    }

pub whole_of : (lens : Lens) (s : List ℕ) (h : Head) → head_at lens s ≡ Ok (Some h) → Whole lens s h
unfolding head_at
whole_of lens s h e =
    let len = length_of s in
    let a = late_test (ltb (length s) 2) (with_length lens len s) h e in
    let b = early_ok (is_bad_length len) (Length len) (there lens len s) h a.1 in
    let c = late_test (ltb (length s) 3) (known lens len s) h b.1 in
    whole_by lens s h (lens (slice_index s 2)) (some_len len (ltb MOST_FRAME_BYTES len) b.0) refl c.1

-- ---- the head of a spelling

late_is : (a n : ℕ) (x : HeadFront) → n ≤ a → cond (ltb a n) (Ok None) x ≡ x
late_is a n x le = ap (λ (t : Bool). cond t (Ok None) x) (le-ltb a n le)

early_is : (t : Bool) (f : FrameFault) (x : HeadFront) → t ≡ false → cond t (Err f) x ≡ x
early_is t f x e = ap (λ (b : Bool). cond b (Err f) x) e

good_length : (len : ℕ) → 1 ≤ len → len ≤ MOST_FRAME_BYTES → is_bad_length len ≡ false
good_length zero some few = absurd (omega (arith, some))
good_length (suc n) some few =
    let z : eqb (suc n) 0 ≡ false = grind arith in
    rw (z, le-ltb MOST_FRAME_BYTES (suc n) few) refl

-- A kind and fields that have a length.
pub record IsSpelled (lens : Lens) (kind : ℕ) (fields : List ℕ) : Type 0 where
  pub range : ℕ × ℕ
  pub known : lens kind ≡ Some range
  pub fits : fits_lens range (length fields + 1) ≡ true
  pub few : length fields + 1 ≤ MOST_FRAME_BYTES

pub framed_len : (kind : ℕ) (fields : List ℕ) → length (framed kind fields) ≡ length fields + 1 + 2
unfolding framed
framed_len kind fields = omega (arith, length-append (to_be_bytes w16 (length fields + 1)) (kind ∷ fields))

head_by : (lens : Lens) (len k : ℕ) (body rest : List ℕ) (range : ℕ × ℕ) → length body + 1 ≡ len → len ≤ MOST_FRAME_BYTES → lens k ≡ Some range
    → fits_lens range len ≡ true
    → head_at lens (to_be_bytes w16 len ++ (k ∷ (body ++ rest))) ≡ Ok (Some (head_of_parts k len body))
unfolding head_at
head_by lens len k body rest range body_len small known_is fits =
    let s : List ℕ = to_be_bytes w16 len ++ (k ∷ (body ++ rest)) in
    let s_len : length s ≡ 3 + (length body + length rest) = omega (arith, length-append (to_be_bytes w16 len) (k ∷ (body ++ rest)), length-append body rest) in
    let len_is : length_of s ≡ len = wide16.again len (omega (arith, small)) in
    let cut : slice_range s 3 (len + 2) ≡ body = take_at body rest (len + 2 - 3) (omega (arith, body_len)) in
    late_is (length s) 2 (with_length lens (length_of s) s) (omega (arith, s_len)) ∙ ap (λ (n : ℕ). with_length lens n s) len_is
    ∙ early_is (is_bad_length len) (Length len) (there lens len s) (good_length len (omega (arith, body_len)) small)
    ∙ late_is (length s) 3 (known lens len s) (omega (arith, s_len)) ∙ ap (with_lens len k s) known_is
    ∙ early_is (not (fits_lens range len)) (Length len) (sized len k s) (ap not fits)
    ∙ late_is (length s) (len + 2) (whole len k s) (omega (arith, s_len, body_len))
    ∙ ap (λ (b : List ℕ). (let x : HeadFront = Ok (Some (head_of_parts k len b)) in x)) cut

pub head_again : (lens : Lens) (kind : ℕ) (fields rest : List ℕ) → IsSpelled lens kind fields
    → head_at lens (framed kind fields ++ rest) ≡ Ok (Some (head_of_parts kind (length fields + 1) fields))
unfolding framed
head_again lens kind fields rest h = head_by lens (length fields + 1) kind fields rest h.range refl h.few h.known h.fits

-- ---- nothing is there exactly where the rest is unfinished

abbrev nothing : HeadFront
nothing = Ok None

late_none : (a n : ℕ) (x : HeadFront) → cond (ltb a n) nothing x ≡ nothing → (a < n) ⊎ ((n ≤ a) × (x ≡ nothing))
late_none a n x e =
    elim (cases_lt a n) [
      | inl lt ↦ inl lt
      | inr le ↦ inr (le, sym (ap (λ (t : Bool). cond t nothing x) (le-ltb a n le)) ∙ e)
    ]

early_none : (t : Bool) (f : FrameFault) (x : HeadFront) → cond t (Err f) x ≡ nothing → (t ≡ false) × (x ≡ nothing)
early_none true f x e = absurd cc
early_none false f x e = (refl, e)

or_both : (a b : Bool) → (a || b) ≡ false → b ≡ false
or_both true b e = absurd cc
or_both false b e = e

whole_is : (h : Head) → is h ≡ nothing → ⊥
whole_is h e = cc

part_of : (lens : Lens) (s : List ℕ) (r : Option (ℕ × ℕ)) → 3 ≤ length s → IsLength (length_of s) → lens (slice_index s 2) ≡ r
    → with_lens (length_of s) (slice_index s 2) s r ≡ nothing → IsPart lens s
part_of lens s None long good e at = absurd cc
part_of lens s (Some r) long good e at =
    let len = length_of s in
    let kind = slice_index s 2 in
    let a = early_none (not (fits_lens r len)) (Length len) (sized len kind s) at in
    elim (late_none (length s) (len + 2) (whole len kind s) a.1) [
      | inl lt ↦ record { some = long; first = good; range = r; kind = e; fits = not_false _ a.0; fewer = lt }
      | inr h ↦ absurd (whole_is (head_of_parts kind len (slice_range s 3 (len + 2))) h.1)
    ]

pub head_unfinished : (lens : Lens) (s : List ℕ) → head_at lens s ≡ Ok None → IsUnfinished lens s
unfolding head_at
head_unfinished lens s e =
    let len = length_of s in
    elim (late_none (length s) 2 (with_length lens len s) e) [
      | inl lt ↦ inl lt
      | inr a ↦
          let b = early_none (is_bad_length len) (Length len) (there lens len s) a.1 in
          let good : IsLength len = (
            omega (arith, some_len len (ltb MOST_FRAME_BYTES len) b.0),
            ltb-false _ _
                (or_both (eqb len 0) (ltb MOST_FRAME_BYTES len) b.0),
          ) in
          elim (late_none (length s) 3 (known lens len s) b.1) [
            | inl lt ↦ inr (inl (omega (arith, lt, a.0), good))
            | inr c ↦ inr (inr (part_of lens s (lens (slice_index s 2)) c.0 good refl c.1))
          ]
    ]

late_stop : (a n : ℕ) (x : HeadFront) → a < n → cond (ltb a n) nothing x ≡ nothing
late_stop a n x lt = ap (λ (t : Bool). cond t nothing x) (lt-ltb a n lt)

pub head_none : (lens : Lens) (s : List ℕ) → IsUnfinished lens s → head_at lens s ≡ Ok None
unfolding head_at
head_none lens s h =
    let len = length_of s in
    let kind = slice_index s 2 in
    elim h [
      | inl lt ↦ late_stop (length s) 2 (with_length lens len s) lt
      | inr a ↦ elim a [
        | inl b ↦ late_is (length s) 2 (with_length lens len s) (omega (arith, b.0))
            ∙ early_is (is_bad_length len) (Length len) (there lens len s) (good_length len (omega (arith, b.1.0)) b.1.1)
            ∙ late_stop (length s) 3 (known lens len s) (omega (arith, b.0))
        | inr p ↦ late_is (length s) 2 (with_length lens len s) (omega (arith, p.some))
            ∙ early_is (is_bad_length len) (Length len) (there lens len s) (good_length len (omega (arith, p.first.0)) p.first.1)
            ∙ late_is (length s) 3 (known lens len s) p.some ∙ ap (with_lens len kind s) p.kind
            ∙ early_is (not (fits_lens p.range len)) (Length len) (sized len kind s) (ap not p.fits) ∙ late_stop (length s) (len + 2) (whole len kind s) p.fewer
      ]
    ]
