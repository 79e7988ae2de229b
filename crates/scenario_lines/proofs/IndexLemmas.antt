-- Looking a name up in a table of places.
use Rattle.std.proofs.Common.{◌≡◌, ◌≢◌, ℕ, suc, ◌<◌, ◌≤◌, Bool, true, false, cond, eqb, ltb, zero, List, [], ◌∷◌, ◌++◌, length, get_or, take, set, Some}
use Rattle.std.proofs.Common.{None, refl, sym, ap, subst, ◌∙◌, arith, length-append, length-take, length-set, ◌⊎◌, inl, inr}
use Rattle.std.proofs.Math.Seq.{get_or-append_seam}
use Rattle.std.proofs.lemmas.Bool.{cases_lt, ltb-false}
use Rattle.std.proofs.lemmas.List.{get_or-take, get_or_append_left, get_or-set_other, get_or-set_same, get_or-map, map-append, length-map}
use Rattle.lg_model.specs.declared.scenario.Flow.{Flow}
use Rattle.lg_model.specs.Keeping.{names_of}
use Rattle.std.specs.List.{position, position_or_len}
use Rattle.std.proofs.lemmas.List.Sums.{position_or_len_is}
use Rattle.scenario_lines.specs.Index.{IsIndexed}

pub position_is : (p : ℕ → Bool) (xs : List ℕ) (i : ℕ) → i < length xs → p (get_or xs i 0) ≡ true → ((k : ℕ) → k < i → p (get_or xs k 0) ≡ false)
    → position p xs ≡ Some i
position_is p xs i lt here before =
    let at : position_or_len p xs ≡ i = position_or_len_is p xs i 0 (omega arith) before (λ _. here) in
    let is : ltb i (length xs) ≡ true = grind arith in
    rw (at, is) refl

pub position_none : (p : ℕ → Bool) (xs : List ℕ) → ((k : ℕ) → k < length xs → p (get_or xs k 0) ≡ false) → position p xs ≡ None
position_none p xs never =
    let at : position_or_len p xs ≡ length xs = position_or_len_is p xs (length xs) 0 (omega arith) never (λ lt. absurd (omega arith)) in
    let is : ltb (length xs) (length xs) ≡ false = grind arith in
    rw (at, is) refl

other : (a name : ℕ) → (a ≢ name) → eqb a name ≡ false
other a name ne = grind arith

pub found_name : (names at : List ℕ) (name i : ℕ) → IsIndexed names at → i ≡ get_or at name 0 → i < length names → get_or names i 0 ≡ name
    → position (λ m. eqb m name) names ≡ Some i
found_name names at name i ok is lt same = position_is (λ m. eqb m name) names i lt (grind arith) below where
  below : (k : ℕ) → k < i → eqb (get_or names k 0) name ≡ false
  below k less = other (get_or names k 0) name (λ e. let p = subst (λ (n : ℕ). get_or at n 0 ≡ k) e (ok.stands k (omega arith)) in absurd (omega arith))

-- a name with no place of its own isn't there
pub no_name : (names at : List ℕ) (name : ℕ) → IsIndexed names at
    → (name < length at → get_or at name 0 < length names → get_or names (get_or at name 0) 0 ≢ name) → position (λ m. eqb m name) names ≡ None
no_name names at name ok never = position_none (λ m. eqb m name) names (λ k lt. other (get_or names k 0) name (λ e. there k lt e)) where
  there : (k : ℕ) → k < length names → get_or names k 0 ≡ name → ⊥
  there k lt e =
      let p : get_or at name 0 ≡ k = subst (λ (n : ℕ). get_or at n 0 ≡ k) e (ok.stands k lt) in
      let q : name < length at = subst (λ (n : ℕ). n < length at) e (ok.known k lt) in
      never q (omega arith) (subst (λ (n : ℕ). get_or names n 0 ≡ name) (sym p) e)

new_place : (old now : List ℕ) (k : ℕ) → k < length old → take (length old) now ≡ old → get_or now k 0 ≡ get_or old k 0
new_place old now k lt kept = sym (get_or-take (length old) now k 0 lt) ∙ ap (λ (xs : List ℕ). get_or xs k 0) kept

longer : (old now : List ℕ) → take (length old) now ≡ old → length old ≤ length now
longer old now kept = omega (arith, ap length kept, length-take {A = ℕ})

pub indexed_grown : (names at now : List ℕ) → IsIndexed names at → take (length at) now ≡ at → IsIndexed names now
indexed_grown names at now ok kept = record {
  few = ok.few;
  known = λ i lt. omega (arith, ok.known i lt, longer at now kept);
  stands = λ i lt. new_place at now (get_or names i 0) (ok.known i lt) kept ∙ ok.stands i lt;
}

none_step : (p : ℕ → Bool) (x : ℕ) (xs : List ℕ) (i : ℕ) (b : Bool) → p x ≡ b
    → ((j : ℕ) → length xs ≤ position_or_len p xs → j < length xs → p (get_or xs j 0) ≡ false) → length (x ∷ xs) ≤ position_or_len p (x ∷ xs)
    → i < length (x ∷ xs) → p (get_or (x ∷ xs) i 0) ≡ false
none_step p x xs i true e ih le lt = let k : suc (length xs) ≤ 0 = rw e at le in absurd (omega arith)
none_step p x xs zero false e ih le lt = e
none_step p x xs (suc i) false e ih le lt = let k = rw e at le in ih i (omega arith) (omega arith)

none_passes : (p : ℕ → Bool) (xs : List ℕ) (i : ℕ) → length xs ≤ position_or_len p xs → i < length xs → p (get_or xs i 0) ≡ false
none_passes p [] i le lt = absurd (omega arith)
none_passes p (x ∷ xs) i le lt = none_step p x xs i (p x) refl (λ j. none_passes p xs j) le lt

no_place : (b : Bool) (x : ℕ) → cond b (Some x) None ≡ None → b ≡ false
no_place true x e = absurd cc
no_place false x e = refl

-- a name that isn't at any place
not_there : (names : List ℕ) (name i : ℕ) → position (λ m. eqb m name) names ≡ None → i < length names → get_or names i 0 ≢ name
not_there names name i fresh lt = λ e.
    let past : length names ≤ position_or_len (λ m. eqb m name) names =
    ltb-false _ _ (no_place (ltb (position_or_len (λ m. eqb m name) names) (length names)) (position_or_len (λ m. eqb m name) names) fresh) in
    let never : eqb (get_or names i 0) name ≡ false = none_passes (λ m. eqb m name) names i past lt in
    absurd (grind arith)

pub indexed_more : (names at : List ℕ) (name : ℕ) → IsIndexed names at → position (λ m. eqb m name) names ≡ None → length names < 4096 → name < length at
    → IsIndexed (names ++ name ∷ []) (set at name (length names))
indexed_more names at name ok fresh few wide = record {
  few = omega (arith, length-append names (name ∷ []));
  known = λ i lt. one_known i (cases_lt i (length names)) lt;
  stands = λ i lt. one_place i (cases_lt i (length names)) lt;
} where
  one_known : (i : ℕ) → (i < length names) ⊎ (length names ≤ i) → i < length (names ++ name ∷ [])
      → get_or (names ++ name ∷ []) i 0 < length (set at name (length names))
  one_known i (inl old) lt = rw get_or_append_left (omega (arith, ok.known i old, length-set {A = ℕ}))
  one_known i (inr new) lt =
      let e : i ≡ length names = omega (arith, length-append names (name ∷ [])) in
      rw (e, get_or-append_seam names name [] 0) (omega (arith, length-set {A = ℕ}))

  one_place : (i : ℕ) → (i < length names) ⊎ (length names ≤ i) → i < length (names ++ name ∷ [])
      → get_or (set at name (length names)) (get_or (names ++ name ∷ []) i 0) 0 ≡ i
  one_place i (inl old) lt =
      rw (get_or_append_left names (name ∷ []) 0 i old, get_or-set_other at name (get_or names i 0) (length names) 0 (not_there names name i fresh old))
      (ok.stands i old)
  one_place i (inr new) lt =
      let e : i ≡ length names = omega (arith, length-append names (name ∷ [])) in
      rw (e, get_or-append_seam names name [] 0) (get_or-set_same at name (length names) 0 wide)

-- ---- of flows

name_at : (flows : List Flow) (i : ℕ) (f : Flow) → i < length flows → get_or (names_of flows) i 0 ≡ (get_or flows i f).name
name_at flows i f lt = get_or-map (λ g. g.name) flows i f 0 lt

pub found_flow : (flows : List Flow) (at : List ℕ) (name : ℕ) (f : Flow) → IsIndexed (names_of flows) at → get_or at name 0 < length flows
    → (get_or flows (get_or at name 0) f).name ≡ name → position (λ m. eqb m name) (names_of flows) ≡ Some (get_or at name 0)
found_flow flows at name f ok lt same =
    found_name (names_of flows) at name (get_or at name 0) ok refl (omega (arith, length-map flows (λ (g : Flow). g.name)))
    (name_at flows (get_or at name 0) f lt ∙ same)

pub other_flow : (flows : List Flow) (at : List ℕ) (name : ℕ) (f : Flow) → IsIndexed (names_of flows) at → get_or at name 0 < length flows
    → (get_or flows (get_or at name 0) f).name ≢ name → position (λ m. eqb m name) (names_of flows) ≡ None
other_flow flows at name f ok lt ne = no_name (names_of flows) at name ok (λ _ _ e. ne (sym (name_at flows (get_or at name 0) f lt) ∙ e))

pub past_flows : (flows : List Flow) (at : List ℕ) (name : ℕ) → IsIndexed (names_of flows) at → length flows ≤ get_or at name 0
    → position (λ m. eqb m name) (names_of flows) ≡ None
past_flows flows at name ok ge = no_name (names_of flows) at name ok (λ _ lt _. absurd (omega (arith, length-map flows (λ (g : Flow). g.name), lt)))

pub past_table : (flows : List Flow) (at : List ℕ) (name : ℕ) → IsIndexed (names_of flows) at → length at ≤ name
    → position (λ m. eqb m name) (names_of flows) ≡ None
past_table flows at name ok ge = no_name (names_of flows) at name ok (λ lt _ _. absurd (omega (arith, lt)))

pub put : (flows now : List Flow) (at grown : List ℕ) (f : Flow) (place : ℕ) → IsIndexed (names_of flows) at
    → position (λ m. eqb m f.name) (names_of flows) ≡ None → length flows < 4096 → now ≡ flows ++ f ∷ [] → take (length at) grown ≡ at
    → f.name < length grown → place ≡ length flows → IsIndexed (names_of now) (set grown f.name place)
put flows now at grown f place ok fresh few is kept wide here =
    let more = indexed_more (names_of flows) grown f.name (indexed_grown (names_of flows) at grown ok kept) fresh
    (omega (arith, length-map flows (λ (g : Flow). g.name))) wide in
    let names : names_of now ≡ names_of flows ++ f.name ∷ [] = ap names_of is ∙ map-append (λ (g : Flow). g.name) flows (f ∷ []) in
    let len : length (names_of flows) ≡ place = length-map flows (λ (g : Flow). g.name) ∙ sym here in
    subst (λ (ns : List ℕ). IsIndexed ns (set grown f.name place)) (sym names)
    (subst (λ (n : ℕ). IsIndexed (names_of flows ++ f.name ∷ []) (set grown f.name n)) len more)
