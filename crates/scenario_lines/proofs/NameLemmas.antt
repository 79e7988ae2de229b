-- Names of their own, and letters that leave them.
use Rattle.std.proofs.Common.{◌≡◌, ◌≢◌, ℕ, ◌<◌, ◌≤◌, Bool, true, false, eqb, List, [], ◌∷◌, ◌++◌, length, get_or, refl, sym, ap, ◌∙◌, arith, All}
use Rattle.std.specs.Prelude.{slice_get, slice_index, Option, Some, None, ◌==◌}
use Rattle.std.specs.List.{list_any}
use Rattle.std.proofs.Math.Seq.{map-set_same}
use Rattle.std.proofs.lemmas.Option.{slice_get_within, get_or_from_slice_get}
use Rattle.std.proofs.lemmas.List.{get_or_default, get_or-map, map-append, length-map}
use Rattle.std.proofs.lemmas.List.Elements.{All-set}
use Rattle.std.proofs.lemmas.List.Folds.{list_any_at}
use Rattle.std.proofs.lemmas.List.Quantifiers.{all_pairs_push}
use Rattle.lg_model.specs.declared.scenario.Letter.{Letter}
use Rattle.lg_model.specs.declared.scenario.HostLine.{HostLine}
use Rattle.lg_model.specs.Keeping.{host_names, AreApart, IsHost}
use Rattle.scenario_lines.specs.Index.{IsIndexed}
use Rattle.scenario_lines.specs.Line.{linked, linked_at}

-- ---- names of their own

both_ways : (b : Bool) → b ≡ true → b ≡ false → ⊥
both_ways true is isnt = cc
both_ways false is isnt = cc

truth : (b : Bool) → (b ≡ true → ⊥) → b ≡ false
truth true never = absurd (never refl)
truth false never = refl

-- No element passes a test that none passes.
pub absent : {X : Type 0} (p : X → Bool) (xs : List X) → list_any p xs ≡ false → (k : ℕ) (d : X) → k < length xs → p (get_or xs k d) ≡ false
absent p xs none k d lt = truth (p (get_or xs k d)) (λ is. both_ways (list_any p xs) (list_any_at p xs k d lt is) none)

differ : (m n : ℕ) → eqb m n ≡ false → m ≢ n
differ m n e = grind arith

pub apart_push : (names : List ℕ) (n : ℕ) → AreApart names → list_any (λ m. m == n) names ≡ false → AreApart (names ++ n ∷ [])
apart_push names n ok fresh = all_pairs_push (λ m n. m ≢ n) names n ok (λ k d lt. differ (get_or names k d) n (absent (λ m. eqb m n) names fresh k d lt))

-- A table of places shows that no name comes twice.
pub indexed_apart : (names at : List ℕ) → IsIndexed names at → AreApart names
indexed_apart names at ok i j d less lt = λ e.
    let same : get_or names i 0 ≡ get_or names j 0 = get_or_default names i 0 d (omega arith) ∙ e ∙ get_or_default names j d 0 lt in
    let one = ok.stands i (omega arith) in
    let two = ok.stands j lt in
    let place = sym one ∙ ap (λ (n : ℕ). slice_index at n) same ∙ two in
    absurd (omega (arith, place))

pub hosts_apart : (hosts : List HostLine) (h : HostLine) → AreApart (host_names hosts) → list_any (λ g. g.name == h.name) hosts ≡ false
    → AreApart (host_names (hosts ++ h ∷ []))
hosts_apart hosts h ok fresh =
    rw (map-append (λ (g : HostLine). g.name) hosts (h ∷ []))
    (all_pairs_push (λ m n. m ≢ n) (host_names hosts) h.name ok (λ k d lt.
    let len = length-map hosts (λ (g : HostLine). g.name) in
    let here = get_or-map (λ (g : HostLine). g.name) hosts k h d (omega (arith, len, lt)) in
    let other = absent (λ (g : HostLine). eqb g.name h.name) hosts fresh k h (omega (arith, len, lt)) in
    rw here (differ (get_or hosts k h).name h.name other)))

-- ---- letters

names_set : (hosts : List HostLine) (at : ℕ) (ls : List Letter) (o : Option HostLine) → slice_get hosts at ≡ o
    → host_names (linked_at hosts at ls o) ≡ host_names hosts
names_set hosts at ls None is = refl
names_set hosts at ls (Some h) is =
    map-set_same (λ (g : HostLine). g.name) hosts at (record h { letters = ls }) h
    (ap (λ (g : HostLine). g.name) (sym (get_or_from_slice_get hosts at h h is)))

-- Letters leave the names.
pub names_linked : (hosts : List HostLine) (at : ℕ) (ls : List Letter) → host_names (linked hosts at ls) ≡ host_names hosts
names_linked hosts at ls = names_set hosts at ls (slice_get hosts at) refl

pub hosts_set : (hosts : List HostLine) (at : ℕ) (ls : List Letter) (o : Option HostLine) → slice_get hosts at ≡ o → All IsHost hosts → length ls ≤ 4096
    → All IsHost (linked_at hosts at ls o)
hosts_set hosts at ls None is ok few = ok
hosts_set hosts at ls (Some h) is ok few =
    let line : IsHost h = rw (get_or_from_slice_get hosts at h h is) at (ok at h (slice_get_within hosts at h is)) in
    All-set IsHost hosts at (record h { letters = ls }) (record { name = line.name; few_letters = few }) ok
