-- Pickers that answer by the scenario's own rule give the picked list.
use Rattle.std.specs.Prelude.{◌≡◌, ◌≢◌, ℕ, ◌+◌, ◌-◌, ◌^◌, ◌<◌, ◌≤◌, ◌⊎◌, Bool, true, false, cond, ◌==◌, List, [], ◌∷◌, ◌++◌, length, fold, min, count_by, Option, Some, None, slice_get, slice_set, slice_index, slice_index_or}
use Rattle.std.proofs.Common.{refl, sym, ap, ◌∙◌, subst, arith, inl, inr, zero-add, add-zero, eq-eqb}
use Rattle.std.proofs.lemmas.List.{get_or-set_same, get_or-set_other, length-set, length_push}
use Rattle.std.proofs.lemmas.List.Sums.{sum_by-append, count_by-le-length}
use Rattle.std.proofs.lemmas.Option.{slice_get_within, slice_get-get_or, get_or_from_slice_get}
use Rattle.std.specs.Prelude.{All}
use Rattle.std.proofs.lemmas.List.Elements.{All-get_or}
use Rattle.std.proofs.lemmas.Bool.Decides.{eqb_tells}
use Rattle.lg_model.specs.Scenario.{Scenario}
use Rattle.lg_model.specs.declared.scenario.Pick.TheVariants.{Turns}
use Rattle.lg_model.specs.Trace.{Meeting, meetings, ended_before}
use Rattle.lg_model.specs.Carrying.{Carry, Picking, Offer, hops_left, is_offered, offer_at, chosen, chosen_at, with_choice, pick_at, picked}
use Rattle.lg_model.specs.Runs.{Runs}
use Rattle.lg_model.specs.Offering.{Picks, Offering, offering, IsOffered, IsPick}

-- What a picker is after some offers, by the position of its switch. Its answer then is the scenario's, and it goes on to
-- what it is after one offer more, as long as they are few enough to be counted.
pub record Follows {S : Type 0} (picks : Picks S) (w : Scenario) (after : (s offers : ℕ) → S) : Type 0 where
  pub answer : (s offers hops : ℕ) (offer : Offer) (said : Option ℕ) (q : S) → offers < 2 ^ 64 - 1 → picks (after s offers) hops offer said q → said ≡ chosen w.pick (slice_index w.switches s) offers hops offer
  pub next : (s offers hops : ℕ) (offer : Offer) (said : Option ℕ) (q : S) → offers < 2 ^ 64 - 1 → picks (after s offers) hops offer said q → q ≡ after s (offers + 1)

-- how often a switch was offered
abbrev pub offers_of : List ℕ → ℕ → ℕ
offers_of offered s = count_by (λ t. t == s) offered

-- the carried list so far, and each picker after the offers of its switch
pub record Matches {S : Type 0} (after : (s offers : ℕ) → S) (a : Offering S) (k : Picking) : Type 0 where
  pub carried : a.carried ≡ k.carried
  pub pickers : (s : ℕ) (p : S) → slice_get a.pickers s ≡ Some p → p ≡ after s (offers_of k.offered s)

count_push : (s t : ℕ) (xs : List ℕ) → offers_of (xs ++ t ∷ []) s ≡ offers_of xs s + cond (t == s) 1 0
count_push s t xs = sum_by-append (λ r. cond (r == s) 1 0) xs (t ∷ []) ∙ ap (λ k. offers_of xs s + k) (zero-add (cond (t == s) 1 0))

turn : {S : Type 0} (picks : Picks S) (w : Scenario) (after : (s offers : ℕ) → S) (m : Meeting) (a b : Offering S) (k : Picking) → Follows picks w after →
    length k.offered < 2 ^ 64 - 1 → Matches after a k → IsPick picks w m a b → Matches after b (pick_at w k m)
turn {S} picks w after m a b k follows few match pick =
    (elim (is_offered w k.carried m) as (λ (v : Bool). is_offered w k.carried m ≡ v →
    Matches after b (cond v (record { offered = k.offered ++ m.switch_at ∷ []; carried = with_choice w m k.carried (chosen_at w k m) }) k)) [
      | true ↦ λ yes_offer.
          let offered : IsOffered picks w m a b = pick.offers (ap (λ cs. is_offered w cs m) match.carried ∙ yes_offer) in
          let offers = offers_of k.offered m.switch_at in
          let low : offers < 2 ^ 64 - 1 = let little : offers ≤ length k.offered = count_by-le-length (λ r. r == m.switch_at) k.offered in omega arith in
          let before : offered.before ≡ after m.switch_at offers = match.pickers m.switch_at offered.before offered.its in
          let says : picks (after m.switch_at offers) (hops_left m) (offer_at w a.carried m) offered.answer offered.after =
          subst (λ (p : S). picks p (hops_left m) (offer_at w a.carried m) offered.answer offered.after) before offered.says in
          let answer : offered.answer ≡ chosen_at w k m =
          follows.answer m.switch_at offers (hops_left m) (offer_at w a.carried m) offered.answer offered.after low says
          ∙ ap (λ cs. chosen w.pick (slice_index w.switches m.switch_at) offers (hops_left m) (offer_at w cs m)) match.carried in
          let next : offered.after ≡ after m.switch_at (offers + 1) = follows.next m.switch_at offers (hops_left m) (offer_at w a.carried m) offered.answer offered.after low says in
          let inside : m.switch_at < length a.pickers = slice_get_within a.pickers m.switch_at offered.before offered.its in
          record {
            carried = offered.carried ∙ (λ i. with_choice w m (match.carried i) (answer i));
            pickers = λ s p is.
                let is' : slice_get (slice_set a.pickers m.switch_at offered.after) s ≡ Some p = ap (λ ps. slice_get ps s) (sym offered.pickers) ∙ is in
                let low' : s < length (slice_set a.pickers m.switch_at offered.after) = slice_get_within (slice_set a.pickers m.switch_at offered.after) s p is' in
                let low'' : s < length a.pickers = omega (arith, length-set a.pickers m.switch_at offered.after) in
                let at : slice_index_or (slice_set a.pickers m.switch_at offered.after) s p ≡ p = get_or_from_slice_get (slice_set a.pickers m.switch_at offered.after) s p p is' in
                elim (eqb_tells m.switch_at s) [
                  | inl same ↦
                      let here : slice_index_or (slice_set a.pickers m.switch_at offered.after) s p ≡ offered.after =
                      ap (λ r. slice_index_or (slice_set a.pickers m.switch_at offered.after) r p) (sym same.1) ∙ get_or-set_same a.pickers m.switch_at offered.after p inside in
                      let more : offers_of (k.offered ++ m.switch_at ∷ []) m.switch_at ≡ offers + 1 = count_push m.switch_at m.switch_at k.offered ∙ (rw (eq-eqb m.switch_at m.switch_at refl) refl) in
                      sym at ∙ here ∙ next ∙ ap (after m.switch_at) (sym more) ∙ ap (λ r. after r (offers_of (k.offered ++ m.switch_at ∷ []) r)) same.1
                  | inr other ↦
                      let ne : s ≢ m.switch_at = λ q. other.1 (sym q) in
                      let old : slice_index_or a.pickers s p ≡ p = sym (get_or-set_other a.pickers m.switch_at s offered.after p ne) ∙ at in
                      let was : slice_get a.pickers s ≡ Some p = slice_get-get_or a.pickers s p low'' ∙ ap Some old in
                      match.pickers s p was ∙ ap (after s) (sym (count_push s m.switch_at k.offered ∙ (rw other.0 (add-zero (offers_of k.offered s)))))
                ];
          }
      | false ↦ λ no_offer.
          let same : b ≡ a = pick.passes (ap (λ cs. is_offered w cs m) match.carried ∙ no_offer) in
          subst (λ (x : Offering S). Matches after x k) (sym same) match
    ]) refl

offered_more : (w : Scenario) (k : Picking) (m : Meeting) → length (pick_at w k m).offered ≤ length k.offered + 1
offered_more w k m =
    elim (is_offered w k.carried m) as (λ (v : Bool). length (cond v (record { offered = k.offered ++ m.switch_at ∷ []; carried = with_choice w m k.carried (chosen_at w k m) }) k).offered ≤ length k.offered + 1) [
      | true ↦ omega (arith, length_push k.offered m.switch_at)
      | false ↦ omega arith
    ]

follow_all : {S : Type 0} (picks : Picks S) (w : Scenario) (after : (s offers : ℕ) → S) (ms : List Meeting) (a b : Offering S) (k : Picking) → Follows picks w after →
    length k.offered + length ms < 2 ^ 64 → Matches after a k → Runs (IsPick picks w) ms a b → b.carried ≡ (fold (pick_at w) k ms).carried
follow_all {S} picks w after [] a b k follows few match run = ap (λ (x : Offering S). x.carried) run ∙ match.carried
follow_all picks w after (m ∷ ms) a b k follows few match run =
    let more : length (pick_at w k m).offered ≤ length k.offered + 1 = offered_more w k m in
    follow_all picks w after ms run.0 b (pick_at w k m) follows (omega arith) (turn picks w after m a run.0 k follows (omega arith) match run.1) run.2

-- from fresh pickers on
pub picked_by : {S : Type 0} (picks : Picks S) (w : Scenario) (after : (s offers : ℕ) → S) (ps : List S) (b : Offering S) → Follows picks w after →
    length (meetings w) < 2 ^ 64 → ((s : ℕ) (p : S) → slice_get ps s ≡ Some p → p ≡ after s 0) → Runs (IsPick picks w) (meetings w) (offering ps []) b → b.carried ≡ picked w
picked_by {S} picks w after ps b follows few fresh run =
    follow_all picks w after (meetings w) (offering ps []) b (record { offered = []; carried = [] }) follows (omega arith) (record { carried = refl; pickers = fresh }) run
