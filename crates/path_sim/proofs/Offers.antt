-- One offer.
use Rattle.std.specs.Prelude.{◌≡◌, ℕ, ◌+◌, ◌-◌, ◌<◌, Bool, true, false, List, [], ◌∷◌, ◌++◌, length, slice_index, slice_index_or, slice_set, Option, Some}
use Rattle.std.specs.Prelude.{None, nat_lt, ◌&&◌, ◌==◌, All}
use Rattle.std.proofs.Common.{refl, sym, ◌∙◌, subst, arith, rules, tests, inl, inr}
use Rattle.std.specs.List.{find}
use Rattle.std.specs.Option.{option_map, is_some}
use Rattle.std.proofs.lemmas.List.Elements.{All-push, All-weaker}
use Rattle.std.proofs.lemmas.List.Folds.{list_any_none}
use Rattle.std.proofs.lemmas.Bool.Decides.{eqb_tells}
use Rattle.std.proofs.lemmas.Bool.{false≢true}
use Rattle.lg_model.specs.Scenario.{Scenario}
use Rattle.lg_model.specs.Sketch.{column_at}
use Rattle.lg_model.specs.Trace.{Meeting, ended_before}
use Rattle.lg_model.specs.Carrying as model
use Rattle.lg_model.specs.Carrying.{Offer, offer_at, carry_at, hops_left, is_offered, is_out, with_choice}
use Rattle.lg_model.specs.Arriving.{cargo, column_of}
use Rattle.lg_model.specs.Columns.{Column, dims_of}
use Rattle.lg_model.specs.Offering.{Picks, IsPick, IsOffered, Offering, offering}
use Rattle.lg_model.specs.TwinsState.{TwinsState, AreTwins, IsTwinsState, offer_of, with_put}
use Rattle.lg_model.specs.Matching.{MatchedOption}
use Rattle.lg_model.proofs.Twinning.{twins_put}
use Rattle.lg_model.proofs.Cargo.{cargo_none, buckets_are}
use Rattle.path_sim.specs.Parts.{frozen_column, IsBefore}

pub offer_is : (w : Scenario) (m : Meeting) (ms : List Meeting) (cs : List model.Carry) (ts : List TwinsState) (d : TwinsState)
    → AreTwins w m.step_at ms cs ts → m.switch_at < length ts →
    offer_of (slice_index_or ts m.switch_at d) ≡ offer_at w cs m
offer_is w m ms cs ts d all inside =
    let is : IsTwinsState w m.step_at ms cs m.switch_at (slice_index_or ts m.switch_at d) = all.each m.switch_at d inside in
    λ i. record { width = (is.shape i).width; put = is.put i; times = is.times i }

-- the packet carries the column from then on
pub put_all : (w : Scenario) (m : Meeting) (ms : List Meeting) (cs cs' : List model.Carry) (ts ts' : List TwinsState) (d : TwinsState) (j : ℕ)
    → AreTwins w m.step_at ms cs ts → m.switch_at < length ts →
    0 < ended_before w m → j < w.shape.width → cs' ≡ cs ++ carry_at w m j ∷ []
    → ts' ≡ slice_set ts m.switch_at (with_put (slice_index_or ts m.switch_at d) j) → AreTwins w m.step_at ms cs' ts'
put_all w m ms cs cs' ts ts' d j all inside some low pushed put =
    let back : (ended_before w m - 1) + 1 ≡ ended_before w m = omega arith in
    rw (pushed, put) (twins_put w m.step_at ms cs ts (carry_at w m j) d all inside back low)

pub offer_yes : (w : Scenario) (m : Meeting) (cs : List model.Carry) → 0 < ended_before w m → model.carries cs m.number ≡ false → is_offered w cs m ≡ true
offer_yes w m cs some none = let yes : nat_lt 0 (ended_before w m) ≡ true = search (rules, tests) in rw (yes, none) refl

and_false : (b : Bool) → (b && false) ≡ false
and_false true = refl
and_false false = refl

-- a packet that carries a column, or a switch that froze nothing, offers for none
pub offer_no : (w : Scenario) (m : Meeting) (cs : List model.Carry) → model.carries cs m.number ≡ true → is_offered w cs m ≡ false
offer_no w m cs some = rw some (and_false (nat_lt 0 (ended_before w m)))

pub offer_early : (w : Scenario) (m : Meeting) (cs : List model.Carry) → ended_before w m ≡ 0 → is_offered w cs m ≡ false
offer_early w m cs none = rw none refl

pub pick_none : {S : Type 0} (picks : Picks S) (w : Scenario) (m : Meeting) (ps : List S) (cs : List model.Carry) → is_offered w cs m ≡ false
    → IsPick picks w m (offering ps cs) (offering ps cs)
pick_none picks w m ps cs no_offer = record { offers = λ yes_offer. absurd (false≢true (sym no_offer ∙ yes_offer)); passes = λ q. refl }

-- what is carried after an offer is carried by packets up to this one
pub pick_before : {S : Type 0} (picks : Picks S) (w : Scenario) (m : Meeting) (old new : Offering S) → IsPick picks w m old new →
    All (IsBefore (m.number + 1)) old.carried → All (IsBefore (m.number + 1)) new.carried
pick_before {S} picks w m old new pick all =
    (elim (is_offered w old.carried m) as (λ b. is_offered w old.carried m ≡ b → All (IsBefore (m.number + 1)) new.carried) [
      | true ↦ λ q. let offered : IsOffered picks w m old new = pick.offers q in
          subst (All (IsBefore (m.number + 1))) (sym offered.carried)
          ((elim offered.answer as (λ (a : Option ℕ). All (IsBefore (m.number + 1)) (with_choice w m old.carried a)) [
            | None ↦ all
            | Some j ↦ All-push (IsBefore (m.number + 1)) old.carried (carry_at w m j) all (let e : m.number < m.number + 1 = omega arith in e)
          ]))
      | false ↦ λ q. subst (λ (a : Offering S). All (IsBefore (m.number + 1)) a.carried) (sym (pick.passes q)) all
    ]) refl

pub none_carried : (n : ℕ) (cs : List model.Carry) → All (IsBefore n) cs → model.carries cs n ≡ false
none_carried n cs all =
    list_any_none (λ (c : model.Carry). c.packet == n) cs (All-weaker (IsBefore n) (λ (c : model.Carry). (c.packet == n) ≡ false)
    (λ c low. elim (eqb_tells c.packet n) [
      | inl same ↦ absurd (let e = same.1 in omega arith)
      | inr other ↦ other.0
    ]) cs all)

pub before_more : (n : ℕ) (cs : List model.Carry) → All (IsBefore n) cs → All (IsBefore (n + 1)) cs
before_more n cs all = All-weaker (IsBefore n) (IsBefore (n + 1)) (λ c low. omega arith) cs all

-- the column that the twins froze last, under the name of their switch, is the one that the entry stands for
pub column_is : (w : Scenario) (m : Meeting) (ms : List Meeting) (cs : List model.Carry) (ts : List TwinsState) (d : TwinsState) (j name : ℕ) →
    AreTwins w m.step_at ms cs ts → m.switch_at < length ts → 0 < ended_before w m → name ≡ slice_index w.switches m.switch_at →
    frozen_column (slice_index_or ts m.switch_at d) name j ≡ column_of w (carry_at w m j)
column_is w m ms cs ts d j name all inside some name_is =
    let t : TwinsState = slice_index_or ts m.switch_at d in
    let twins : IsTwinsState w m.step_at ms cs m.switch_at t = all.each m.switch_at d inside in
    let buckets : column_at t.frozen j ≡ (column_of w (carry_at w m j)).cells.buckets = buckets_are w m ms cs ts d j all inside some in
    λ i. record {
      key = record { switch = name_is i; epoch = twins.epoch i - 1; index = j };
      dims = dims_of (twins.shape i);
      cells = record { buckets = buckets i };
    }

-- what is carried and what is in hand
some_found : (n : ℕ) (cs : List model.Carry) → model.carries cs n ≡ true → (c : model.Carry) × (find (λ (x : model.Carry). x.packet == n) cs ≡ Some c)
some_found n [] h = absurd (false≢true h)
some_found n (c ∷ cs) h =
    elim (eqb_tells c.packet n) [
      | inl same ↦ (c, rw same.0 refl)
      | inr other ↦ let rest = some_found n cs (rw other.0 at h) in (rest.0, rw other.0 rest.1)
    ]

pub in_hand : {C : Type 0} (stands : C → Column → Type 0) (w : Scenario) (cs : List model.Carry) (n : ℕ) (p : C)
    → MatchedOption stands (Some p) (cargo w cs n) → model.carries cs n ≡ true
in_hand stands w cs n p h =
    (elim (model.carries cs n) as (λ (b : Bool). model.carries cs n ≡ b → b ≡ true) [
      | true ↦ λ q. refl
      | false ↦ λ q. absurd (subst (MatchedOption stands (Some p)) (cargo_none w cs n q) h)
    ]) refl

pub empty_hand : {C : Type 0} (stands : C → Column → Type 0) (w : Scenario) (cs : List model.Carry) (n : ℕ) → MatchedOption stands None (cargo w cs n)
    → model.carries cs n ≡ false
empty_hand stands w cs n h =
    (elim (model.carries cs n) as (λ (b : Bool). model.carries cs n ≡ b → b ≡ false) [
      | true ↦ λ q. absurd (let c = some_found n cs q in subst (λ (o : Option model.Carry). MatchedOption stands None (option_map (column_of w) o)) c.1 h)
      | false ↦ λ q. refl
    ]) refl

pub in_hand_if : {C : Type 0} (stands : C → Column → Type 0) (w : Scenario) (cs : List model.Carry) (n : ℕ) (p : Option C) → is_some p ≡ true
    → MatchedOption stands p (cargo w cs n) → model.carries cs n ≡ true
in_hand_if stands w cs n None some h = absurd (false≢true some)
in_hand_if stands w cs n (Some p) some h = in_hand stands w cs n p h

-- whatever stood for a column still does
pub cargo_stays : {C : Type 0} (stands stands' : C → Column → Type 0) (p : Option C) (o : Option Column)
    → ((c : C) (column : Column) → stands c column → stands' c column) →
    MatchedOption stands p o → MatchedOption stands' p o
cargo_stays stands stands' None None stays h = tt
cargo_stays stands stands' None (Some c) stays h = absurd h
cargo_stays stands stands' (Some p) None stays h = absurd h
cargo_stays stands stands' (Some p) (Some c) stays h = stays p c h
