-- What a packet carries, after its offers.
use Rattle.std.specs.Prelude.{◌≡◌, ℕ, ◌+◌, ◌-◌, ◌<◌, ◌≤◌, ◌⊎◌, Bool, true, false, cond, ◌==◌, List, [], ◌∷◌, ◌++◌, length, Option, Some, None, slice_index_or, All}
use Rattle.std.specs.List.{find}
use Rattle.std.specs.Option.{option_map, option_or}
use Rattle.std.proofs.Common.{refl, sym, ap, ◌∙◌, subst, arith, inl, inr, append-nil, append_assoc, eq-eqb}
use Rattle.std.proofs.lemmas.Bool.{false≢true}
use Rattle.std.proofs.lemmas.List.Elements.{All-nil, All-cons, All-head, All-tail, All-append}
use Rattle.std.proofs.lemmas.List.Folds.{find-append}
use Rattle.std.proofs.lemmas.Bool.Decides.{eqb_tells}
use Rattle.lg_model.specs.Scenario.{Scenario, ended}
use Rattle.lg_model.specs.Trace.{Meeting, ended_before}
use Rattle.lg_model.specs.Sketch.{column_at}
use Rattle.lg_model.specs.Carrying.{Carry, Adds, carries, carry_at, is_offered, with_choice}
use Rattle.lg_model.specs.Arriving.{column_of, cargo}
use Rattle.lg_model.specs.Columns.{Column}
use Rattle.lg_model.specs.Runs.{Runs}
use Rattle.lg_model.specs.Offering.{Picks, Offering, IsOffered, IsPick}
use Rattle.lg_model.specs.TwinsState.{TwinsState, AreTwins}

none_found : (n : ℕ) (cs : List Carry) → carries cs n ≡ false → find (λ (c : Carry). c.packet == n) cs ≡ None
none_found n [] h = refl
none_found n (c ∷ cs) h =
    elim (eqb_tells c.packet n) [
      | inl same ↦ absurd (false≢true (sym h ∙ rw same.0 refl))
      | inr other ↦ rw other.0 (none_found n cs (rw other.0 at h))
    ]

-- before its first column it carries nothing
pub cargo_none : (w : Scenario) (cs : List Carry) (n : ℕ) → carries cs n ≡ false → cargo w cs n ≡ None
cargo_none w cs n h = ap (option_map (column_of w)) (none_found n cs h)

-- and then that column
pub cargo_new : (w : Scenario) (cs : List Carry) (m : Meeting) (j : ℕ) → carries cs m.number ≡ false → cargo w (cs ++ carry_at w m j ∷ []) m.number ≡ Some (column_of w (carry_at w m j))
cargo_new w cs m j h =
    let n = m.number in
    let c : Carry = carry_at w m j in
    let found : option_or (find (λ (x : Carry). x.packet == n) cs) (find (λ (x : Carry). x.packet == n) (c ∷ [])) ≡ Some c = rw (none_found n cs h, eq-eqb n n refl) refl in
    ap (option_map (column_of w)) (find-append (λ (x : Carry). x.packet == n) cs (c ∷ []) ∙ found)

-- whose buckets are read off the frozen sketch
pub buckets_are : (w : Scenario) (m : Meeting) (ms : List Meeting) (cs : List Carry) (ts : List TwinsState) (d : TwinsState) (j : ℕ) → AreTwins w m.step_at ms cs ts → m.switch_at < length ts → 0 < ended_before w m →
    column_at (slice_index_or ts m.switch_at d).frozen j ≡ (column_of w (carry_at w m j)).cells.buckets
buckets_are w m ms cs ts d j all inside some = ap (λ t. column_at t j) ((all.each m.switch_at d inside).frozen some)

-- what a meeting adds to the carried list
pub adds_one : {S : Type 0} (picks : Picks S) (w : Scenario) (m : Meeting) (a b : Offering S) → IsPick picks w m a b → Adds m.number a.carried b.carried
adds_one {S} picks w m a b pick =
    (elim (is_offered w a.carried m) as (λ (v : Bool). is_offered w a.carried m ≡ v → Adds m.number a.carried b.carried) [
      | true ↦ λ yes_offer. let offered : IsOffered picks w m a b = pick.offers yes_offer in
          (elim offered.answer as (λ (v : Option ℕ). b.carried ≡ with_choice w m a.carried v → Adds m.number a.carried b.carried) [
            | None ↦ λ q. record { more = []; is = q ∙ sym (append-nil a.carried); late = All-nil (λ (c : Carry). m.number ≤ c.packet) }
            | Some j ↦ λ q. record { more = carry_at w m j ∷ []; is = q; late = All-cons (λ (c : Carry). m.number ≤ c.packet) (carry_at w m j) [] (let e : m.number ≤ m.number = omega arith in e) (All-nil (λ (c : Carry). m.number ≤ c.packet)) }
          ]) offered.carried
      | false ↦ λ no_offer. record { more = []; is = ap (λ (x : Offering S). x.carried) (pick.passes no_offer) ∙ sym (append-nil a.carried); late = All-nil (λ (c : Carry). m.number ≤ c.packet) }
    ]) refl

pub adds_none : (n : ℕ) (cs : List Carry) → Adds n cs cs
adds_none n cs = record { more = []; is = sym (append-nil cs); late = All-nil (λ (c : Carry). n ≤ c.packet) }

pub adds_both : (n : ℕ) (a b c : List Carry) → Adds n a b → Adds n b c → Adds n a c
adds_both n a b c one two = record {
  more = one.more ++ two.more;
  is = two.is ∙ ap (λ xs. xs ++ two.more) one.is ∙ append_assoc a one.more two.more;
  late = All-append (λ (x : Carry). n ≤ x.packet) one.more two.more one.late two.late;
}
