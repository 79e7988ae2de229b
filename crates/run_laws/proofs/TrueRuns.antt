-- Each column that came is a frozen one, and each answer of a run is true.
use Rattle.std.specs.Prelude.{◌≡◌, ◌↔◌, [], All, slice_index_or}
use Rattle.std.proofs.Common.{refl, sym, ap, ◌∙◌, subst, arith}
use Rattle.lg_model.specs.declared.column.Key.{Key}
use Rattle.lg_model.specs.declared.scenario.Ask.{Ask}
use Rattle.lg_model.specs.Scenario.{Scenario}
use Rattle.lg_model.specs.Carrying.{picked}
use Rattle.lg_model.proofs.Allowing.{picked_is_allowed}
use Rattle.lg_model.specs.Arriving.{brought_to_all}
use Rattle.lg_model.specs.Columns.{Column}
use Rattle.lg_model.specs.Answer.{look_in}
use Rattle.lg_model.specs.Joining.{IsSwitch, IsFrozen, AgreesWith}
use Rattle.lg_model.specs.Sketch.{frozen_cells}
use Rattle.flow_query.specs.Told.{NoneIsKnown}
use Rattle.lg_model.specs.Keeping.{AreApart}
use Rattle.scenario_parts.specs.Whole.{IsWhole}
use Rattle.run_laws.specs.Truth.{book_of, IsFrozenColumn, IsOneEach, NoneArrived, IsTrueIn, IsTrueOf, IsTrueRun, asked_key, place_key}
use Rattle.run_laws.proofs.Agreeing.{cells_at, true_book}
use Rattle.run_laws.proofs.Found.{agrees_all, none_has, none_found}
use Rattle.run_laws.proofs.Brought.{IsPlaced, placed, brought_made}

-- what is known of an entry of the carry list
abbrev pub Placed : Scenario → Type 0
Placed w = All (IsPlaced w) (picked w)

pub frozen_all : (w : Scenario) → Placed w → All (IsFrozenColumn w) (brought_to_all w (picked w))
frozen_all w all = brought_made (IsFrozenColumn w) w (picked w) (λ k d inside. record {
  dims = refl;
  is = record {
    switch_at = (slice_index_or (picked w) k d).switch_at;
    switch = record { declared = (all k d inside).declared; named = refl };
    ended = (all k d inside).ended;
    index = (all k d inside).index;
    same = refl;
  };
})

pub agrees : (w : Scenario) → All (IsFrozenColumn w) (brought_to_all w (picked w)) → AgreesWith w (book_of w)
agrees w all k = agrees_all (IsFrozen w) k (brought_to_all w (picked w)) [] (λ i d inside. (all i d inside).is) tt

-- two frozen columns of one key are one
one_of : (w : Scenario) (a b : Column) → AreApart w.switches → IsFrozenColumn w a → IsFrozenColumn w b → a.key ≡ b.key → a ≡ b
one_of w a b own this that same =
    let here : IsSwitch w b.key.switch this.is.switch_at = subst (λ (k : Key). IsSwitch w k.switch this.is.switch_at) same this.is.switch in
    let cells = this.is.same ∙ ap (λ (k : Key). frozen_cells w this.is.switch_at k.epoch k.index) same
    ∙ sym (cells_at w b.key b.cells this.is.switch_at own that.is here) in
    let dims = this.dims ∙ sym that.dims in
    λ j. record { key = same j; dims = dims j; cells = cells j }

one_each : (w : Scenario) → AreApart w.switches → All (IsFrozenColumn w) (brought_to_all w (picked w)) → IsOneEach (brought_to_all w (picked w))
one_each w own all i k d before inside =
    one_of w (slice_index_or (brought_to_all w (picked w)) i d) (slice_index_or (brought_to_all w (picked w)) k d) own
    (all i d (omega (arith, before, inside))) (all k d inside)

unknown : (w : Scenario) (q : Ask) → NoneIsKnown (look_in (book_of w)) w.shape q.switch q.epoch (asked_key w q) ↔ NoneArrived w q
unknown w q = (
  (λ none i inside. (none_has (place_key w q i) (brought_to_all w (picked w)) [] (none i inside)).1),
  (λ none i inside. none_found (place_key w q i) (brought_to_all w (picked w)) (none i inside)),
)

true_of : (w : Scenario) (q : Ask) → IsTrueIn w (book_of w) q → IsTrueOf w q
true_of w q is =
    let none = unknown w q in
    record { is = is; unknown = ((λ h. none.0 (is.exact.rows.0 h)), (λ h. is.exact.rows.1 (none.1 h))) }

pub true_run : (w : Scenario) → IsWhole w → IsTrueRun w
true_run w whole =
    let allowed = picked_is_allowed w whole.scenario.shape.some_width in
    let all = frozen_all w (placed w (picked w) whole.scenario allowed) in
    let book = true_book w (book_of w) whole (agrees w all) in
    record {
      allowed = allowed;
      frozen = all;
      one_each = one_each w whole.scenario.switches.own all;
      agrees = agrees w all;
      answers = λ k d inside. true_of w (slice_index_or w.asks k d) (book.answers k d inside);
    }
