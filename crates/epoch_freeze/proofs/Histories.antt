-- The two sketches after any list of packets and ends.
use Rattle.std.specs.Prelude.{◌≡◌, ℕ, zero, suc, ◌+◌, ◌-◌, List, [], ◌∷◌, fold}
use Rattle.std.proofs.Common.{refl, ap, ◌∙◌, arith, zero-add}
use Rattle.lg_model.specs.Placing.{Shape}
use Rattle.lg_model.specs.Trace.{Observation}
use Rattle.lg_model.specs.Sketch.{Table, zero_table, raise_by}
use Rattle.lg_model.specs.TwinsState.{TwinsState, new_twins, with_seen, with_end}
use Rattle.epoch_freeze.specs.History.{Event, Sees, Ends, after_event, ends_in, seen_in_epoch, LawOfTheEpochs}

-- what the k-th epoch from now on begins with: the one that runs with its counters, each later one with zeros
abbrev begins : TwinsState → ℕ → Table
begins t zero = t.current
begins t (suc k) = zero_table t.shape

fresh_begins : (t : TwinsState) (k : ℕ) → begins (with_end t) k ≡ zero_table t.shape
fresh_begins t zero = refl
fresh_begins t (suc k) = refl

epoch_after : (t : TwinsState) (events : List Event) → (fold after_event t events).epoch ≡ t.epoch + ends_in events
epoch_after t [] = let e : t.epoch ≡ t.epoch + 0 = omega arith in e
epoch_after t (Sees x ∷ events) = epoch_after (with_seen t x) events
epoch_after t (Ends ∷ events) = let more : t.epoch + 1 + ends_in events ≡ t.epoch + suc (ends_in events) = omega arith in epoch_after (with_end t) events ∙ more

-- the table of an epoch, from what it begins with
abbrev table_in : TwinsState → ℕ → List Event → Table
table_in t k events = fold (raise_by t.shape) (begins t k) (seen_in_epoch k events)

table_seen : (t : TwinsState) (x : Observation) (k : ℕ) (events : List Event) → table_in (with_seen t x) k events ≡ table_in t k (Sees x ∷ events)
table_seen t x zero events = refl
table_seen t x (suc k) events = refl

table_ended : (t : TwinsState) (k : ℕ) (events : List Event) → table_in (with_end t) k events ≡ table_in t (suc k) (Ends ∷ events)
table_ended t k events = ap (λ (table : Table). fold (raise_by t.shape) table (seen_in_epoch k events)) (fresh_begins t k)

current_after : (t : TwinsState) (events : List Event) → (fold after_event t events).current ≡ table_in t (ends_in events) events
current_after t [] = refl
current_after t (Sees x ∷ events) = current_after (with_seen t x) events ∙ table_seen t x (ends_in events) events
current_after t (Ends ∷ events) = current_after (with_end t) events ∙ table_ended t (ends_in events) events

-- where nothing ends, the frozen sketch stays
frozen_stays : (t : TwinsState) (events : List Event) → ends_in events ≡ 0 → (fold after_event t events).frozen ≡ t.frozen
frozen_stays t [] none = refl
frozen_stays t (Sees x ∷ events) none = frozen_stays (with_seen t x) events none
frozen_stays t (Ends ∷ events) none = absurd (omega arith)

frozen_after : (t : TwinsState) (events : List Event) (k : ℕ) → ends_in events ≡ suc k → (fold after_event t events).frozen ≡ table_in t k events
frozen_after t [] k some = absurd (omega arith)
frozen_after t (Sees x ∷ events) k some = frozen_after (with_seen t x) events k some ∙ table_seen t x k events
frozen_after t (Ends ∷ events) zero some = frozen_stays (with_end t) events (omega arith)
frozen_after t (Ends ∷ events) (suc k) some = frozen_after (with_end t) events k (omega arith) ∙ table_ended t k events

-- the epochs of new twins begin with zeros
from_zeros : (shape : Shape) (k : ℕ) → begins (new_twins shape) k ≡ zero_table shape
from_zeros shape zero = refl
from_zeros shape (suc k) = refl

pub law : LawOfTheEpochs
law shape events =
    let t : TwinsState = new_twins shape in
    let zeros : (k : ℕ) → table_in t k events ≡ fold (raise_by shape) (zero_table shape) (seen_in_epoch k events) =
    λ k. ap (λ (table : Table). fold (raise_by shape) table (seen_in_epoch k events)) (from_zeros shape k) in
    record {
      epoch = epoch_after t events ∙ zero-add (ends_in events);
      current = current_after t events ∙ zeros (ends_in events);
      frozen = λ some. frozen_after t events (ends_in events - 1) (omega arith) ∙ zeros (ends_in events - 1);
    }
