-- What a switch's two sketches are after any list of packets and ends.
use Rattle.std.specs.Prelude.{◌≡◌, ℕ, zero, suc, ◌<◌, ◌-◌, List, [], ◌∷◌, fold}
use Rattle.lg_model.specs.Placing.{Shape}
use Rattle.lg_model.specs.Trace.{Observation}
use Rattle.lg_model.specs.Sketch.{table_of}
use Rattle.lg_model.specs.TwinsState.{TwinsState, new_twins, with_seen, with_end}

-- What happens at a switch: it sees a packet, or it ends an epoch.
pub data Event : Type 0 where
  Sees : Observation → Event
  Ends : Event

abbrev pub after_event : TwinsState → Event → TwinsState
after_event t (Sees x) = with_seen t x
after_event t Ends = with_end t

-- How many epochs end.
abbrev pub ends_in : List Event → ℕ
ends_in [] = 0
ends_in (Sees x ∷ events) = ends_in events
ends_in (Ends ∷ events) = suc (ends_in events)

-- What is seen in epoch e: after e ends and before the next one.
abbrev pub seen_in_epoch : ℕ → List Event → List Observation
seen_in_epoch e [] = []
seen_in_epoch zero (Sees x ∷ events) = x ∷ seen_in_epoch zero events
seen_in_epoch zero (Ends ∷ events) = []
seen_in_epoch (suc e) (Sees x ∷ events) = seen_in_epoch (suc e) events
seen_in_epoch (suc e) (Ends ∷ events) = seen_in_epoch e events

-- Twins that went through these events: the epoch is the number of ends, the current sketch is that of all that was
-- seen since the last end, and the frozen one that of all between the last two (or from the start to the only one).
pub record HaveSeen (shape : Shape) (events : List Event) (t : TwinsState) : Type 0 where
  pub epoch : t.epoch ≡ ends_in events
  pub current : t.current ≡ table_of shape (seen_in_epoch (ends_in events) events)
  pub frozen : 0 < ends_in events → t.frozen ≡ table_of shape (seen_in_epoch (ends_in events - 1) events)

abbrev pub LawOfTheEpochs : Type 0
LawOfTheEpochs = (shape : Shape) (events : List Event) → HaveSeen shape events (fold after_event (new_twins shape) events)
