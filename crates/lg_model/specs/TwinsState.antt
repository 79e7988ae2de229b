-- The two sketches of a switch at a moment, against what it saw.
use Rattle.std.specs.Prelude.{◌≡◌, ℕ, ◌+◌, ◌-◌, ◌<◌, ◌≤◌, List, length, count_by, replicate, slice_index, slice_index_or, slice_set, All}
use Rattle.lg_model.specs.Placing.{Shape}
use Rattle.lg_model.specs.Scenario.{Scenario, ended}
use Rattle.lg_model.specs.Trace.{Observation, Meeting, seen_in}
use Rattle.lg_model.specs.Sketch.{Table, zero_table, table_of, raise_by, frozen}
use Rattle.lg_model.specs.Carrying.{Carry, is_out, times_of, Offer}

-- The epoch, the current table, the one that was frozen last, how many of its columns are put out, and how often each
-- index is. Before the first end the frozen table is of zeros and stands for none.
pub record TwinsState : Type 0 where
  pub shape : Shape
  pub epoch : ℕ
  pub current : Table
  pub frozen : Table
  pub put : ℕ
  pub times : List ℕ

abbrev pub new_twins : Shape → TwinsState
new_twins shape = record { shape = shape; epoch = 0; current = zero_table shape; frozen = zero_table shape; put = 0; times = replicate shape.width 0 }

-- What a picker is offered by the twins of a switch.
abbrev pub offer_of : TwinsState → Offer
offer_of t = record { width = t.shape.width; put = t.put; times = t.times }

abbrev pub with_seen : TwinsState → Observation → TwinsState
with_seen t x = record t { current = raise_by t.shape t.current x }

abbrev pub with_put : TwinsState → ℕ → TwinsState
with_put t j = record t { put = t.put + 1; times = slice_set t.times j (slice_index t.times j + 1) }

-- The end of an epoch: the current table is frozen, and a new one begins.
abbrev pub with_end : TwinsState → TwinsState
with_end t = record t { epoch = t.epoch + 1; current = zero_table t.shape; frozen = t.current; put = 0; times = replicate t.shape.width 0 }

-- What the twins of the switch at position s are after n steps, those meetings and those carried columns.
pub record IsTwinsState (w : Scenario) (n : ℕ) (ms : List Meeting) (cs : List Carry) (s : ℕ) (t : TwinsState) : Type 0 where
  pub shape : t.shape ≡ w.shape
  pub epoch : t.epoch ≡ ended w s n
  pub current : t.current ≡ table_of w.shape (seen_in w s (ended w s n) ms)
  pub frozen : 0 < ended w s n → t.frozen ≡ frozen w s (ended w s n - 1)
  pub put : t.put ≡ count_by (is_out s (ended w s n)) cs
  pub times : t.times ≡ times_of w.shape.width s (ended w s n) cs

-- The carried column is of an epoch that its switch has ended within n steps.
abbrev pub IsPast : Scenario → ℕ → Carry → Type 0
IsPast w n c = c.epoch + 1 ≤ ended w c.switch_at n

-- The twins of all switches, in the order of declaration.
pub record AreTwins (w : Scenario) (n : ℕ) (ms : List Meeting) (cs : List Carry) (ts : List TwinsState) : Type 0 where
  pub count : length ts ≡ length w.switches
  pub each : (s : ℕ) (d : TwinsState) → s < length ts → IsTwinsState w n ms cs s (slice_index_or ts s d)
  pub past : All (IsPast w n) cs
