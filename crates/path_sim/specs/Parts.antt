-- What the network handles, as the definitions speak of it.
use Rattle.std.specs.Prelude.{◌≡◌, ℕ, ◌<◌, ◌-◌, List, ◌++◌, map, take, slice_index, slice_index_or, Option, None, Some}
use Rattle.lg_model.specs.declared.scenario.Flow.{Flow}
use Rattle.lg_model.specs.declared.scenario.Step.{Step}
use Rattle.lg_model.specs.declared.scenario.Step.TheVariants as steps
use Rattle.lg_model.specs.Placing.{Shape, places_of}
use Rattle.lg_model.specs.Scenario.{Scenario}
use Rattle.lg_model.specs.Trace.{Meeting, meetings_in, meetings_of}
use Rattle.lg_model.specs.Carrying as model
use Rattle.lg_model.specs.Arriving.{packet_at}
use Rattle.lg_model.specs.Columns.{Column, dims_of}
use Rattle.lg_model.specs.Sketch.{column_at}
use Rattle.lg_model.specs.TwinsState.{TwinsState}
use Rattle.lg_model.specs.Midway.{packets_to}
use Rattle.path_sim.specs.declared.meeting.Visit.{Visit}
use Rattle.path_sim.specs.declared.carry.Carry.{Carry}

abbrev pub meeting_is : Visit → Meeting
meeting_is m = record {
  number = m.number;
  step_at = m.step_at;
  hop = m.hop;
  hops = m.hops;
  switch_at = m.switch_at;
  key = m.key;
  size = m.size;
  delay =
      m.delay;
}

abbrev pub carry_is : Carry → model.Carry
carry_is c = record { packet = c.packet; hop = c.hop; switch_at = c.switch_at; epoch = c.epoch; index = c.index }

abbrev pub carried_are : List Carry → List model.Carry
carried_are cs = map carry_is cs

-- The column at an index of the sketch that these twins froze last, under the name of their switch.
abbrev pub frozen_column : TwinsState → (switch index : ℕ) → Column
frozen_column t switch index = record {
  key = record { switch = switch; epoch = t.epoch - 1; index = index };
  dims = dims_of t.shape;
  cells = record { buckets = column_at t.frozen index };
}

-- 1 where there is something, else 0.
abbrev pub some_count : {X : Type 0} → Option X → ℕ
some_count None = 0
some_count (Some x) = 1

-- The meetings up to that many hops of the packet of that number.
abbrev pub meetings_to : Scenario → (number hops : ℕ) → List Meeting
meetings_to w n k = meetings_in (packets_to w n) ++ take k (meetings_of (n, packet_at w n))

-- The column is carried by an earlier packet than that.
abbrev pub IsBefore : ℕ → model.Carry → Type 0
IsBefore n c = c.packet < n

-- An entry has the name of its switch.
abbrev pub IsNamed : Scenario → Carry → Type 0
IsNamed w c = c.switch ≡ slice_index w.switches c.switch_at

-- The places of a flow in the rows of a shape.
abbrev pub places_in : Shape → Flow → List ℕ
places_in q f = places_of q f.key

-- The places of each flow, in the order of declaration.
abbrev pub flow_places : Scenario → List (List ℕ)
flow_places w = map (places_in w.shape) w.flows

-- The step at a place.
abbrev pub step_in : Scenario → ℕ → Step
step_in w n = slice_index_or w.steps n steps.Release
