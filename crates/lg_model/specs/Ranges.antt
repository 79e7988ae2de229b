-- The ranges that the types of a scenario's parts give its numbers.
use Rattle.std.specs.Prelude.{ℕ, ◌^◌, ◌<◌, All}
use Rattle.flow_key.specs.KeyText.{Fits}
use Rattle.lg_model.specs.declared.scenario.Hash.{Hash}
use Rattle.lg_model.specs.declared.scenario.Hash.TheVariants as hashes
use Rattle.lg_model.specs.declared.scenario.Pick.{Pick}
use Rattle.lg_model.specs.declared.scenario.Pick.TheVariants as picks
use Rattle.lg_model.specs.declared.scenario.Fate.{Fate}
use Rattle.lg_model.specs.declared.scenario.Fate.TheVariants as fates
use Rattle.lg_model.specs.declared.scenario.Flow.{Flow}
use Rattle.lg_model.specs.declared.scenario.Step.{Step}
use Rattle.lg_model.specs.declared.scenario.Step.TheVariants as steps
use Rattle.lg_model.specs.declared.scenario.Ask.{Ask}
use Rattle.lg_model.specs.Placing.{IsShape}
use Rattle.lg_model.specs.Scenario.{Scenario}

-- A seed has 64 bits.
abbrev pub IsHashRange : Hash → Type 0
IsHashRange hashes.Ports = Unit {0}
IsHashRange (hashes.Seed n) = n < 2 ^ 64

-- The same of the seed of a pick.
abbrev pub IsPickRange : Pick → Type 0
IsPickRange picks.Turns = Unit {0}
IsPickRange (picks.Chance n) = n < 2 ^ 64

-- A flow's name has 16 bits, and the fields of its key are in their ranges.
abbrev pub IsFlowRange : Flow → Type 0
IsFlowRange f = (f.name < 65536) × Fits f.key

-- The hops that a lost packet reaches are a number of 8 bits.
abbrev pub IsFateRange : Fate → Type 0
IsFateRange fates.Straight = Unit {0}
IsFateRange (fates.Lost k) = k < 256
IsFateRange fates.Twice = Unit {0}
IsFateRange fates.Late = Unit {0}

-- The size of a packet in bytes has 16 bits, its delays and its burst 32.
abbrev pub IsStepRange : Step → Type 0
IsStepRange (steps.Packet _ size delays burst fate) = (size < 65536) × (All (λ d. d < 4294967296) delays) × (burst < 4294967296) × IsFateRange fate
IsStepRange (steps.End _) = Unit {0}
IsStepRange steps.EndAll = Unit {0}
IsStepRange steps.Release = Unit {0}

-- The switch of an ask has 16 bits, its epoch 32.
abbrev pub IsAskRange : Ask → Type 0
IsAskRange q = (q.switch < 65536) × (q.epoch < 4294967296)

-- The numbers of all parts are in the ranges of their fields.
pub record HasRanges (w : Scenario) : Type 0 where
  pub shape : IsShape w.shape.rows w.shape.width
  pub hash : IsHashRange w.shape.hash
  pub pick : IsPickRange w.pick
  pub hosts : All (λ h. h.name < 65536) w.hosts
  pub switches : All (λ n. n < 65536) w.switches
  pub flows : All IsFlowRange w.flows
  pub steps : All IsStepRange w.steps
  pub asks : All IsAskRange w.asks
