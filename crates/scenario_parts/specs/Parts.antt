-- Parts that may make a scenario: their positions in their lists.
use Rattle.std.specs.Prelude.{ℕ, ◌<◌, length, All}
use Rattle.lg_model.specs.declared.scenario.Flow.{Flow}
use Rattle.lg_model.specs.declared.scenario.Step.{Step}
use Rattle.lg_model.specs.declared.scenario.Step.TheVariants as steps
use Rattle.lg_model.specs.Scenario.{Scenario}

-- A flow's host and the switches of its path are there.
abbrev pub IsFlowInRange : (hosts switches : ℕ) → Flow → Type 0
IsFlowInRange hosts switches f = (f.host_at < hosts) × (All (λ s. s < switches) f.path)

-- The switch of an end is there.
abbrev pub IsEndInRange : (switches : ℕ) → Step → Type 0
IsEndInRange switches (steps.Packet _ _ _ _ _) = Unit {0}
IsEndInRange switches (steps.End at) = at < switches
IsEndInRange switches steps.EndAll = Unit {0}
IsEndInRange switches steps.Release = Unit {0}

-- The flow of a packet or the switch of an end is there.
abbrev pub IsStepInRange : (flows switches : ℕ) → Step → Type 0
IsStepInRange flows switches (steps.Packet at _ _ _ _) = at < flows
IsStepInRange flows switches (steps.End at) = at < switches
IsStepInRange flows switches steps.EndAll = Unit {0}
IsStepInRange flows switches steps.Release = Unit {0}

-- The positions in all parts are in range.
pub record AreInRange (w : Scenario) : Type 0 where
  pub flows : All (IsFlowInRange (length w.hosts) (length w.switches)) w.flows
  pub steps : All (IsStepInRange (length w.flows) (length w.switches)) w.steps
  pub asks : All (λ q. q.flow_at < length w.flows) w.asks
