-- An epoch that is ended is settled.
use Rattle.std.specs.Prelude.{◌≡◌, ℕ, ◌<◌, ◌≤◌, length, take}
use Rattle.lg_model.specs.Scenario.{Scenario, ended}
use Rattle.lg_model.specs.Trace.{seen_in, meetings_in, packets_until}
use Rattle.lg_model.specs.Sketch.{frozen, table_of}

-- Two scenarios begin alike: their sketches have one shape, their flows are the same, and so are their first n steps.
pub record BeginAlike (n : ℕ) (v w : Scenario) : Type 0 where
  pub shape : v.shape ≡ w.shape
  pub flows : v.flows ≡ w.flows
  pub steps : take n v.steps ≡ take n w.steps

-- A frozen sketch is the table of what was seen up to the end of its epoch, and depends on nothing that comes later:
-- scenarios that begin alike up to that end have the same one.
pub record LawOfTheFrozen : Type 0 where
  pub settled : (w : Scenario) (s e n : ℕ) → n ≤ length w.steps → e < ended w s n →
      frozen w s e ≡ table_of w.shape (seen_in w s e (meetings_in (packets_until w n)))
  pub alike : (v w : Scenario) (s e n : ℕ) → n ≤ length v.steps → n ≤ length w.steps → BeginAlike n v w → e < ended w s n →
      frozen v s e ≡ frozen w s e
