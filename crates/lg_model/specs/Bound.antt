-- What counters and answers say of the truth.
use Rattle.std.specs.Prelude.{◌≡◌, ℕ, ◌<◌, ◌≤◌, List, min, IfSome, All}
use Rattle.flow_key.specs.declared.key.FlowKey.{FlowKey}
use Rattle.lg_model.specs.declared.column.Bucket.{Bucket}
use Rattle.lg_model.specs.declared.limits.TheConstants.{LAST_BYTES, LAST_DELAY}
use Rattle.lg_model.specs.Placing.{Shape, place}
use Rattle.lg_model.specs.Scenario.{Scenario}
use Rattle.lg_model.specs.Trace.{Observation, seen, sum_of, most_of}
use Rattle.lg_model.specs.Sketch.{bucket_at, table_of, frozen_cells}
use Rattle.lg_model.specs.Answer.{Look, answer}
use Rattle.lg_model.specs.declared.answer.Value.{Value}
use Rattle.lg_model.specs.declared.answer.Value.TheVariants.{Unknown, AtMost, Saturated}

-- The bucket of a flow in row i is not below its true sum and maximum, up to the counters' last values.
pub record IsBound (shape : Shape) (xs : List Observation) (f : FlowKey) (i : ℕ) : Type 0 where
  pub bytes : min LAST_BYTES (sum_of xs f) ≤ (bucket_at (table_of shape xs) i (place shape f i)).bytes
  pub delay : min LAST_DELAY (most_of xs f) ≤ (bucket_at (table_of shape xs) i (place shape f i)).delay

-- The law of the bound, for each row of a table that has buckets.
abbrev pub LawOfTheBound : Type 0
LawOfTheBound = (shape : Shape) (xs : List Observation) (f : FlowKey) (i : ℕ) → i < shape.rows → 0 < shape.width → IsBound shape xs f i

-- No counter is above its type's last value.
pub record IsLow (b : Bucket) : Type 0 where
  pub bytes : b.bytes ≤ LAST_BYTES
  pub delay : b.delay ≤ LAST_DELAY

abbrev pub LawOfTheLimits : Type 0
LawOfTheLimits = (shape : Shape) (xs : List Observation) → All (All IsLow) (table_of shape xs)

-- A told number isn't below that one. The two other values say nothing of it.
abbrev pub IsAtLeast : Value → ℕ → Type 0
IsAtLeast (AtMost n) t = t ≤ n
IsAtLeast Unknown t = Unit {0}
IsAtLeast Saturated t = Unit {0}

-- Each column that is kept under the switch's name and that epoch is the one that the switch at position s froze.
abbrev pub Agrees : Look → Scenario → (name s e : ℕ) → Type 0
Agrees look w name s e = (j : ℕ) → IfSome (look name e j) (λ cells. cells ≡ frozen_cells w s e j)

-- An answer is true of what the switch saw of the flow in that epoch.
pub record IsTrueAnswer (look : Look) (w : Scenario) (name s e : ℕ) (f : FlowKey) : Type 0 where
  pub bytes : IsAtLeast (answer look w.shape name e f).bytes (sum_of (seen w s e) f)
  pub delay : IsAtLeast (answer look w.shape name e f).delay (most_of (seen w s e) f)

-- The law of the answers.
abbrev pub LawOfTheAnswer : Type 0
LawOfTheAnswer = (look : Look) (w : Scenario) (name s e : ℕ) (f : FlowKey) → 0 < w.shape.width → Agrees look w name s e → IsTrueAnswer look w name s e f
