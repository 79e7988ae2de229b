-- What an answer says of the rows of its flow, with no list of counters.
use Rattle.std.specs.Prelude.{◌≡◌, ◌≢◌, ℕ, ◌<◌, ◌≤◌, ◌↔◌, None, Some}
use Rattle.flow_key.specs.declared.key.FlowKey.{FlowKey}
use Rattle.lg_model.specs.declared.column.Bucket.{Bucket}
use Rattle.lg_model.specs.declared.answer.Answer.{Answer}
use Rattle.lg_model.specs.declared.answer.Value.{Value}
use Rattle.lg_model.specs.declared.answer.Value.TheVariants.{Unknown, AtMost, Saturated}
use Rattle.lg_model.specs.Placing.{Shape, place}
use Rattle.lg_model.specs.declared.limits.TheConstants.{LAST_BYTES, LAST_DELAY}
use Rattle.lg_model.specs.Answer.{Look, known_at, answer}

-- No row of the flow is known: at none of its places a column is kept.
abbrev pub NoneIsKnown : Look → Shape → (s e : ℕ) → FlowKey → Type 0
NoneIsKnown look shape s e f = (i : ℕ) → i < shape.rows → look s e (place shape f i) ≡ None

-- Row i is known, and this is its bucket.
pub record IsKnownRow (look : Look) (shape : Shape) (s e : ℕ) (f : FlowKey) (i : ℕ) (b : Bucket) : Type 0 where
  pub inside : i < shape.rows
  pub kept : known_at look shape s e f i ≡ Some b

-- The least of a counter over the known rows: one of them has it, and none has less.
pub record IsLeast (counter : Bucket → ℕ) (look : Look) (shape : Shape) (s e : ℕ) (f : FlowKey) (n : ℕ) : Type 0 where
  pub row : ℕ
  pub bucket : Bucket
  pub known : IsKnownRow look shape s e f row bucket
  pub has : counter bucket ≡ n
  pub least : (i : ℕ) (b : Bucket) → IsKnownRow look shape s e f i b → n ≤ counter b

-- What is told of a counter: `unknown` exactly where no row is known, `saturated` exactly where the least is the counter's
-- last value, and a number exactly where that is the least and not the last value.
pub record IsTold (counter : Bucket → ℕ) (limit : ℕ) (look : Look) (shape : Shape) (s e : ℕ) (f : FlowKey) (value : Value) : Type 0 where
  pub unknown : value ≡ Unknown ↔ NoneIsKnown look shape s e f
  pub saturated : value ≡ Saturated ↔ IsLeast counter look shape s e f limit
  pub at_most : (n : ℕ) → value ≡ AtMost n ↔ (IsLeast counter look shape s e f n × (n ≢ limit))

-- An answer says exactly what the rows do: whether any is known, and the least of each counter.
pub record IsExact (look : Look) (shape : Shape) (s e : ℕ) (f : FlowKey) (a : Answer) : Type 0 where
  pub rows : a.rows_known ≡ 0 ↔ NoneIsKnown look shape s e f
  pub bytes : IsTold (λ b. b.bytes) LAST_BYTES look shape s e f a.bytes
  pub delay : IsTold (λ b. b.delay) LAST_DELAY look shape s e f a.delay

-- The law of exact answers, for every content.
abbrev pub LawOfExactAnswers : Type 0
LawOfExactAnswers = (look : Look) (shape : Shape) (s e : ℕ) (f : FlowKey) → IsExact look shape s e f (answer look shape s e f)
