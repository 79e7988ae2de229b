-- What contracts see of a source and of a sink: of those in memory, and of those over a stream of std.
use Rattle.std.specs.Prelude.{ℕ, List}
use Rattle.lg_base.specs.Failing.{FailingCalls}

-- A source in memory: the bytes not yet taken, the most that a call gives (at least 1), the calls that are to fail and
-- the faults so far.
pub record SourceState : Type 0 where
  pub left : List ℕ
  pub piece : ℕ
  pub failing : FailingCalls
  pub faults : ℕ

-- A sink in memory: the bytes put so far, the most that a call takes (at least 1), the calls that are to fail, how many
-- calls found no memory and the faults so far.
pub record SinkState : Type 0 where
  pub written : List ℕ
  pub piece : ℕ
  pub failing : FailingCalls
  pub starved : ℕ
  pub faults : ℕ

-- A source or a sink over a stream of std: the stream, and the faults so far.
pub record StreamState (S : Type 0) : Type 0 where
  pub stream : S
  pub faults : ℕ
