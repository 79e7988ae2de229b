-- Which calls of an object in memory are to fail.
use Rattle.std.specs.Prelude.{ℕ, List, Contains}
use Rattle.lg_base.specs.Causes.{one_more}

-- The numbers of the calls that are to fail, from 0, and the calls so far, up to 2^64 - 1.
pub record FailingCalls : Type 0 where
  pub listed : List ℕ
  pub calls : ℕ

-- The next call is on the list.
abbrev pub IsToFail : FailingCalls → Type 0
IsToFail f = Contains f.listed f.calls

-- the same list, after one call more
abbrev pub after_call : FailingCalls → FailingCalls
after_call f = record f { calls = one_more f.calls }
