-- A disk in memory, as contracts see it: what it began with, and each call since.
use Rattle.std.specs.Prelude.{◌≡◌, ◌⊎◌, ℕ, ◌≤◌, ◌/◌, List, [], ◌∷◌, ◌++◌, length, take, Option, IsSomeAnd, Result, MatchResult, ⊤}
use Rattle.std.proofs.Common.{sym, subst, arith, ap}
use Rattle.std.proofs.lemmas.List.{take_all}
use Rattle.lg_base.specs.Causes.{one_more}
use Rattle.lg_base.specs.Failing.{FailingCalls, IsToFail, after_call}
use Rattle.lg_disk.specs.declared.call.Call.{Call}
use Rattle.lg_disk.specs.Model.{State, start, run, IsImage}
use Rattle.lg_disk.specs.Laws.{run_reads, start_reads}

-- What it began with, all of it synced; what each call since changed; the calls that are to fail, and the number from
-- which on all are; how many calls found no memory, and the faults so far.
pub record Medium : Type 0 where
  pub first : List ℕ
  pub calls : List Call
  pub failing : FailingCalls
  pub stopped : Option ℕ
  pub starved : ℕ
  pub faults : ℕ

abbrev pub state : Medium → State
state m = run (start m.first) m.calls

-- what a read gives
abbrev pub file_of : Medium → List ℕ
file_of m = (state m).seen

-- It tells all.
abbrev pub IsHonest : Medium → Type 0
IsHonest m = ⊤

-- How many calls are on the list.
abbrev pub moment : Medium → ℕ
moment m = length m.calls

-- A crash now may leave this file.
abbrev pub IsNow : Medium → List ℕ → Type 0
IsNow m c = IsImage (state m) c

-- A crash after `count` calls, at least t, might have left this file.
pub record IsSince (m : Medium) (t : ℕ) (c : List ℕ) : Type 0 where
  pub count : ℕ
  pub from : t ≤ count
  pub to : count ≤ length m.calls
  pub image : IsImage (run (start m.first) (take count m.calls)) c

-- ---- which calls fail, and what each call leaves

-- The next call is listed, or stopped.
abbrev pub IsDue : Medium → Type 0
IsDue m = IsToFail m.failing ⊎ IsSomeAnd m.stopped (λ k. k ≤ m.failing.calls)

-- the same disk, with one call more that was counted, one more on the list, one fault more, one call more that memory ran out in
abbrev pub counted : Medium → Medium
counted m = record m { failing = after_call m.failing }

abbrev pub noted : Medium → Call → Medium
noted m call = record m { calls = m.calls ++ call ∷ [] }

abbrev pub faulted : Medium → Medium
faulted m = record m { faults = one_more m.faults }

abbrev pub wanted : Medium → Medium
wanted m = record m { starved = one_more m.starved }

-- after a call that went well and changed this
abbrev pub did : Medium → Call → Medium
did m call = noted (counted m) call

-- after a call that failed since it was listed or stopped, and changed this
abbrev pub failed : Medium → Call → Medium
failed m call = faulted (did m call)

-- after a call that found no memory: it changed nothing and is not on the list
abbrev pub starved : Medium → Medium
starved m = faulted (wanted (counted m))

-- A call fails exactly where it is listed, is stopped or finds no memory. It changes `whole` where it goes well, and
-- `part` where it is listed or stopped.
abbrev pub FailsExactly : {T E : Type 0} → Result T E → Call → Call → Medium → Medium → Type 0
FailsExactly result whole part old new =
    MatchResult result (λ _. (IsDue old → ⊥) × (new ≡ did old whole))
    (λ _. (IsDue old × (new ≡ failed old part)) ⊎ (new ≡ starved old))

-- the first half, rounded down
abbrev pub first_half : List ℕ → List ℕ
first_half bytes = take (length bytes / 2) bytes

-- ---- the laws of a disk

at_all : (m : Medium) (n : ℕ) → length m.calls ≤ n → run (start m.first) (take n m.calls) ≡ state m
at_all m n long = ap (λ (l : List Call). run (start m.first) l) (take_all n m.calls long)

pub now_is_since : (m : Medium) (t : ℕ) (c : List ℕ) → t ≤ length m.calls → IsNow m c → IsSince m t c
now_is_since m t c le now = record {
  count = length m.calls;
  from = le;
  to = omega arith;
  image = subst (λ (s : State). IsImage s c) (sym (at_all m (length m.calls) (omega arith))) now;
}

pub since_is_now : (m : Medium) (c : List ℕ) → IsSince m (length m.calls) c → IsNow m c
since_is_now m c since = subst (λ (s : State). IsImage s c) (at_all m since.count since.from) since.image

pub reads_now : (m : Medium) → IsNow m (state m).seen
reads_now m = run_reads (start m.first) m.calls (start_reads m.first)

-- The fields hold what a read gives.
abbrev pub IsKept : List ℕ → List ℕ → List Call → Type 0
IsKept first bytes calls = bytes ≡ (run (start first) calls).seen
