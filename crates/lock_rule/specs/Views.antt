-- Passes as the lock's rule sees them.
use Rattle.std.specs.Prelude.{ℕ, ◌+◌, ◌==◌, nat_lt, true, false, List, [], ◌∷◌, length, filter, Option, None, Some, if◌then◌else◌}
use Rattle.column_book.specs.declared.entry.Entry.{Entry}
use Rattle.lock_rule.specs.declared.view.Doing.{Doing}
use Rattle.lock_rule.specs.declared.view.Doing.TheVariants.{Idle, Drew, Has}
use Rattle.lock_rule.specs.declared.view.Mark.{Mark}
use Rattle.lock_rule.specs.declared.view.Mark.TheVariants.{Clear, Seen, Carries}
use Rattle.lock_rule.specs.declared.view.Joined.{Joined}
use Rattle.lock_rule.specs.declared.view.View.{View}

-- How many calls one pass may begin.
abbrev pub most_calls : ℕ
most_calls = 4294967295

-- The entries that the pass of that number stored, in order.
abbrev pub of : (number : ℕ) → List Entry → List Entry
of n es = filter (λ (e : Entry). e.pass == n) es

-- A pass met a broken journal.
abbrev pub Marked : Mark → Type 0
Marked Clear = ⊥
Marked Seen = Unit {0}
Marked (Carries e) = Unit {0}

abbrev pub HasTurn : Doing → Type 0
HasTurn Idle = ⊥
HasTurn (Drew t) = ⊥
HasTurn (Has t l f) = Unit {0}

-- The ticket of a pass that waits or has the turn.
abbrev pub ticket : Doing → Option ℕ
ticket Idle = None
ticket (Drew t) = Some t
ticket (Has t l f) = Some t

abbrev pub tickets : View → ℕ
tickets v = waits v.doing
  where
    waits : Doing → ℕ
    waits Idle = 0
    waits (Drew t) = 1
    waits (Has t l f) = 1

-- The pass of a number that has seen a list, with nothing begun and no mark; number 1 knows how many were made.
abbrev pub new_pass : (number : ℕ) → Doing → (seen : List Entry) → (made : ℕ) → View
new_pass n doing seen made = record {
  live = true;
  number = n;
  doing = doing;
  seen = seen;
  mark = Clear;
  begun = 0;
  made = made;
  joined = [];
}

-- The first pass after a split, and the pass that it gives.
abbrev pub parted : View → View
parted v = record v { made = v.made + 1 }

abbrev pub given : View → View
given v = new_pass (v.made + 1) Idle v.seen 0

-- What is left of a pass that was joined.
abbrev pub spent : View
spent = record (new_pass 0 Idle [] 0) { live = false }

abbrev pub joined_of : View → Joined
joined_of v = record { number = v.number; seen = v.seen; mark = v.mark; begun = v.begun }

-- The longer of two lists.
abbrev pub longer : List Entry → List Entry → List Entry
longer xs ys = if nat_lt (length xs) (length ys) then ys else xs

-- The first pass after another was joined into it; it has not seen more yet.
abbrev pub with_joined : View → View → View
with_joined v w = record v { joined = joined_of w ∷ v.joined }

-- How many calls a pass and those joined into it have begun, and how many passes they are.
abbrev pub begun_by : List Joined → ℕ
begun_by [] = 0
begun_by (p ∷ ps) = p.begun + begun_by ps

abbrev pub calls : View → ℕ
calls v = v.begun + begun_by v.joined

abbrev pub heads : View → ℕ
heads v = (if v.live then 1 else 0) + length v.joined

-- The sum of a count over all passes.
abbrev pub total : (View → ℕ) → List View → ℕ
total f [] = 0
total f (v ∷ vs) = f v + total f vs
