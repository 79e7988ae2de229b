-- What holds between any two steps at a shared book's lock, whatever lies in its slot. Its words are the tickets drawn,
-- the ticket that is serving, the number of entries, and whether the journal is broken.
use Rattle.std.specs.Prelude.{◌≡◌, ◌≢◌, ◌⊎◌, ℕ, suc, ◌+◌, ◌<◌, ◌≤◌, Bool, true, false, List, [], ◌∷◌, length, Option, None, Some}
use mathlib.Core.List.{IsPrefix}
use mathlib.Core.Option.{none, some}
use mathlib.Core.Option as maybe
use lib.ListN.{get_elem?}
use Rattle.atomic_table.specs.Table.{State}
use Rattle.column_book.specs.declared.entry.Entry.{Entry}
use Rattle.lock_rule.specs.declared.view.Doing.{Doing}
use Rattle.lock_rule.specs.declared.view.Doing.TheVariants.{Idle, Drew, Has}
use Rattle.lock_rule.specs.declared.view.Mark.{Mark}
use Rattle.lock_rule.specs.declared.view.Mark.TheVariants.{Clear, Seen, Carries}
use Rattle.lock_rule.specs.declared.view.Joined.{Joined}
use Rattle.lock_rule.specs.declared.view.View.{View}
use Rattle.lock_rule.specs.Views.{most_calls, of, Marked, HasTurn, ticket, tickets, spent, calls, heads, total}

-- What the lock has come to: tickets drawn, and the one that is serving; the entry that may be on the disk where the
-- journal broke, and the number of the pass whose mark carries it; the list behind the lock; what lies in the slot; the
-- seat of each ticket; of each number its seat, whether it lives, and, once it was joined, how many were joined before;
-- how many numbers were made, and the passes that were joined, the last one first.
pub record LockState (J : Type 0) : Type 0 where
  pub drawn : ℕ
  pub serving : ℕ
  pub fault : Option Entry
  pub carrier : ℕ
  pub list : List Entry
  pub home : maybe.Option (Option J)
  pub holder : ℕ → ℕ
  pub owner : ℕ → ℕ
  pub lives : ℕ → Bool
  pub place : ℕ → ℕ
  pub made : ℕ
  pub joined : List Joined

-- The word that tells whether the journal is broken.
abbrev pub flag_of : Option Entry → ℕ
flag_of None = 0
flag_of (Some e) = 1

-- Some live pass is like this.
abbrev pub SomePass : (View → Type 0) → List View → Type 0
SomePass P vs = (j : ℕ) × (v : View) × (get_elem? vs j ≡ some v) × (v.live ≡ true) × P v

-- Some pass that was joined is like this.
abbrev pub SomeJoined : (Joined → Type 0) → List Joined → Type 0
SomeJoined P ps = (k : ℕ) × (p : Joined) × (get_elem? ps k ≡ some p) × P p

module _ {J : Type 0} where
  -- A ticket is a pass's own, from serving to below drawn, and the turn is that of the ticket serving. While a pass has
  -- the turn, the slot is out, and it knows the list and the fault behind the lock.
  abbrev pub FitsDoing : LockState J → (seat : ℕ) → Doing → Type 0
  FitsDoing g j Idle = 0 < g.serving
  FitsDoing g j (Drew t) = (g.serving ≤ t) × (t < g.drawn) × (g.holder t ≡ j)
  FitsDoing g j (Has t l f) =
      (g.serving ≡ t) × (t < g.drawn) × (g.holder t ≡ j) × (l ≡ g.list) × (g.home ≡ none) × (f ≡ g.fault)

  -- A mark says that the journal is broken; the one that carries an entry carries that of the journal.
  abbrev pub FitsMark : LockState J → (number : ℕ) → Mark → Type 0
  FitsMark g n Clear = Unit {0}
  FitsMark g n Seen = (e : Entry) × (g.fault ≡ Some e)
  FitsMark g n (Carries e) = (g.fault ≡ Some e) × (g.carrier ≡ n)

  -- A live pass. Its seen list begins the list behind the lock, and has all entries of its number. A marked pass
  -- without the turn has seen all.
  pub record Fits (first : List Entry) (g : LockState J) (j : ℕ) (v : View) : Type 0 where
    pub doing : FitsDoing g j v.doing
    pub seen : IsPrefix v.seen g.list
    pub from : IsPrefix first v.seen
    pub mine : of v.number g.list ≡ of v.number v.seen
    pub owned : g.owner v.number ≡ j
    pub alive : g.lives v.number ≡ true
    pub low : 0 < v.number
    pub high : v.number ≤ g.made
    pub head : v.number ≡ 1 → (v.made ≡ g.made) × (v.joined ≡ g.joined)
    pub tail : v.number ≢ 1 → v.joined ≡ []
    pub few : v.begun ≤ most_calls
    pub mark : FitsMark g v.number v.mark
    pub still : Marked v.mark → (HasTurn v.doing → ⊥) → v.seen ≡ g.list

  -- A pass that was joined.
  pub record FitsJoined (first : List Entry) (g : LockState J) (k : ℕ) (p : Joined) : Type 0 where
    pub seen : IsPrefix p.seen g.list
    pub from : IsPrefix first p.seen
    pub mine : of p.number g.list ≡ of p.number p.seen
    pub at : suc k + g.place p.number ≡ length g.joined
    pub dead : g.lives p.number ≡ false
    pub low : 1 < p.number
    pub high : p.number ≤ g.made
    pub few : p.begun ≤ most_calls
    pub mark : FitsMark g p.number p.mark
    pub still : Marked p.mark → p.seen ≡ g.list

  abbrev pub FitsView : List Entry → LockState J → (seat : ℕ) → View → Type 0
  FitsView first g j v = (v.live ≡ true → Fits first g j v) × (v.live ≡ false → v ≡ spent)

  -- A number is that of a live pass, or of one that was joined. It is of one alone: a live one's seat is its `owner`,
  -- a joined one's place on the list is its `place`, and `lives` keeps the two apart.
  abbrev pub IsNumber : LockState J → List View → ℕ → Type 0
  IsNumber g vs n = SomePass (λ (v : View). v.number ≡ n) vs ⊎ SomeJoined (λ (p : Joined). p.number ≡ n) g.joined

  -- The entry that may be on the disk is carried by a mark.
  abbrev pub Carried : LockState J → List View → Entry → Type 0
  Carried g vs e = SomePass (λ (v : View). v.mark ≡ Carries e) vs ⊎ SomeJoined (λ (p : Joined). p.mark ≡ Carries e) g.joined

module _ {J : Type 0} (entries : J → List Entry) (fault : J → Option Entry) (run : J → Type 0) where
  -- What lies in the slot when a ticket's turn comes: nothing before the first, else the journal of the list and the
  -- fault behind the lock, of which `run` is so.
  abbrev pub Lies : List Entry → (turn : ℕ) → List Entry → Option Entry → Option J → Type 0
  Lies first t l f None = (t ≡ 0) × (l ≡ first) × (f ≡ None)
  Lies first t l f (Some j) = (0 < t) × (entries j ≡ l) × (fault j ≡ f) × run j

  pub record Stands (first : List Entry) (g : LockState J) (s : State (Option J) View) : Type 0 where
    pub words : s.words ≡ g.drawn ∷ g.serving ∷ length g.list ∷ flag_of g.fault ∷ []
    pub homes : s.homes ≡ g.home ∷ []
    -- each ticket from serving to below drawn is held by a pass, and by one alone, its `holder`
    pub order : g.serving ≤ g.drawn
    pub waiting : g.serving + total tickets s.views ≡ g.drawn
    pub held : (t : ℕ) → g.serving ≤ t → t < g.drawn → SomePass (λ (v : View). ticket v.doing ≡ Some t) s.views
    -- the slot is out only while the pass that took it has its turn
    pub home : (o : Option J) → g.home ≡ some o → Lies first g.serving g.list g.fault o
    pub away : g.home ≡ none → SomePass (λ (v : View). HasTurn v.doing) s.views
    pub views : (j : ℕ) (v : View) → get_elem? s.views j ≡ some v → FitsView first g j v
    pub joined : (k : ℕ) (p : Joined) → get_elem? g.joined k ≡ some p → FitsJoined first g k p
    -- each number from 1 to `made` is of one pass, and no other number is there
    pub numbers : (n : ℕ) → 1 ≤ n → n ≤ g.made → IsNumber g s.views n
    pub begins : IsPrefix first g.list
    pub strangers : (n : ℕ) → (n ≡ 0) ⊎ (g.made < n) → of n g.list ≡ of n first
    -- where the journal is broken, a mark carries the entry that may be on the disk
    pub carried : (e : Entry) → g.fault ≡ Some e → Carried g s.views e
    -- each ticket was drawn for a call, and few passes began few calls each
    pub drawn : g.drawn ≤ total calls s.views + 1
    pub counted : total heads s.views ≡ g.made
    pub most : g.made ≤ 65

  abbrev pub Locked : List Entry → State (Option J) View → Type 0
  Locked first s = (g : LockState J) × Stands first g s
