-- What the steps at the lock need of a journal that goes on.
use Rattle.std.proofs.Common.{◌≡◌, ℕ, ◌≤◌, List, [], ◌∷◌, Option, None, Some, Result, Ok, Err, refl, sym, ap, ◌∙◌, subst, arith, inl, inr, ⊎_elim, ◌⊎◌, true, le_trans}
use mathlib.Core.Option.{none}
use Rattle.atomic_table.specs.Table.{Me, Allows, step}
use Rattle.lg_base.specs.Causes.{Rose, one_more}
use Rattle.sketchlet_wire.specs.Uploads.{UploadData}
use Rattle.std.specs.Prelude.{IsSome}
use Rattle.column_book.specs.declared.entry.Entry.{Entry}
use Rattle.column_book.specs.Applying.{stored_entry}
use Rattle.book_journal.specs.declared.applied.Applied.{Applied}
use Rattle.book_journal.specs.declared.applied.Applied.TheVariants.{Stored, Known}
use Rattle.book_journal.specs.declared.applied.ApplyFault.{ApplyFault}
use Rattle.book_journal.specs.declared.applied.ApplyFault.TheVariants.{Broken, WrongShape, Conflict, Full, Memory, DiskFault}
use Rattle.book_journal.specs.Applying.{Answers}
use Rattle.book_journal.specs.Runs.{JournalState, Start, IsRun, start_of}
use Rattle.lock_rule.specs.declared.view.Doing.TheVariants.{Drew, Has}
use Rattle.lock_rule.specs.declared.view.View.{View}
use Rattle.lock_rule.specs.Plays.{looked}
use Rattle.lock_rule.specs.Rules.{Lies, Locked}
use Rattle.lock_rule.proofs.Turning.{looks}
use Rattle.shared_book.specs.Going.{GoesOn, GoesFrom}
use Rattle.shared_book.specs.Steps.{Taken}

no_fault : {e : Entry} → None ≡ Some e → ⊥
no_fault k = absurd (cc (k))

module _ {D : Type 0} (honest : D → Type 0) (seen : D → List ℕ) (images : D → List ℕ → Type 0) (moment : D → ℕ)
    (since : D → ℕ → List ℕ → Type 0) (faults : D → ℕ) where
  abbrev pub Goes : JournalState D → JournalState D → Type 0
  Goes from now = GoesOn honest seen images moment since faults from now

  -- a look, where the play is told what the journal goes on from
  pub looks_from : (key : JournalState D) (start : Option (JournalState D)) (slots id : ℕ) (me : Me (Option (JournalState D)) View) (t : ℕ) → start ≡ Some key
      → me.0.live ≡ true → me.0.doing ≡ Drew t
      → Allows (Locked (λ (j : JournalState D). j.entries) (λ (j : JournalState D). j.fault) (Goes key) key.entries) slots id me 1 (λ n. n)
      (looked (λ (j : JournalState D). j.entries) (λ (j : JournalState D). j.fault) (GoesFrom honest seen images moment since faults start)
      (step slots 1 0 0 none) me)
  looks_from key start slots id me t is alive drew =
      subst (λ (o : Option (JournalState D)). Allows (Locked (λ (j : JournalState D). j.entries) (λ (j : JournalState D). j.fault) (Goes key) key.entries)
      slots id me 1 (λ n. n)
      (looked (λ (j : JournalState D). j.entries) (λ (j : JournalState D). j.fault) (GoesFrom honest seen images moment since faults o)
      (step slots 1 0 0 none) me)) (sym is)
      (looks (λ (j : JournalState D). j.entries) (λ (j : JournalState D). j.fault) (Goes key) key.entries slots id me t alive drew)

  -- what an answer leaves of the shape, the room and the fault
  pub record Left (old new : JournalState D) (result : Result Applied ApplyFault) : Type 0 where
    pub shape : new.shape ≡ old.shape
    pub room : new.room ≡ old.room
    pub fault : (e : Entry) → new.fault ≡ Some e → (old.fault ≡ Some e) ⊎ (result ≡ Err DiskFault)

  same : (old new : JournalState D) (result : Result Applied ApplyFault) → new ≡ old → Left old new result
  same old new result e = record {
    shape = ap (λ (j : JournalState D). j.shape) e;
    room = ap (λ (j : JournalState D). j.room) e;
    fault = λ d k. inl (sym (ap (λ (j : JournalState D). j.fault) e) ∙ k);
  }

  pub leaves : (pass : ℕ) (u : UploadData) (old new : JournalState D) (result : Result Applied ApplyFault) → Answers pass u old new result → Left old new result
  leaves pass u old new (Ok (Stored p)) a = record {
    shape = ap (λ (j : JournalState D). j.shape) a.2;
    room = ap (λ (j : JournalState D). j.room) a.2;
    fault = λ d k. inl (sym (ap (λ (j : JournalState D). j.fault) a.2) ∙ k);
  }
  leaves pass u old new (Ok Known) a = same old new (Ok Known) a.1
  leaves pass u old new (Err (Broken n)) a = same old new (Err (Broken n)) a.2
  leaves pass u old new (Err (WrongShape kept came)) a = same old new (Err (WrongShape kept came)) a.1
  leaves pass u old new (Err (Conflict key kept came)) a = same old new (Err (Conflict key kept came)) a.1
  leaves pass u old new (Err (Full held more)) a = same old new (Err (Full held more)) a.1
  leaves pass u old new (Err Memory) a = same old new (Err Memory) a.1
  leaves pass u old new (Err DiskFault) a = record {
    shape = ap (λ (j : JournalState D). j.shape) a.1;
    room = ap (λ (j : JournalState D). j.room) a.1;
    fault = λ d k. inr refl;
  }

  -- an apply keeps it
  pub goes_on : (pass : ℕ) (u : UploadData) (from old new : JournalState D) (result : Result Applied ApplyFault) → Goes from old → Answers pass u old new result
      → (honest old.disk → honest new.disk) → (honest new.disk → honest old.disk) → faults old.disk ≤ faults new.disk
      → (result ≡ Err DiskFault → Rose (faults old.disk) (faults new.disk))
      → ((s : Start D) → IsRun honest seen images moment since s old → IsRun honest seen images moment since s new)
      → Goes from new
  goes_on pass u from old new result f a still was later cause runs = let l = leaves pass u old new result a in let low = f.later in record {
    shape = l.shape ∙ f.shape;
    room = l.room ∙ f.room;
    still = λ h. still (f.still h);
    was = λ h. f.was (was h);
    later = omega arith;
    rose = λ e k. ⊎_elim (λ (q : old.fault ≡ Some e). let z : Rose (faults from.disk) (faults old.disk) = f.rose e q in le_trans z later)
        (λ (q : result ≡ Err DiskFault). let z : Rose (faults old.disk) (faults new.disk) = cause q in le_trans
        (rises (faults from.disk) (faults old.disk) low) z) (l.fault e k);
    runs = λ h. runs (start_of seen moment from) (f.runs h);
  }
    where
      rises : (m n : ℕ) → m ≤ n → one_more m ≤ one_more n
      rises m n h = omega arith

  -- the journal that was taken out
  pub taken_here : (key : JournalState D) (t : ℕ) (m m' : Me (Option (JournalState D)) View) (slot : Option (JournalState D)) (j : JournalState D)
      → Taken (Goes key) t m m' slot → slot ≡ Some j → (m'.0.doing ≡ Has t j.entries j.fault) × Goes key j
  taken_here key t m m' slot j k is =
      let l = subst (λ (o : Option (JournalState D)). Lies (λ (x : JournalState D). x.entries) (λ (x : JournalState D). x.fault)
      (Goes key) m.0.seen t k.list k.found o) is k.lies in
      (ap (λ (v : View). v.doing) k.view ∙ (λ i. Has t (sym l.1 i) (sym l.2 i)), l.3)

-- what lies in a slot that is held
abbrev slot_of : {J : Type 0} → J → List (ℕ × Option J) → J
slot_of d [] = d
slot_of d ((n, None) ∷ slots) = d
slot_of d ((n, Some a) ∷ slots) = a

pub same_slot : {J : Type 0} (a b : J) (slots : List (ℕ × Option J)) → slots ≡ (0, Some a) ∷ [] → slots ≡ (0, Some b) ∷ [] → a ≡ b
same_slot a b slots one other = ap (slot_of a) (sym one ∙ other)

-- ---- a call that met a fault, or found the journal broken

pub record Breaks {D : Type 0} (old new : JournalState D) : Type 0 where
  pub entries : new.entries ≡ old.entries
  pub entry : Entry
  pub fault : new.fault ≡ Some entry
  pub before : (old.fault ≡ None) ⊎ (old.fault ≡ Some entry)

pub breaks : {D : Type 0} (pass : ℕ) (u : UploadData) (old new : JournalState D) (answer : Result Applied ApplyFault) → answer ≡ Err DiskFault
    → Answers pass u old new answer → Breaks old new
breaks {D = D} pass u old new answer is a =
    let k = subst (Answers pass u old new) is a in
    record {
      entries = ap (λ (j : JournalState D). j.entries) k.1;
      entry = stored_entry pass old.entries u;
      fault = ap (λ (j : JournalState D). j.fault) k.1;
      before = inl k.0.comes.whole;
    }

pub was_broken : {D : Type 0} (pass n : ℕ) (u : UploadData) (old new : JournalState D) (answer : Result Applied ApplyFault) → answer ≡ Err (Broken n)
    → Answers pass u old new answer → Breaks old new
was_broken {D = D} pass n u old new answer is a =
    let k = subst (Answers pass u old new) is a in
    let some = there old.fault k.0 in
    record {
      entries = ap (λ (j : JournalState D). j.entries) k.2;
      entry = some.0;
      fault = ap (λ (j : JournalState D). j.fault) k.2 ∙ some.1;
      before = inr some.1;
    }
  where
    there : (o : Option Entry) → IsSome o → (e : Entry) × (o ≡ Some e)
    there None s = absurd (cc s)
    there (Some e) s = (e, refl)
