-- Uploads that are applied in one turn.
use Rattle.std.proofs.Common.{◌≡◌, ℕ, ◌+◌, ◌<◌, ◌≤◌, true, List, [], ◌∷◌, ◌++◌, length, take, drop, get_or, Option, None, Some, Result, Ok, Err, refl, sym, ap, ◌∙◌, subst, arith}
use Rattle.std.proofs.lemmas.List.{take_more, take_all, append-nil, append_assoc, take-append-drop}
use Rattle.std.specs.Prelude.{All}
use Rattle.std.proofs.lemmas.List.Elements.{All-nil, All-push}
use mathlib.Core.List.{IsPrefix}
use Rattle.atomic_table.specs.Table.{Me}
use Rattle.lg_model.specs.Placing.{Shape}
use Rattle.lg_model.specs.Columns.{Column}
use Rattle.sketchlet_wire.specs.Uploads.{UploadData}
use Rattle.column_book.specs.declared.entry.Entry.{Entry}
use Rattle.column_book.specs.declared.fault.BookFault.{BookFault}
use Rattle.column_book.specs.Applying.{decide, stored_entry}
use Rattle.column_book.specs.Entries.{records}
use Rattle.book_journal.specs.declared.applied.Applied.{Applied}
use Rattle.book_journal.specs.declared.applied.Applied.TheVariants.{Stored, Known}
use Rattle.book_journal.specs.declared.applied.ApplyFault.{ApplyFault}
use Rattle.book_journal.specs.declared.applied.ApplyFault.TheVariants.{Broken, WrongShape, Conflict, Full, Memory, DiskFault}
use Rattle.book_journal.specs.Applying.{Answers}
use Rattle.book_journal.specs.Runs.{JournalState}
use Rattle.lock_rule.specs.declared.view.Doing.TheVariants.{Idle, Drew, Has}
use Rattle.lock_rule.specs.declared.view.View.{View}
use Rattle.lock_rule.specs.Views.{of, Marked}
use Rattle.lock_rule.specs.Rules.{Lies}
use Rattle.lock_rule.proofs.Fronts.{prefix_self}
use Rattle.shared_book.specs.Passes.{IsRight, Serves, ServesEach, Together, seen_after, mark_for}
use Rattle.shared_book.specs.Steps.{Taken, after_turn, list_by, resting}

no_fault : {e : Entry} → None ≡ Some e → ⊥
no_fault k = absurd (cc (k))

module _ {D : Type 0} where
  -- what a journal answers is right for its entries
  pub is_right : (shape : Shape) (room pass : ℕ) (u : UploadData) (old new : JournalState D) (answer : Result Applied ApplyFault) → old.shape ≡ shape
      → old.room ≡ room
      → Answers pass u old new answer → IsRight shape room pass u old.entries answer
  is_right shape room pass u old new answer s r a = by answer a
    where
      at : (x : Result (List Column) BookFault) → decide old.shape old.room (records old.entries) u ≡ x → decide shape room (records old.entries) u ≡ x
      at x e = (λ i. decide (sym s i) (sym r i) (records old.entries) u) ∙ e

      by : (x : Result Applied ApplyFault) → Answers pass u old new x → IsRight shape room pass u old.entries x
      by (Ok (Stored p)) k = (record { decides = at _ k.0.comes.decides; some = k.0.some }, k.1)
      by (Ok Known) k = at _ k.0.decides
      by (Err (Broken n)) k = k.1
      by (Err (WrongShape kept came)) k = at _ k.0.decides
      by (Err (Conflict key kept came)) k = at _ k.0.decides
      by (Err (Full held more)) k = at _ k.0.decides
      by (Err Memory) k = record { decides = at _ k.0.comes.decides; some = k.0.some }
      by (Err DiskFault) k = record { decides = at _ k.0.comes.decides; some = k.0.some }

  -- a broken one answers that it is
  pub is_broken : (pass : ℕ) (u : UploadData) (old new : JournalState D) (answer : Result Applied ApplyFault) (e : Entry) → old.fault ≡ Some e
      → Answers pass u old new answer → answer ≡ Err (Broken (length old.entries))
  is_broken pass u old new (Ok (Stored p)) e f a = absurd (no_fault (sym a.0.comes.whole ∙ f))
  is_broken pass u old new (Ok Known) e f a = absurd (no_fault (sym a.0.whole ∙ f))
  is_broken pass u old new (Err (Broken n)) e f a = ap (λ (m : ℕ). let x : Result Applied ApplyFault = Err (Broken m) in x) a.1
  is_broken pass u old new (Err (WrongShape kept came)) e f a = absurd (no_fault (sym a.0.whole ∙ f))
  is_broken pass u old new (Err (Conflict key kept came)) e f a = absurd (no_fault (sym a.0.whole ∙ f))
  is_broken pass u old new (Err (Full held more)) e f a = absurd (no_fault (sym a.0.whole ∙ f))
  is_broken pass u old new (Err Memory) e f a = absurd (no_fault (sym a.0.comes.whole ∙ f))
  is_broken pass u old new (Err DiskFault) e f a = absurd (no_fault (sym a.0.comes.whole ∙ f))

  -- a later upload of a turn: the pass would have seen all that is behind the lock, if it passed the turn on
  pub serves_next : (shape : Shape) (room : ℕ) (u : UploadData) (x y : View) (old new : JournalState D) (answer : Result Applied ApplyFault) (t : ℕ)
      → x.doing ≡ Has t old.entries old.fault → old.shape ≡ shape → old.room ≡ room → (Marked x.mark → ⊥) → Answers x.number u old new answer
      → y ≡ after_turn u (record x { begun = x.begun + 1 }) answer → Serves shape room u (resting x old.entries x.mark) y answer
  serves_next shape room u x y old new answer t turn s r clear a is = record {
    list = old.entries;
    begins = prefix_self old.entries;
    mine = refl;
    after = is ∙ (let here : list_by x.doing ≡ old.entries = ap list_by turn in
        ap (λ (l : List Entry). resting (record x { begun = x.begun + 1 }) (seen_after x.number u l answer) (mark_for x.number u l x.mark answer)) here);
    right = is_right shape room x.number u old new answer s r a;
    marked = λ k. absurd (clear k);
  }

  -- the first upload of a turn
  pub serves_first : (shape : Shape) (room : ℕ) (u : UploadData) (v w : View) (run : JournalState D → Type 0) (t : ℕ)
      (m m' : Me (Option (JournalState D)) View) (slot : Option (JournalState D)) (old new : JournalState D) (answer : Result Applied ApplyFault)
      → m.0 ≡ record v { doing = Drew t; begun = v.begun + 1 } → v.doing ≡ Idle → Taken run t m m' slot → slot ≡ Some old
      → old.shape ≡ shape → old.room ≡ room → Answers v.number u old new answer → w ≡ after_turn u m'.0 answer → Serves shape room u v w answer
  serves_first shape room u v w run t m m' slot old new answer drew idle taken is s r a after =
      let l = subst (λ (o : Option (JournalState D)). Lies (λ (x : JournalState D). x.entries) (λ (x : JournalState D). x.fault) run m.0.seen t taken.list
      taken.found o) is taken.lies in
      let list : List Entry = taken.list in
      let view : m'.0 ≡ record v { doing = Has t list taken.found; begun = v.begun + 1 } = taken.view
      ∙ ap (λ (x : View). record x { doing = Has t list taken.found }) drew in
      let seen : m.0.seen ≡ v.seen = ap (λ (x : View). x.seen) drew in record {
        list = list;
        begins = subst (λ (es : List Entry). IsPrefix es list) seen taken.seen;
        mine = subst (λ (x : View). of x.number list ≡ of x.number x.seen) drew taken.mine;
        after = after ∙ (ap (λ (x : View). after_turn u x answer) view
            ∙ (λ i. record v {
              doing = sym idle i;
              seen = seen_after v.number u list answer;
              begun = v.begun + 1;
              mark = mark_for v.number u list v.mark
                  answer;
            }));
        right = subst (λ (es : List Entry). IsRight shape room v.number u es answer) l.1 (is_right shape room v.number u old new answer s r a);
        marked = λ k.
            let b = taken.marked (subst Marked (sym (ap (λ (x : View). x.mark) drew)) k) in (
              b.0 ∙ seen,
              is_broken v.number u old new answer b.1.0 (l.2 ∙ b.1.1) a
                  ∙ ap (λ (es : List Entry). let x : Result Applied ApplyFault = Err (Broken (length es)) in x) (l.1 ∙ (b.0 ∙ seen)),
            );
      }

-- a pass that was not refused has no mark
pub is_clear : (shape : Shape) (room : ℕ) (u : UploadData) (v w : View) (a : Applied) → Serves shape room u v w (Ok a) → Marked w.mark → ⊥
is_clear shape room u v w a s k =
    let was : Marked v.mark = subst Marked (ap (λ (x : View). x.mark) s.after) k in
    let wrong = (s.marked was).1 in
    absurd (cc wrong)

-- ---- one after the other

-- None of the answers is a refusal.
abbrev pub AllTaken : List (Result Applied ApplyFault) → Type 0
AllTaken [] = Unit {0}
AllTaken (Ok a ∷ ds) = AllTaken ds
AllTaken (Err fault ∷ ds) = ⊥

abbrev pub IsTaken : Result Applied ApplyFault → Type 0
IsTaken (Ok a) = Unit {0}
IsTaken (Err fault) = ⊥

pub taken_more : (ds : List (Result Applied ApplyFault)) (a : Result Applied ApplyFault) → AllTaken ds → IsTaken a → AllTaken (ds ++ a ∷ [])
taken_more [] (Ok b) all one = tt
taken_more [] (Err e) all one = one
taken_more (Ok b ∷ ds) a all one = taken_more ds a all one
taken_more (Err e ∷ ds) a all one = all

pub serves_both : (shape : Shape) (room : ℕ) (us more : List UploadData) (v w x : View) (ds bs : List (Result Applied ApplyFault)) → AllTaken ds
    → ServesEach shape room us v w ds → ServesEach shape room more w x bs → ServesEach shape room (us ++ more) v x (ds ++ bs)
serves_both shape room [] more v w x [] bs all s t = subst (λ (y : View). ServesEach shape room more y x bs) s t
serves_both shape room [] more v w x (a ∷ ds) bs all s t = absurd s
serves_both shape room (u ∷ us) more v w x [] bs all s t = absurd s
serves_both shape room (u ∷ us) more v w x (Ok a ∷ ds) bs all s t = (s.0, s.1, serves_both shape room us more s.0 w x ds bs all s.2 t)
serves_both shape room (u ∷ us) more v w x (Err e ∷ ds) bs all s t = absurd all

-- one upload, whatever stands after it where it is refused
pub serves_one : (shape : Shape) (room : ℕ) (u : UploadData) (v w : View) (a : Result Applied ApplyFault) → Serves shape room u v w a
    → ServesEach shape room (u ∷ []) v w (a ∷ [])
serves_one shape room u v w (Ok a) s = (w, s, refl)
serves_one shape room u v w (Err e) s = (s, refl)

pub serves_last : (shape : Shape) (room : ℕ) (u : UploadData) (us : List UploadData) (v w : View) (a : Result Applied ApplyFault) → (IsTaken a → ⊥)
    → Serves shape room u v w a → ServesEach shape room (u ∷ us) v w (a ∷ [])
serves_last shape room u us v w (Ok a) refused s = absurd (refused tt)
serves_last shape room u us v w (Err e) refused s = (s, refl)

-- what the calls leave of a pass
pub record Stays (v w : View) (ds : List (Result Applied ApplyFault)) : Type 0 where
  pub live : w.live ≡ v.live
  pub doing : w.doing ≡ v.doing
  pub number : w.number ≡ v.number
  pub made : w.made ≡ v.made
  pub joined : w.joined ≡ v.joined
  pub begun : w.begun ≡ v.begun + length ds

stays_one : (shape : Shape) (room : ℕ) (u : UploadData) (v w : View) (a : Result Applied ApplyFault) → Serves shape room u v w a → Stays v w (a ∷ [])
stays_one shape room u v w a s = record {
  live = ap (λ (x : View). x.live) s.after;
  doing = ap (λ (x : View). x.doing) s.after;
  number = ap (λ (x : View). x.number) s.after;
  made = ap (λ (x : View). x.made) s.after;
  joined = ap (λ (x : View). x.joined) s.after;
  begun = ap (λ (x : View). x.begun) s.after;
}

pub stays : (shape : Shape) (room : ℕ) (us : List UploadData) (v w : View) (ds : List (Result Applied ApplyFault)) → ServesEach shape room us v w ds
    → Stays v w ds
stays shape room [] v w [] s = record {
  live = ap (λ (x : View). x.live) s;
  doing = ap (λ (x : View). x.doing) s;
  number = ap (λ (x : View). x.number) s;
  made = ap (λ (x : View). x.made) s;
  joined = ap (λ (x : View). x.joined) s;
  begun = (let e : w.begun ≡ v.begun = ap (λ (x : View). x.begun) s in omega arith);
}
stays shape room [] v w (a ∷ ds) s = absurd s
stays shape room (u ∷ us) v w [] s = absurd s
stays shape room (u ∷ us) v w (Ok a ∷ ds) s =
    let one = stays_one shape room u v s.0 (Ok a) s.1 in
    let more = stays shape room us s.0 w ds s.2 in
    record {
      live = more.live ∙ one.live;
      doing = more.doing ∙ one.doing;
      number = more.number ∙ one.number;
      made = more.made ∙ one.made;
      joined = more.joined ∙ one.joined;
      begun = (let a = one.begun in let b = more.begun in omega arith);
    }
stays shape room (u ∷ us) v w (Err e ∷ ds) s = subst (λ (bs : List (Result Applied ApplyFault)). Stays v w (Err e ∷ bs)) (sym s.1)
    (stays_one shape room u v w (Err e) s.0)

pub few : (shape : Shape) (room : ℕ) (us : List UploadData) (v w : View) (ds : List (Result Applied ApplyFault)) → ServesEach shape room us v w ds
    → length ds ≤ length us
few shape room [] v w [] s = omega arith
few shape room [] v w (a ∷ ds) s = absurd s
few shape room (u ∷ us) v w [] s = absurd s
few shape room (u ∷ us) v w (Ok a ∷ ds) s = let more = few shape room us s.0 w ds s.2 in omega arith
few shape room (u ∷ us) v w (Err e ∷ ds) s = subst (λ (bs : List (Result Applied ApplyFault)). let x : List
    (Result Applied ApplyFault) = Err e ∷ bs in length x ≤ length (u ∷ us)) (sym s.1) (omega arith)

-- ---- the turn

pub together_first : (shape : Shape) (room : ℕ) (u : UploadData) (v w : View) (a : Result Applied ApplyFault) → Serves shape room u v w a → Together v w
together_first shape room u v w a s = by a (ap (λ (x : View). x.seen) s.after)
  where
    nothing : w.seen ≡ s.list → Together v w
    nothing e = record {
      list = s.list;
      begins = s.begins;
      mine = s.mine;
      more = [];
      after = e ∙ sym (append-nil s.list);
      own = All-nil (λ (x : Entry). x.pass ≡ v.number);
    }

    by : (b : Result Applied ApplyFault) → w.seen ≡ seen_after v.number u s.list b → Together v w
    by (Ok (Stored p)) e = record {
      list = s.list;
      begins = s.begins;
      mine = s.mine;
      more = stored_entry v.number s.list u ∷ [];
      after = e;
      own = All-push (λ (x : Entry). x.pass ≡ v.number) [] (stored_entry v.number s.list u) (All-nil (λ (x : Entry). x.pass ≡ v.number)) refl;
    }
    by (Ok Known) e = nothing e
    by (Err fault) e = nothing e

together_next : (u : UploadData) (v x y : View) (a : Result Applied ApplyFault) → Together v x → y.seen ≡ seen_after v.number u x.seen a → Together v y
together_next u v x y (Ok (Stored p)) t e = record {
  list = t.list;
  begins = t.begins;
  mine = t.mine;
  more = t.more ++ stored_entry v.number x.seen u ∷ [];
  after = e ∙ (ap (λ (l : List Entry). l ++ stored_entry v.number x.seen u ∷ []) t.after ∙ append_assoc t.list t.more (stored_entry v.number x.seen u ∷ []));
  own = All-push (λ (z : Entry). z.pass ≡ v.number) t.more (stored_entry v.number x.seen u) t.own refl;
}
together_next u v x y (Ok Known) t e = record { list = t.list; begins = t.begins; mine = t.mine; more = t.more; after = e ∙ t.after; own = t.own }
together_next u v x y (Err fault) t e = record { list = t.list; begins = t.begins; mine = t.mine; more = t.more; after = e ∙ t.after; own = t.own }

pub together_none : (v w : View) → w ≡ v → Together v w
together_none v w e = record {
  list = v.seen;
  begins = prefix_self v.seen;
  mine = refl;
  more = [];
  after = ap (λ (x : View). x.seen) e ∙ sym (append-nil v.seen);
  own = All-nil (λ (x : Entry). x.pass ≡ v.number);
}

-- where the list is cut before an upload
upto : (us : List UploadData) (n : ℕ) (u : UploadData) → n < length us → u ≡ get_or us n u → take (n + 1) us ≡ take n us ++ u ∷ []
upto us n u short is = take_more us n u short ∙ ap (λ (x : UploadData). take n us ++ x ∷ []) (sym is)

whole : (us : List UploadData) (n : ℕ) (u : UploadData) → n < length us → u ≡ get_or us n u → (take n us ++ u ∷ []) ++ drop (n + 1) us ≡ us
whole us n u short is = ap (λ (l : List UploadData). l ++ drop (n + 1) us) (sym (upto us n u short is)) ∙ take-append-drop (n + 1) us

clear_if : (shape : Shape) (room : ℕ) (u : UploadData) (x y : View) (answer : Result Applied ApplyFault) → Serves shape room u x y answer → IsTaken answer
    → Marked y.mark → ⊥
clear_if shape room u x y (Ok a) s one = is_clear shape room u x y a s
clear_if shape room u x y (Err e) s one = absurd one

module _ {D : Type 0} (shape : Shape) (room : ℕ) (us : List UploadData) (v : View) where
  -- The pass that began the turn ds v has applied the first n uploads, the last with that answer, and has the journal.
  pub record InTurn (n : ℕ) (m : Me (Option (JournalState D)) View) (j : JournalState D) (answers : List (Result Applied ApplyFault))
      (answer : Result Applied ApplyFault) : Type 0 where
    pub inside : n ≤ length us
    pub count : m.0.begun ≡ v.begun + n
    pub number : m.0.number ≡ v.number
    pub live : m.0.live ≡ true
    pub turn : (t : ℕ) × (m.0.doing ≡ Has t j.entries j.fault)
    pub hand : m.1 ≡ (0, None) ∷ []
    pub going : IsTaken answer
        → AllTaken answers × ServesEach shape room (take n us) v (resting m.0 j.entries m.0.mark) answers × (Marked m.0.mark → ⊥)
    pub over : (IsTaken answer → ⊥) → ServesEach shape room us v (resting m.0 j.entries m.0.mark) answers
    pub together : Together v (resting m.0 j.entries m.0.mark)

  -- one upload more
  goes_further : (n : ℕ) (u : UploadData) (x : View) (m : Me (Option (JournalState D)) View) (j : JournalState D) (ds : List (Result Applied ApplyFault))
      (answer : Result Applied ApplyFault) → n < length us → u ≡ get_or us n u → AllTaken ds → ServesEach shape room (take n us) v x ds
      → Serves shape room u x (resting m.0 j.entries m.0.mark) answer → Together v (resting m.0 j.entries m.0.mark) → m.0.begun ≡ v.begun + (n + 1)
      → m.0.number ≡ v.number → m.0.live ≡ true
      → (t : ℕ) × (m.0.doing ≡ Has t j.entries j.fault) → m.1 ≡ (0, None) ∷ [] → InTurn (n + 1) m j (ds ++ answer ∷ []) answer
  goes_further n u x m j ds answer short is all each s together count number live turn hand = record {
    inside = omega arith;
    count = count;
    number = number;
    live = live;
    turn = turn;
    hand = hand;
    going = λ one. (
      taken_more ds answer all one,
      subst (λ (l : List UploadData). ServesEach shape room l v y (ds ++ answer ∷ [])) (sym (upto us n u short is))
          (serves_both shape room (take n us) (u ∷ []) v x y ds (answer ∷ []) all each (serves_one shape room u x y answer s)),
      clear_if shape room u x y answer s one,
    );
    over = λ refused. subst (λ (l : List UploadData). ServesEach shape room l v y (ds ++ answer ∷ []))
        (sym (append_assoc (take n us) (u ∷ []) (drop (n + 1) us)) ∙ whole us n u short is)
        (serves_both shape room (take n us) (u ∷ drop (n + 1) us) v x y ds (answer ∷ []) all each
        (serves_last shape room u (drop (n + 1) us) x y answer refused s));
    together = together;
  }
    where
      y : View
      y = resting m.0 j.entries m.0.mark

  -- the first upload
  pub goes_first : (u : UploadData) (m : Me (Option (JournalState D)) View) (j : JournalState D) (answer : Result Applied ApplyFault) → 0 < length us
      → u ≡ get_or us 0 u → Serves shape room u v (resting m.0 j.entries m.0.mark) answer → m.0.begun ≡ v.begun + 1 → m.0.number ≡ v.number → m.0.live ≡ true
      → (t : ℕ) × (m.0.doing ≡ Has t j.entries j.fault) → m.1 ≡ (0, None) ∷ [] → InTurn 1 m j (answer ∷ []) answer
  goes_first u m j answer short is s count number live turn hand =
      goes_further 0 u v m j [] answer short is tt refl s (together_first shape room u v (resting m.0 j.entries m.0.mark) answer s) count number live turn hand

  -- a later one, after a call more was begun
  pub goes_on_with : (n : ℕ) (u : UploadData) (m m' : Me (Option (JournalState D)) View) (j j' : JournalState D) (ds : List (Result Applied ApplyFault))
      (a answer : Result Applied ApplyFault) → InTurn n m j ds a → IsTaken a → n < length us → u ≡ get_or us n u → j.shape ≡ shape → j.room ≡ room
      → Answers m.0.number u j j' answer → resting m'.0 j'.entries m'.0.mark ≡ after_turn u (record m.0 { begun = m.0.begun + 1 }) answer
      → (t : ℕ) × (m'.0.doing ≡ Has t j'.entries j'.fault) → m'.1 ≡ (0, None) ∷ [] → InTurn (n + 1) m' j' (ds ++ answer ∷ []) answer
  goes_on_with n u m m' j j' ds a answer k one short is s r did rests turn hand =
      let going = k.going one in
      let x : View = resting m.0 j.entries m.0.mark in
      let y : View = resting m'.0 j'.entries m'.0.mark in
      let same : (seen_after m.0.number u (list_by m.0.doing) answer) ≡ seen_after v.number u j.entries answer
      = (λ i. seen_after (k.number i) u (ap list_by k.turn.1 i) answer) in
      let begun : m'.0.begun ≡ m.0.begun + 1 = ap (λ (z : View). z.begun) rests in
      let before = k.count in
      goes_further n u x m' j' ds answer short is going.0 going.1
      (serves_next shape room u m.0 y j j' answer k.turn.0 k.turn.1 s r going.2 did rests)
      (together_next u v x y answer k.together (ap (λ (z : View). z.seen) rests ∙ same))
      (omega arith) (ap (λ (z : View). z.number) rests ∙ k.number) (ap (λ (z : View). z.live) rests ∙ k.live) turn hand

  -- the end of the turn
  pub ends_turn : (n : ℕ) (m : Me (Option (JournalState D)) View) (j : JournalState D) (ds : List (Result Applied ApplyFault))
      (answer : Result Applied ApplyFault)
      → InTurn n m j ds answer → (IsTaken answer → length us ≤ n) → ServesEach shape room us v (resting m.0 j.entries m.0.mark) ds
  ends_turn n m j ds (Ok a) k last =
      subst (λ (l : List UploadData). ServesEach shape room l v (resting m.0 j.entries m.0.mark) ds) (take_all n us (last tt)) (k.going tt).1
  ends_turn n m j ds (Err e) k last = k.over (λ x. x)
