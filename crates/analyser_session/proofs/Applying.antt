-- What an apply of a pass comes to, told by what the book decides.
use Rattle.std.specs.Prelude.{◌≡◌, ℕ, ◌≤◌, ◌⊎◌, true, false, List, [], ◌∷◌, ◌++◌, length, Result, Ok, Err}
use Rattle.std.proofs.Common.{refl, sym, ap, subst, ◌∙◌, arith, inl, inr, append-nil}
use mathlib.Core.List.{IsPrefix}
use Rattle.lg_base.specs.declared.faults.Memory.{Memory}
use Rattle.lg_model.specs.Placing.{Shape}
use Rattle.lg_model.specs.Columns.{Column}
use Rattle.sketchlet_wire.specs.Uploads.{UploadData}
use Rattle.upload_frame.specs.declared.reply.Reply.{Reply}
use Rattle.upload_frame.specs.declared.reply.RefusedWhy.TheVariants as why
use Rattle.column_book.specs.declared.entry.Entry.{Entry}
use Rattle.column_book.specs.declared.fault.BookFault.{BookFault}
use Rattle.column_book.specs.Applying.{after, after_decision, decide, entry_with, stored_entry}
use Rattle.column_book.specs.Entries.{records}
use Rattle.book_journal.specs.declared.applied.Applied.{Applied}
use Rattle.book_journal.specs.declared.applied.Applied.TheVariants.{Stored, Known}
use Rattle.book_journal.specs.declared.applied.ApplyFault.{ApplyFault}
use Rattle.book_journal.specs.declared.applied.ApplyFault.TheVariants as apply
use Rattle.lock_rule.specs.declared.view.Mark.{Mark}
use Rattle.lock_rule.specs.declared.view.Mark.TheVariants.{Clear, Seen, Carries}
use Rattle.lock_rule.specs.declared.view.View.{View}
use Rattle.lock_rule.specs.Plays.{set_mark}
use Rattle.lock_rule.specs.Views.{Marked, of}
use Rattle.shared_book.specs.Answering.{AnswersUpload, replied}
use Rattle.shared_book.specs.Passes.{IsRight, Serves, mark_for, seen_after}
use Rattle.shared_book.specs.Replying.{acknowledgement, refusal, reply_for, reply_to}

abbrev Decision : Type 0
Decision = Result (List Column) BookFault

-- The upload was decided on that list, or it marked the pass, with the entry that it would have become or with none.
pub record IsRuled (shape : Shape) (room : ℕ) (list : List Entry) (v m : View) (u : UploadData) (r : Reply) : Type 0 where
  pub clear : m.mark ≡ Clear
  pub reply : r ≡ reply_to u (decide shape room (records list) u)
  pub seen : m.seen ≡ after shape room list v.number u

pub record IsShut (shape : Shape) (room : ℕ) (list : List Entry) (v m : View) (u : UploadData) (r : Reply) : Type 0 where
  pub mark : Marked m.mark
  pub reply : r ≡ refusal u why.Closed
  pub seen : m.seen ≡ list
  pub carries : (e : Entry) → m.mark ≡ Carries e → after shape room list v.number u ≡ list ++ e ∷ []

abbrev pub IsCase : Shape → (room : ℕ) → (list : List Entry) → (v m : View) → UploadData → Reply → Type 0
IsCase shape room list v m u r = IsRuled shape room list v m u r ⊎ IsShut shape room list v m u r

abbrev gives : Reply → Result Reply Memory
gives r = Ok r

pub same_reply : (r q : Reply) → gives r ≡ gives q → r ≡ q
same_reply r q e = cc

-- where there are new columns
new_reply : (u : UploadData) (cs : List Column) (d : Decision) → d ≡ Ok cs → 1 ≤ length cs → reply_to u d ≡ acknowledgement u false
new_reply u [] d e some = absurd (omega arith)
new_reply u (c ∷ cs) d e some = ap (reply_to u) e

new_list : (n : ℕ) (es : List Entry) (u : UploadData) (cs : List Column) (d : Decision) → d ≡ Ok cs → 1 ≤ length cs
    → after_decision es n u d ≡ es ++ entry_with n u cs ∷ []
new_list n es u [] d e some = absurd (omega arith)
new_list n es u (c ∷ cs) d e some = ap (after_decision es n u) e

-- It adds one entry at most, at the end.
after_by : (n : ℕ) (es : List Entry) (u : UploadData) (d : Decision)
    → (after_decision es n u d ≡ es) ⊎ ((x : Entry) × (after_decision es n u d ≡ es ++ x ∷ []))
after_by n es u (Ok []) = inl refl
after_by n es u (Ok (c ∷ cs)) = inr (entry_with n u (c ∷ cs), refl)
after_by n es u (Err fault) = inl refl

pub after_one : (shape : Shape) (room : ℕ) (es : List Entry) (n : ℕ) (u : UploadData)
    → (after shape room es n u ≡ es) ⊎ ((x : Entry) × (after shape room es n u ≡ es ++ x ∷ []))
after_one shape room es n u = after_by n es u (decide shape room (records es) u)

pub after_more : (shape : Shape) (room : ℕ) (es : List Entry) (n : ℕ) (u : UploadData) → IsPrefix es (after shape room es n u)
after_more shape room es n u = by (after_one shape room es n u)
  where
    by : (after shape room es n u ≡ es) ⊎ ((x : Entry) × (after shape room es n u ≡ es ++ x ∷ [])) → IsPrefix es (after shape room es n u)
    by (inl same) = ([], append-nil es ∙ sym same)
    by (inr one) = (one.0 ∷ [], sym one.1)

-- The pass after it, by what it had and the answer.
pub record IsAfter (v m : View) (u : UploadData) (list : List Entry) (answer : Result Applied ApplyFault) : Type 0 where
  pub seen : m.seen ≡ seen_after v.number u list answer
  pub mark : m.mark ≡ mark_for v.number u list v.mark answer

pub after_of : (shape : Shape) (room : ℕ) (u : UploadData) (v m : View) (answer : Result Applied ApplyFault) (s : Serves shape room u v m answer)
    → IsAfter v m u s.list answer
after_of shape room u v m answer s = record {
  seen = ap (λ (x : View). x.seen) s.after;
  mark = ap (λ (x : View). x.mark) s.after;
}

module _ (shape : Shape) (room : ℕ) (u : UploadData) (v m : View) (list : List Entry) (r : Reply) (clear : v.mark ≡ Clear) where
  abbrev decision : Decision
  decision = decide shape room (records list) u

  ruled : (answer : Result Applied ApplyFault) → IsAfter v m u list answer → m.mark ≡ v.mark → r ≡ reply_to u decision
      → seen_after v.number u list answer ≡ after shape room list v.number u → IsCase shape room list v m u r
  ruled answer a mark reply seen = inl (record { clear = mark ∙ clear; reply = reply; seen = a.seen ∙ seen })

  refused : (fault : BookFault) → decision ≡ Err fault → m.mark ≡ v.mark → m.seen ≡ list → r ≡ reply_to u (Err fault) → IsCase shape room list v m u r
  refused fault d mark seen reply = inl (record {
    clear = mark ∙ clear;
    reply = reply ∙ ap (reply_to u) (sym d);
    seen = seen ∙ sym (ap (after_decision list v.number u) d);
  })

  pub by_answer : (answer : Result Applied ApplyFault) → IsAfter v m u list answer → IsRight shape room v.number u list answer
      → gives r ≡ replied (reply_for u answer) → IsCase shape room list v m u r
  by_answer (Ok (Stored p)) a right e =
      let cs = (stored_entry v.number list u).stored.columns in
      ruled (Ok (Stored p)) a a.mark (same_reply r (acknowledgement u false) e ∙ sym (new_reply u cs decision right.0.decides right.0.some))
      (sym (new_list v.number list u cs decision right.0.decides right.0.some))
  by_answer (Ok Known) a right e =
      ruled (Ok Known) a a.mark (same_reply r (acknowledgement u true) e ∙ ap (reply_to u) (sym right)) (sym (ap (after_decision list v.number u) right))
  by_answer (Err (apply.Broken n)) a right e =
      let seen : m.mark ≡ Seen = a.mark ∙ ap set_mark clear in
      inr (record {
        mark = subst Marked (sym seen) tt;
        reply = same_reply r (refusal u why.Closed) e;
        seen = a.seen;
        carries = λ x is. absurd (let h : Seen ≡ Carries x = sym seen ∙ is in cc);
      })
  by_answer (Err (apply.WrongShape kept came)) a right e = refused _ right a.mark a.seen (same_reply r (refusal u why.Shape) e)
  by_answer (Err (apply.Conflict key kept came)) a right e = refused _ right a.mark a.seen (same_reply r (refusal u (why.Conflict key)) e)
  by_answer (Err (apply.Full held more)) a right e = refused _ right a.mark a.seen (same_reply r (refusal u why.Full) e)
  by_answer (Err apply.Memory) a right e = absurd cc
  by_answer (Err apply.DiskFault) a right e =
      let cs = (stored_entry v.number list u).stored.columns in
      let lost : Entry = stored_entry v.number list u in
      inr (record {
        mark = subst Marked (sym a.mark) tt;
        reply = same_reply r (refusal u why.Closed) e;
        seen = a.seen;
        carries = λ x is. let same : lost ≡ x = carried lost x (sym a.mark ∙ is) in
            new_list v.number list u cs decision right.decides right.some ∙ ap (λ (y : Entry). list ++ y ∷ []) same;
      })
    where
      carried : (x y : Entry) → Carries x ≡ Carries y → x ≡ y
      carried x y h = cc

pub case_of : (shape : Shape) (room : ℕ) (u : UploadData) (v m : View) (r : Reply) → v.mark ≡ Clear → (a : AnswersUpload shape room u v m (Ok r))
    → IsCase shape room a.serves.list v m u r
case_of shape room u v m r clear a =
    by_answer shape room u v m a.serves.list r clear a.applied (after_of shape room u v m a.applied a.serves) a.serves.right a.reply

-- ---- a pass that has the mark

set_again : (x : Mark) → Marked x → set_mark x ≡ x
set_again Clear h = absurd h
set_again Seen h = refl
set_again (Carries e) h = refl

pub record IsStill (v m : View) (u : UploadData) (r : Reply) : Type 0 where
  pub mark : m.mark ≡ v.mark
  pub seen : m.seen ≡ v.seen
  pub reply : r ≡ refusal u why.Closed

pub still_of : (shape : Shape) (room : ℕ) (u : UploadData) (v m : View) (r : Reply) → Marked v.mark → AnswersUpload shape room u v m (Ok r) → IsStill v m u r
still_of shape room u v m r is a =
    let s = a.serves in
    let k = s.marked is in
    let after = after_of shape room u v m a.applied s in
    let told : seen_after v.number u s.list a.applied ≡ s.list = ap (seen_after v.number u s.list) k.1 in
    let mark : mark_for v.number u s.list v.mark a.applied ≡ set_mark v.mark = ap (mark_for v.number u s.list v.mark) k.1 in
    record {
      mark = after.mark ∙ mark ∙ set_again v.mark is;
      seen = after.seen ∙ told ∙ k.0;
      reply = same_reply r (refusal u why.Closed) (a.reply ∙ ap (λ (x : Result Applied ApplyFault). replied (reply_for u x)) k.1);
    }

-- ---- want of memory

starved : (u : UploadData) (answer : Result Applied ApplyFault) (e : Memory) → (let x : Result Reply Memory = Err e in x) ≡ replied (reply_for u answer)
    → answer ≡ Err apply.Memory
starved u (Ok (Stored p)) e h = absurd cc
starved u (Ok Known) e h = absurd cc
starved u (Err (apply.Broken n)) e h = absurd cc
starved u (Err (apply.WrongShape kept came)) e h = absurd cc
starved u (Err (apply.Conflict key kept came)) e h = absurd cc
starved u (Err (apply.Full held more)) e h = absurd cc
starved u (Err apply.Memory) e h = refl
starved u (Err apply.DiskFault) e h = absurd cc

-- The pass keeps its mark, has none, and has seen what others added.
pub record IsStarved (v w : View) : Type 0 where
  pub number : w.number ≡ v.number
  pub mark : w.mark ≡ v.mark
  pub clear : Marked v.mark → ⊥
  pub seen : IsPrefix v.seen w.seen
  pub mine : of v.number w.seen ≡ of v.number v.seen

abbrev broken : ℕ → Result Applied ApplyFault
broken n = Err (apply.Broken n)

abbrev hungry : Result Applied ApplyFault
hungry = Err apply.Memory

pub starved_of : (shape : Shape) (room : ℕ) (u : UploadData) (v w : View) (e : Memory) → AnswersUpload shape room u v w (Err e) → IsStarved v w
starved_of shape room u v w e a =
    let s = a.serves in
    let is = starved u a.applied e a.reply in
    let after = after_of shape room u v w a.applied s in
    let seen : w.seen ≡ s.list = after.seen ∙ ap (seen_after v.number u s.list) is in
    record {
      number = ap (λ (x : View). x.number) s.after;
      mark = after.mark ∙ ap (mark_for v.number u s.list v.mark) is;
      clear = λ m. (let h : hungry ≡ broken (length v.seen) = sym is ∙ (s.marked m).1 in absurd cc);
      seen = subst (IsPrefix v.seen) (sym seen) s.begins;
      mine = ap (of v.number) seen ∙ s.mine;
    }
