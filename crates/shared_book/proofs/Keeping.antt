-- What a call keeps of a pass.
use Rattle.std.proofs.Common.{◌≡◌, ℕ, ◌+◌, ◌≤◌, List, [], ◌∷◌, Result, Ok, Err, sym, ap, refl, subst, arith}
use mathlib.Core.List.{IsPrefix}
use Rattle.lg_base.specs.declared.faults.Memory.{Memory}
use Rattle.lg_model.specs.Placing.{Shape}
use Rattle.sketchlet_wire.specs.Uploads.{UploadData}
use Rattle.upload_frame.specs.declared.frame.Frame.{Frame}
use Rattle.upload_frame.specs.declared.frame.Frame.TheVariants.{Hello, Upload, Bye}
use Rattle.upload_frame.specs.declared.reply.Reply.{Reply}
use Rattle.column_book.specs.declared.entry.Entry.{Entry}
use Rattle.column_book.specs.Applying.{stored_entry}
use Rattle.book_journal.specs.declared.applied.Applied.{Applied}
use Rattle.book_journal.specs.declared.applied.Applied.TheVariants.{Stored, Known}
use Rattle.book_journal.specs.declared.applied.ApplyFault.{ApplyFault}
use Rattle.lock_rule.specs.declared.view.View.{View}
use Rattle.lock_rule.proofs.Fronts.{prefix_self, prefix_trans}
use Rattle.shared_book.specs.Answering.{IsAnswer}
use Rattle.shared_book.specs.Passes.{Keeps, Serves, seen_after}

more : (pass : ℕ) (u : UploadData) (es : List Entry) (answer : Result Applied ApplyFault) → IsPrefix es (seen_after pass u es answer)
more pass u es (Ok (Stored p)) = (stored_entry pass es u ∷ [], refl)
more pass u es (Ok Known) = prefix_self es
more pass u es (Err fault) = prefix_self es

-- an apply
pub keeps : (shape : Shape) (room : ℕ) (u : UploadData) (v w : View) (answer : Result Applied ApplyFault) → Serves shape room u v w answer → Keeps v w
keeps shape room u v w answer s = record {
  number = ap (λ (x : View). x.number) s.after;
  made = ap (λ (x : View). x.made) s.after;
  joined = ap (λ (x : View). x.joined) s.after;
  seen = subst (IsPrefix v.seen) (sym (ap (λ (x : View). x.seen) s.after))
      (prefix_trans v.seen s.list (seen_after v.number u s.list answer) s.begins (more v.number u s.list answer));
  begun = (let e : w.begun ≡ v.begun + 1 = ap (λ (x : View). x.begun) s.after in omega arith);
}

unchanged : (v w : View) → w ≡ v → Keeps v w
unchanged v w e = subst (Keeps v) (sym e) record {
  number = refl;
  made = refl;
  joined = refl;
  seen = prefix_self v.seen;
  begun = (let n : ℕ = v.begun in let l : n ≤ n + 1 = omega arith in l);
}

-- an answer
pub answer_keeps : (shape : Shape) (room : ℕ) (f : Frame) (v w : View) (answer : Result Reply Memory) → IsAnswer shape room f v w answer → Keeps v w
answer_keeps shape room (Hello host asked) v w answer a = unchanged v w a.0
answer_keeps shape room (Upload u) v w answer a = keeps shape room u v w a.applied a.serves
answer_keeps shape room (Bye host) v w answer a = unchanged v w a.0
