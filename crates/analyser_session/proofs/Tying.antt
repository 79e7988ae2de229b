-- How a run of answers is tied to the list that the pass has seen at the exit.
use Rattle.std.specs.Prelude.{◌≡◌, ℕ, List, [], ◌∷◌, Ok}
use Rattle.std.proofs.Common.{sym, ap, subst, ◌∙◌, inl, inr}
use mathlib.Core.List.{IsPrefix}
use Rattle.lg_model.specs.Placing.{Shape}
use Rattle.upload_frame.specs.declared.frame.Frame.{Frame}
use Rattle.upload_frame.specs.declared.frame.Frame.TheVariants.{Hello, Upload, Bye}
use Rattle.upload_frame.specs.declared.reply.Reply.{Reply}
use Rattle.column_book.specs.declared.entry.Entry.{Entry}
use Rattle.column_book.specs.Applying.{after}
use Rattle.lock_rule.specs.declared.view.Mark.TheVariants.{Clear}
use Rattle.lock_rule.specs.declared.view.View.{View}
use Rattle.lock_rule.specs.Views.{Marked}
use Rattle.lock_rule.proofs.Fronts.{prefix_self, prefix_trans}
use Rattle.shared_book.specs.Answering.{AnswersUpload}
use Rattle.analyser_session.specs.Answered.{Answers}
use Rattle.analyser_session.specs.Ties.{AreDecided}
use Rattle.analyser_session.proofs.Applying.{IsCase, after_more, case_of}
use Rattle.analyser_session.proofs.Seen.{greeting, goodbye, keeps_one, run_of, still_all}

module _ (shape : Shape) (room : ℕ) where
  pub decided : (v w : View) (fs : List Frame) (rs : List Reply) → v.mark ≡ Clear → Answers shape room v fs rs w → AreDecided shape room w v.seen fs rs
  decided v w [] [] clear a =
      (subst (λ (x : View). IsPrefix v.seen x.seen) (sym a) (prefix_self v.seen), ap (λ (x : View). x.mark) a ∙ clear)
  decided v w [] (r ∷ rs) clear a = absurd a
  decided v w (Hello host asked ∷ fs) [] clear a = absurd a
  decided v w (Upload u ∷ fs) [] clear a = absurd a
  decided v w (Bye host ∷ fs) [] clear a = absurd a
  decided v w (Hello host asked ∷ fs) (r ∷ rs) clear a =
      (greeting shape room host asked v a.0 r a.1, decided v w fs rs clear (subst (λ (x : View). Answers shape room x fs rs w) a.1.0 a.2))
  decided v w (Bye host ∷ fs) (r ∷ rs) clear a =
      (goodbye shape room host v a.0 r a.1, decided v w fs rs clear (subst (λ (x : View). Answers shape room x fs rs w) a.1.0 a.2))
  decided v w (Upload u ∷ fs) (r ∷ rs) clear a = by (case_of shape room u v m r clear b) (λ c. decided a.0 w fs rs c a.2)
    where
      m : View
      m = a.0

      b : AnswersUpload shape room u v m (Ok r)
      b = a.1

      list : List Entry
      list = b.serves.list

      grown : IsPrefix m.seen w.seen
      grown = (run_of shape room m w fs rs a.2).seen

      -- its own number stays
      number : w.number ≡ v.number
      number = (run_of shape room m w fs rs a.2).number ∙ (keeps_one shape room v m (Upload u) r b).number

      by : IsCase shape room list v m u r → (m.mark ≡ Clear → AreDecided shape room w m.seen fs rs) → AreDecided shape room w v.seen (Upload u ∷ fs) (r ∷ rs)
      by (inl d) rest =
          let left : m.seen ≡ after shape room list w.number u = d.seen ∙ ap (λ (n : ℕ). after shape room list n u) (sym number) in
          inl (
            record {
              list = list;
              later = b.serves.begins;
              inside = prefix_trans list m.seen w.seen (subst (IsPrefix list) (sym d.seen) (after_more shape room list v.number u)) grown;
              reply = d.reply;
            },
            subst (λ (low : List Entry). AreDecided shape room w low fs rs) left (rest d.clear),
          )
      by (inr s) rest_of =
          let rest = still_all shape room m w fs rs s.mark a.2 in
          inr (
            s.reply,
            prefix_trans v.seen m.seen w.seen (keeps_one shape room v m (Upload u) r b).seen grown,
            subst Marked (sym rest.0.mark) s.mark,
            rest.1,
          )
