-- What a run of answers leaves of a pass: its number stays, what it has seen grows, and a mark stays.
use Rattle.std.specs.Prelude.{◌≡◌, ℕ, ◌+◌, ◌≤◌, List, [], ◌∷◌, length, Ok}
use Rattle.std.proofs.Common.{refl, sym, ap, subst, ◌∙◌, arith}
use mathlib.Core.List.{IsPrefix}
use Rattle.lg_model.specs.Placing.{Shape}
use Rattle.upload_frame.specs.declared.frame.Frame.{Frame}
use Rattle.upload_frame.specs.declared.frame.Frame.TheVariants.{Hello, Upload, Bye}
use Rattle.upload_frame.specs.declared.reply.Reply.{Reply}
use Rattle.upload_frame.specs.declared.reply.Reply.TheVariants.{Welcome, Refused, Goodbye}
use Rattle.upload_frame.specs.declared.reply.RefusedWhy.TheVariants as why
use Rattle.lock_rule.specs.declared.view.View.{View}
use Rattle.lock_rule.specs.Views.{Marked}
use Rattle.lock_rule.proofs.Fronts.{prefix_self, prefix_trans}
use Rattle.shared_book.specs.Answering.{IsAnswer}
use Rattle.shared_book.specs.Passes.{Keeps}
use Rattle.shared_book.proofs.Keeping.{answer_keeps}
use Rattle.analyser_session.specs.Answered.{Answers}
use Rattle.analyser_session.specs.Ties.{IsGreeting, ClosedTo, AllClosed}
use Rattle.analyser_session.proofs.Applying.{same_reply, still_of}

-- What a run of answers keeps.
pub record IsRun (v w : View) (n : ℕ) : Type 0 where
  pub number : w.number ≡ v.number
  pub made : w.made ≡ v.made
  pub joined : w.joined ≡ v.joined
  pub seen : IsPrefix v.seen w.seen
  pub begun : w.begun ≤ v.begun + n

-- The mark and the list that was seen stay.
pub record IsStill (v m : View) : Type 0 where
  pub mark : m.mark ≡ v.mark
  pub seen : m.seen ≡ v.seen

module _ (shape : Shape) (room : ℕ) where
  pub keeps_one : (v m : View) (f : Frame) (r : Reply) → IsAnswer shape room f v m (Ok r) → Keeps v m
  keeps_one v m f r a = answer_keeps shape room f v m (Ok r) a

  pub run_none : (v w : View) → w ≡ v → IsRun v w 0
  run_none v w is = subst (λ (x : View). IsRun v x 0) (sym is) (record {
    number = refl;
    made = refl;
    joined = refl;
    seen = prefix_self v.seen;
    begun = omega arith;
  })

  pub run_one : (v m w : View) (n : ℕ) → Keeps v m → IsRun m w n → IsRun v w (n + 1)
  run_one v m w n k r = record {
    number = r.number ∙ k.number;
    made = r.made ∙ k.made;
    joined = r.joined ∙ k.joined;
    seen = prefix_trans v.seen m.seen w.seen k.seen r.seen;
    begun = omega (arith, k.begun, r.begun);
  }

  pub run_of : (v w : View) (fs : List Frame) (rs : List Reply) → Answers shape room v fs rs w → IsRun v w (length fs)
  run_of v w [] [] a = run_none v w a
  run_of v w [] (r ∷ rs) a = absurd a
  run_of v w (f ∷ fs) [] a = absurd a
  run_of v w (f ∷ fs) (r ∷ rs) a =
      let n = length fs in
      let one : n + 1 ≡ length (f ∷ fs) = omega arith in
      subst (IsRun v w) one (run_one v a.0 w n (keeps_one v a.0 f r a.1) (run_of a.0 w fs rs a.2))

  pub greeting : (host : ℕ) (asked : Shape) (v m : View) (r : Reply) → IsAnswer shape room (Hello host asked) v m (Ok r) → IsGreeting shape asked host r
  greeting host asked v m r a = record {
    same = λ e. same_reply r (Welcome host) (a.1 e);
    other = λ e. same_reply r (Refused host 0 why.Shape) (a.2 e);
  }

  pub goodbye : (host : ℕ) (v m : View) (r : Reply) → IsAnswer shape room (Bye host) v m (Ok r) → r ≡ Goodbye host
  goodbye host v m r a = same_reply r (Goodbye host) a.1

  unchanged : (v m : View) → m ≡ v → IsStill v m
  unchanged v m is = record { mark = ap (λ (x : View). x.mark) is; seen = ap (λ (x : View). x.seen) is }

  -- With a mark nothing changes, and uploads are closed.
  still_one : (v m : View) (f : Frame) (r : Reply) → Marked v.mark → IsAnswer shape room f v m (Ok r) → IsStill v m × ClosedTo shape f r
  still_one v m (Hello host asked) r is a = (unchanged v m a.0, greeting host asked v m r a)
  still_one v m (Upload u) r is a = let s = still_of shape room u v m r is a in (record { mark = s.mark; seen = s.seen }, s.reply)
  still_one v m (Bye host) r is a = (unchanged v m a.0, goodbye host v m r a)

  pub still_all : (v w : View) (fs : List Frame) (rs : List Reply) → Marked v.mark → Answers shape room v fs rs w → IsStill v w × AllClosed shape fs rs
  still_all v w [] [] is a = (unchanged v w a, tt)
  still_all v w [] (r ∷ rs) is a = absurd a
  still_all v w (f ∷ fs) [] is a = absurd a
  still_all v w (f ∷ fs) (r ∷ rs) is a =
      let one = still_one v a.0 f r is a.1 in
      let rest = still_all a.0 w fs rs (subst Marked (sym one.0.mark) is) a.2 in
      (record { mark = rest.0.mark ∙ one.0.mark; seen = rest.0.seen ∙ one.0.seen }, (one.1, rest.1))
