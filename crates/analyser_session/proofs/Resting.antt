-- The pass at the exit: as the last answer left it, or after one more upload for which no memory was found.
use Rattle.std.specs.Prelude.{◌≡◌, ℕ, ◌<◌, ◌≤◌, ◌⊎◌, List, [], ◌∷◌, length, take, slice_get, Some, Err}
use Rattle.std.proofs.Common.{sym, ap, subst, ◌∙◌, arith, inl, inr}
use Rattle.std.proofs.lemmas.Bool.{cases_lt}
use Rattle.lg_base.specs.declared.faults.Memory.{Memory}
use Rattle.lg_model.specs.Placing.{Shape}
use Rattle.upload_frame.specs.declared.frame.Frame.{Frame}
use Rattle.upload_frame.specs.declared.frame.Frame.TheVariants.{Hello, Upload, Bye}
use Rattle.upload_frame.specs.declared.reply.Reply.{Reply}
use Rattle.column_book.specs.declared.entry.Entry.{Entry}
use Rattle.column_book.specs.Applying.{after}
use Rattle.lock_rule.specs.declared.view.View.{View}
use Rattle.lock_rule.specs.Views.{Marked}
use Rattle.lock_rule.proofs.Fronts.{prefix_trans}
use Rattle.shared_book.specs.Answering.{IsAnswer}
use Rattle.shared_book.specs.Passes.{Keeps}
use Rattle.analyser_session.specs.declared.limits.TheConstants.{MOST_SESSION_FRAMES}
use Rattle.analyser_session.specs.Answered.{Answers, KeepsPass, Rests}
use Rattle.analyser_session.specs.Ties.{AreDecided, IsDecided, IsStoredFor, IsTied}
use Rattle.analyser_session.proofs.Applying.{IsStarved, starved_of}
use Rattle.analyser_session.proofs.Seen.{IsRun, run_of, still_all}
use Rattle.analyser_session.proofs.Tying.{decided}
use Rattle.analyser_session.proofs.Added.{front_get, front_take, marked, others_only, own}

pub kept : (v w : View) (n : ℕ) → n ≤ MOST_SESSION_FRAMES → IsRun v w n → KeepsPass v w
kept v w n few r = record {
  number = r.number;
  made = r.made;
  joined = r.joined;
  seen = r.seen;
  begun = omega (arith, r.begun, few);
}

pub kept_more : (v m w : View) (n : ℕ) → n < MOST_SESSION_FRAMES → IsRun v m n → Keeps m w → KeepsPass v w
kept_more v m w n few r k = record {
  number = k.number ∙ r.number;
  made = k.made ∙ r.made;
  joined = k.joined ∙ r.joined;
  seen = prefix_trans v.seen m.seen w.seen r.seen k.seen;
  begun = omega (arith, r.begun, k.begun, few);
}

module _ (shape : Shape) (room : ℕ) where
  -- A longer list at the exit.
  longer : (m w : View) (low : List Entry) (fs : List Frame) (rs : List Reply) → IsStarved m w → AreDecided shape room m low fs rs
      → AreDecided shape room w low fs rs
  longer m w low [] [] s d = (prefix_trans low m.seen w.seen d.0 s.seen, s.mark ∙ d.1)
  longer m w low [] (r ∷ rs) s d = absurd d
  longer m w low (Hello host asked ∷ fs) [] s d = absurd d
  longer m w low (Upload u ∷ fs) [] s d = absurd d
  longer m w low (Bye host ∷ fs) [] s d = absurd d
  longer m w low (Hello host asked ∷ fs) (r ∷ rs) s d = (d.0, longer m w low fs rs s d.1)
  longer m w low (Bye host ∷ fs) (r ∷ rs) s d = (d.0, longer m w low fs rs s d.1)
  longer m w low (Upload u ∷ fs) (r ∷ rs) s (inl d) =
      let list = d.0.list in
      let is : after shape room list m.number u ≡ after shape room list w.number u = ap (λ (n : ℕ). after shape room list n u) (sym s.number) in
      let one : IsDecided shape room low w.seen u r = record {
        list = list;
        later = d.0.later;
        inside = prefix_trans list m.seen w.seen d.0.inside s.seen;
        reply = d.0.reply;
      } in
      inl (one, subst (λ (l : List Entry). AreDecided shape room w l fs rs) is (longer m w (after shape room list m.number u) fs rs s d.1))
  longer m w low (Upload u ∷ fs) (r ∷ rs) s (inr d) =
      inr (d.0, prefix_trans low m.seen w.seen d.1 s.seen, subst Marked (sym s.mark) d.2, d.3)

  -- As the last answer left it.
  tied : (v m : View) (fs : List Frame) (rs : List Reply) → Answers shape room v fs rs m → IsTied shape room v m fs rs
  tied v m fs rs a = record {
    decided = λ clear. decided shape room v m fs rs clear a;
    closed = λ is. (still_all shape room v m fs rs is a).1;
    own = λ p e le there mine. own shape room v m fs rs p e a le there mine;
    marked = λ e clear is. marked shape room v m fs rs e clear a is;
  }

  -- After an upload for which no memory was found.
  tied_starved : (v m w : View) (fs : List Frame) (rs : List Reply) → Answers shape room v fs rs m → IsStarved m w → IsTied shape room v w fs rs
  tied_starved v m w fs rs a s = record {
    decided = λ clear. longer m w v.seen fs rs s (decided shape room v m fs rs clear a);
    closed = λ is. (still_all shape room v m fs rs is a).1;
    own = λ p e le there mine. own_by p e le there mine (cases_lt p (length m.seen));
    marked = λ e clear is. absurd (s.clear (subst Marked (sym (sym s.mark ∙ is)) tt));
  }
    where
      own_by : (p : ℕ) (e : Entry) → length v.seen ≤ p → slice_get w.seen p ≡ Some e → e.pass ≡ v.number
          → (p < length m.seen) ⊎ (length m.seen ≤ p) → IsStoredFor shape room v.number (take p w.seen) e fs
      own_by p e le there mine (inl lt) =
          subst (λ (l : List Entry). IsStoredFor shape room v.number l e fs) (sym (front_take m.seen w.seen p s.seen (omega arith)))
          (own shape room v m fs rs p e a le (sym (front_get m.seen w.seen p s.seen lt) ∙ there) mine)
      own_by p e le there mine (inr past) =
          absurd (others_only m.number m.seen w.seen p e s.seen s.mine past there (mine ∙ sym (run_of shape room v m fs rs a).number))

  ties_by : (v m w : View) (fs : List Frame) (rs : List Reply) (f : Frame) (e : Memory) → Answers shape room v fs rs m → IsAnswer shape room f m w (Err e)
      → IsTied shape room v w fs rs
  ties_by v m w fs rs (Hello host asked) e a x = subst (λ (y : View). IsTied shape room v y fs rs) (sym x.0) (tied v m fs rs a)
  ties_by v m w fs rs (Upload u) e a x = tied_starved v m w fs rs a (starved_of shape room u m w e x)
  ties_by v m w fs rs (Bye host) e a x = subst (λ (y : View). IsTied shape room v y fs rs) (sym x.0) (tied v m fs rs a)

  pub ties : (v m w : View) (fs : List Frame) (rs : List Reply) → Answers shape room v fs rs m → Rests shape room m w → IsTied shape room v w fs rs
  ties v m w fs rs a (inl is) = subst (λ (y : View). IsTied shape room v y fs rs) (sym is) (tied v m fs rs a)
  ties v m w fs rs a (inr x) = ties_by v m w fs rs x.0 x.1 a x.2
