-- The entries that a run of answers added with the number of its pass.
use Rattle.std.specs.Prelude.{◌≡◌, ℕ, zero, suc, ◌<◌, ◌≤◌, ◌⊎◌, Bool, true, false, cond, ◌==◌, List, ◌++◌, ◌∷◌, [], length, take, slice_get, Some, Ok, Contains}
use Rattle.std.proofs.Common.{refl, sym, ap, subst, ◌∙◌, arith, inl, inr, append-nil, length-append, eq-eqb}
use Rattle.std.proofs.lemmas.List.{append_cancel_left, take_at, take-append-le}
use Rattle.std.proofs.lemmas.Option.{slice_get_within}
use Rattle.std.proofs.lemmas.Bool.{cases_lt}
use mathlib.Core.List.{IsPrefix}
use Rattle.lg_model.specs.Placing.{Shape}
use Rattle.sketchlet_wire.specs.Uploads.{UploadData}
use Rattle.upload_frame.specs.declared.frame.Frame.{Frame}
use Rattle.upload_frame.specs.declared.frame.Frame.TheVariants.{Hello, Upload, Bye}
use Rattle.upload_frame.specs.declared.reply.Reply.{Reply}
use Rattle.column_book.specs.declared.entry.Entry.{Entry}
use Rattle.column_book.specs.Applying.{after}
use Rattle.lock_rule.specs.declared.view.Mark.{Mark}
use Rattle.lock_rule.specs.declared.view.Mark.TheVariants.{Clear, Seen, Carries}
use Rattle.lock_rule.specs.declared.view.View.{View}
use Rattle.lock_rule.specs.Views.{Marked, of}
use Rattle.lock_rule.proofs.Fronts.{of_more}
use Rattle.shared_book.specs.Answering.{AnswersUpload, IsAnswer}
use Rattle.analyser_session.specs.Answered.{Answers}
use Rattle.analyser_session.specs.Ties.{IsStoredFor}
use Rattle.analyser_session.proofs.Applying.{IsCase, case_of, after_one}
use Rattle.analyser_session.proofs.Seen.{keeps_one, run_of, still_all}

-- ---- entries by their positions

get_front : (xs ys : List Entry) (p : ℕ) → p < length xs → slice_get (xs ++ ys) p ≡ slice_get xs p
get_front [] ys p lt = absurd (omega arith)
get_front (x ∷ xs) ys zero lt = refl
get_front (x ∷ xs) ys (suc p) lt = get_front xs ys p (omega arith)

get_back : (xs ys : List Entry) (p : ℕ) (e : Entry) → length xs ≤ p → slice_get (xs ++ ys) p ≡ Some e → (k : ℕ) × (slice_get ys k ≡ Some e)
get_back [] ys p e le there = (p, there)
get_back (x ∷ xs) ys zero e le there = absurd (omega arith)
get_back (x ∷ xs) ys (suc p) e le there = get_back xs ys p e (omega arith) there

get_last : (xs : List Entry) (x : Entry) → slice_get (xs ++ x ∷ []) (length xs) ≡ Some x
get_last [] x = refl
get_last (y ∷ xs) x = get_last xs x

in_filter : (n : ℕ) (xs : List Entry) (k : ℕ) (e : Entry) → slice_get xs k ≡ Some e → e.pass ≡ n → of n xs ≡ [] → ⊥
in_filter n [] k e there mine none = cc
in_filter n (x ∷ xs) zero e there mine none =
    let same : x ≡ e = cc in
    let test : (x.pass == n) ≡ true = eq-eqb x.pass n (ap (λ (y : Entry). y.pass) same ∙ mine) in
    let first : x ∷ of n xs ≡ [] = sym (ap (λ (b : Bool). cond b (x ∷ of n xs) (of n xs)) test) ∙ none in
    cc
in_filter n (x ∷ xs) (suc k) e there mine none = (elim (x.pass == n) as (λ b. cond b (x ∷ of n xs) (of n xs) ≡ [] → ⊥) [
  | true ↦ λ h. cc
  | false ↦ λ h. in_filter n xs k e there mine h
]) none

-- What others added to a list has no entry of this number.
pub others_only : (n : ℕ) (seen list : List Entry) (p : ℕ) (e : Entry) → IsPrefix seen list → of n list ≡ of n seen → length seen ≤ p
    → slice_get list p ≡ Some e → e.pass ≡ n → ⊥
others_only n seen list p e begins same le there mine =
    let more = begins.0 in
    let back = get_back seen more p e le (ap (λ (l : List Entry). slice_get l p) begins.1 ∙ there) in
    let both = sym (of_more n seen more) ∙ ap (of n) begins.1 ∙ same ∙ sym (append-nil (of n seen)) in
    in_filter n more back.0 e back.1 mine (append_cancel_left (of n seen) (of n more) [] both)

-- A position in a beginning of a list.
pub front_get : (xs ys : List Entry) (p : ℕ) → IsPrefix xs ys → p < length xs → slice_get ys p ≡ slice_get xs p
front_get xs ys p b lt = ap (λ (l : List Entry). slice_get l p) (sym b.1) ∙ get_front xs b.0 p lt

pub front_take : (xs ys : List Entry) (p : ℕ) → IsPrefix xs ys → p ≤ length xs → take p ys ≡ take p xs
front_take xs ys p b le = ap (take p) (sym b.1) ∙ take-append-le p xs b.0 le

within_seen : (xs : List Entry) (p : ℕ) (e : Entry) → length xs ≤ p → slice_get xs p ≡ Some e → ⊥
within_seen xs p e le there = (let lt = slice_get_within xs p e there in absurd (omega arith))

-- ---- the frame of an upload among frames

pub among_first : (f : Frame) (fs : List Frame) → Contains (f ∷ fs) f
among_first f fs = (0, omega arith, refl)

pub among_later : (x f : Frame) (fs : List Frame) → Contains fs x → Contains (f ∷ fs) x
among_later x f fs c = (suc c.0, (let lt = c.1 in omega arith), c.2)

module _ (shape : Shape) (room : ℕ) where
  -- The same with a frame before them, by a pass of the same number.
  later : (n m : ℕ) (f : Frame) (fs : List Frame) (list : List Entry) (e : Entry) → m ≡ n → IsStoredFor shape room m list e fs
      → IsStoredFor shape room n list e (f ∷ fs)
  later n m f fs list e is s = record {
    upload = s.upload;
    among = among_later (Upload s.upload) f fs s.among;
    stored = ap (λ (k : ℕ). after shape room list k s.upload) (sym is) ∙ s.stored;
  }

  -- ---- the mark's entry

  pub marked : (v w : View) (fs : List Frame) (rs : List Reply) (e : Entry) → v.mark ≡ Clear → Answers shape room v fs rs w → w.mark ≡ Carries e
      → IsStoredFor shape room v.number w.seen e fs
  marked v w [] [] e clear a is = absurd (let x : Clear ≡ Carries e = sym clear ∙ sym (ap (λ (y : View). y.mark) a) ∙ is in cc)
  marked v w [] (r ∷ rs) e clear a is = absurd a
  marked v w (Hello host asked ∷ fs) [] e clear a is = absurd a
  marked v w (Upload u ∷ fs) [] e clear a is = absurd a
  marked v w (Bye host ∷ fs) [] e clear a is = absurd a
  marked v w (Hello host asked ∷ fs) (r ∷ rs) e clear a is =
      later v.number v.number (Hello host asked) fs w.seen e refl
      (marked v w fs rs e clear (subst (λ (x : View). Answers shape room x fs rs w) a.1.0 a.2) is)
  marked v w (Bye host ∷ fs) (r ∷ rs) e clear a is =
      later v.number v.number (Bye host) fs w.seen e refl (marked v w fs rs e clear (subst (λ (x : View). Answers shape room x fs rs w) a.1.0 a.2) is)
  marked v w (Upload u ∷ fs) (r ∷ rs) e clear a is = by (case_of shape room u v a.0 r clear a.1) (λ c. marked a.0 w fs rs e c a.2 is)
    where
      m : View
      m = a.0

      b : AnswersUpload shape room u v m (Ok r)
      b = a.1

      by : IsCase shape room b.serves.list v m u r → (m.mark ≡ Clear → IsStoredFor shape room m.number w.seen e fs)
          → IsStoredFor shape room v.number w.seen e (Upload u ∷ fs)
      by (inl d) rest = later v.number m.number (Upload u) fs w.seen e (keeps_one shape room v m (Upload u) r b).number (rest d.clear)
      by (inr s) rest_of =
          let rest = still_all shape room m w fs rs s.mark a.2 in
          record {
            upload = u;
            among = among_first (Upload u) fs;
            stored = subst (λ (l : List Entry). after shape room l v.number u ≡ l ++ e ∷ []) (sym (rest.0.seen ∙ s.seen))
                (s.carries e (sym rest.0.mark ∙ is));
          }

  -- ---- the entries of its number

  -- One that an upload added.
  own_one : (v m : View) (u : UploadData) (r : Reply) (p : ℕ) (e : Entry) → v.mark ≡ Clear → AnswersUpload shape room u v m (Ok r) → length v.seen ≤ p
      → slice_get m.seen p ≡ Some e → e.pass ≡ v.number → after shape room (take p m.seen) v.number u ≡ take p m.seen ++ e ∷ []
  own_one v m u r p e clear a le there mine = by (case_of shape room u v m r clear a)
    where
      list : List Entry
      list = a.serves.list

      not_here : slice_get list p ≡ Some e → ⊥
      not_here h = others_only v.number v.seen list p e a.serves.begins a.serves.mine le h mine

      one : (x : Entry) → after shape room list v.number u ≡ list ++ x ∷ [] → m.seen ≡ list ++ x ∷ []
          → (p < length list) ⊎ (length list ≤ p) → after shape room (take p m.seen) v.number u ≡ take p m.seen ++ e ∷ []
      one x is seen (inl lt) =
          absurd (not_here (sym (get_front list (x ∷ []) p lt) ∙ sym (ap (λ (l : List Entry). slice_get l p) seen) ∙ there))
      one x is seen (inr past) =
          let here : slice_get (list ++ x ∷ []) p ≡ Some e = sym (ap (λ (l : List Entry). slice_get l p) seen) ∙ there in
          let n = slice_get_within (list ++ x ∷ []) p e here in
          let at : length list ≡ p = omega (arith, n, length-append list (x ∷ [])) in
          let last : x ≡ e = (let h = sym (get_last list x) ∙ ap (slice_get (list ++ x ∷ [])) at ∙ here in cc) in
          let front : take p m.seen ≡ list = ap (take p) seen ∙ take_at list (x ∷ []) p at in
          subst (λ (l : List Entry). after shape room l v.number u ≡ l ++ e ∷ []) (sym front) (is ∙ ap (λ (y : Entry). list ++ y ∷ []) last)

      ruled : m.seen ≡ after shape room list v.number u → (after shape room list v.number u ≡ list)
          ⊎ ((x : Entry) × (after shape room list v.number u ≡ list ++ x ∷ []))
          → after shape room (take p m.seen) v.number u ≡ take p m.seen ++ e ∷ []
      ruled seen (inl same) = absurd (not_here (sym (ap (λ (l : List Entry). slice_get l p) (seen ∙ same)) ∙ there))
      ruled seen (inr x) = one x.0 x.1 (seen ∙ x.1) (cases_lt p (length list))

      by : IsCase shape room list v m u r → after shape room (take p m.seen) v.number u ≡ take p m.seen ++ e ∷ []
      by (inl d) = ruled d.seen (after_one shape room list v.number u)
      by (inr s) = absurd (not_here (sym (ap (λ (l : List Entry). slice_get l p) s.seen) ∙ there))

  own_frame : (v m : View) (f : Frame) (fs : List Frame) (r : Reply) (p : ℕ) (e : Entry) → v.mark ≡ Clear → IsAnswer shape room f v m (Ok r)
      → length v.seen ≤ p → slice_get m.seen p ≡ Some e → e.pass ≡ v.number → IsStoredFor shape room v.number (take p m.seen) e (f ∷ fs)
  own_frame v m (Hello host asked) fs r p e clear a le there mine =
      absurd (within_seen v.seen p e le (sym (ap (λ (x : View). slice_get x.seen p) a.0) ∙ there))
  own_frame v m (Upload u) fs r p e clear a le there mine =
      record { upload = u; among = among_first (Upload u) fs; stored = own_one v m u r p e clear a le there mine }
  own_frame v m (Bye host) fs r p e clear a le there mine =
      absurd (within_seen v.seen p e le (sym (ap (λ (x : View). slice_get x.seen p) a.0) ∙ there))

  abbrev IsMark : Mark → Type 0
  IsMark x = (x ≡ Clear) ⊎ Marked x

  mark_case : (x : Mark) → IsMark x
  mark_case Clear = inl refl
  mark_case Seen = inr tt
  mark_case (Carries e) = inr tt

  pub own : (v w : View) (fs : List Frame) (rs : List Reply) (p : ℕ) (e : Entry) → Answers shape room v fs rs w → length v.seen ≤ p
      → slice_get w.seen p ≡ Some e → e.pass ≡ v.number → IsStoredFor shape room v.number (take p w.seen) e fs
  own v w [] [] p e a le there mine = absurd (within_seen v.seen p e le (sym (ap (λ (x : View). slice_get x.seen p) a) ∙ there))
  own v w [] (r ∷ rs) p e a le there mine = absurd a
  own v w (f ∷ fs) [] p e a le there mine = absurd a
  own v w (f ∷ fs) (r ∷ rs) p e a le there mine = by_mark (mark_case v.mark) (λ past here. own a.0 w fs rs p e a.2 past there here)
    where
      m : View
      m = a.0

      number : m.number ≡ v.number
      number = (keeps_one shape room v m f r a.1).number

      grown : IsPrefix m.seen w.seen
      grown = (run_of shape room m w fs rs a.2).seen

      by : v.mark ≡ Clear → (p < length m.seen) ⊎ (length m.seen ≤ p)
          → (length m.seen ≤ p → e.pass ≡ m.number → IsStoredFor shape room m.number (take p w.seen) e fs)
          → IsStoredFor shape room v.number (take p w.seen) e (f ∷ fs)
      by clear (inl lt) rest =
          let here = sym (front_get m.seen w.seen p grown lt) ∙ there in
          let front : take p w.seen ≡ take p m.seen = front_take m.seen w.seen p grown (omega arith) in
          subst (λ (l : List Entry). IsStoredFor shape room v.number l e (f ∷ fs)) (sym front) (own_frame v m f fs r p e clear a.1 le here mine)
      by clear (inr past) rest = later v.number m.number f fs (take p w.seen) e number (rest past (mine ∙ sym number))

      by_mark : IsMark v.mark → (length m.seen ≤ p → e.pass ≡ m.number → IsStoredFor shape room m.number (take p w.seen) e fs)
          → IsStoredFor shape room v.number (take p w.seen) e (f ∷ fs)
      by_mark (inl clear) rest = by clear (cases_lt p (length m.seen)) rest
      by_mark (inr is) rest =
          let still = still_all shape room v w (f ∷ fs) (r ∷ rs) is a in
          absurd (within_seen v.seen p e le (sym (ap (λ (l : List Entry). slice_get l p) still.0.seen) ∙ there))
