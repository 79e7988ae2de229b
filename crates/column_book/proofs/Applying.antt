-- What a check that gives a mask says, and the law of applying.
use Rattle.std.specs.Prelude.{◌≡◌, ℕ, ◌+◌, ◌*◌, ◌<◌, ◌≤◌, Bool, true, false, cond, List, [], ◌∷◌, ◌++◌, map, filter, length, Option, None, Some, Result, Ok, Err, IsOkAnd, if◌then◌else◌}
use Rattle.std.proofs.Common.{refl, sym, ap, ◌∙◌, subst, arith}
use Rattle.lg_model.specs.Placing.{Shape}
use Rattle.lg_model.specs.Columns.{Column, dims_of}
use Rattle.sketchlet_wire.specs.Uploads.{UploadData}
use Rattle.column_book.specs.declared.entry.Entry.{Entry}
use Rattle.column_book.specs.declared.fault.BookFault.{BookFault}
use Rattle.column_book.specs.Entries.{records, columns_in, content_in}
use Rattle.column_book.specs.Applying.{is_new, new_columns, mask_of, masked, or_fault, full, first_fault, misfit, conflict, decide, checked, entry_with, with_new, after_decision}
use Rattle.column_book.specs.Law.{LawOfApplying}

-- what comes after a fault that isn't there
pub or_given : {A : Type 0} (o : Option BookFault) (r : Result A BookFault) (a : A) → or_fault o r ≡ Ok a → (o ≡ None) × (r ≡ Ok a)
or_given None r a h = (refl, h)
or_given (Some f) r a h = absurd (cc)

abbrev taken_as : List Column → Result (List Column) BookFault
taken_as new = Ok new

ok_same : (a b : List Column) → taken_as a ≡ taken_as b → a ≡ b
ok_same a b h = cc h

-- an upload that is taken: no fault is there, and these are its new columns
pub record IsTaken (shape : Shape) (room : ℕ) (rs : List UploadData) (u : UploadData) (new : List Column) : Type 0 where
  pub sized : first_fault (misfit (dims_of shape)) u.columns ≡ None
  pub same : first_fault (conflict (dims_of shape) (content_in rs)) u.columns ≡ None
  pub fits : full room (length (columns_in rs)) (length (new_columns (content_in rs) u.columns)) ≡ None
  pub is : new ≡ new_columns (content_in rs) u.columns

pub taken : (shape : Shape) (room : ℕ) (rs : List UploadData) (u : UploadData) (new : List Column) → decide shape room rs u ≡ Ok new → IsTaken shape room rs u new
taken shape room rs u new h =
    let m = content_in rs in
    let last : Result (List Column) BookFault = Ok (new_columns m u.columns) in
    let third = or_fault (full room (length (columns_in rs)) (length (new_columns m u.columns))) last in
    let a = or_given (first_fault (misfit (dims_of shape)) u.columns) (or_fault (first_fault (conflict (dims_of shape) m) u.columns) third) new h in
    let b = or_given (first_fault (conflict (dims_of shape) m) u.columns) third new a.1 in
    let d = or_given (full room (length (columns_in rs)) (length (new_columns m u.columns))) last new b.1 in
    record { sized = a.0; same = b.0; fits = d.0; is = sym (ok_same (new_columns m u.columns) new d.1) }

-- a mask is told of what is taken
masked_ok : (mask : ℕ) (d : Result (List Column) BookFault) (m : ℕ) → masked mask d ≡ Ok m → (new : List Column) × ((d ≡ Ok new) × (mask ≡ m))
masked_ok mask (Ok new) m h = (new, (refl, cc h))
masked_ok mask (Err f) m h = absurd (cc)

masked_err : (mask : ℕ) (d : Result (List Column) BookFault) (f : BookFault) → masked mask d ≡ Err f → d ≡ Err f
masked_err mask (Ok new) f h = absurd (cc)
masked_err mask (Err g) f h = cc h

pub record IsChecked (shape : Shape) (room : ℕ) (rs : List UploadData) (u : UploadData) (m : ℕ) : Type 0 where
  pub decided : decide shape room rs u ≡ Ok (new_columns (content_in rs) u.columns)
  pub is_taken : IsTaken shape room rs u (new_columns (content_in rs) u.columns)
  pub mask : mask_of (map (is_new (content_in rs)) u.columns) ≡ m

pub checked_ok : (shape : Shape) (room : ℕ) (rs : List UploadData) (u : UploadData) (m : ℕ) → checked shape room rs u ≡ Ok m → IsChecked shape room rs u m
checked_ok shape room rs u m h =
    let r = masked_ok (mask_of (map (is_new (content_in rs)) u.columns)) (decide shape room rs u) m h in
    let t = taken shape room rs u r.0 r.1.0 in
    let decided : decide shape room rs u ≡ Ok (new_columns (content_in rs) u.columns) = r.1.0 ∙ ap (λ (x : List Column). Ok x) t.is in
    record { decided = decided; is_taken = taken shape room rs u (new_columns (content_in rs) u.columns) decided; mask = r.1.1 }

-- what a mask says
pub some_bit : (p : Column → Bool) (cs : List Column) → 0 < mask_of (map p cs) → 1 ≤ length (filter p cs)
some_bit p [] h = absurd (omega (arith, h))
some_bit p (c ∷ cs) h = (elim (p c) as (λ b. 0 < (if b then 1 else 0) + 2 * mask_of (map p cs) → 1 ≤ length (cond b (c ∷ filter p cs) (filter p cs))) [
  | true ↦ λ more. omega arith
  | false ↦ λ more. some_bit p cs (omega (arith, more))
]) h

no_bit : (p : Column → Bool) (cs : List Column) → mask_of (map p cs) ≡ 0 → filter p cs ≡ []
no_bit p [] h = refl
no_bit p (c ∷ cs) h = (elim (p c) as (λ b. (if b then 1 else 0) + 2 * mask_of (map p cs) ≡ 0 → cond b (c ∷ filter p cs) (filter p cs) ≡ []) [
  | true ↦ λ none. absurd (omega (arith, none))
  | false ↦ λ none. no_bit p cs (omega (arith, none))
]) h

pub ok_and : (r : Result ℕ BookFault) (P : ℕ → Type 0) → IsOkAnd r P → (m : ℕ) × ((r ≡ Ok m) × P m)
ok_and (Ok m) P h = (m, (refl, h))
ok_and (Err f) P h = absurd h

with_some : (es : List Entry) (pass : ℕ) (u : UploadData) (new : List Column) → 1 ≤ length new → with_new es pass u new ≡ es ++ entry_with pass u new ∷ []
with_some es pass u [] h = absurd (omega (arith, h))
with_some es pass u (c ∷ cs) h = refl

pub law : LawOfApplying
law shape room es pass u =
    let rs = records es in
    let new = new_columns (content_in rs) u.columns in
    record {
      refused = λ f h. let d = masked_err (mask_of (map (is_new (content_in rs)) u.columns)) (decide shape room rs u) f h in (d, ap (after_decision es pass u) d);
      known = λ h.
          let c = checked_ok shape room rs u 0 h in
          let none : new ≡ [] = no_bit (is_new (content_in rs)) u.columns c.mask in
          let d : decide shape room rs u ≡ Ok [] = c.decided ∙ ap (λ (x : List Column). Ok x) none in
          (d, ap (after_decision es pass u) d);
      stored = λ m low h.
          let c = checked_ok shape room rs u m h in
          let some = some_bit (is_new (content_in rs)) u.columns (subst (λ n. 0 < n) (sym c.mask) low) in
          (c.decided, ap (after_decision es pass u) c.decided ∙ with_some es pass u new some);
    }
