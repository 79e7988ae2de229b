-- Records that are added to a book that has none of their keys.
use Rattle.std.proofs.Common.{◌≡◌, ℕ, ◌+◌, ◌<◌, ◌≤◌, Bool, true, false, List, [], ◌∷◌, length, map, Option, None, Some, Result, Ok, refl}
use Rattle.std.proofs.Common.{sym, ◌∙◌, ap, subst, arith}
use Rattle.std.specs.Prelude.{is_none, nat_lt, IsOkAnd, if◌then◌else◌}
use Rattle.std.specs.List.{AllByRecursion}
use Rattle.std.proofs.lemmas.Bool.{le-ltb}
use Rattle.lg_model.specs.declared.column.Dims.{Dims}
use Rattle.lg_model.specs.Placing.{Shape}
use Rattle.lg_model.specs.Columns.{Cells, Column, dims_of}
use Rattle.lg_model.specs.Answer.{Content, found}
use Rattle.sketchlet_wire.specs.Uploads.{UploadData}
use Rattle.column_book.specs.declared.fault.BookFault.{BookFault}
use Rattle.column_book.specs.declared.fault.BookFault.TheVariants.{Full}
use Rattle.column_book.specs.Entries.{columns_in, content_in}
use Rattle.column_book.specs.Applying.{is_new, new_columns, misfit, differs, conflict, first_fault, full, or_fault, decide, mask_of, masked}
use Rattle.column_book.specs.Applying.{same_dims, IsAddable}
use Rattle.column_book.proofs.Faults.{same_dims-Decides}
use Rattle.book_file.proofs.Apart.{pass_all, all_map}

no_fault : (f : Column → Option BookFault) (cs : List Column) → AllByRecursion (λ c. f c ≡ None) cs → first_fault f cs ≡ None
no_fault f [] all = refl
no_fault f (c ∷ cs) all = rw (all.0) (no_fault f cs all.1)

sized_fits : (dims : Dims) (c : Column) → c.dims ≡ dims → misfit dims c ≡ None
sized_fits dims c h = let same : same_dims c.dims dims ≡ true = (same_dims-Decides c.dims dims).1 h in rw same refl

new_agrees : (dims : Dims) (m : Content) (c : Column) → is_new m c ≡ true → conflict dims m c ≡ None
new_agrees dims m c h =
    (elim (found m c.key) as (λ (o : Option Cells). is_none o ≡ true → differs dims c o ≡ None) [
      | None ↦ λ e. refl
      | Some v ↦ λ e. absurd (cc)
    ]) h

some_new : (p : Column → Bool) (cs : List Column) → 1 ≤ length cs → AllByRecursion (λ c. p c ≡ true) cs → 0 < mask_of (map p cs)
some_new p [] some all = absurd (omega (arith, some))
some_new p (c ∷ cs) some all = rw (all.0) (omega arith)

-- a record may be added where all its columns are new and there is room for them
pub addable : (shape : Shape) (room : ℕ) (rs : List UploadData) (u : UploadData)
    → AllByRecursion (λ (c : Column). c.dims ≡ dims_of shape) u.columns → AllByRecursion (λ c. is_new (content_in rs) c ≡ true) u.columns
    → 1 ≤ length u.columns → length (columns_in rs) + length u.columns ≤ room → IsAddable shape room rs u
addable shape room rs u sized new some le =
    let m = content_in rs in
    let dims = dims_of shape in
    let cs = u.columns in
    let one : first_fault (misfit dims) cs ≡ None =
    no_fault (misfit dims) cs (all_map (λ (c : Column). c.dims ≡ dims) (λ c. misfit dims c ≡ None) (sized_fits dims) cs sized) in
    let two : first_fault (conflict dims m) cs ≡ None =
    no_fault (conflict dims m) cs (all_map (λ c. is_new m c ≡ true) (λ c. conflict dims m c ≡ None) (new_agrees dims m) cs new) in
    let count : length (new_columns m cs) ≡ length cs = ap length (pass_all (is_new m) cs new) in
    let held = length (columns_in rs) in
    let more = length (new_columns m cs) in
    let fits : nat_lt room (held + more) ≡ false = le-ltb room (held + more) (omega (arith, le, count)) in
    let three : full room held more ≡ None = ap (λ (b : Bool). if b then Some (Full held more) else None) fits in
    let last : Result (List Column) BookFault = Ok (new_columns m cs) in
    let decided : decide shape room rs u ≡ last =
    ap (λ (o : Option BookFault). or_fault o (or_fault (first_fault (conflict dims m) cs) (or_fault (full room held more) last))) one
    ∙ ap (λ (o : Option BookFault). or_fault o (or_fault (full room held more) last)) two
    ∙ ap (λ (o : Option BookFault). or_fault o last) three in
    subst (λ (d : Result (List Column) BookFault). IsOkAnd (masked (mask_of (map (is_new m) cs)) d) (λ k. 0 < k)) (sym decided)
    (some_new (is_new m) cs some new)
