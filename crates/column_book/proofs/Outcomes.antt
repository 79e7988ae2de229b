-- What follows from each answer to an upload.
use Rattle.std.specs.Prelude.{◌≡◌, ◌≢◌, ℕ, suc, ◌+◌, ◌<◌, ◌≤◌, true, false, nat_lt, cond, List, [], ◌∷◌, length, take, Option, None, Some, IfSome, Ok, Err, slice_index_or, if◌then◌else◌}
use Rattle.std.specs.List.{AllByRecursion}
use Rattle.std.specs.Option.{option_or}
use Rattle.std.proofs.Common.{refl, sym, ◌∙◌, subst, arith, ltb-true, ltb-false}
use Rattle.std.proofs.lemmas.List.Elements.{All-from_recursion}
use Rattle.lg_model.specs.declared.column.Dims.{Dims}
use Rattle.lg_model.specs.Placing.{Shape}
use Rattle.lg_model.specs.Columns.{Cells, Column, dims_of}
use Rattle.lg_model.specs.Answer.{Content, found}
use Rattle.sketchlet_wire.specs.Uploads.{UploadData, no_column}
use Rattle.column_book.specs.declared.fault.BookFault.{BookFault}
use Rattle.column_book.specs.declared.fault.BookFault.TheVariants.{WrongShape, Conflict, Full}
use Rattle.column_book.specs.Entries.{columns_in, content_in}
use Rattle.column_book.specs.Applying.{new_columns, same_dims, same_cells, misfit, differs, conflict, column_with, first_fault, full, or_fault}
use Rattle.column_book.specs.Outcomes.{IsSized, IsSame, IsMisshapen, IsConflict, IsFitting, IsPastRoom, HasRoomFor, Follows, LawOfOutcomes}
use Rattle.column_book.proofs.Faults.{Faulty, same_dims-Decides, same_cells-Decides, all_fit}

all_weaker : (P Q : Column → Type 0) → ((c : Column) → P c → Q c) → (cs : List Column) → AllByRecursion P cs → AllByRecursion Q cs
all_weaker P Q f [] all = tt
all_weaker P Q f (c ∷ cs) all = (f c all.0, all_weaker P Q f cs all.1)

-- the first fault is that of a column, and no earlier one has one
record IsFirst (f : Faulty) (cs : List Column) (x : BookFault) : Type 0 where
  at : ℕ
  inside : at < length cs
  is : f (slice_index_or cs at no_column) ≡ Some x
  first : AllByRecursion (λ (c : Column). f c ≡ None) (take at cs)

first_is : (f : Faulty) (cs : List Column) (x : BookFault) → first_fault f cs ≡ Some x → IsFirst f cs x
first_is f [] x h = absurd (cc)
first_is f (c ∷ cs) x h = (elim (f c) as (λ (o : Option BookFault). f c ≡ o → option_or o (first_fault f cs) ≡ Some x → IsFirst f (c ∷ cs) x) [
  | None ↦ λ none rest. let r = first_is f cs x rest in let low = r.inside in record { at = suc r.at; inside = omega (arith, low); is = r.is; first = (none, r.first) }
  | Some y ↦ λ some here. record { at = 0; inside = omega arith; is = some ∙ here; first = tt }
]) refl h

none_all : (f : Faulty) (cs : List Column) → first_fault f cs ≡ None → AllByRecursion (λ (c : Column). f c ≡ None) cs
none_all f [] h = tt
none_all f (c ∷ cs) h = (elim (f c) as (λ (o : Option BookFault). f c ≡ o → option_or o (first_fault f cs) ≡ None → AllByRecursion (λ (x : Column). f x ≡ None) (c ∷ cs)) [
  | None ↦ λ none rest. (none, none_all f cs rest)
  | Some y ↦ λ some rest. absurd (cc)
]) refl h

-- ---- the fault of one column

fits_none : (dims : Dims) (c : Column) → misfit dims c ≡ None → c.dims ≡ dims
fits_none dims c h = (elim (same_dims c.dims dims) as (λ b. same_dims c.dims dims ≡ b → cond b None (Some (WrongShape dims c.dims)) ≡ None → c.dims ≡ dims) [
  | true ↦ λ same none. (same_dims-Decides c.dims dims).0 same
  | false ↦ λ same none. absurd (cc)
]) refl h

misfit_some : (dims : Dims) (c : Column) (x : BookFault) → misfit dims c ≡ Some x → (c.dims ≢ dims) × (x ≡ WrongShape dims c.dims)
misfit_some dims c x h =
    (elim (same_dims c.dims dims) as (λ b. same_dims c.dims dims ≡ b → cond b None (Some (WrongShape dims c.dims)) ≡ Some x → (c.dims ≢ dims) × (x ≡ WrongShape dims c.dims)) [
      | true ↦ λ same none. absurd (cc)
      | false ↦ λ other some. ((λ e. let same = (same_dims-Decides c.dims dims).1 e in absurd (cc)), cc)
    ]) refl h

same_none : (dims : Dims) (m : Content) (c : Column) → conflict dims m c ≡ None → IsSame m c
same_none dims m c h = (elim (found m c.key) as (λ (o : Option Cells). differs dims c o ≡ None → IfSome o (λ v. v ≡ c.cells)) [
  | None ↦ λ none. tt
  | Some v ↦ λ none. (elim (same_cells v c.cells) as (λ b. same_cells v c.cells ≡ b → cond b None (Some (Conflict c.key (column_with c.key dims v) c)) ≡ None → v ≡ c.cells) [
    | true ↦ λ same g. (same_cells-Decides v c.cells).0 same
    | false ↦ λ same g. absurd (cc)
  ]) refl none
]) h

record Differs (dims : Dims) (c : Column) (o : Option Cells) (x : BookFault) : Type 0 where
  kept : Cells
  has : o ≡ Some kept
  other : kept ≢ c.cells
  is : x ≡ Conflict c.key (column_with c.key dims kept) c

conflict_some : (dims : Dims) (c : Column) (o : Option Cells) (x : BookFault) → differs dims c o ≡ Some x → Differs dims c o x
conflict_some dims c None x h = absurd (cc)
conflict_some dims c (Some v) x h =
    (elim (same_cells v c.cells) as (λ b. same_cells v c.cells ≡ b → cond b None (Some (Conflict c.key (column_with c.key dims v) c)) ≡ Some x → Differs dims c (Some v) x) [
      | true ↦ λ same g. absurd (cc)
      | false ↦ λ apart g. record { kept = v; has = refl; other = λ e. let same = (same_cells-Decides v c.cells).1 e in absurd (cc); is = cc }
    ]) refl h

full_some : (room held more : ℕ) (x : BookFault) → full room held more ≡ Some x → (room < held + more) × (x ≡ Full held more)
full_some room held more x h =
    (elim (nat_lt room (held + more)) as (λ b. nat_lt room (held + more) ≡ b → (if b then Some (Full held more) else None) ≡ Some x → (room < held + more) × (x ≡ Full held more)) [
      | true ↦ λ low g. (ltb-true _ _ low, cc)
      | false ↦ λ low g. absurd (cc)
    ]) refl h

full_none : (room held more : ℕ) → full room held more ≡ None → held + more ≤ room
full_none room held more h = (elim (nat_lt room (held + more)) as (λ b. nat_lt room (held + more) ≡ b → (if b then Some (Full held more) else None) ≡ None → held + more ≤ room) [
  | true ↦ λ low none. absurd (cc)
  | false ↦ λ low none. omega (arith, ltb-false _ _ low)
]) refl h

-- ---- the law

module _ (shape : Shape) (room : ℕ) (rs : List UploadData) (u : UploadData) where
  abbrev dims : Dims
  dims = dims_of shape

  abbrev m : Content
  m = content_in rs

  abbrev new : List Column
  new = new_columns m u.columns

  sized : first_fault (misfit dims) u.columns ≡ None → (cs : List Column) → AllByRecursion (λ (c : Column). misfit dims c ≡ None) cs → AllByRecursion (IsSized shape) cs
  sized h cs all = all_weaker (λ (c : Column). misfit dims c ≡ None) (IsSized shape) (fits_none dims) cs all

  all_sized : first_fault (misfit dims) u.columns ≡ None → AllByRecursion (IsSized shape) u.columns
  all_sized h = all_fit dims u.columns h

  misshapen : (x : BookFault) → first_fault (misfit dims) u.columns ≡ Some x → Follows shape room rs u (Err x)
  misshapen x h =
      let r = first_is (misfit dims) u.columns x h in
      let c = slice_index_or u.columns r.at no_column in
      let some = misfit_some dims c x r.is in
      let first = all_weaker (λ (y : Column). misfit dims y ≡ None) (IsSized shape) (fits_none dims) (take r.at u.columns) r.first in
      let told : IsMisshapen shape u c = record { at = r.at; inside = r.inside; is = refl; other = some.0; first = All-from_recursion (IsSized shape) (take r.at u.columns) first } in
      subst (λ (y : BookFault). Follows shape room rs u (Err y)) (sym some.1) (c, (told, (refl, refl)))

  conflicting : first_fault (misfit dims) u.columns ≡ None → (x : BookFault) → first_fault (conflict dims m) u.columns ≡ Some x → Follows shape room rs u (Err x)
  conflicting fit x h =
      let r = first_is (conflict dims m) u.columns x h in
      let c = slice_index_or u.columns r.at no_column in
      let some = conflict_some dims c (found m c.key) x r.is in
      let first = all_weaker (λ (y : Column). conflict dims m y ≡ None) (IsSame m) (same_none dims m) (take r.at u.columns) r.first in
      let told : IsConflict shape rs u c.key (column_with c.key dims some.kept) c = record {
        sized = All-from_recursion (IsSized shape) u.columns (all_sized fit);
        at = r.at;
        inside = r.inside;
        is = refl;
        under = refl;
        has = some.has;
        named = (refl, refl);
        other = some.other;
        first = All-from_recursion (IsSame m) (take r.at u.columns) first;
      } in
      subst (λ (y : BookFault). Follows shape room rs u (Err y)) (sym some.is) told

  fitting : first_fault (misfit dims) u.columns ≡ None → first_fault (conflict dims m) u.columns ≡ None → IsFitting shape rs u
  fitting fit same = record {
    sized = All-from_recursion (IsSized shape) u.columns (all_sized fit);
    same = All-from_recursion (IsSame m) u.columns (all_weaker (λ (c : Column). conflict dims m c ≡ None) (IsSame m) (same_none dims m) u.columns (none_all (conflict dims m) u.columns same));
  }

  past : IsFitting shape rs u → (x : BookFault) → full room (length (columns_in rs)) (length new) ≡ Some x → Follows shape room rs u (Err x)
  past fit x h =
      let some = full_some room (length (columns_in rs)) (length new) x h in
      let told : IsPastRoom shape room rs u (length (columns_in rs)) (length new) = record { fitting = fit; has = refl; brings = refl; over = some.0 } in
      subst (λ (y : BookFault). Follows shape room rs u (Err y)) (sym some.1) told

  kept : HasRoomFor shape room rs u → (n : List Column) → new ≡ n → Follows shape room rs u (Ok n)
  kept has [] is = record { taken = has; none = is }
  kept has (c ∷ cs) is = record { taken = has; some = omega arith; is = sym is }

  by : (a b c : Option BookFault) → first_fault (misfit dims) u.columns ≡ a → first_fault (conflict dims m) u.columns ≡ b → full room (length (columns_in rs)) (length new) ≡ c →
      Follows shape room rs u (or_fault a (or_fault b (or_fault c (Ok new))))
  by (Some x) b c is_a is_b is_c = misshapen x is_a
  by None (Some x) c is_a is_b is_c = conflicting is_a x is_b
  by None None (Some x) is_a is_b is_c = past (fitting is_a is_b) x is_c
  by None None None is_a is_b is_c = kept (record { fitting = fitting is_a is_b; room_left = full_none room (length (columns_in rs)) (length new) is_c }) new refl

pub law : LawOfOutcomes
law shape room rs u =
    by shape room rs u (first_fault (misfit (dims_of shape)) u.columns) (first_fault (conflict (dims_of shape) (content_in rs)) u.columns)
    (full room (length (columns_in rs)) (length (new_columns (content_in rs) u.columns))) refl refl refl
