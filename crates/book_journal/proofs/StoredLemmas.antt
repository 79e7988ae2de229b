-- The record that is stored for an upload.
use Rattle.std.proofs.Common.{◌≡◌, ℕ, ◌+◌, ◌<◌, ◌≤◌, ◌^◌, Bool, true, false, cond, List, [], ◌∷◌, ◌++◌, length, Result, Ok, sym, ap, subst}
use Rattle.std.proofs.Common.{arith, length-append}
use Rattle.std.specs.Prelude.{filter, IsOkAnd}
use Rattle.std.specs.List.{AllByRecursion, IsDistinct}
use Rattle.std.proofs.lemmas.List.{map-append}
use Rattle.std.proofs.lemmas.List.Elements.{recursion_from_All, filter_passes}
use Rattle.lg_model.specs.declared.column.Dims.{Dims}
use Rattle.lg_model.specs.Placing.{Shape}
use Rattle.lg_model.specs.Columns.{Column, dims_of}
use Rattle.sketchlet_wire.specs.ShapeFields.{FitsShape}
use Rattle.sketchlet_wire.specs.Spelling.{IsColumn}
use Rattle.sketchlet_wire.specs.Uploads.{UploadData, IsFull, same_column_key}
use Rattle.column_book.specs.declared.entry.Entry.{Entry}
use Rattle.column_book.specs.declared.fault.BookFault.{BookFault}
use Rattle.column_book.specs.declared.book.TheConstants.{ROOM}
use Rattle.column_book.specs.Entries.{records, columns_in, content}
use Rattle.column_book.specs.Kept.{keys_of}
use Rattle.column_book.specs.Applying.{is_new, new_columns, decide, checked, stored_entry, IsAddable}
use Rattle.column_book.specs.Outcomes.{IsSized, HasRoomFor, Follows}
use Rattle.column_book.proofs.Applying.{checked_ok, some_bit}
use Rattle.column_book.proofs.Outcomes as outcomes
use Rattle.column_book.proofs.Stored.{distinct_new}
use Rattle.book_file.specs.File.{body, front, IsColumnOf, IsRecord, AreRecords}
use Rattle.book_file.specs.Found.{count_of}
use Rattle.book_file.proofs.Apart.{all_push, apart_join}
use Rattle.book_file.proofs.Law.{lengths}
use Rattle.book_file.proofs.OneAnswer.{columns_push}
use Rattle.book_file.proofs.Stepping.{front_push}

pub records_push : (es : List Entry) (e : Entry) → records (es ++ e ∷ []) ≡ records es ++ e.stored ∷ []
records_push es e = map-append (λ (x : Entry). x.stored) es (e ∷ [])

filter_few : (p : Column → Bool) (cs : List Column) → length (filter p cs) ≤ length cs
filter_few p [] = omega arith
filter_few p (c ∷ cs) =
    elim (p c) as (λ (b : Bool). length (cond b (c ∷ filter p cs) (filter p cs)) ≤ length (c ∷ cs)) [
      | true ↦ omega (arith, filter_few p cs)
      | false ↦ omega (arith, filter_few p cs)
    ]

filter_fits : (p : Column → Bool) (dims : Dims) (cs : List Column) → AllByRecursion IsColumn cs
    → AllByRecursion (λ (c : Column). c.dims ≡ dims) cs
    → AllByRecursion (IsColumnOf dims) (filter p cs)
filter_fits p dims [] a b = tt
filter_fits p dims (c ∷ cs) a b =
    elim (p c) as (λ (x : Bool). AllByRecursion (IsColumnOf dims) (cond x (c ∷ filter p cs) (filter p cs))) [
      | true ↦ (record { column = a.0; sized = b.0 }, filter_fits p dims cs a.1 b.1)
      | false ↦ filter_fits p dims cs a.1 b.1
    ]

module _ (shape : Shape) (room : ℕ) (es : List Entry) (pass : ℕ) (u : UploadData) (mask : ℕ)
    (is : checked shape room (records es) u ≡ Ok mask)
    (more : mask ≡ 0 → ⊥) where
  abbrev fresh : List Column
  fresh = new_columns (content es) u.columns

  abbrev r : UploadData
  r = (stored_entry pass es u).stored

  pub decides : decide shape room (records es) u ≡ Ok fresh
  decides = (checked_ok shape room (records es) u mask is).decided

  pub addable : IsAddable shape room (records es) u
  addable = subst (λ (x : Result ℕ BookFault). IsOkAnd x (λ m. 0 < m)) (sym is) (omega (arith, more))

  pub some : 1 ≤ length fresh
  some = some_bit (is_new (content es)) u.columns (omega (arith, (checked_ok shape room (records es) u mask is).mask, more))

  has_room : HasRoomFor shape room (records es) u
  has_room = pick fresh some (subst (Follows shape room (records es) u) decides (outcomes.law shape room (records es) u))
    where
      pick : (cs : List Column) → 1 ≤ length cs → Follows shape room (records es) u (Ok cs) → HasRoomFor shape room (records es) u
      pick [] h f = absurd (omega (arith, h))
      pick (c ∷ cs) h f = f.taken

  pub few : count_of (records es ++ r ∷ []) ≤ room
  few = omega (arith, has_room.room_left, ap length (columns_push (records es) r), length-append (columns_in (records es)) fresh)

  module _ (full : IsFull u) (old : AreRecords (dims_of shape) (records es)) where
    fits : IsRecord (dims_of shape) r
    fits = record {
      host = full.host;
      seq = full.seq;
      some = some;
      few = omega (arith, filter_few (is_new (content es)) u.columns, full.columns.few);
      each = filter_fits (is_new (content es)) (dims_of shape) u.columns full.each
          (recursion_from_All (IsSized shape) u.columns has_room.fitting.sized);
    }

    pub next : AreRecords (dims_of shape) (records es ++ r ∷ [])
    next = record {
      each = all_push (IsRecord (dims_of shape)) (records es) r old.each fits;
      apart = subst (λ (cs : List Column). IsDistinct same_column_key (keys_of cs)) (sym (columns_push (records es) r))
          (apart_join (columns_in (records es)) fresh old.apart (distinct_new (is_new (content es)) u.columns full.columns.apart)
          (recursion_from_All (λ c. is_new (content es) c ≡ true) fresh (filter_passes (is_new (content es)) u.columns)));
    }

    pub in_range : (end : ℕ) (put : List ℕ) → end ≡ length (front shape (records es)) → room ≤ ROOM → FitsShape shape
        → put ≡ body r ++ 0 ∷ []
        → end + 1 + length put ≤ 2 ^ 40
    in_range end put place small shape_fits puts =
        omega (
          arith,
          place,
          small,
          few,
          lengths shape (records es ++ r ∷ []) shape_fits next,
          ap length (front_push shape (records es) r),
          length-append
              (front shape (records es)) (1 ∷ body r),
          ap length puts,
          length-append (body r) (0 ∷ []),
        )
