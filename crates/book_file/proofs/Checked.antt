-- What a check of a record says.
use Rattle.std.proofs.Common.{◌≡◌, ℕ, suc, ◌+◌, ◌*◌, ◌^◌, ◌≤◌, Bool, true, false, cond, List, [], ◌∷◌, length, map, Result, Ok, Err, refl}
use Rattle.std.proofs.Common.{sym, ◌∙◌, ap, subst, arith}
use Rattle.std.specs.Prelude.{filter, is_none, slice_index_or, if◌then◌else◌}
use Rattle.std.specs.List.{AllByRecursion}
use Rattle.std.proofs.lemmas.List.Elements.{All-from_recursion}
use Rattle.lg_model.specs.declared.column.Dims.{Dims}
use Rattle.lg_model.specs.declared.column.Key.{Key}
use Rattle.lg_model.specs.Placing.{Shape}
use Rattle.lg_model.specs.Columns.{Column, dims_of}
use Rattle.lg_model.specs.Answer.{found}
use Rattle.sketchlet_wire.specs.Uploads.{UploadData, no_column}
use Rattle.column_book.specs.declared.entry.Entry.{Entry}
use Rattle.column_book.specs.declared.fault.BookFault.{BookFault}
use Rattle.column_book.specs.declared.fault.BookFault.TheVariants.{WrongShape, Conflict, Full}
use Rattle.column_book.specs.Entries.{records, columns_in, content_in}
use Rattle.column_book.specs.Applying.{is_new, new_columns, mask_of, checked}
use Rattle.column_book.specs.Outcomes.{Follows, HasRoomFor, IsPastRoom}
use Rattle.column_book.proofs.Applying.{checked_ok, law}
use Rattle.column_book.proofs.Outcomes.{law as outcomes}
use Rattle.book_file.proofs.Apart.{AreNew, pass_all}

-- ---- masks and counts of new columns

double : (n : ℕ) → 2 ^ suc n ≡ 2 * 2 ^ n
double n = omega arith

pub all_bits : (p : Column → Bool) (cs : List Column) → AllByRecursion (λ c. p c ≡ true) cs → mask_of (map p cs) + 1 ≡ 2 ^ length cs
all_bits p [] all = refl
all_bits p (c ∷ cs) all = let rest = all_bits p cs all.1 in rw (all.0) (omega (arith, rest, double (length cs)))

pub bits_all : (p : Column → Bool) (cs : List Column) → mask_of (map p cs) + 1 ≡ 2 ^ length cs → AllByRecursion (λ c. p c ≡ true) cs
bits_all p [] h = tt
bits_all p (c ∷ cs) h =
    (elim (p c) as (λ b. p c ≡ b → (if b then 1 else 0) + 2 * mask_of (map p cs) + 1 ≡ 2 ^ length (c ∷ cs)
    → AllByRecursion (λ x. p x ≡ true) (c ∷ cs)) [
      | true ↦ λ yes e. (yes, bits_all p cs (omega (arith, e, double (length cs))))
      | false ↦ λ no e. absurd (omega (arith, e, double (length cs)))
    ]) refl h

fewer : (p : Column → Bool) (cs : List Column) → length (filter p cs) ≤ length cs
fewer p [] = omega arith
fewer p (c ∷ cs) = let rest = fewer p cs in (elim (p c) as (λ b. length (cond b (c ∷ filter p cs) (filter p cs)) ≤ length (c ∷ cs)) [
  | true ↦ omega (arith, rest)
  | false ↦ omega (arith, rest)
])

pub count_all : (p : Column → Bool) (cs : List Column) → length (filter p cs) ≡ length cs → AllByRecursion (λ c. p c ≡ true) cs
count_all p [] h = tt
count_all p (c ∷ cs) h = let few = fewer p cs in
    (elim (p c) as (λ b. p c ≡ b → length (cond b (c ∷ filter p cs) (filter p cs)) ≡ length (c ∷ cs)
    → AllByRecursion (λ x. p x ≡ true) (c ∷ cs)) [
      | true ↦ λ yes e. (yes, count_all p cs (omega (arith, e)))
      | false ↦ λ no e. absurd (omega (arith, few, e))
    ]) refl h

-- ---- what follows from a check

room_left : (shape : Shape) (room : ℕ) (rs : List UploadData) (u : UploadData) (new : List Column) → Follows shape room rs u (Ok new)
    → HasRoomFor shape room rs u
room_left shape room rs u [] f = f.taken
room_left shape room rs u (c ∷ cs) f = f.taken

module _ (shape : Shape) (room : ℕ) (es : List Entry) (u : UploadData) where
  abbrev rs : List UploadData
  rs = records es

  abbrev new : Column → Bool
  new = is_new (content_in rs)

  abbrev AllNew : Type 0
  AllNew = AreNew (columns_in rs) u.columns

  -- all bits of a mask are set exactly where all columns are new, and then there is room for them
  module _ (m : ℕ) (is : checked shape room rs u ≡ Ok m) where
    pub full_mask : m + 1 ≡ 2 ^ length u.columns → AllNew
    full_mask h = bits_all new u.columns (omega (arith, (checked_ok shape room rs u m is).mask, h))

    pub mask_full : AllNew → m + 1 ≡ 2 ^ length u.columns
    mask_full all = omega (arith, (checked_ok shape room rs u m is).mask, all_bits new u.columns all)

    pub has_room : AllNew → length (columns_in rs) + length u.columns ≤ room
    has_room all =
        let c = checked_ok shape room rs u m is in
        let f = subst (λ (d : Result (List Column) BookFault). Follows shape room rs u d) c.decided (outcomes shape room rs u) in
        let left = room_left shape room rs u (new_columns (content_in rs) u.columns) f in
        omega (arith, left.room_left, ap length (pass_all new u.columns all))

  refusal : (f : BookFault) → checked shape room rs u ≡ Err f → Follows shape room rs u (Err f)
  refusal f is =
      subst (λ (d : Result (List Column) BookFault). Follows shape room rs u d) ((law shape room es 0 u).refused f is).0
      (outcomes shape room rs u)

  -- where the room is too small, all columns are new exactly where as many as there are have none
  module _ (held more : ℕ) (is : checked shape room rs u ≡ Err (Full held more)) where
    pub past_room : IsPastRoom shape room rs u held more
    past_room = refusal (Full held more) is

    pub full_count : more ≡ length u.columns → AllNew
    full_count h = count_all new u.columns (omega (arith, past_room.brings, h))

    pub count_full : AllNew → more ≡ length u.columns
    count_full all = omega (arith, past_room.brings, ap length (pass_all new u.columns all))

  -- a column in conflict isn't new, and one of another size isn't there
  pub no_conflict : (key : Key) (kept came : Column) → checked shape room rs u ≡ Err (Conflict key kept came) → AllNew → ⊥
  no_conflict key kept came is all =
      let f = refusal (Conflict key kept came) is in
      let one : is_new (content_in rs) (slice_index_or u.columns f.at no_column) ≡ true =
      All-from_recursion (λ c. new c ≡ true) u.columns all f.at no_column f.inside in
      let here : is_none (found (content_in rs) key) ≡ true =
      ap (λ (k : Key). is_none (found (content_in rs) k)) (sym (ap (λ (c : Column). c.key) f.is ∙ f.under)) ∙ one in
      absurd (cc)

  pub no_misfit : (kept came : Dims) → checked shape room rs u ≡ Err (WrongShape kept came)
      → AllByRecursion (λ (c : Column). c.dims ≡ dims_of shape) u.columns → ⊥
  no_misfit kept came is sized =
      let f = refusal (WrongShape kept came) is in
      f.1.0.other (ap (λ (c : Column). c.dims) (sym f.1.0.is)
      ∙ All-from_recursion (λ (c : Column). c.dims ≡ dims_of shape) u.columns sized f.1.0.at no_column f.1.0.inside)
