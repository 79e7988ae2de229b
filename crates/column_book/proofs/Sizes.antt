-- How many keys a content has.
use Rattle.std.specs.Prelude.{◌≡◌, ℕ, ◌+◌, false, cond, List, [], ◌∷◌, map, length, fold, None, Some}
use Rattle.std.specs.List.{AllByRecursion, IsDistinct}
use Rattle.std.specs.Option.{unwrap_or}
use Rattle.std.specs.Ordering.{match_ordering, is_eq}
use Rattle.std.specs.declared.cmp.Ordering.TheVariants.{Less, Equal, Greater}
use Rattle.std.specs.BTreeMap.{insert_entry}
use Rattle.std.proofs.Common.{refl, ap, ◌∙◌, arith}
use Rattle.std.proofs.lemmas.Map.Keys.{IsDistinct-head, IsDistinct-tail}
use Rattle.lg_model.specs.declared.column.Dims.{Dims}
use Rattle.lg_model.specs.declared.column.Key.{Key}
use Rattle.lg_model.specs.Answer.{key_cmp, Content, with_column, content_of, found}
use Rattle.lg_model.specs.Columns.{Cells, Column, cells_of}
use Rattle.sketchlet_wire.specs.Uploads.{same_column_key}
use Rattle.column_book.specs.declared.head.Row.{Row}
use Rattle.column_book.specs.Blocks.{Made}
use Rattle.column_book.specs.Entries.{content}
use Rattle.column_book.specs.Kept.{shelf, entries_of, IsKept}
use Rattle.column_book.proofs.Keys.{is_at_key, same_column_key-flip}
use Rattle.column_book.proofs.Contents.{column_by, found-insert}
use Rattle.column_book.proofs.Cuts.{columns_kept}

-- a key that wasn't there makes one more
length_insert : (m : Content) (k : Key) (v : Cells) → found m k ≡ None → length (insert_entry key_cmp m k v) ≡ length m + 1
length_insert [] k v none = omega arith
length_insert (e ∷ m) k v none =
    (elim (key_cmp k e.0) as (λ o. cond (is_eq o) (Some e.1) (found m k) ≡ None → length (match_ordering o ((k, v) ∷ e ∷ m) ((e.0, v) ∷ m) (e ∷ insert_entry key_cmp m k v)) ≡ length (e ∷ m) + 1) [
      | Less ↦ λ h. omega arith
      | Equal ↦ λ h. absurd (cc)
      | Greater ↦ λ h. let rest = length_insert m k v h in omega (arith, rest)
    ]) none

none_still : (dims : Dims) (f : Key → Cells) (k : Key) (m : Content) (ks : List Key) → AllByRecursion (λ (q : Key). same_column_key k q ≡ false) ks → AllByRecursion (λ (q : Key). found m q ≡ None) ks →
    AllByRecursion (λ (q : Key). found (with_column m (column_by dims f k)) q ≡ None) ks
none_still dims f k m [] apart none = tt
none_still dims f k m (q ∷ qs) apart none = (
  found-insert m k q (f k) ∙ ap (λ b. cond b (Some (f k)) (found m q)) (is_at_key q k ∙ same_column_key-flip q k ∙ apart.0) ∙ none.0,
  none_still dims f k m qs apart.1 none.1,
)

size_columns : (dims : Dims) (f : Key → Cells) (ks : List Key) (m : Content) → IsDistinct same_column_key ks → AllByRecursion (λ (q : Key). found m q ≡ None) ks →
    length (fold with_column m (map (column_by dims f) ks)) ≡ length m + length ks
size_columns dims f [] m apart none = omega arith
size_columns dims f (k ∷ ks) m apart none =
    let rest = size_columns dims f ks (with_column m (column_by dims f k)) (IsDistinct-tail same_column_key k ks apart) (none_still dims f k m ks (IsDistinct-head same_column_key k ks apart) none.1) in
    let one = length_insert m k (f k) none.0 in
    omega (arith, rest, one)

all_none : (ks : List Key) → AllByRecursion (λ (q : Key). found [] q ≡ None) ks
all_none [] = tt
all_none (k ∷ ks) = (refl, all_none ks)

-- the content of a book has as many keys as the book has columns
pub size_content : {width room a b : ℕ} {ready : List Key} (dims : Dims) (es : Made) (keys : List Key) (rows : List Row) → IsKept width room es keys rows ready a b →
    length (content (entries_of dims (shelf dims.rows es) keys rows)) ≡ length keys
size_content dims es keys rows h =
    let look = shelf dims.rows es in
    ap (λ (cs : List Column). length (content_of cs)) (columns_kept dims look keys rows h.cut)
    ∙ size_columns dims (λ k. unwrap_or (look k) (cells_of [])) keys [] h.known.apart (all_none keys)
    ∙ (omega arith)
