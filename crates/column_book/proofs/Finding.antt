-- What is found under a key.
use Rattle.std.specs.Prelude.{◌≡◌, ℕ, ◌<◌, true, false, ◌||◌, List, [], ◌∷◌, Option, None, Some, is_some, IfSome, MatchOption}
use Rattle.std.specs.List.{list_any, AllByRecursion}
use Rattle.std.specs.Option.{option_map}
use Rattle.std.proofs.Common.{refl, sym, ap, ◌∙◌, subst}
use Rattle.lg_model.specs.declared.column.Bucket.{Bucket}
use Rattle.lg_model.specs.declared.column.Dims.{Dims}
use Rattle.lg_model.specs.declared.column.Key.{Key}
use Rattle.lg_model.specs.Answer.{found}
use Rattle.sketchlet_wire.specs.Spelling.{IsDims, IsAdmitted}
use Rattle.lg_model.specs.Columns.{Cells, Column}
use Rattle.sketchlet_wire.specs.Uploads.{same_column_key}
use Rattle.column_book.specs.declared.head.Row.{Row}
use Rattle.column_book.specs.Blocks.{Made, kept_at}
use Rattle.column_book.specs.Entries.{content}
use Rattle.column_book.specs.Kept.{shelf, entries_of, IsKept}
use Rattle.column_book.proofs.Keys.{one_key}
use Rattle.column_book.proofs.Cuts.{found_kept, on_shelf}

-- what holds of all keys of a list holds of one that is among them
pub holds_of_member : (P : Key → Type 0) (keys : List Key) (k : Key) → AllByRecursion P keys → list_any (same_column_key k) keys ≡ true → P k
holds_of_member P [] k all any = absurd (cc)
holds_of_member P (q ∷ qs) k all any = (elim (same_column_key k q) as (λ b. same_column_key k q ≡ b → (b || list_any (same_column_key k) qs) ≡ true → P k) [
  | true ↦ λ h g. subst P (sym (one_key k q h)) all.0
  | false ↦ λ h g. holds_of_member P qs k all.1 g
]) refl any

-- the content of a book is what its blocks keep
pub found_in_book : {width room key_room row_room : ℕ} {ready : List Key} (dims : Dims) (es : Made) (keys : List Key) (rows : List Row) →
    IsKept width room es keys rows ready key_room row_room → (k : Key) → found (content (entries_of dims (shelf dims.rows es) keys rows)) k ≡ shelf dims.rows es k
found_in_book dims es keys rows h k = found_kept dims (shelf dims.rows es) keys rows h.cut (λ (q : Key). on_shelf dims.rows es q ∙ h.known.there q) k

-- the key of a kept column has an index below the width
pub index_inside : {width room key_room row_room : ℕ} {ready : List Key} (es : Made) (keys : List Key) (rows : List Row) →
    IsKept width room es keys rows ready key_room row_room → (k : Key) (bs : List Bucket) → kept_at es k ≡ Some bs → k.index < width
index_inside {width} es keys rows h k bs is = holds_of_member (λ (q : Key). q.index < width) keys k h.inside (sym (h.known.there k) ∙ ap is_some is)

pub admitted : (k : Key) (dims : Dims) → IsDims dims → k.index < dims.width → IsAdmitted k dims
admitted k dims h in_width = record { some_rows = h.some_rows; few_rows = h.few_rows; some_width = h.some_width; small_width = h.small_width; index = in_width }

-- an answer that is none only where a premise fails
pub surely_some : (o : Option Column) (P : Type 0) (c : Column) → MatchOption o (P → ⊥) (λ x. P × (x ≡ c)) → P → o ≡ Some c
surely_some None P c h p = absurd (h p)
surely_some (Some x) P c h p = ap (λ (y : Column). Some y) h.1

-- what an answer made of counters says of them
pub record IsTold (k : Key) (dims : Dims) (o : Option Cells) (r : Option Column) : Type 0 where
  pub value : r ≡ option_map (λ (bs : Cells). record { key = k; dims = dims; cells = bs }) o
  pub cells : option_map (λ (c : Column). c.cells) r ≡ o
  pub named : IfSome r (λ (c : Column). (c.key ≡ k) × (c.dims ≡ dims))

named_of : (k : Key) (dims : Dims) (o : Option Cells) (r : Option Column) → r ≡ option_map (λ (bs : Cells). record { key = k; dims = dims; cells = bs }) o → IfSome r (λ (c : Column). (c.key ≡ k) × (c.dims ≡ dims))
named_of k dims None r is = rw is tt
named_of k dims (Some bs) r is = rw is (refl, refl)

cells_told : (k : Key) (dims : Dims) (o : Option Cells) → option_map (λ (c : Column). c.cells) (option_map {U = Column} (λ (bs : Cells). record { key = k; dims = dims; cells = bs }) o) ≡ o
cells_told k dims None = refl
cells_told k dims (Some bs) = refl

pub told_cells : (k : Key) (dims : Dims) (o : Option Cells) (r : Option Column) → r ≡ option_map (λ (bs : Cells). record { key = k; dims = dims; cells = bs }) o → IsTold k dims o r
told_cells k dims o r is = record { value = is; cells = ap (option_map (λ (c : Column). c.cells)) is ∙ cells_told k dims o; named = named_of k dims o r is }
