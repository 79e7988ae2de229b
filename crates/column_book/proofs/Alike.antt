-- What a pass over columns finds: which are free, and that those which are kept as they came are in no conflict.
use Rattle.std.specs.Prelude.{◌≡◌, ℕ, ◌+◌, ◌^◌, ◌<◌, ◌≤◌, Bool, true, false, List, [], ◌∷◌, ◌++◌, All, map, filter, take, drop, length, Option, None, Some, slice_index_or, if◌then◌else◌}
use Rattle.std.specs.List.{AllByRecursion}
use Rattle.std.specs.Option.{option_map, option_or}
use Rattle.std.specs.Cmp.Lexicographic.{pointwise}
use Rattle.std.proofs.lemmas.Slice.Eq.{slice_eq-Decides}
use Rattle.std.proofs.Common.{refl, sym, ap, ◌∙◌, subst, arith}
use Rattle.std.proofs.lemmas.List.{length-map, length-take-le, take_more, take_all, take-append-le}
use Rattle.std.proofs.lemmas.List.Elements.{All-push}
use Rattle.lg_model.specs.declared.column.Bucket.{Bucket}
use Rattle.lg_model.specs.declared.column.Dims.{Dims}
use Rattle.lg_model.specs.declared.column.Key.{Key}
use Rattle.lg_model.specs.Answer.{Content, found}
use Rattle.lg_model.specs.Columns.{Column, cells_of}
use Rattle.sketchlet_wire.specs.Spelling.{IsColumn, filled, zeros, cells_in}
use Rattle.column_book.specs.declared.fault.BookFault.{BookFault}
use Rattle.column_book.specs.Applying.{same_bucket, conflict, differs, first_fault, mask_of}
use Rattle.column_book.specs.Blocks.{Made, kept_at}
use Rattle.column_book.specs.Kept.{shelf, IsAsKept}
use Rattle.column_book.proofs.Faults.{same_bucket-Decides, same_cells-Decides, mask_low}
use Rattle.column_book.proofs.Grown.{passes_more, passes_not, one_longer}

-- the mask of the first n has n bits
pub mask_below : (p : Column → Bool) (cs : List Column) (n : ℕ) → n ≤ length cs → mask_of (map p (take n cs)) < 2 ^ n
mask_below p cs n low =
    subst (λ k. mask_of (map p (take n cs)) < 2 ^ k) (length-map (take n cs) p ∙ length-take-le n cs low) (mask_low (map p (take n cs)))

-- how many pass, with one column more
pub count_more : (p : Column → Bool) (cs : List Column) (n : ℕ) (c : Column) → n < length cs → c ≡ slice_index_or cs n c →
    length (filter p (take (n + 1) cs)) ≡ length (filter p (take n cs)) + (if p c then 1 else 0)
count_more p cs n c low at = (elim (p c) as (λ b. p c ≡ b → length (filter p (take (n + 1) cs)) ≡ length (filter p (take n cs)) + (if b then 1 else 0)) [
  | true ↦ λ is. ap length (passes_more p cs n c low at is) ∙ one_longer (filter p (take n cs)) c
  | false ↦ λ is. let same = ap length (passes_not p cs n c low at is) in omega (arith, same)
]) refl

pub one_most : (b : Bool) → (if b then 1 else 0) ≤ 1
one_most true = omega arith
one_most false = omega arith

-- buckets that are told to be the same are
pub same_buckets : (a b : List Bucket) (r : Bool) → r ≡ pointwise same_bucket a b → r ≡ true → a ≡ b
same_buckets a b r is = (slice_eq-Decides same_bucket-Decides a b r is).0

-- what is in an answer
pub inner : {A : Type 0} (o : Option A) (x y : A) → o ≡ Some x → o ≡ Some y → x ≡ y
inner None x y a b = absurd (cc)
inner (Some z) x y a b = cc

-- what holds of the first n and of the next
pub all_more : (P : Column → Type 0) (cs : List Column) (n : ℕ) (c : Column) → n < length cs → c ≡ slice_index_or cs n c → All P (take n cs) → P c → All P (take (n + 1) cs)
all_more P cs n c low at all here = subst (All P) (sym (take_more cs n c low ∙ ap (λ (x : Column). take n cs ++ x ∷ []) (sym at))) (All-push P (take n cs) c all here)

-- a column that is kept as it came has no conflict
none_differs : (dims : Dims) (es : Made) (m : Content) (c : Column) → c.dims ≡ dims → IsColumn c → found m c.key ≡ shelf dims.rows es c.key → IsAsKept es c → conflict dims m c ≡ None
none_differs dims es m c size admitted is h =
    let len : length c.cells.buckets ≡ dims.rows = admitted.cells.buckets ∙ ap (λ (d : Dims). d.rows) size in
    let front : take dims.rows (filled c.dims c.cells) ≡ c.cells.buckets =
    take-append-le dims.rows c.cells.buckets (drop c.dims.rows zeros) (omega (arith, len)) ∙ take_all dims.rows c.cells.buckets (omega (arith, len)) in
    rw is ((elim (kept_at es c.key) as (λ (o : Option (List Bucket)). kept_at es c.key ≡ o → differs dims c (option_map (λ (bs : List Bucket). cells_in dims.rows bs) o) ≡ None) [
      | None ↦ λ e. refl
      | Some bs ↦ λ e.
          let same : cells_in dims.rows bs ≡ c.cells = ap (λ (x : List Bucket). cells_of (take dims.rows x)) (h bs e) ∙ ap cells_of front in
          rw ((same_cells-Decides (cells_in dims.rows bs) c.cells).1 same) refl
    ]) refl)

-- nor has any of such columns
pub no_conflict : (dims : Dims) (es : Made) (m : Content) → ((k : Key) → found m k ≡ shelf dims.rows es k) → (cs : List Column) →
    AllByRecursion (λ (c : Column). c.dims ≡ dims) cs → AllByRecursion IsColumn cs → AllByRecursion (IsAsKept es) cs → first_fault (conflict dims m) cs ≡ None
no_conflict dims es m is [] size admitted h = refl
no_conflict dims es m is (c ∷ cs) size admitted h =
    ap (λ (o : Option BookFault). option_or o (first_fault (conflict dims m) cs)) (none_differs dims es m c size.0 admitted.0 (is c.key) h.0) ∙ no_conflict dims es m is cs size.1 admitted.1 h.1
