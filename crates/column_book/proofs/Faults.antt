-- The first fault of columns, their mask, and how many are new.
use Rattle.std.specs.Prelude.{◌≡◌, ℕ, zero, suc, ◌+◌, ◌*◌, ◌^◌, ◌%◌, ◌<◌, ◌≤◌, Bool, true, false, cond, List, [], ◌∷◌, ◌++◌, map, take, drop, length, Option, None, Some, is_some, slice_index_or, if◌then◌else◌}
use Rattle.std.specs.Bool.{Decides}
use Rattle.std.specs.List.{AllByRecursion}
use Rattle.std.specs.Option.{option_map, option_or}
use Rattle.std.proofs.Common.{refl, sym, ap, ◌∙◌, subst, arith}
use Rattle.std.proofs.lemmas.Bool.Decides.{Decides-and, Decides-eqb, same_from_decides}
use Rattle.std.proofs.lemmas.Slice.Eq.{slice_eq-Decides}
use Rattle.std.proofs.lemmas.List.{drop_all, map-append, length-map, length-take-le, take_more}
use Rattle.std.proofs.Math.Pow.{pow_mono}
use Rattle.lg_model.specs.declared.column.Bucket.{Bucket}
use Rattle.lg_model.specs.declared.column.Dims.{Dims}
use Rattle.lg_model.specs.declared.column.Key.{Key}
use Rattle.lg_model.specs.Answer.{Content, found}
use Rattle.lg_model.specs.Columns.{Cells, Column, cells_of}
use Rattle.column_book.specs.declared.fault.BookFault.{BookFault}
use Rattle.column_book.specs.declared.fault.BookFault.TheVariants.{WrongShape, Conflict}
use Rattle.column_book.specs.Applying.{same_dims, same_bucket, same_cells, misfit, differs, conflict, first_fault, mask_of}

abbrev pub Faulty : Type 0
Faulty = Column → Option BookFault

-- one column more
pub fault_drop : (f : Faulty) (cs : List Column) (i : ℕ) (d : Column) → i < length cs → first_fault f (drop i cs) ≡ option_or (f (slice_index_or cs i d)) (first_fault f (drop (i + 1) cs))
fault_drop f [] i d h = absurd (omega (arith, h))
fault_drop f (c ∷ cs) zero d h = refl
fault_drop f (c ∷ cs) (suc i) d h =
    fault_drop f cs i d (omega (arith, h)) ∙ ap (λ n. option_or (f (slice_index_or cs i d)) (first_fault f (drop n (c ∷ cs)))) (let more : suc (i + 1) ≡ suc i + 1 = omega arith in more)

-- no fault so far, and none at the next
pub fault_next : (f : Faulty) (cs : List Column) (i : ℕ) (c : Column) → i < length cs → c ≡ slice_index_or cs i c → first_fault f cs ≡ first_fault f (drop i cs) → is_some (f c) ≡ false →
    first_fault f cs ≡ first_fault f (drop (i + 1) cs)
fault_next f cs i c h at so_far none =
    so_far ∙ fault_drop f cs i c h ∙ rw (← at) ((elim (f c) as (λ (o : Option BookFault). is_some o ≡ false → option_or o (first_fault f (drop (i + 1) cs)) ≡ first_fault f (drop (i + 1) cs)) [
      | None ↦ λ e. refl
      | Some x ↦ λ e. absurd (cc)
    ]) none)

-- the next has the fault
pub fault_here : (f : Faulty) (cs : List Column) (i : ℕ) (c : Column) → i < length cs → c ≡ slice_index_or cs i c → first_fault f cs ≡ first_fault f (drop i cs) → is_some (f c) ≡ true →
    f c ≡ first_fault f cs
fault_here f cs i c h at so_far some =
    sym (so_far ∙ fault_drop f cs i c h ∙ rw (← at) ((elim (f c) as (λ (o : Option BookFault). is_some o ≡ true → option_or o (first_fault f (drop (i + 1) cs)) ≡ o) [
      | None ↦ λ e. absurd (cc)
      | Some x ↦ λ e. refl
    ]) some))

-- none has
pub fault_none : (f : Faulty) (cs : List Column) (i : ℕ) → length cs ≤ i → first_fault f cs ≡ first_fault f (drop i cs) → None ≡ first_fault f cs
fault_none f cs i h so_far = sym (so_far ∙ ap (first_fault f) (drop_all i cs h))

-- columns with no fault of size are of that size
pub same_dims-Decides : (a b : Dims) → Decides (same_dims a b) (a ≡ b)
same_dims-Decides a b =
    let both = Decides-and _ _ (Decides-eqb a.rows b.rows) (Decides-eqb a.width b.width) in (
      (λ h. let same = both.0 h in λ i. record { rows = same.0 i; width = same.1 i }),
      (λ e. both.1 (ap (λ (d : Dims). d.rows) e, ap (λ (d : Dims). d.width) e)),
    )

pub all_fit : (dims : Dims) (cs : List Column) → first_fault (misfit dims) cs ≡ None → AllByRecursion (λ (c : Column). c.dims ≡ dims) cs
all_fit dims [] h = tt
all_fit dims (c ∷ cs) h =
    (elim (same_dims c.dims dims) as (λ b. same_dims c.dims dims ≡ b → option_or (cond b None (Some (WrongShape dims c.dims))) (first_fault (misfit dims) cs) ≡ None → AllByRecursion (λ (x : Column). x.dims ≡ dims) (c ∷ cs)) [
      | true ↦ λ same none. ((same_dims-Decides c.dims dims).0 same, all_fit dims cs none)
      | false ↦ λ same none. absurd (cc)
    ]) refl h

pub same_bucket-Decides : (a b : Bucket) → Decides (same_bucket a b) (a ≡ b)
same_bucket-Decides a b =
    let both = Decides-and _ _ (Decides-eqb a.bytes b.bytes) (Decides-eqb a.delay b.delay) in (
      (λ h. let same = both.0 h in λ i. record { bytes = same.0 i; delay = same.1 i }),
      (λ e. both.1 (ap (λ (x : Bucket). x.bytes) e, ap (λ (x : Bucket). x.delay) e)),
    )

pub same_cells-Decides : (a b : Cells) → Decides (same_cells a b) (a ≡ b)
same_cells-Decides a b = let same = slice_eq-Decides same_bucket-Decides a.buckets b.buckets (same_cells a b) refl in (
  (λ h. ap cells_of (same.0 h)),
  (λ e. same.1 (ap (λ (x : Cells). x.buckets) e)),
)

-- columns of one key and size are the same exactly where their counters are
pub same_column : (c : Column) (dims : Dims) (kept : Cells) (r : Bool) → c.dims ≡ dims →
    (r ≡ true → record { key = c.key; dims = dims; cells = kept } ≡ c) → (record { key = c.key; dims = dims; cells = kept } ≡ c → r ≡ true) → r ≡ same_cells kept c.cells
same_column c dims kept r size there back =
    same_from_decides r (same_cells kept c.cells) (
      (λ h. ap (λ (x : Column). x.cells) (there h)),
      (λ e. back (λ i. record { key = c.key; dims = sym size i; cells = e i })),
    ) (same_cells-Decides kept c.cells)

-- the fault of a column whose key is kept
told_by : (c : Column) (dims : Dims) (kept : Column) (r : Bool) (o : Option Cells) → option_map (λ (bs : Cells). record { key = c.key; dims = dims; cells = bs }) o ≡ Some kept →
    c.dims ≡ dims → (r ≡ true → kept ≡ c) → (kept ≡ c → r ≡ true) → differs dims c o ≡ cond r None (Some (Conflict c.key kept c))
told_by c dims kept r None is size there back = absurd (cc)
told_by c dims kept r (Some bs) is size there back =
    let one : kept ≡ record { key = c.key; dims = dims; cells = bs } = cc in
    let test = same_column c dims bs r size (λ h. sym one ∙ there h) (λ e. back (one ∙ e)) in
    rw (← test, one) refl

pub told : (c : Column) (dims : Dims) (m : Content) (k : Key) (kept : Column) (r : Bool) → k ≡ c.key → option_map (λ (bs : Cells). record { key = k; dims = dims; cells = bs }) (found m k) ≡ Some kept →
    c.dims ≡ dims → (r ≡ true → kept ≡ c) → (kept ≡ c → r ≡ true) → conflict dims m c ≡ cond r None (Some (Conflict c.key kept c))
told c dims m k kept r one is size there back =
    told_by c dims kept r (found m c.key) (subst (λ (q : Key). option_map (λ (bs : Cells). record { key = q; dims = dims; cells = bs }) (found m q) ≡ Some kept) one is) size there back

-- ---- masks

abbrev bit : Bool → ℕ
bit b = if b then 1 else 0

pow_more : (n : ℕ) → 2 ^ suc n ≡ 2 * 2 ^ n
pow_more n = omega arith

pub mask_push_new : (bs : List Bool) → mask_of (bs ++ true ∷ []) ≡ mask_of bs + 2 ^ length bs
mask_push_new [] = refl
mask_push_new (b ∷ bs) = let rest = mask_push_new bs in omega (arith, rest, pow_more (length bs))

pub mask_push_old : (bs : List Bool) → mask_of (bs ++ false ∷ []) ≡ mask_of bs
mask_push_old [] = refl
mask_push_old (b ∷ bs) = let rest = mask_push_old bs in omega (arith, rest)

pub mask_low : (bs : List Bool) → mask_of bs < 2 ^ length bs
mask_low [] = omega arith
mask_low (true ∷ bs) = let rest = mask_low bs in omega (arith, rest, pow_more (length bs))
mask_low (false ∷ bs) = let rest = mask_low bs in omega (arith, rest, pow_more (length bs))

small_step : (m p : ℕ) → m < p → p ≤ 32768 → (m + 1 * p % 65536 < 65536) × (1 * p % 65536 ≡ p)
small_step m p low high = (omega arith, omega arith)

-- the next bit has room in 16 bits
pub mask_room : (p : Column → Bool) (cs : List Column) (n m : ℕ) → n < length cs → length cs ≤ 16 → m ≡ mask_of (map p (take n cs)) →
    (m + 1 * 2 ^ n % 65536 < 65536) × (1 * 2 ^ n % 65536 ≡ 2 ^ n)
mask_room p cs n m h few is =
    let len : length (map p (take n cs)) ≡ n = length-map (take n cs) p ∙ length-take-le n cs (omega (arith, h)) in
    let low : m < 2 ^ n = subst (λ k. m < 2 ^ k) len (subst (λ k. k < 2 ^ length (map p (take n cs))) (sym is) (mask_low (map p (take n cs)))) in
    small_step m (2 ^ n) low (pow_mono {i = n} {j = 15} (omega (arith, h, few)))

-- the mask of one column more
pub mask_more : (p : Column → Bool) (cs : List Column) (n : ℕ) (c : Column) → n < length cs → c ≡ slice_index_or cs n c →
    mask_of (map p (take (n + 1) cs)) ≡ mask_of (map p (take n cs)) + (if p c then 2 ^ n else 0)
mask_more p cs n c h at =
    let len : length (map p (take n cs)) ≡ n = length-map (take n cs) p ∙ length-take-le n cs (omega (arith, h)) in
    let split : map p (take (n + 1) cs) ≡ map p (take n cs) ++ p c ∷ [] =
    ap (map p) (take_more cs n c h) ∙ map-append p (take n cs) (slice_index_or cs n c ∷ []) ∙ ap (λ (x : Column). map p (take n cs) ++ p x ∷ []) (sym at) in
    ap mask_of split ∙ (elim (p c) as (λ b. mask_of (map p (take n cs) ++ b ∷ []) ≡ mask_of (map p (take n cs)) + (if b then 2 ^ n else 0)) [
      | true ↦ mask_push_new (map p (take n cs)) ∙ ap (λ k. mask_of (map p (take n cs)) + 2 ^ k) len
      | false ↦ mask_push_old (map p (take n cs)) ∙ (omega arith)
    ])
