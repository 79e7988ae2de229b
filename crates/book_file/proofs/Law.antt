-- Bytes that aren't blank stand for at most one list.
use Rattle.std.proofs.Common.{◌≡◌, inl, inr, ⊎_elim, ℕ, ◌*◌, ◌≤◌, List, [], ◌∷◌, ◌++◌, length, get_or, refl, sym, ◌∙◌, ap, subst, arith}
use Rattle.std.proofs.Common.{append_assoc, length-append}
use Rattle.std.specs.List.{flat_map, AllByRecursion}
use Rattle.std.proofs.lemmas.List.{get_or_append_left}
use Rattle.std.proofs.Math.Nat.{mul-le-mul_left}
use Rattle.lg_model.specs.declared.column.Dims.{Dims}
use Rattle.lg_model.specs.Placing.{Shape}
use Rattle.lg_model.specs.Columns.{dims_of}
use Rattle.sketchlet_wire.specs.Uploads.{UploadData}
use Rattle.column_book.specs.Entries.{columns_in}
use Rattle.book_file.specs.File.{IsRecord, IsClosed, header, body, column_len, record_bytes, front, IsBlank, Spells}
use Rattle.book_file.specs.Found.{count_of}
use Rattle.book_file.specs.Laws.{LawOfFiles, LawOfBlankFiles, LawOfLengths}
use Rattle.book_file.proofs.Bodies.{body_size, same_body}
use Rattle.book_file.proofs.Heads.{header_len, header_one, front_header}

same_records : (dims : Dims) (L M : List UploadData) (g h : ℕ) (x y : List ℕ) → AllByRecursion (IsRecord dims) L
    → AllByRecursion (IsRecord dims) M → IsClosed g → IsClosed h
    → flat_map record_bytes L ++ g ∷ x ≡ flat_map record_bytes M ++ h ∷ y → L ≡ M
same_records dims [] [] g h x y fl fm shut_g shut_h same = refl
same_records dims [] (f ∷ M) g h x y fl fm shut_g shut_h same = let one : g ≡ 1 = cc in absurd (shut_g one)
same_records dims (e ∷ L) [] g h x y fl fm shut_g shut_h same = let one : h ≡ 1 = cc in absurd (shut_h one)
same_records dims (e ∷ L) (f ∷ M) g h x y fl fm shut_g shut_h same =
    let tail : (body e ++ flat_map record_bytes L) ++ g ∷ x ≡ (body f ++ flat_map record_bytes M) ++ h ∷ y = cc in
    let first = same_body dims e f (flat_map record_bytes L ++ g ∷ x) (flat_map record_bytes M ++ h ∷ y) fl.0 fm.0
    (sym (append_assoc (body e) (flat_map record_bytes L) (g ∷ x)) ∙ tail ∙ append_assoc (body f) (flat_map record_bytes M) (h ∷ y)) in
    let rest = same_records dims L M g h x y fl.1 fm.1 shut_g shut_h first.1 in
    λ i. first.0 i ∷ rest i

spelled_once : (file : List ℕ) (s t : Shape) (L M : List UploadData) → Spells s L file → Spells t M file → (s ≡ t) × (L ≡ M)
spelled_once file s t L M a b =
    let whole : header s ++ (flat_map record_bytes L ++ a.gate ∷ a.rest) ≡ header t ++ (flat_map record_bytes M ++ b.gate ∷ b.rest) =
    sym (append_assoc (header s) (flat_map record_bytes L) (a.gate ∷ a.rest)) ∙ sym a.bytes ∙ b.bytes
    ∙ append_assoc (header t) (flat_map record_bytes M) (b.gate ∷ b.rest) in
    let head = front_header s t (flat_map record_bytes L ++ a.gate ∷ a.rest)
    (flat_map record_bytes M ++ b.gate ∷ b.rest) a.shape_fits b.shape_fits whole in
    let fits = subst (λ (x : Shape). AllByRecursion (IsRecord (dims_of x)) M) (sym head.0) b.records_fit.each in
    (head.0, same_records (dims_of s) L M a.gate b.gate a.rest b.rest a.records_fit.each fits a.closed b.closed head.1)

-- What spells a list isn't blank.
pub not_blank : (file : List ℕ) (s : Shape) (L : List UploadData) → Spells s L file → IsBlank file → ⊥
not_blank file s L a blank =
    let size = ap length a.bytes ∙ length-append (front s L) (a.gate ∷ a.rest) in
    let front_size = length-append (header s) (flat_map record_bytes L) in
    let one : get_or file 0 0 ≡ 1 =
    ap (λ (l : List ℕ). get_or l 0 0) (a.bytes ∙ append_assoc (header s) (flat_map record_bytes L) (a.gate ∷ a.rest))
    ∙ get_or_append_left (header s) (flat_map record_bytes L ++ a.gate ∷ a.rest) 0 0 (omega (arith, header_len s)) ∙ header_one s in
    ⊎_elim (λ le. omega (arith, le, size, front_size, header_len s)) (λ b. b.1 one) blank

pub law : LawOfFiles
law file s t L M full (inl blank) b = absurd (full blank.0)
law file s t L M full (inr a) (inl blank) = absurd (full blank.0)
law file s t L M full (inr a) (inr b) = spelled_once file s t L M a b

pub blank_law : LawOfBlankFiles
blank_law file s L blank (inl is) = is.1
blank_law file s L blank (inr a) = absurd (not_blank file s L a blank)

-- a column takes at most 64 bytes with its share of the head and the gate of its record
records_size : (dims : Dims) (L : List UploadData) → dims.rows ≤ 8 → AllByRecursion (IsRecord dims) L
    → length (flat_map record_bytes L) ≤ 64 * count_of L
records_size dims [] few all = omega arith
records_size dims (r ∷ L) few all =
    let rest = records_size dims L few all.1 in
    let n = length r.columns in
    let one : n * column_len dims.rows ≤ n * 56 = mul-le-mul_left n (omega (arith, few)) in
    omega (
      arith,
      rest,
      one,
      body_size dims r all.0,
      all.0.some,
      length-append (record_bytes r) (flat_map record_bytes L),
      length-append r.columns (columns_in L),
    )

pub lengths : LawOfLengths
lengths shape L fits all =
    omega (
      arith,
      length-append (header shape) (flat_map record_bytes L),
      header_len shape,
      records_size (dims_of shape) L fits.dims.few_rows all.each,
    )
