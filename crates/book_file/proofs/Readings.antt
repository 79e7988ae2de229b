-- A record read from the bytes of a body.
use Rattle.std.proofs.Common.{◌≡◌, ℕ, zero, suc, ◌+◌, ◌*◌, ◌<◌, ◌≤◌, List, [], ◌∷◌, ◌++◌, length, get_or, drop, refl, sym, ◌∙◌, ap, subst}
use Rattle.std.proofs.Common.{arith, length-append}
use Rattle.std.specs.List.{flat_map, AllByRecursion, IsDistinct}
use Rattle.std.specs.Int.{w16, w32, to_be_bytes, from_be_bytes}
use Rattle.std.proofs.lemmas.List.{append-nil, length-drop, nil_from_length}
use Rattle.std.proofs.lemmas.Nat.{be_bytes_2, be_bytes_4}
use Rattle.lg_model.specs.declared.column.Dims.{Dims}
use Rattle.lg_model.specs.Columns.{Column}
use Rattle.sketchlet_wire.specs.Uploads.{UploadData, IsFull, IsUpload, same_column_key}
use Rattle.column_book.specs.Kept.{keys_of}
use Rattle.book_file.specs.File.{IsColumnOf, IsRecord, column_bytes, body, body_len}
use Rattle.book_file.proofs.Apart.{not_twice}
use Rattle.book_file.proofs.Bodies.{columns_size, same_columns}

body_columns : (r : UploadData) → drop 7 (body r) ≡ flat_map column_bytes r.columns
unfolding body
body_columns r = refl

count_of_body : (r : UploadData) → get_or (body r) 6 0 ≡ length r.columns
unfolding body
count_of_body r = refl

pub no_record : (dims : Dims) (bytes : List ℕ)
    → ((cs : List Column) (rest : List ℕ) → length cs ≡ get_or bytes 6 0 → AllByRecursion (IsColumnOf dims) cs
    → drop 7 bytes ≡ flat_map column_bytes cs ++ rest → ⊥)
    → (r : UploadData) → IsRecord dims r → IsDistinct same_column_key (keys_of r.columns) → bytes ≡ body r → ⊥
no_record dims bytes none r fits apart is =
    none r.columns [] (sym (ap (λ (l : List ℕ). get_or l 6 0) is ∙ count_of_body r)) fits.each
    (ap (λ (l : List ℕ). drop 7 l) is ∙ body_columns r ∙ sym (append-nil (flat_map column_bytes r.columns)))

seven : (bytes : List ℕ) → 7 ≤ length bytes
    → bytes ≡ get_or bytes 0 0 ∷ get_or bytes 1 0 ∷ get_or bytes 2 0 ∷ get_or bytes 3 0 ∷ get_or bytes 4 0 ∷ get_or bytes 5 0 ∷ get_or bytes
    6 0 ∷ drop 7 bytes
seven [] le = absurd (omega arith)
seven (a ∷ []) le = absurd (omega arith)
seven (a ∷ b ∷ []) le = absurd (omega arith)
seven (a ∷ b ∷ c ∷ []) le = absurd (omega arith)
seven (a ∷ b ∷ c ∷ d ∷ []) le = absurd (omega arith)
seven (a ∷ b ∷ c ∷ d ∷ e ∷ []) le = absurd (omega arith)
seven (a ∷ b ∷ c ∷ d ∷ e ∷ f ∷ []) le = absurd (omega arith)
seven (a ∷ b ∷ c ∷ d ∷ e ∷ f ∷ g ∷ rest) le = refl

small_2 : (a b : ℕ) → a < 256 → b < 256 → (i : ℕ) → get_or (a ∷ b ∷ []) i 0 < 256
small_2 a b sa sb zero = sa
small_2 a b sa sb (suc zero) = sb
small_2 a b sa sb (suc (suc i)) = omega arith

small_4 : (a b c d : ℕ) → a < 256 → b < 256 → c < 256 → d < 256 → (i : ℕ) → get_or (a ∷ b ∷ c ∷ d ∷ []) i 0 < 256
small_4 a b c d sa sb sc sd zero = sa
small_4 a b c d sa sb sc sd (suc zero) = sb
small_4 a b c d sa sb sc sd (suc (suc zero)) = sc
small_4 a b c d sa sb sc sd (suc (suc (suc zero))) = sd
small_4 a b c d sa sb sc sd (suc (suc (suc (suc i)))) = omega arith

module _ (bytes : List ℕ) (small : (i : ℕ) → get_or bytes i 0 < 256) (long : 7 ≤ length bytes) where
  pub body_read : (host seq : ℕ) (cs : List Column) → host ≡ from_be_bytes w16 (get_or bytes 0 0 ∷ get_or bytes 1 0 ∷ [])
      → seq ≡ from_be_bytes w32 (get_or bytes 2 0 ∷ get_or bytes 3 0 ∷ get_or bytes 4 0 ∷ get_or bytes 5 0 ∷ [])
      → get_or bytes 6 0 ≡ length cs → drop 7 bytes ≡ flat_map column_bytes cs
      → bytes ≡ body (record { host = host; seq = seq; columns = cs })
  unfolding body
  body_read host seq cs host_is seq_is count columns =
      let b = λ (i : ℕ). get_or bytes i 0 in
      let h : to_be_bytes w16 host ≡ b 0 ∷ b 1 ∷ [] =
      be_bytes_2 (b 0 ∷ b 1 ∷ []) host refl (small_2 (b 0) (b 1) (small 0) (small 1)) host_is in
      let s : to_be_bytes w32 seq ≡ b 2 ∷ b 3 ∷ b 4 ∷ b 5 ∷ [] =
      be_bytes_4 (b 2 ∷ b 3 ∷ b 4 ∷ b 5 ∷ []) seq refl
      (small_4 (b 2) (b 3) (b 4) (b 5) (small 2) (small 3) (small 4) (small 5)) seq_is in
      seven bytes long ∙ (λ i. sym h i ++ (sym s i ++ (count i ∷ columns i)))

-- the bytes after the lead are the columns and nothing else
pub nothing_after : (dims : Dims) (bytes rest : List ℕ) (cs : List Column) → length bytes ≡ body_len dims.rows (get_or bytes 6 0)
    → length cs ≡ get_or bytes 6 0 → AllByRecursion (IsColumnOf dims) cs
    → drop 7 bytes ≡ flat_map column_bytes cs ++ rest → drop 7 bytes ≡ flat_map column_bytes cs
nothing_after dims bytes rest cs size count each is =
    let left : length (drop 7 bytes) ≡ length cs * (8 + 6 * dims.rows) + length rest =
    ap length is ∙ length-append (flat_map column_bytes cs) rest ∙ ap (λ (n : ℕ). n + length rest) (columns_size dims cs each) in
    let same : length cs * (8 + 6 * dims.rows) ≡ get_or bytes 6 0 * (8 + 6 * dims.rows) = ap (λ (n : ℕ). n * (8 + 6 * dims.rows)) count in
    let none : rest ≡ [] = nil_from_length rest (omega (arith, size, left, same, length-drop 7 bytes)) in
    is ∙ ap (λ (l : List ℕ). flat_map column_bytes cs ++ l) none ∙ append-nil (flat_map column_bytes cs)

-- the columns are those of an upload, where the bytes are a body at all
pub is_upload : (dims : Dims) (bytes : List ℕ) (cs : List Column) (r : UploadData) → IsRecord dims r
    → IsDistinct same_column_key (keys_of r.columns) → bytes ≡ body r → AllByRecursion (IsColumnOf dims) cs
    → drop 7 bytes ≡ flat_map column_bytes cs → length cs ≡ get_or bytes 6 0 → IsUpload cs
is_upload dims bytes cs r fits apart is all columns count =
    let n : length cs ≡ length r.columns = count ∙ ap (λ (l : List ℕ). get_or l 6 0) is ∙ count_of_body r in
    let same : flat_map column_bytes cs ++ [] ≡ flat_map column_bytes r.columns ++ [] =
    ap (λ (l : List ℕ). l ++ []) (sym columns ∙ ap (λ (l : List ℕ). drop 7 l) is ∙ body_columns r) in
    let one = same_columns dims cs r.columns [] [] n all fits.each same in
    record {
      some = omega (arith, n, fits.some);
      few = omega (arith, n, fits.few);
      apart = not_twice cs (subst (λ (l : List Column). IsDistinct same_column_key (keys_of l)) (sym one.0) apart);
    }

pub record_read : (dims : Dims) (u : UploadData) (cs : List Column) → IsFull u → u.columns ≡ cs → AllByRecursion (IsColumnOf dims) cs
    → IsRecord dims u
record_read dims u cs full is each = record {
  host = full.host;
  seq = full.seq;
  some = full.columns.some;
  few = full.columns.few;
  each = subst (λ (l : List Column). AllByRecursion (IsColumnOf dims) l) (sym is) each;
}
