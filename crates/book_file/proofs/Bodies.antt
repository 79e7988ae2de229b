-- The bytes of columns and bodies: how long they are, and that each spells one record.
use Rattle.std.proofs.Common.{◌≡◌, ℕ, ◌+◌, ◌*◌, List, [], ◌∷◌, ◌++◌, length, get_or, refl, sym, ◌∙◌, ap, arith, append_assoc, length-append}
use Rattle.std.specs.List.{flat_map, AllByRecursion}
use Rattle.std.specs.Int.{w16, w32, to_be_bytes}
use Rattle.lg_model.specs.declared.column.Dims.{Dims}
use Rattle.lg_model.specs.Columns.{Column}
use Rattle.sketchlet_wire.specs.Spelling.{spelling, marks, dims_bytes, column_key_bytes, cells_bytes}
use Rattle.sketchlet_wire.specs.Uploads.{UploadData}
use Rattle.sketchlet_wire.proofs.Fields.{key_len, cells_length}
use Rattle.sketchlet_wire.proofs.Columns.{law}
use Rattle.book_file.specs.File.{IsColumnOf, IsRecord, column_bytes, column_len, body, body_len}
use Rattle.book_file.proofs.Bytes.{front_2, front_4}

pub column_size : (dims : Dims) (c : Column) → IsColumnOf dims c → length (column_bytes c) ≡ column_len dims.rows
column_size dims c is =
    omega (
      arith,
      length-append (column_key_bytes c.key) (cells_bytes c.cells),
      key_len c.key,
      cells_length c.dims.rows c.cells is.column.cells,
      ap (λ (d : Dims). d.rows) is.sized,
    )

pub columns_size : (dims : Dims) (cs : List Column) → AllByRecursion (IsColumnOf dims) cs
    → length (flat_map column_bytes cs) ≡ length cs * column_len dims.rows
columns_size dims [] all = omega arith
columns_size dims (c ∷ cs) all =
    let one = column_size dims c all.0 in
    let rest = columns_size dims cs all.1 in
    let size = length-append (column_bytes c) (flat_map column_bytes cs) in
    size ∙ (λ i. one i + rest i) ∙ omega arith

pub same_column : (dims : Dims) (c d : Column) (x y : List ℕ) → IsColumnOf dims c → IsColumnOf dims d
    → column_bytes c ++ x ≡ column_bytes d ++ y → (c ≡ d) × (x ≡ y)
same_column dims c d x y is_c is_d same =
    let regroup = λ (a : Column) (z : List ℕ). append_assoc marks (dims_bytes a.dims ++ column_bytes a) z
    ∙ ap (λ (l : List ℕ). marks ++ l) (append_assoc (dims_bytes a.dims) (column_bytes a) z) in
    let size : c.dims ≡ d.dims = is_c.sized ∙ sym is_d.sized in
    let whole : spelling c ++ x ≡ spelling d ++ y = regroup c x ∙ (λ i. marks ++ (dims_bytes (size i) ++ same i)) ∙ sym (regroup d y) in
    law.apart c d x y is_c.column is_d.column whole

pub same_columns : (dims : Dims) (cs ds : List Column) (x y : List ℕ) → length cs ≡ length ds → AllByRecursion (IsColumnOf dims) cs
    → AllByRecursion (IsColumnOf dims) ds
    → flat_map column_bytes cs ++ x ≡ flat_map column_bytes ds ++ y → (cs ≡ ds) × (x ≡ y)
same_columns dims [] [] x y long fc fd same = (refl, same)
same_columns dims [] (d ∷ ds) x y long fc fd same = absurd (omega (arith, long))
same_columns dims (c ∷ cs) [] x y long fc fd same = absurd (omega (arith, long))
same_columns dims (c ∷ cs) (d ∷ ds) x y long fc fd same =
    let first = same_column dims c d (flat_map column_bytes cs ++ x) (flat_map column_bytes ds ++ y) fc.0 fd.0
    (sym (append_assoc (column_bytes c) (flat_map column_bytes cs) x) ∙ same
    ∙ append_assoc (column_bytes d) (flat_map column_bytes ds) y) in
    let size : length cs ≡ length ds = omega (arith, long) in
    let rest = same_columns dims cs ds x y size fc.1 fd.1 first.1 in
    ((λ i. first.0 i ∷ rest.0 i), rest.1)

-- ---- bodies

pub count_at : (r : UploadData) (x : List ℕ) → get_or (body r ++ x) 6 0 ≡ length r.columns
unfolding body
count_at r x = refl

pub body_size : (dims : Dims) (r : UploadData) → IsRecord dims r → length (body r) ≡ body_len dims.rows (length r.columns)
unfolding body
body_size dims r is = omega (arith, columns_size dims r.columns is.each)

pub same_body : (dims : Dims) (r s : UploadData) (x y : List ℕ) → IsRecord dims r → IsRecord dims s → body r ++ x ≡ body s ++ y
    → (r ≡ s) × (x ≡ y)
unfolding body
same_body dims r s x y is_r is_s same =
    let cols = λ (a : UploadData). flat_map column_bytes a.columns in
    let regroup : (a : UploadData) (z : List ℕ)
    → body a ++ z ≡ to_be_bytes w16 a.host ++ (to_be_bytes w32 a.seq ++ (length a.columns ∷ (cols a ++ z))) =
    λ (a : UploadData) (z : List ℕ). refl in
    let host = front_2 r.host s.host (to_be_bytes w32 r.seq ++ (length r.columns ∷ (cols r ++ x)))
    (to_be_bytes w32 s.seq ++ (length s.columns ∷ (cols s ++ y))) is_r.host is_s.host (sym (regroup r x) ∙ same ∙ regroup s y) in
    let seq = front_4 r.seq s.seq (length r.columns ∷ (cols r ++ x)) (length s.columns ∷ (cols s ++ y)) is_r.seq is_s.seq host.1 in
    let after : length r.columns ∷ (cols r ++ x) ≡ length s.columns ∷ (cols s ++ y) = seq.1 in
    let size : length r.columns ≡ length s.columns = cc in
    let tail : cols r ++ x ≡ cols s ++ y = cc in
    let columns = same_columns dims r.columns s.columns x y size is_r.each is_s.each tail in
    ((λ i. record { host = host.0 i; seq = seq.0 i; columns = columns.0 i }), columns.1)
