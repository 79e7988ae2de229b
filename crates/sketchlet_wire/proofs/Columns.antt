-- What is read is spelled so, what is spelled so is read, and so no spelling begins another.
use Rattle.std.proofs.Common.{◌≡◌, ℕ, ◌^◌, ◌<◌, ◌≤◌, List, [], ◌∷◌, ◌++◌, length, drop, Result, Ok, Err, refl, sym, ap, subst, ◌∙◌, append_assoc, arith}
use Rattle.std.specs.Prelude.{IfOk}
use Rattle.std.specs.Int.{w16, to_be_bytes}
use Rattle.std.proofs.lemmas.List.{drop_at, length-append, append-nil}
use Rattle.byte_fields.specs.Reading.{◌>>=◌}
use Rattle.byte_fields.specs.Law.{IsBytes, Takes}
use Rattle.byte_fields.proofs.Steps.{bind_ok, ok_is}
use Rattle.byte_fields.proofs.Numbers.{Takes-then}
use Rattle.lg_model.specs.declared.column.Dims.{Dims}
use Rattle.lg_model.specs.Columns.{Column}
use Rattle.sketchlet_wire.specs.declared.fault.WireFault.{WireFault}
use Rattle.sketchlet_wire.specs.declared.fault.WireFault.TheVariants.{Short}
use Rattle.sketchlet_wire.specs.Spelling.{IsColumn, spelling, spelling_len, marks, dims_bytes, column_key_bytes, cells_bytes}
use Rattle.sketchlet_wire.specs.Reading.{mark_at, rows_at, width_at, marks_at, dims_at}
use Rattle.sketchlet_wire.specs.Reading.{admitted_key_at, cells_at, dims_of_parts, column_of_parts, sketchlet_at, column_reading}
use Rattle.sketchlet_wire.specs.Law.{LawOfSpellings}
use Rattle.sketchlet_wire.proofs.Fields.{mark_takes, mark_again, rows_takes, rows_again, width_takes, width_again}
use Rattle.sketchlet_wire.proofs.Fields.{key_len, admitted_takes, admitted_again, cells_length, cells_again, cells_take}

marks_take : (bytes rest : List ℕ) → IsBytes bytes → marks_at bytes ≡ Ok rest → Takes bytes marks rest
unfolding marks_at marks
marks_take bytes rest fits e =
    let a = bind_ok (mark_at 0 76 bytes) (λ a. mark_at 1 71 a >>= λ b. mark_at 2 1 b) rest e in
    let b = bind_ok (mark_at 1 71 a.0) (λ b. mark_at 2 1 b) rest a.2 in
    let t1 = mark_takes 0 76 bytes a.0 fits a.1 in
    let t2 = mark_takes 1 71 a.0 b.0 t1.rest_fits b.1 in
    let t3 = mark_takes 2 1 b.0 rest t2.rest_fits b.2 in
    Takes-then bytes (76 ∷ []) a.0 (71 ∷ 1 ∷ []) rest t1 (Takes-then a.0 (71 ∷ []) b.0 (1 ∷ []) rest t2 t3)

marks_again : (rest : List ℕ) → marks_at (marks ++ rest) ≡ Ok rest
unfolding marks_at marks
marks_again rest = rw (mark_again 0 76 (71 ∷ 1 ∷ rest), mark_again 1 71 (1 ∷ rest), mark_again 2 1 rest) refl

dims_take : (bytes : List ℕ) (x : Dims × List ℕ) → IsBytes bytes → dims_at bytes ≡ Ok x → Takes bytes (dims_bytes x.0) x.1 × (1 ≤ x.0.rows) × (x.0.rows ≤ 8)
    × (x.0.width ≤ 4096)
unfolding dims_at dims_bytes
dims_take bytes x fits e =
    let a = bind_ok (rows_at bytes) (λ rows. width_at rows.1 >>= λ width. Ok (dims_of_parts rows.0 width.0, width.1)) x e in
    let b = bind_ok (width_at a.0.1) (λ width. Ok (dims_of_parts a.0.0 width.0, width.1)) x a.2 in
    let t1 = rows_takes bytes a.0 fits a.1 in
    let t2 = width_takes a.0.1 b.0 t1.0.rest_fits b.1 in
    let made : Dims × List ℕ = (dims_of_parts a.0.0 b.0.0, b.0.1) in
    subst (λ (y : Dims × List ℕ). Takes bytes (dims_bytes y.0) y.1 × (1 ≤ y.0.rows) × (y.0.rows ≤ 8) × (y.0.width ≤ 4096)) (ok_is made x b.2)
    (Takes-then bytes (a.0.0 ∷ []) a.0.1 (to_be_bytes w16 b.0.0) b.0.1 t1.0 t2.0, t1.1, t1.2, t2.1)

dims_again : (d : Dims) (rest : List ℕ) → 1 ≤ d.rows → d.rows ≤ 8 → 1 ≤ d.width → d.width ≤ 4096 → dims_at (dims_bytes d ++ rest) ≡ Ok (d, rest)
unfolding dims_at dims_bytes
dims_again d rest r1 r8 w1 w4 = rw (rows_again d.rows (to_be_bytes w16 d.width ++ rest) r1 r8, width_again d.width rest w1 w4) refl

pub column_takes : (bytes : List ℕ) (x : Column × List ℕ) → IsBytes bytes → sketchlet_at bytes ≡ Ok x → Takes bytes (spelling x.0) x.1 × IsColumn x.0
unfolding sketchlet_at
column_takes bytes x fits e =
    let a = bind_ok (marks_at bytes)
    (λ rest. dims_at rest >>= λ dims. admitted_key_at dims.0.width dims.1 >>= λ key. cells_at Short dims.0.rows key.1 >>= λ cells. Ok
    (column_of_parts key.0 dims.0 cells.0, cells.1)) x e in
    let b = bind_ok (dims_at a.0) (λ dims. admitted_key_at dims.0.width dims.1 >>= λ key. cells_at Short dims.0.rows key.1 >>= λ cells. Ok
    (column_of_parts key.0 dims.0 cells.0, cells.1)) x a.2 in
    let c = bind_ok (admitted_key_at b.0.0.width b.0.1)
    (λ key. cells_at Short b.0.0.rows key.1 >>= λ cells. Ok (column_of_parts key.0 b.0.0 cells.0, cells.1)) x b.2 in
    let d = bind_ok (cells_at Short b.0.0.rows c.0.1) (λ cells. Ok (column_of_parts c.0.0 b.0.0 cells.0, cells.1)) x c.2 in
    let t1 = marks_take bytes a.0 fits a.1 in
    let t2 = dims_take a.0 b.0 t1.rest_fits b.1 in
    let t3 = admitted_takes b.0.0.width b.0.1 c.0 t2.0.rest_fits c.1 in
    let t4 = cells_take Short b.0.0.rows c.0.1 d.0 t3.0.rest_fits d.1 in
    let s3 = Takes-then b.0.1 (column_key_bytes c.0.0) c.0.1 (cells_bytes d.0.0) d.0.1 t3.0 t4.0 in
    let s2 = Takes-then a.0 (dims_bytes b.0.0) b.0.1 (column_key_bytes c.0.0 ++ cells_bytes d.0.0) d.0.1 t2.0 s3 in
    let s1 = Takes-then bytes marks a.0 (dims_bytes b.0.0 ++ (column_key_bytes c.0.0 ++ cells_bytes d.0.0)) d.0.1 t1 s2 in
    let made : Column × List ℕ = (column_of_parts c.0.0 b.0.0 d.0.0, d.0.1) in
    let is : IsColumn made.0 = record {
      some_rows = t2.1;
      few_rows = t2.2;
      small_width = t2.3;
      index = t3.2;
      switch = t3.1.switch;
      epoch = t3.1.epoch;
      cells = t4.1;
    } in
    subst (λ (y : Column × List ℕ). Takes bytes (spelling y.0) y.1 × IsColumn y.0) {x = made} (ok_is made x d.2) (s1, is)

pub column_again : (c : Column) (rest : List ℕ) → IsColumn c → sketchlet_at (spelling c ++ rest) ≡ Ok (c, rest)
unfolding sketchlet_at
column_again c rest is =
    let end : List ℕ = cells_bytes c.cells ++ rest in
    let regrouped : spelling c ++ rest ≡ marks ++ (dims_bytes c.dims ++ (column_key_bytes c.key ++ end)) = simp append_assoc in
    let index_fits : c.key.index < 2 ^ 16 = omega (arith, is.index, is.small_width) in
    ap sketchlet_at regrouped ∙ rw (
      marks_again (dims_bytes c.dims ++ (column_key_bytes c.key ++ end)),
      dims_again c.dims (column_key_bytes c.key ++ end) is.some_rows is.few_rows (omega (arith, is.index)) is.small_width,
      admitted_again c.dims.width c.key end (record { switch = is.switch; epoch = is.epoch; index = index_fits }) is.index,
      cells_again Short c.dims.rows c.cells rest is.cells,
    ) refl

spellings_apart : (a b : Column) (x y : List ℕ) → IsColumn a → IsColumn b → spelling a ++ x ≡ spelling b ++ y → (a ≡ b) × (x ≡ y)
spellings_apart a b x y is-a is-b e =
    let same : Ok (a, x) ≡ Ok (b, y) = sym (column_again a x is-a) ∙ ap sketchlet_at e ∙ column_again b y is-b in
    let both = ok_is {E = WireFault} (a, x) (b, y) same in
    (ap (λ (p : Column × List ℕ). p.0) both, ap (λ (p : Column × List ℕ). p.1) both)

pub law : LawOfSpellings
law = record {
  no_proper_prefix = λ a b x is-a is-b e. (spellings_apart a b x [] is-a is-b (e ∙ sym (append-nil (spelling b)))).1;
  one_column = λ a b is-a is-b e. (spellings_apart a b [] [] is-a is-b (ap (λ (s : List ℕ). s ++ []) e)).0;
  apart = spellings_apart;
}

pub spelling_length : (c : Column) → IsColumn c → length (spelling c) ≡ spelling_len c.dims.rows
unfolding marks dims_bytes
spelling_length c is =
    omega (
      arith,
      length-append (marks ++ dims_bytes c.dims) (column_key_bytes c.key ++ cells_bytes c.cells),
      length-append (column_key_bytes c.key) (cells_bytes c.cells),
      key_len c.key,
      cells_length c.dims.rows c.cells is.cells,
    )

-- what a decoder's answer says
pub is_found : (bytes : List ℕ) (r : Result (Column × ℕ) WireFault) → IsBytes bytes → r ≡ column_reading bytes
    → IfOk r (λ x. IsColumn x.0 × (bytes ≡ spelling x.0 ++ drop x.1 bytes) × (x.1 ≡ spelling_len x.0.dims.rows))
is_found bytes (Err f) fits e = tt
is_found bytes (Ok x) fits e =
    let a = bind_ok (sketchlet_at bytes) (λ x. Ok (x.0, spelling_len x.0.dims.rows)) x (sym e) in
    let t = column_takes bytes a.0 fits a.1 in
    let whole : bytes ≡ spelling a.0.0 ++ drop (spelling_len a.0.0.dims.rows) bytes =
    t.0.parts ∙ ap (λ (r : List ℕ). spelling a.0.0 ++ r) (sym (ap (drop (spelling_len a.0.0.dims.rows)) t.0.parts
    ∙ drop_at (spelling a.0.0) a.0.1 (spelling_len a.0.0.dims.rows) (spelling_length a.0.0 t.1))) in
    let made : Column × ℕ = (a.0.0, spelling_len a.0.0.dims.rows) in
    subst (λ (y : Column × ℕ). IsColumn y.0 × (bytes ≡ spelling y.0 ++ drop y.1 bytes) × (y.1 ≡ spelling_len y.0.dims.rows)) (ok_is made x a.2)
    (t.1, whole, refl)

pub is_read : (bytes : List ℕ) (c : Column) (rest : List ℕ) → IsColumn c → bytes ≡ spelling c ++ rest → column_reading bytes ≡ Ok (c, spelling_len c.dims.rows)
is_read bytes c rest is e = rw (e, column_again c rest is) refl

pub is_whole : (bytes : List ℕ) (c : Column) → IsColumn c → bytes ≡ spelling c → column_reading bytes ≡ Ok (c, length bytes)
is_whole bytes c is e =
    let len : spelling_len c.dims.rows ≡ length bytes = sym (ap length e ∙ spelling_length c is) in
    is_read bytes c [] is (e ∙ sym (append-nil (spelling c))) ∙ ap (λ (n : ℕ). let r : Result (Column × ℕ) WireFault = Ok (c, n) in r) len

pub is_inside : (bytes : List ℕ) (r : Result (Column × ℕ) WireFault) → IfOk r (λ x. IsColumn x.0 × (bytes ≡ spelling x.0 ++ drop x.1 bytes)
    × (x.1 ≡ spelling_len x.0.dims.rows)) → IfOk r (λ x. x.1 ≤ length bytes)
is_inside bytes (Err f) h = tt
is_inside bytes (Ok x) h = omega (arith, ap length h.1, length-append (spelling x.0) (drop x.1 bytes), spelling_length x.0 h.0, h.2)
