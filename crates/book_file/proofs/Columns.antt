-- Columns read from the bytes of a body.
use Rattle.std.proofs.Common.{◌≡◌, ℕ, zero, suc, ◌<◌, ◌≤◌, List, [], ◌∷◌, ◌++◌, length, take, drop, true, false, cond, ltb, Option, None}
use Rattle.std.proofs.Common.{Some, Ok, Err, refl, sym, ◌∙◌, ap, subst, arith, append_assoc, take-append-drop}
use Rattle.std.specs.List.{flat_map, AllByRecursion}
use Rattle.std.proofs.lemmas.List.{append-nil, length-take, length-drop}
use Rattle.std.specs.Prelude.{MatchOption}
use Rattle.std.proofs.lemmas.Bool.{ltb-true, lt-ltb}
use Rattle.std.proofs.lemmas.List.Concat.{flat_map-append}
use Rattle.byte_fields.specs.Law.{IsBytes, Takes}
use Rattle.byte_fields.specs.Reading.{◌>>=◌}
use Rattle.byte_fields.proofs.Steps.{bind_ok, guarded}
use Rattle.byte_fields.proofs.Numbers.{Takes-then}
use Rattle.lg_model.specs.declared.column.Bucket.{Bucket}
use Rattle.lg_model.specs.declared.column.Dims.{Dims}
use Rattle.lg_model.specs.declared.column.Key.{Key}
use Rattle.lg_model.specs.Columns.{Cells, Column}
use Rattle.sketchlet_wire.specs.declared.fault.WireFault.{WireFault}
use Rattle.sketchlet_wire.specs.declared.fault.WireFault.TheVariants.{Short, BadIndex}
use Rattle.sketchlet_wire.specs.Spelling.{IsAdmitted, IsDims, FitsKey, column_key_bytes, cells_bytes, shown}
use Rattle.sketchlet_wire.specs.Reading.{key_at, cells_at, column_of_parts}
use Rattle.sketchlet_wire.proofs.Fields.{key_again, key_takes, cells_again, cells_take}
use Rattle.book_file.specs.File.{IsColumnOf, column_bytes}
use Rattle.book_file.specs.Reading.{column_at}
use Rattle.book_file.proofs.Bodies.{same_columns}

-- ---- one column

key_fits : (dims : Dims) (c : Column) → IsColumnOf dims c → FitsKey c.key
key_fits dims c is =
    record { switch = is.column.switch; epoch = is.column.epoch; index = omega (arith, is.column.index, is.column.small_width) }

-- where a column stands, it is read
pub column_there : (dims : Dims) (bytes : List ℕ) (c : Column) (rest : List ℕ) → IsColumnOf dims c → bytes ≡ column_bytes c ++ rest
    → column_at dims bytes ≡ Ok (c, rest)
unfolding column_at
column_there dims bytes c rest is spelled =
    let key : key_at Short bytes ≡ Ok (c.key, cells_bytes c.cells ++ rest) =
    ap (key_at Short) (spelled ∙ append_assoc (column_key_bytes c.key) (cells_bytes c.cells) rest)
    ∙ key_again Short c.key (cells_bytes c.cells ++ rest) (key_fits dims c is) in
    let cells : cells_at Short dims.rows (cells_bytes c.cells ++ rest) ≡ Ok (c.cells, rest) =
    ap (λ (n : ℕ). cells_at Short n (cells_bytes c.cells ++ rest)) (sym (ap (λ (d : Dims). d.rows) is.sized))
    ∙ cells_again Short c.dims.rows c.cells rest is.column.cells in
    let inside : ltb c.key.index dims.width ≡ true =
    lt-ltb c.key.index dims.width (omega (arith, is.column.index, ap (λ (d : Dims). d.width) is.sized)) in
    rw (key, cells, inside) (λ i. Ok (record { key = c.key; dims = sym is.sized i; cells = c.cells }, rest))

-- what is read is a column that stands there
pub column_found : (dims : Dims) (bytes : List ℕ) (x : Column × List ℕ) → IsDims dims → IsBytes bytes → column_at dims bytes ≡ Ok x
    → IsColumnOf dims x.0 × Takes bytes (column_bytes x.0) x.1
unfolding column_at
column_found dims bytes x is_dims fits read =
    let last = λ (key : Key × List ℕ) (cells : Cells × List ℕ). cond (ltb key.0.index dims.width)
    (Ok (column_of_parts key.0 dims cells.0, cells.1)) (Err (BadIndex key.0.index)) in
    let a = bind_ok (key_at Short bytes) (λ key. cells_at Short dims.rows key.1 >>= λ cells. last key cells) x read in
    let b = bind_ok (cells_at Short dims.rows a.0.1) (λ cells. last a.0 cells) x a.2 in
    let made : Column × List ℕ = (column_of_parts a.0.0 dims b.0.0, b.0.1) in
    let g = guarded (ltb a.0.0.index dims.width) (BadIndex a.0.0.index) made x b.2 in
    let k = key_takes Short bytes a.0 fits a.1 in
    let c = cells_take Short dims.rows a.0.1 b.0 k.0.rest_fits b.1 in
    subst (λ (y : Column × List ℕ). IsColumnOf dims y.0 × Takes bytes (column_bytes y.0) y.1) {x = made} g.1 (
      record {
        column = record {
          some_rows = is_dims.some_rows;
          few_rows = is_dims.few_rows;
          small_width = is_dims.small_width;
          index = ltb-true a.0.0.index dims.width g.0;
          switch = k.1.switch;
          epoch = k.1.epoch;
          cells = c.1;
        };
        sized = refl;
      },
      Takes-then bytes (column_key_bytes a.0.0) a.0.1 (cells_bytes b.0.0) b.0.1 k.0 c.0,
    )

pub none_there : (dims : Dims) (bytes : List ℕ) (fault : WireFault) → column_at dims bytes ≡ Err fault → (c : Column) (rest : List ℕ)
    → IsColumnOf dims c → bytes ≡ column_bytes c ++ rest → ⊥
none_there dims bytes fault failed c rest is spelled = let e = sym failed ∙ column_there dims bytes c rest is spelled in absurd (cc e)

-- the column of parts that are in their ranges
pub column_made : (key : Key) (dims : Dims) (cells : List Bucket) (r : Option Column) → IsDims dims
    → MatchOption r (IsAdmitted key dims → ⊥) (λ c. IsAdmitted key dims × (c ≡ shown key dims cells))
    → r ≡ cond (ltb key.index dims.width) (Some (shown key dims cells)) None
column_made key dims cells (Some c) is h = let inside : ltb key.index dims.width ≡ true = lt-ltb key.index dims.width h.0.index in
    rw inside (ap {B = Option Column} (λ (x : Column). Some x) h.1)
column_made key dims cells None is h =
    (elim (ltb key.index dims.width) as (λ b. ltb key.index dims.width ≡ b → None ≡ cond b (Some (shown key dims cells)) None) [
      | true ↦ λ e. absurd (h (record {
        some_rows = is.some_rows;
        few_rows = is.few_rows;
        some_width = is.some_width;
        small_width = is.small_width;
        index = ltb-true key.index dims.width e;
      }))
      | false ↦ λ e. refl
    ]) refl

-- ---- column after column

pub column_more : (cs new : List Column) (c : Column) (bytes left rest : List ℕ) → new ≡ cs ++ c ∷ []
    → bytes ≡ flat_map column_bytes cs ++ left → left ≡ column_bytes c ++ rest → bytes ≡ flat_map column_bytes new ++ rest
column_more cs new c bytes left rest adds so_far is =
    so_far
    ∙ ap (λ (l : List ℕ). flat_map column_bytes cs ++ l) is
    ∙ sym (append_assoc (flat_map column_bytes cs) (column_bytes c) rest)
    ∙ ap (λ (l : List ℕ). (flat_map column_bytes cs ++ l) ++ rest) (sym (append-nil (column_bytes c)))
    ∙ ap (λ (l : List ℕ). l ++ rest) (sym (flat_map-append column_bytes cs (c ∷ [])))
    ∙ ap (λ (l : List Column). flat_map column_bytes l ++ rest) (sym adds)

all_drop : {X : Type 0} (P : X → Type 0) (n : ℕ) (xs : List X) → AllByRecursion P xs → AllByRecursion P (take n xs) × AllByRecursion P
    (drop n xs)
all_drop P zero xs all = (tt, all)
all_drop P (suc n) [] all = (tt, tt)
all_drop P (suc n) (x ∷ xs) all = let rest = all_drop P n xs all.1 in ((all.0, rest.0), rest.1)

-- no columns stand where, after those that were read, there is none
pub no_columns : (dims : Dims) (read : List Column) (bytes left : List ℕ) (count : ℕ) → AllByRecursion (IsColumnOf dims) read
    → bytes ≡ flat_map column_bytes read ++ left → length read < count
    → ((c : Column) (rest : List ℕ) → IsColumnOf dims c → left ≡ column_bytes c ++ rest → ⊥)
    → (cs : List Column) (rest : List ℕ) → length cs ≡ count → AllByRecursion (IsColumnOf dims) cs
    → bytes ≡ flat_map column_bytes cs ++ rest → ⊥
no_columns dims read bytes left count all so_far lt none cs rest long each is =
    let n = length read in
    let parts = all_drop (IsColumnOf dims) n cs each in
    let split : flat_map column_bytes cs ≡ flat_map column_bytes (take n cs) ++ flat_map column_bytes (drop n cs) =
    ap (λ (l : List Column). flat_map column_bytes l) (sym (take-append-drop n cs))
    ∙ flat_map-append column_bytes (take n cs) (drop n cs) in
    let same : flat_map column_bytes read ++ left ≡ flat_map column_bytes (take n cs) ++ (flat_map column_bytes (drop n cs) ++ rest) =
    sym so_far ∙ is ∙ ap (λ (l : List ℕ). l ++ rest) split ∙ append_assoc (flat_map column_bytes (take n cs))
    (flat_map column_bytes (drop n cs)) rest in
    let one = same_columns dims read (take n cs) left (flat_map column_bytes (drop n cs) ++ rest)
    (omega (arith, length-take n cs, long, lt)) all parts.0 same in
    first (drop n cs) (omega (arith, length-drop n cs, long, lt)) parts.1 one.1
  where
    first : (ds : List Column) → 1 ≤ length ds → AllByRecursion (IsColumnOf dims) ds → left ≡ flat_map column_bytes ds ++ rest → ⊥
    first [] some all_d e = omega arith
    first (d ∷ ds) some all_d e =
        none d (flat_map column_bytes ds ++ rest) all_d.0 (e ∙ append_assoc (column_bytes d) (flat_map column_bytes ds) rest)
