-- Spellings of different columns are apart, and what was written is read back.
use Rattle.std.specs.Prelude.{◌≡◌, ℕ, List, [], ◌++◌, length, Ok}
use Rattle.byte_fields.specs.Law.{IsBytes, Takes}
use Rattle.lg_model.specs.declared.column.Key.{Key}
use Rattle.lg_model.specs.Columns.{Cells, Column}
use Rattle.lg_model.specs.Placing.{Shape}
use Rattle.sketchlet_wire.specs.Spelling.{IsColumn, AreCells, FitsKey, spelling, cells_bytes, cells_len, column_key_bytes}
use Rattle.sketchlet_wire.specs.Reading.{key_at, cells_at}
use Rattle.sketchlet_wire.specs.ShapeFields.{FitsShape, shape_bytes, shape_at}

-- No spelling is a proper prefix of another, and each is of one column. So bytes that begin with a spelling begin with
-- no other, and what stands after it is fixed too.
pub record LawOfSpellings : Type 0 where
  pub no_proper_prefix : (a b : Column) (x : List ℕ) → IsColumn a → IsColumn b → spelling a ++ x ≡ spelling b → x ≡ []
  pub one_column : (a b : Column) → IsColumn a → IsColumn b → spelling a ≡ spelling b → a ≡ b
  pub apart : (a b : Column) (x y : List ℕ) → IsColumn a → IsColumn b → spelling a ++ x ≡ spelling b ++ y → (a ≡ b) × (x ≡ y)

-- A key that was written is read back, whatever follows, and what is read was written so.
pub record LawOfKeys {E : Type 0} (missing : E) : Type 0 where
  pub len : (k : Key) → length (column_key_bytes k) ≡ 8
  pub again : (k : Key) (rest : List ℕ) → FitsKey k → key_at missing (column_key_bytes k ++ rest) ≡ Ok (k, rest)
  pub takes : (bytes : List ℕ) (x : Key × List ℕ) → IsBytes bytes → key_at missing bytes ≡ Ok x
      → Takes bytes (column_key_bytes x.0) x.1 × FitsKey x.0

-- So it is with the cells of a column of that many rows.
pub record LawOfCells {E : Type 0} (missing : E) : Type 0 where
  pub len : (rows : ℕ) (cells : Cells) → AreCells rows cells → length (cells_bytes cells) ≡ cells_len rows
  pub again : (rows : ℕ) (cells : Cells) (rest : List ℕ) → AreCells rows cells → cells_at missing rows (cells_bytes cells ++ rest) ≡ Ok (cells, rest)
  pub takes : (rows : ℕ) (bytes : List ℕ) (x : Cells × List ℕ) → IsBytes bytes → cells_at missing rows bytes ≡ Ok x
      → Takes bytes (cells_bytes x.0) x.1 × AreCells rows x.0

-- And with a shape.
pub record LawOfShapes {E : Type 0} (missing bad : E) : Type 0 where
  pub len : (shape : Shape) → length (shape_bytes shape) ≡ 12
  pub again : (shape : Shape) (rest : List ℕ) → FitsShape shape → shape_at missing bad (shape_bytes shape ++ rest) ≡ Ok (shape, rest)
  pub takes : (bytes : List ℕ) (x : Shape × List ℕ) → IsBytes bytes → shape_at missing bad bytes ≡ Ok x
      → Takes bytes (shape_bytes x.0) x.1 × FitsShape x.0
