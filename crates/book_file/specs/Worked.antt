-- Worked files, by computation: two rows of width 1, places by ports, one record of host 1 with the worked column.
use Rattle.std.specs.Prelude.{◌≡◌, ℕ, ◌+◌, List, [], ◌∷◌, ◌++◌, length, take, replicate, None, Err}
use Rattle.lg_model.specs.declared.scenario.Hash.TheVariants.{Ports}
use Rattle.lg_model.specs.Placing.{Shape}
use Rattle.sketchlet_wire.specs.Uploads.{UploadData, upload_of}
use Rattle.sketchlet_wire.specs.Worked.{worked, two_rows}
use Rattle.book_file.specs.declared.found.OpenFault.TheVariants.{NotAJournal, Damaged}
use Rattle.book_file.specs.File.{front, IsBlank, StandsFor}
use Rattle.book_file.specs.Found.{Finds}

abbrev pub worked_shape : Shape
worked_shape = record { rows = 2; width = 1; hash = Ports }

abbrev pub worked_record : UploadData
worked_record = upload_of 1 0 (worked ∷ [])

-- 01, 4c474231, 02 0001 00, eight zeros.
abbrev pub worked_header : List ℕ
worked_header = 1 ∷ 76 ∷ 71 ∷ 66 ∷ 49 ∷ 2 ∷ 0 ∷ 1 ∷ 0 ∷ replicate 8 0

-- The host 0001, the number 00000000, the count 01, the key 0001 00000000 0000, then the two rows.
abbrev pub worked_body : List ℕ
worked_body = 0 ∷ 1 ∷ 0 ∷ 0 ∷ 0 ∷ 0 ∷ 1 ∷ 0 ∷ 1 ∷ 0 ∷ 0 ∷ 0 ∷ 0 ∷ 0 ∷ 0 ∷ two_rows

-- The file that ends in this gate.
abbrev pub worked_with : ℕ → List ℕ
worked_with gate = worked_header ++ 1 ∷ (worked_body ++ gate ∷ [])

abbrev pub zeros_of : ℕ → List ℕ
zeros_of n = replicate n 0

pub record WorkedFiles : Type 0 where
  pub spelled : front worked_shape (worked_record ∷ []) ++ 0 ∷ [] ≡ worked_with 0
  pub len : length (worked_with 0) ≡ 46
  pub stands : StandsFor worked_shape (worked_record ∷ []) (worked_with 0)
  -- the header alone
  pub header_alone : (room : ℕ) → Finds None room (take 17 (worked_with 0)) (Err (Damaged 17))
  -- the last gate is open, and nothing follows it
  pub last_open : (room : ℕ) → Finds None (1 + room) (worked_with 1) (Err (Damaged 45))
  -- short files
  pub no_byte : IsBlank []
  pub one_byte : IsBlank (1 ∷ [])
  pub eighteen_zeros : IsBlank (zeros_of 18)
  pub nineteen_zeros : (room : ℕ) → Finds None room (zeros_of 19) (Err NotAJournal)
