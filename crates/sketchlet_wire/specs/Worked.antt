-- A worked column, by computation: switch 1, epoch 0, index 0, two rows of width 1, each with the sum 1500 and the
-- maximum 20.
use Rattle.std.specs.Prelude.{◌≡◌, ℕ, List, [], ◌∷◌, map, take, replicate, Result, Ok, Err}
use Rattle.std.specs.List.{range_with_len}
use Rattle.lg_model.specs.declared.column.Bucket.{Bucket}
use Rattle.sketchlet_wire.specs.declared.fault.WireFault.{WireFault}
use Rattle.sketchlet_wire.specs.declared.fault.WireFault.TheVariants.{Short, NotSketchlet, BadRows, BadWidth, BadIndex}
use Rattle.lg_model.specs.Columns.{Column}
use Rattle.sketchlet_wire.specs.Spelling.{spelling}
use Rattle.sketchlet_wire.specs.Reading.{column_reading}

abbrev pub worked_bucket : Bucket
worked_bucket = record { bytes = 1500; delay = 20 }

abbrev pub worked : Column
worked = record {
  key = record { switch = 1; epoch = 0; index = 0 };
  dims = record { rows = 2; width = 1 };
  cells = record { buckets = worked_bucket ∷ worked_bucket ∷ [] };
}

-- Two rows with the sum 000005dc and the maximum 0014.
abbrev pub two_rows : List ℕ
two_rows = 0 ∷ 0 ∷ 5 ∷ 220 ∷ 0 ∷ 20 ∷ 0 ∷ 0 ∷ 5 ∷ 220 ∷ 0 ∷ 20 ∷ []

-- A sketchlet with this version, these rows, and these low bytes of width and index. Of the worked one these are 1, 2,
-- 1 and 0: 4c47 01 02 0001 0001 00000000 0000, then the two rows.
abbrev pub with_bytes : (version rows high_width width index : ℕ) → List ℕ
with_bytes version rows high_width width index = 76 ∷ 71 ∷ version ∷ rows ∷ high_width ∷ width ∷ 0 ∷ 1 ∷ 0 ∷ 0 ∷ 0 ∷ 0 ∷ 0 ∷ index ∷ two_rows

abbrev pub worked_spelling : List ℕ
worked_spelling = with_bytes 1 2 0 1 0

abbrev pub refused : WireFault → Result (Column × ℕ) WireFault
refused f = Err f

pub record WorkedBytes : Type 0 where
  pub spelled : spelling worked ≡ worked_spelling
  pub read : column_reading worked_spelling ≡ Ok (worked, 26)
  pub prefixes : map (λ n. column_reading (take n worked_spelling)) (range_with_len 0 26) ≡ replicate 26 (refused Short)
  pub first_letter : column_reading (0 ∷ []) ≡ refused (NotSketchlet 0)
  pub second_letter : column_reading (76 ∷ 0 ∷ []) ≡ refused (NotSketchlet 1)
  pub version : column_reading (with_bytes 2 2 0 1 0) ≡ refused (NotSketchlet 2)
  pub no_rows : column_reading (with_bytes 1 0 0 1 0) ≡ refused (BadRows 0)
  pub nine_rows : column_reading (with_bytes 1 9 0 1 0) ≡ refused (BadRows 9)
  pub no_width : column_reading (with_bytes 1 2 0 0 0) ≡ refused (BadWidth 0)
  pub wide : column_reading (with_bytes 1 2 16 1 0) ≡ refused (BadWidth 4097)
  pub index_at_width : column_reading (with_bytes 1 2 0 1 1) ≡ refused (BadIndex 1)
