-- Lines of output and of faults, letter by letter, by computation.
use Rattle.std.specs.Prelude.{◌≡◌, ℕ, List, [], ◌∷◌, ◌++◌, map, codes}
use Rattle.std.specs.List.{flat_map}
use Rattle.lg_model.specs.declared.column.Bucket.{Bucket}
use Rattle.lg_model.specs.declared.scenario.Hash.TheVariants.{Ports, Seed}
use Rattle.lg_model.specs.Columns.{Column}
use Rattle.sumax_sketch.specs.SketchState.{SketchState}
use Rattle.scenario_lines.specs.declared.why.Why.TheVariants as whys
use Rattle.scenario_lines.specs.Whys.{why_text}
use Rattle.report_text.specs.Report.{report}
use Rattle.report_text.specs.Columns.{column_line, rebuilt_line, row_line, acked_line}
use Rattle.report_text.specs.Capture.{hex_line, sketchlets_line}
use Rattle.report_text.specs.Summary.{summary_lines}
use Rattle.report_text.specs.Faults.{usage_line, read_fault_line, no_memory_line, disk_fault_line, not_a_journal_line}
use Rattle.report_text.specs.Faults.{blank_line}
use Rattle.report_text.specs.Faults.{shape_line, damaged_line, missing_line, scenario_line, full_line, conflict_line}
use Rattle.worked_examples.specs.Networks.{bucket, key_of, cells}
use Rattle.worked_examples.specs.Answers.{some, asked}

-- The text of these lines, each with its 0A.
abbrev pub text : List (List ℕ) → List ℕ
text [] = []
text (line ∷ lines) = line ++ 10 ∷ text lines

abbrev pub column : (upper lower : Bucket) → Column
column a b = record { key = key_of 11 3 4; dims = record { rows = 2; width = 9 }; cells = cells (a ∷ b ∷ []) }

-- Two rows of three buckets.
abbrev pub sketch : SketchState
sketch = record {
  shape = record { rows = 2; width = 3; hash = Ports };
  table = (bucket 1 2 ∷ bucket 3 4 ∷ bucket 5 6 ∷ []) ∷ (bucket 7 8 ∷ bucket 9 10 ∷ bucket 11 12 ∷ []) ∷ [];
}

pub record WorkedLines : Type 0 where
  -- a line for each ask in the order of the asks, flows and switches by their names, and the number of columns last
  pub report_text : report some asked ≡ text (
      codes "flow 31 switch 12 epoch 3 rows 2 of 2 bytes 60 delay 30"
      ∷ codes "flow 32 switch 12 epoch 3 rows 2 of 2 bytes 60 delay 9"
      ∷ codes "flow 31 switch 12 epoch 4 rows 1 of 2 bytes 5 delay 6"
      ∷ codes "flow 32 switch 12 epoch 4 rows 2 of 2 bytes 0 delay 6"
      ∷ codes "flow 31 switch 11 epoch 3 rows 1 of 2 bytes saturated delay saturated"
      ∷ codes "flow 32 switch 11 epoch 3 rows 0 of 2 bytes unknown delay unknown"
      ∷ codes "flow 31 switch 0 epoch 3 rows 0 of 2 bytes unknown delay unknown"
      ∷ codes "columns 4" ∷ [])
  pub column_text : column_line (column (bucket 1 2) (bucket 30 40)) ≡ text (codes "column 11 3 4 1 2 30 40" ∷ [])
  pub rebuilt : rebuilt_line 11 3 2 9 ≡ text (codes "rebuilt switch 11 epoch 3 rows 2 width 9" ∷ [])
  pub rows : flat_map (row_line sketch) (0 ∷ 1 ∷ [])
      ≡ text (codes "row 0 1 2 3 4 5 6" ∷ codes "row 1 7 8 9 10 11 12" ∷ [])
  pub acked : acked_line 21 7 ≡ text (codes "acked 21 7" ∷ [])
  pub hex : hex_line 21 (1 ∷ 171 ∷ 0 ∷ 254 ∷ []) ≡ text (codes "host 21 01ab00fe" ∷ [])
  pub sketchlets : sketchlets_line 3 ≡ text (codes "sketchlets 3" ∷ [])
  pub summary : summary_lines (record { rounds = 1; packets = 2; arrived = 3; columns = 4; asks = 5; unknown = 6 })
      ≡ text (codes "demo 1" ∷ codes "packets 2" ∷ codes "arrived 3" ∷ codes "columns 4" ∷ codes "asks 5 unknown 6" ∷ [])
  -- faults
  pub conflict : conflict_line (key_of 11 3 4) (column (bucket 1 2) (bucket 3 4)) (column (bucket 5 6) (bucket 7 8))
      ≡ text (codes "guardian: conflict at switch 11 epoch 3 column 4 kept 1 2 3 4 came 5 6 7 8" ∷ [])
  pub full : full_line 8 9 ≡ text (codes "guardian: full with 8 and 9 more" ∷ [])
  pub shapes : shape_line (record { rows = 1; width = 2; hash = Ports }) (record { rows = 3; width = 4; hash = Seed 5 })
      ≡ text (codes "guardian: shape 1 2 ports in the book, 3 4 seed 5 asked" ∷ [])
  pub damaged : damaged_line 45 ≡ text (codes "guardian: damaged at 45" ∷ [])
  pub missing : missing_line 11 3 1 2 ≡ text (codes "guardian: rebuild: switch 11 epoch 3 has 1 of 2 columns" ∷ [])
  pub scenario : scenario_line (12, whys.BadKey) ≡ text (codes "guardian: scenario line 12: bad key" ∷ [])
  pub plain : flat_map (λ l. l) (usage_line ∷ read_fault_line ∷ no_memory_line ∷ disk_fault_line ∷ not_a_journal_line
      ∷ blank_line ∷ []) ≡ text (
      codes "guardian: usage: guardian run, ask, list, rebuild S E, capture, make N, demo N"
      ∷ codes "guardian: read fault" ∷ codes "guardian: no memory" ∷ codes "guardian: disk fault"
      ∷ codes "guardian: not a journal" ∷ codes "guardian: rebuild: the book is blank" ∷ [])
  pub why_texts : map why_text (whys.Version ∷ whys.OutOfPlace ∷ whys.UnknownWord ∷ whys.WordCount ∷ whys.BadNumber
      ∷ whys.Repeated
      ∷ whys.UnknownName ∷ whys.BadPath ∷ whys.BadWord ∷ whys.BadLetters ∷ whys.TooMany ∷ whys.NoDone ∷ whys.TooLong ∷ [])
      ≡ codes "not guardian 1" ∷ codes "out of place" ∷ codes "unknown word" ∷ codes "word count" ∷ codes "bad number"
      ∷ codes "repeated" ∷ codes "unknown name" ∷ codes "bad path" ∷ codes "bad word" ∷ codes "bad letters"
      ∷ codes "too many" ∷ codes "no done" ∷ codes "too long" ∷ []
