-- Files of a book: what they stand for, and which fault they have, by computation and by cases.
use Rattle.std.specs.Prelude.{◌≡◌, ℕ, List, [], ◌∷◌, ◌++◌, replicate}
use Rattle.std.specs.List.{range_with_len}
use Rattle.lg_model.specs.declared.scenario.Hash.TheVariants.{Seed}
use Rattle.lg_model.specs.Columns.{dims_of}
use Rattle.lg_model.specs.Placing.{Shape}
use Rattle.sketchlet_wire.specs.Uploads.{UploadData, upload_of}
use Rattle.book_file.specs.File.{header, body, body_len, front, IsBlank, IsRecord, AreRecords, IsClosed}
use Rattle.worked_examples.specs.Networks.{odd}

abbrev pub shape : Shape
shape = record { rows = 2; width = 2314; hash = Seed 796025588171149586 }

-- A record of the host 258, with the number 50595078 and one column, whose bytes count up.
abbrev pub one : UploadData
one = upload_of 258 50595078 (odd ∷ [])

-- The 17 bytes of the header with its open gate, and the 33 of the body.
abbrev pub head : List ℕ
head = 1 ∷ 76 ∷ 71 ∷ 66 ∷ 49 ∷ 2 ∷ 9 ∷ 10 ∷ 1 ∷ range_with_len 11 8

abbrev pub a_body : List ℕ
a_body = 1 ∷ 2 ∷ 3 ∷ 4 ∷ 5 ∷ 6 ∷ 1 ∷ (range_with_len 1 8 ++ range_with_len 11 12)

pub record WorkedBookFiles : Type 0 where
  -- the gate, four letters and the shape; a body with host, number, count, then each column's key and cells
  pub header_bytes : header shape ≡ head
  pub body_bytes : body one ≡ a_body
  -- every record after an open gate, in order
  pub front_bytes : front shape (one ∷ upload_of 9 1 (odd ∷ odd ∷ []) ∷ [])
      ≡ head ++ (1 ∷ (a_body ++ 1 ∷ 0 ∷ 9 ∷ 0 ∷ 0 ∷ 0 ∷ 1 ∷ 2
      ∷ (range_with_len 1 8 ++ (range_with_len 11 12 ++ (range_with_len 1 8 ++ range_with_len 11 12)))))
  pub body_length : body_len 8 16 ≡ 903
  pub least_body : body_len 1 1 ≡ 21
  -- 1 alone is an open gate
  pub closed_zero : IsClosed 0
  pub closed_two : IsClosed 2
  pub not_open : IsClosed 1 → ⊥
  -- at most one byte, or at most 18 with a closed gate in front
  pub blank_one : IsBlank (1 ∷ [])
  pub blank_eighteen : IsBlank (2 ∷ replicate 17 1)
  pub not_nineteen : IsBlank (2 ∷ replicate 18 1) → ⊥
  pub not_blank : IsBlank (1 ∷ 0 ∷ []) → ⊥
  -- 1 to 16 columns of the size of the shape, and a key once
  pub no_columns : IsRecord (dims_of shape) (upload_of 1 1 []) → ⊥
  pub seventeen : IsRecord (dims_of shape) (upload_of 1 1 (replicate 17 odd)) → ⊥
  pub other_size : IsRecord (record { rows = 2; width = 2313 }) one → ⊥
  pub host_range : IsRecord (dims_of shape) (upload_of 65536 1 (odd ∷ [])) → ⊥
  pub twice : AreRecords (dims_of shape) (one ∷ one ∷ []) → ⊥
