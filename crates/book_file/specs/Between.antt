-- Files between two lists of records.
use Rattle.std.specs.Prelude.{ℕ, List}
use mathlib.Core.List.{IsPrefix}
use Rattle.sketchlet_wire.specs.Uploads.{UploadData}

-- A set of files.
abbrev pub Files : Type 1
Files = List ℕ → Type 0

-- Which files stand for a list of records.
abbrev pub Standing : Type 1
Standing = List UploadData → Files

-- The file stands for a list that begins with the one list and is a front of the other.
pub record IsBetween (stands : Standing) (least most : List UploadData) (file : List ℕ) : Type 0 where
  pub list : List UploadData
  pub is : stands list file
  pub begins : IsPrefix least list
  pub ends : IsPrefix list most
