-- What a run leaves on a disk, at any moment and in the end.
use Rattle.std.specs.Prelude.{◌⊎◌, ℕ, ◌+◌, ◌≤◌, List, length}
use mathlib.Core.List.{IsPrefix}
use Rattle.lg_model.specs.Scenario.{Scenario}
use Rattle.sketchlet_wire.specs.Uploads.{UploadData}
use Rattle.book_file.specs.Between.{Files, Standing, IsBetween}
use Rattle.book_laws.specs.Legal.{Order, IsLegal}

-- A disk is settled at a list: whatever file a crash leaves stands for it.
abbrev pub IsSettled : Standing → List UploadData → Files → Type 0
IsSettled stands list images = (c : List ℕ) → images c → stands list c

-- What a run leaves, from the list `before` that it found. A crash now leaves `kept`; or `full`, which has one record
-- more at most. A crash at a moment of the run left what it might have left before the run, or a list from `before` up
-- to `full`; from a settled disk, only that. `full` is legal, and with it all these lists are.
pub record IsLeft (stands : Standing) (order : Order) (w : Scenario) (before : List UploadData) (was now since : Files)
    (kept full : List UploadData) : Type 0 where
  pub legal : IsLegal order w before full
  pub least : IsPrefix before kept
  pub front : IsPrefix kept full
  pub one_more : length full ≤ length kept + 1
  pub now_is : (c : List ℕ) → now c → stands kept c ⊎ stands full c
  pub moments : (c : List ℕ) → since c → was c ⊎ IsBetween stands before full c
  pub settled : IsSettled stands before was → (c : List ℕ) → since c → IsBetween stands before full c

-- The same, said of whatever list a file stands for. A file that a crash leaves is one that it might have left before
-- the run, or stands for a legal list. From a settled disk every list is legal; of any two, one begins with the other;
-- and none has more than one record beyond a list that a crash now leaves.
pub record IsLeftByFiles (stands : Standing) (order : Order) (w : Scenario) (before : List UploadData)
    (was now since : Files) : Type 0 where
  pub each : (c : List ℕ) → since c → was c ⊎ ((l : List UploadData) × stands l c × IsLegal order w before l)
  pub legal : IsSettled stands before was → (c : List ℕ) (l : List UploadData) → since c → stands l c
      → IsLegal order w before l
  pub chain : IsSettled stands before was → (c d : List ℕ) (l m : List UploadData) → since c → since d
      → stands l c → stands m d → IsPrefix l m ⊎ IsPrefix m l
  pub near : IsSettled stands before was → (c d : List ℕ) (l m : List UploadData) → since c → now d
      → stands l c → stands m d → length l ≤ length m + 1
