-- How a list of columns is cut into uploads.
use Rattle.std.specs.Prelude.{◌≡◌, ℕ, ◌≤◌, ◌&&◌, nat_lt, not, Bool, false, List, [], ◌∷◌, ◌++◌, map, length, take, fold, reverse, slice_index_or, if◌then◌else◌}
use Rattle.std.specs.List.{enumerate_from, flat_map, AllByRecursion}
use Rattle.lg_model.specs.declared.limits.TheConstants.{MOST_UPLOAD_COLUMNS}
use Rattle.lg_model.specs.Columns.{Column}
use Rattle.sketchlet_wire.specs.Uploads.{UploadData, IsUpload, upload_of, holds_key, no_column}

-- A piece of a list, for one upload.
abbrev pub Piece : Type 0
Piece = List Column

-- Whether a column can join a piece: there is room, and no column of its key.
abbrev pub can_join : Piece → Column → Bool
can_join piece c = nat_lt (length piece) MOST_UPLOAD_COLUMNS && not (holds_key c.key piece)

-- A column joins the last piece if it can, else it begins the next. (The last piece comes first here.)
abbrev pub with_next : List Piece → Column → List Piece
with_next [] c = (c ∷ []) ∷ []
with_next (piece ∷ before) c = if can_join piece c then (piece ++ c ∷ []) ∷ before else (c ∷ []) ∷ piece ∷ before

-- The cut of a list of columns, from the left, into the longest pieces of at most 16 columns with no key twice.
abbrev pub cut : List Column → List Piece
cut cs = reverse (fold with_next [] cs)

-- The first column of a piece.
abbrev pub first_of : Piece → Column
first_of p = slice_index_or p 0 no_column

-- The first column of each piece can't join the one before.
abbrev pub IsLongest : List Piece → Type 0
IsLongest [] = Unit {0}
IsLongest (p ∷ []) = Unit {0}
IsLongest (p ∷ q ∷ ps) = (can_join p (first_of q) ≡ false) × IsLongest (q ∷ ps)

-- The law of the cut: the pieces are the list, each can be an upload, and each is the longest.
pub record IsCut (cs : List Column) (pieces : List Piece) : Type 0 where
  pub whole : flat_map (λ (p : Piece). p) pieces ≡ cs
  pub uploads : AllByRecursion IsUpload pieces
  pub longest : IsLongest pieces

-- The longest front of a list that can be an upload.
pub record IsLongestFront (cs : List Column) (p : Piece) : Type 0 where
  pub front : take (length p) cs ≡ p
  pub upload : IsUpload p
  pub longest : (n : ℕ) → n ≤ length cs → IsUpload (take n cs) → n ≤ length p

-- Each piece is the longest front of what the pieces before it leave, and nothing is left in the end.
abbrev pub AreLongestFronts : List Column → List Piece → Type 0
AreLongestFronts cs [] = cs ≡ []
AreLongestFronts cs (p ∷ ps) = (rest : List Column) × (cs ≡ p ++ rest) × IsLongestFront cs p × AreLongestFronts rest ps

abbrev pub LawOfTheCut : Type 0
LawOfTheCut = (cs : List Column) → IsCut cs (cut cs)

abbrev pub LawOfLongestFronts : Type 0
LawOfLongestFronts = (cs : List Column) → AreLongestFronts cs (cut cs)

-- The uploads of pieces of a host, numbered from 0.
abbrev pub numbered : ℕ → List Piece → List UploadData
numbered host pieces = map (λ (p : ℕ × Piece). upload_of host p.0 p.1) (enumerate_from 0 pieces)
