-- What the answers of a run over a book say of the network.
use Rattle.std.specs.Prelude.{◌≡◌, ◌≢◌, ℕ, ◌<◌, ◌↔◌, List, length, drop, All}
use Rattle.lg_model.specs.declared.scenario.Ask.{Ask}
use Rattle.lg_model.specs.Scenario.{Scenario}
use Rattle.lg_model.specs.Columns.{Column}
use Rattle.lg_model.specs.Answer.{answered}
use Rattle.lg_model.specs.Joining.{AgreesWith}
use Rattle.sketchlet_wire.specs.Uploads.{UploadData}
use Rattle.column_book.specs.Entries.{columns_in, content_in}
use Rattle.run_laws.specs.Truth.{IsTrueIn, IsFrozenColumn, NoneArrived, place_key}
use Rattle.book_laws.specs.Legal.{Order, IsLegal}
use Rattle.book_laws.specs.Keeping.{IsJoined}

-- Of no row of the asked flow is a column in a list.
abbrev pub NoneFound : Scenario → List UploadData → Ask → Type 0
NoneFound w l q = (i : ℕ) → i < w.shape.rows → All (λ (c : Column). c.key ≢ place_key w q i) (columns_in l)

-- The answer of the list after a run is true. No row is known exactly where the list that was found had a column of
-- none and none arrived.
pub record IsTrueAfter (w : Scenario) (before list : List UploadData) (q : Ask) : Type 0 where
  pub is : IsTrueIn w (content_in list) q
  pub unknown : (answered (content_in list) w q).rows_known ≡ 0 ↔ (NoneFound w before q × NoneArrived w q)

-- What is true of a run from the list `before` that it found. Each column that a legal list adds is its switch's
-- frozen one. Where `before` agrees with the scenario, so does each legal list; and then each answer of the report is
-- true, on a list that has all that is brought.
pub record IsTrueFrom (order : Order) (w : Scenario) (before : List UploadData) : Type 0 where
  pub added : (l : List UploadData) → IsLegal order w before l
      → All (IsFrozenColumn w) (columns_in (drop (length before) l))
  pub agrees : AgreesWith w (content_in before) → (l : List UploadData) → IsLegal order w before l
      → AgreesWith w (content_in l)
  pub answers : AgreesWith w (content_in before) → (l : List UploadData) → IsJoined w before l
      → All (IsTrueAfter w before l) w.asks
