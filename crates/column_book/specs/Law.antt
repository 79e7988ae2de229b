-- A check and an addition are what an upload does to a list of entries.
use Rattle.std.specs.Prelude.{◌≡◌, ℕ, ◌<◌, List, [], ◌∷◌, ◌++◌, Ok, Err}
use Rattle.lg_model.specs.Placing.{Shape}
use Rattle.sketchlet_wire.specs.Uploads.{UploadData}
use Rattle.column_book.specs.declared.entry.Entry.{Entry}
use Rattle.column_book.specs.declared.fault.BookFault.{BookFault}
use Rattle.column_book.specs.Entries.{records}
use Rattle.column_book.specs.Applying.{decide, checked, stored_entry, after}

-- Where a check gives a fault, the entries stay; where it gives the mask 0, nothing is new and they stay; at any other mask
-- the entry is stored at the end.
pub record ChecksApply (shape : Shape) (room : ℕ) (es : List Entry) (pass : ℕ) (u : UploadData) : Type 0 where
  pub refused : (f : BookFault) → checked shape room (records es) u ≡ Err f → (decide shape room (records es) u ≡ Err f) × (after shape room es pass u ≡ es)
  pub known : checked shape room (records es) u ≡ Ok 0 → (decide shape room (records es) u ≡ Ok []) × (after shape room es pass u ≡ es)
  pub stored : (m : ℕ) → 0 < m → checked shape room (records es) u ≡ Ok m →
      (decide shape room (records es) u ≡ Ok (stored_entry pass es u).stored.columns) × (after shape room es pass u ≡ es ++ stored_entry pass es u ∷ [])

abbrev pub LawOfApplying : Type 0
LawOfApplying = (shape : Shape) (room : ℕ) (es : List Entry) (pass : ℕ) (u : UploadData) → ChecksApply shape room es pass u
