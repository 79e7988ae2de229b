-- The definitions at worked runs, by computation.
use Rattle.std.specs.Prelude.{◌≡◌, ℕ, List, [], ◌∷◌, Ok, Err}
use Rattle.lg_model.specs.declared.scenario.Letter.TheVariants as letter
use Rattle.lg_model.specs.declared.column.Bucket.{Bucket}
use Rattle.lg_model.specs.Columns.{Column, cells_of}
use Rattle.lg_model.specs.declared.scenario.Fate.TheVariants.{Straight}
use Rattle.lg_model.specs.declared.scenario.Step.TheVariants.{Packet, End}
use Rattle.lg_model.specs.Scenario.{Scenario}
use Rattle.lg_model.specs.Worked.{network, first, first_again, late, flow, send, ask}
use Rattle.sketchlet_wire.specs.Uploads.{UploadData, upload_of}
use Rattle.column_book.specs.declared.book.TheConstants.{ROOM}
use Rattle.column_book.specs.declared.fault.BookFault.TheVariants.{Conflict}
use Rattle.column_book.specs.Applying.{decide}
use Rattle.link_deliveries.specs.Deliveries.{delivered}
use Rattle.upload_world.specs.Pumps.{before_first}
use Rattle.book_laws.specs.Legal.{uploads_at, order_at, IsLegal}
use Rattle.book_laws.specs.Keeping.{IsClash}

abbrev pub bucket : (bytes delay : ℕ) → Bucket
bucket bytes delay = record { bytes = bytes; delay = delay }

-- A column of two rows, of epoch 0 at switch 1.
abbrev pub two_rows : (width index : ℕ) → (upper lower : Bucket) → Column
two_rows width index upper lower = record {
  key = record { switch = 1; epoch = 0; index = index };
  dims = record { rows = 2; width = width };
  cells = cells_of (upper ∷ lower ∷ []);
}

-- The one column of the first scenario, and the two of the late one.
abbrev pub sole : Column
sole = two_rows 1 0 (bucket 1500 20) (bucket 1500 20)

abbrev pub left : Column
left = two_rows 2 0 (bucket 150 30) (bucket 50 30)

abbrev pub right : Column
right = two_rows 2 1 (bucket 0 0) (bucket 100 10)

-- The first scenario with a first packet of 1,600 bytes, and its one column.
abbrev pub dearer : Scenario
dearer = network 1 (1 ∷ []) (flow 1 2 1 (0 ∷ []) ∷ [])
    (send 0 1600 20 Straight ∷ End 0 ∷ first_again) (ask 0 1 0 ∷ [])

abbrev pub dear : Column
dear = two_rows 1 0 (bucket 1600 20) (bucket 1600 20)

-- The first scenario with four packets after the end, each of which carries the one column. The link loses the first
-- upload, drops the reply to the second, brings the third twice, and holds the fourth.
abbrev pub lossy : Scenario
lossy = record (first 20 (Packet 0 100 (5 ∷ []) 4 Straight ∷ [])) {
  hosts = record { name = 1; letters = letter.Lose ∷ letter.LoseReply ∷ letter.Twice ∷ letter.Hold ∷ [] } ∷ [];
}

-- The record of columns of the upload of that number of host 1.
abbrev pub record_of : (seq : ℕ) → List Column → UploadData
record_of seq cs = upload_of 1 seq cs

pub record WorkedBooks : Type 0 where
  pub one_upload : uploads_at (first 20 first_again) 0 ≡ record_of 0 (sole ∷ []) ∷ []
  pub no_upload : uploads_at (first 20 []) 0 ≡ []
  -- column 0 comes three times before column 1: no upload has it twice
  pub three_uploads : uploads_at late 0
      ≡ record_of 0 (left ∷ []) ∷ record_of 1 (left ∷ []) ∷ record_of 2 (left ∷ right ∷ []) ∷ []
  pub four_uploads : uploads_at lossy 0
      ≡ record_of 0 (sole ∷ []) ∷ record_of 1 (sole ∷ []) ∷ record_of 2 (sole ∷ []) ∷ record_of 3 (sole ∷ []) ∷ []
  -- without letters each upload comes once, in order; over the other link the first one comes after the others
  pub plain_order : order_at delivered late 0 ≡ 0 ∷ 1 ∷ 2 ∷ []
  pub lossy_order : order_at delivered lossy 0 ≡ 1 ∷ 2 ∷ 2 ∷ 3 ∷ 0 ∷ 1 ∷ []
  pub two_before : before_first 2 (order_at delivered late 0) ≡ 0 ∷ 1 ∷ []
  pub four_before : before_first 0 (order_at delivered lossy 0) ≡ 1 ∷ 2 ∷ 2 ∷ 3 ∷ []
  -- after the record of the first of three uploads, the second is known, and of the third column 1 alone is stored
  pub known : decide late.shape ROOM (record_of 0 (left ∷ []) ∷ []) (record_of 1 (left ∷ [])) ≡ Ok []
  pub one_more : decide late.shape ROOM (record_of 0 (left ∷ []) ∷ []) (record_of 2 (left ∷ right ∷ []))
      ≡ Ok (right ∷ [])
  -- after the first run, the run with the larger packet is refused
  pub refused : decide dearer.shape ROOM (record_of 0 (sole ∷ []) ∷ []) (record_of 0 (dear ∷ []))
      ≡ Err (Conflict sole.key sole dear)
  pub clash : IsClash dearer (record_of 0 (sole ∷ []) ∷ []) sole.key sole dear
  pub first_book : IsLegal delivered (first 20 first_again) [] (record_of 0 (sole ∷ []) ∷ [])
  pub nothing_new : IsLegal delivered (first 20 first_again)
      (record_of 0 (sole ∷ []) ∷ []) (record_of 0 (sole ∷ []) ∷ [])
  pub late_book : IsLegal delivered late [] (record_of 0 (left ∷ []) ∷ record_of 2 (right ∷ []) ∷ [])
  -- the upload that comes first is stored, not the one with the least number
  pub lossy_book : IsLegal delivered lossy [] (record_of 1 (sole ∷ []) ∷ [])
  pub not_the_lost : IsLegal delivered lossy [] (record_of 0 (sole ∷ []) ∷ []) → ⊥
  -- a column is stored once, and with the first upload that brings it
  pub not_twice : IsLegal delivered (first 20 first_again) []
      (record_of 0 (sole ∷ []) ∷ record_of 0 (sole ∷ []) ∷ []) → ⊥
  pub not_the_third : IsLegal delivered late [] (record_of 2 (left ∷ right ∷ []) ∷ []) → ⊥
