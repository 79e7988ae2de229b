-- Uploads, and what comes to the hosts cut into them, by computation.
use Rattle.std.specs.Prelude.{◌≡◌, ℕ, List, [], ◌∷◌, ◌++◌, map, length, true, false, Ok, Err}
use Rattle.std.specs.List.{range_with_len}
use Rattle.lg_model.specs.declared.scenario.Letter.TheVariants as letter
use Rattle.lg_model.specs.declared.scenario.Hash.TheVariants.{Ports, Seed}
use Rattle.lg_model.specs.Columns.{Column}
use Rattle.lg_model.specs.Scenario.{Scenario}
use Rattle.sketchlet_wire.specs.ShapeFields.{shape_bytes}
use Rattle.sketchlet_wire.specs.Spelling.{spelling, cells_bytes, column_key_bytes}
use Rattle.sketchlet_wire.specs.Uploads.{IsUpload, upload_of, is_twice}
use Rattle.host_collect.specs.Cutting.{Piece, cut, numbered, can_join}
use Rattle.column_book.specs.declared.entry.Entry.{Entry}
use Rattle.column_book.specs.declared.fault.BookFault.TheVariants.{Full}
use Rattle.run_laws.specs.Booking.{uploads_of, booked_in}
use Rattle.run_laws.specs.Truth.{book_of}
use Rattle.book_laws.specs.Legal.{uploads_at, upload_at, order_at}
use Rattle.link_deliveries.specs.Deliveries.{delivered}
use Rattle.upload_world.specs.Pumps.{before_first}
use Rattle.worked_examples.specs.Networks.{bucket, key_of, cells, odd}
use Rattle.worked_examples.specs.Arrivals.{to_two, eleven, twelve, twelve_too}

-- A column by its index, and columns of these indexes.
abbrev pub col : ℕ → Column
col j = record { key = key_of 1 0 j; dims = record { rows = 1; width = 99 }; cells = cells (bucket 5 5 ∷ []) }

abbrev pub cols : List ℕ → List Column
cols js = map col js

abbrev pub counts : List Piece → List ℕ
counts ps = map (λ (p : Piece). length p) ps

abbrev pub entry : (host seq : ℕ) → List Column → Entry
entry host seq cs = record { pass = 0; stored = upload_of host seq cs }

-- The same network with letters: the link of host 21 repeats, that of host 22 loses.
abbrev pub lettered : Scenario
lettered = record to_two {
  hosts = record { name = 21; letters = letter.Twice ∷ [] } ∷ record { name = 22; letters = letter.Lose ∷ [] } ∷ [];
}

pub record WorkedUploads : Type 0 where
  -- switch, epoch, index; the sum and then the maximum, row 0 first; all high bytes first
  pub column_bytes : spelling odd ≡ 76 ∷ 71 ∷ 1 ∷ 2 ∷ 9 ∷ 10 ∷ (range_with_len 1 8 ++ range_with_len 11 12)
  pub key_bytes : column_key_bytes odd.key ≡ 1 ∷ 2 ∷ 3 ∷ 4 ∷ 5 ∷ 6 ∷ 7 ∷ 8 ∷ []
  pub bucket_bytes : cells_bytes odd.cells ≡ range_with_len 11 12
  pub seeded_shape : shape_bytes (record { rows = 8; width = 2314; hash = Seed 796025588171149586 })
      ≡ 8 ∷ 9 ∷ 10 ∷ 1 ∷ range_with_len 11 8
  pub port_shape : shape_bytes (record { rows = 8; width = 2314; hash = Ports })
      ≡ 8 ∷ 9 ∷ 10 ∷ 0 ∷ 0 ∷ 0 ∷ 0 ∷ 0 ∷ 0 ∷ 0 ∷ 0 ∷ 0 ∷ []
  -- 16 are one upload, 17 are two
  pub sixteen : counts (cut (cols (range_with_len 0 16))) ≡ 16 ∷ []
  pub seventeen : counts (cut (cols (range_with_len 0 17))) ≡ 16 ∷ 1 ∷ []
  -- a key that is there begins the next one; later columns don't go back to an earlier one
  pub repeated : cut (cols (1 ∷ 2 ∷ 1 ∷ 3 ∷ 2 ∷ 3 ∷ 4 ∷ []))
      ≡ cols (1 ∷ 2 ∷ []) ∷ cols (1 ∷ 3 ∷ 2 ∷ []) ∷ cols (3 ∷ 4 ∷ []) ∷ []
  pub none : cut [] ≡ []
  pub joins : map (can_join (cols (1 ∷ 2 ∷ []))) (cols (1 ∷ 2 ∷ 3 ∷ [])) ≡ false ∷ false ∷ true ∷ []
  pub numbers : numbered 7 (cols (1 ∷ 2 ∷ []) ∷ cols (1 ∷ []) ∷ [])
      ≡ upload_of 7 0 (cols (1 ∷ 2 ∷ [])) ∷ upload_of 7 1 (cols (1 ∷ [])) ∷ []
  pub twice : map (is_twice (cols (1 ∷ 2 ∷ 1 ∷ []))) (range_with_len 0 3) ≡ false ∷ false ∷ true ∷ []
  -- no columns, 17 columns, and a key twice are no upload
  pub not_none : IsUpload [] → ⊥
  pub not_seventeen : IsUpload (cols (range_with_len 0 17)) → ⊥
  pub not_twice : IsUpload (cols (1 ∷ 2 ∷ 1 ∷ [])) → ⊥
  -- of each host under its name, host after host
  pub of_hosts : uploads_of to_two ≡ upload_of 21 0 (eleven ∷ []) ∷ upload_of 22 0 (twelve_too ∷ twelve ∷ []) ∷ []
  pub at_position : uploads_at to_two 1 ≡ upload_of 22 0 (twelve_too ∷ twelve ∷ []) ∷ []
  pub by_number : upload_at to_two 0 0 ≡ upload_of 21 0 (eleven ∷ [])
  -- the order of a host's link, by its own letters
  pub orders : map (order_at delivered lettered) (range_with_len 0 2) ≡ (0 ∷ 0 ∷ []) ∷ (0 ∷ []) ∷ []
  pub before_own : before_first 1 (3 ∷ 0 ∷ 1 ∷ 2 ∷ 1 ∷ []) ≡ 3 ∷ 0 ∷ []
  -- booked one after the other as pass 0; where room is short, what the book has and what is new
  pub booked : booked_in 3 to_two ≡ Ok (entry 21 0 (eleven ∷ []) ∷ entry 22 0 (twelve_too ∷ twelve ∷ []) ∷ [])
  pub no_room : booked_in 2 to_two ≡ Err (Full 1 2)
  pub book : length (book_of to_two) ≡ 3
