-- What an upload does to the entries of a book, by computation.
use Rattle.std.specs.Prelude.{◌≡◌, ℕ, List, [], ◌∷◌, ◌++◌, map, true, false, None, Some, Result, Ok, Err}
use Rattle.lg_model.specs.declared.scenario.Hash.TheVariants.{Ports}
use Rattle.lg_model.specs.Placing.{Shape}
use Rattle.lg_model.specs.Columns.{Column}
use Rattle.sketchlet_wire.specs.Uploads.{UploadData, upload_of}
use Rattle.column_book.specs.declared.entry.Entry.{Entry}
use Rattle.column_book.specs.declared.fault.BookFault.{BookFault}
use Rattle.column_book.specs.declared.fault.BookFault.TheVariants.{WrongShape, Conflict, Full}
use Rattle.column_book.specs.Entries.{BookState, IsBook, records, columns_in, content_in, known_of}
use Rattle.column_book.specs.Order.{comes_after}
use Rattle.column_book.specs.Applying.{decide, checked, after, stored_entry}
use Rattle.worked_examples.specs.Networks.{bucket, key_of, cells}

abbrev pub shape : Shape
shape = record { rows = 1; width = 4; hash = Ports }

-- A column of switch 5 and epoch 6, of one row with these bytes; and one of other rows.
abbrev pub col : (index bytes : ℕ) → Column
col j n = record { key = key_of 5 6 j; dims = record { rows = 1; width = 4 }; cells = cells (bucket n 1 ∷ []) }

abbrev pub wide : (index width : ℕ) → Column
wide j width = record { key = key_of 5 6 j; dims = record { rows = 1; width = width }; cells = cells (bucket 1 1 ∷ []) }

abbrev pub up : List Column → UploadData
up cs = upload_of 9 7 cs

abbrev pub entry : (pass host seq : ℕ) → List Column → Entry
entry pass host seq cs = record { pass = pass; stored = upload_of host seq cs }

-- Three columns in two entries.
abbrev pub kept : List Entry
kept = entry 2 21 0 (col 0 10 ∷ []) ∷ entry 3 22 4 (col 2 30 ∷ col 1 20 ∷ []) ∷ []

abbrev pub comes_to : (room : ℕ) → List Column → Result (List Column) BookFault
comes_to room cs = decide shape room (records kept) (up cs)

-- A book of these entries.
abbrev pub book : (room : ℕ) → List Entry → BookState
book room es = record { shape = shape; room = room; entries = es; ready = [] }

pub record WorkedApplying : Type 0 where
  pub stored : columns_in (records kept) ≡ col 0 10 ∷ col 2 30 ∷ col 1 20 ∷ []
  pub content : content_in (records kept)
      ≡ (key_of 5 6 0, cells (bucket 10 1 ∷ [])) ∷ (key_of 5 6 1, cells (bucket 20 1 ∷ []))
      ∷ (key_of 5 6 2, cells (bucket 30 1 ∷ [])) ∷ []
  pub counts : map (λ s. known_of s 6 kept) (5 ∷ 6 ∷ []) ≡ 3 ∷ 0 ∷ []
  pub epochs : map (λ e. known_of 5 e kept) (6 ∷ 5 ∷ []) ≡ 3 ∷ 0 ∷ []
  -- the new ones in their order, and none where all are known
  pub new : comes_to 9 (col 3 5 ∷ col 1 20 ∷ wide 4 4 ∷ []) ≡ Ok (col 3 5 ∷ wide 4 4 ∷ [])
  pub known : comes_to 9 (col 1 20 ∷ col 0 10 ∷ []) ≡ Ok []
  -- just room enough, and one too few: how many there are and how many are new
  pub room : comes_to 5 (col 3 5 ∷ col 1 20 ∷ wide 4 4 ∷ []) ≡ Ok (col 3 5 ∷ wide 4 4 ∷ [])
  pub no_room : comes_to 4 (col 3 5 ∷ col 1 20 ∷ wide 4 4 ∷ []) ≡ Err (Full 3 2)
  -- the first one whose counters differ, the kept column first
  pub conflict : comes_to 0 (col 3 5 ∷ col 1 21 ∷ col 0 11 ∷ []) ≡ Err (Conflict (key_of 5 6 1) (col 1 20) (col 1 21))
  pub maximum_too : comes_to 9 (record (col 1 20) { cells = cells (bucket 20 2 ∷ []) } ∷ [])
      ≡ Err (Conflict (key_of 5 6 1) (col 1 20) (record (col 1 20) { cells = cells (bucket 20 2 ∷ []) }))
  -- the first one of another size, before any conflict: the book's size and then its own
  pub size : comes_to 0 (col 0 11 ∷ wide 3 5 ∷ wide 1 6 ∷ [])
      ≡ Err (WrongShape (record { rows = 1; width = 4 }) (record { rows = 1; width = 5 }))
  pub rows_too : decide shape 9 [] (up (record (col 1 20) { dims = record { rows = 2; width = 4 } } ∷ []))
      ≡ Err (WrongShape (record { rows = 1; width = 4 }) (record { rows = 2; width = 4 }))
  -- bit k stands for column k
  pub mask : checked shape 9 (records kept) (up (col 3 5 ∷ col 1 20 ∷ wide 4 4 ∷ wide 5 4 ∷ [])) ≡ Ok 13
  -- the new columns alone, under the upload's host and number and the pass, after the others
  pub added : after shape 9 kept 65 (up (col 3 5 ∷ col 1 20 ∷ [])) ≡ kept ++ entry 65 9 7 (col 3 5 ∷ []) ∷ []
  pub becomes : stored_entry 65 kept (up (col 1 20 ∷ col 3 5 ∷ [])) ≡ entry 65 9 7 (col 3 5 ∷ [])
  pub as_before : after shape 9 kept 65 (up (col 1 20 ∷ [])) ≡ kept
  pub refused : after shape 3 kept 65 (up (col 3 5 ∷ [])) ≡ kept
  -- a key comes after one that is less, and after none
  pub later : map (comes_after (Some (key_of 5 6 1))) (key_of 5 6 1 ∷ key_of 5 6 2 ∷ key_of 5 7 0 ∷ key_of 4 9 9 ∷ [])
      ≡ false ∷ true ∷ true ∷ false ∷ []
  pub after_none : comes_after None (key_of 0 0 0) ≡ true
  -- a book has room for 1 to 262,144 columns and no more than those, no key twice, none of another size, no entry of none
  pub no_room_at_all : IsBook (book 0 []) → ⊥
  pub too_much_room : IsBook (book 262145 []) → ⊥
  pub past_room : IsBook (book 2 kept) → ⊥
  pub key_twice : IsBook (book 9 (entry 2 21 0 (col 0 10 ∷ []) ∷ entry 3 22 4 (col 0 10 ∷ []) ∷ [])) → ⊥
  pub of_none : IsBook (book 9 (entry 2 21 0 [] ∷ [])) → ⊥
