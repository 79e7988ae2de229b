-- What stands for a list that there is room for has no other answer than its book.
use Rattle.std.proofs.Common.{◌≡◌, inl, inr, ℕ, ◌≤◌, List, [], ◌∷◌, length, map, Option, Ok, Err, refl, sym, ap, subst}
use Rattle.lg_model.specs.Placing.{Shape}
use Rattle.sketchlet_wire.specs.Uploads.{UploadData}
use Rattle.column_book.specs.Entries.{records}
use Rattle.book_file.specs.declared.found.OpenFault.{OpenFault}
use Rattle.book_file.specs.declared.found.OpenFault.TheVariants.{DiskFault, NotAJournal, WrongShape, Damaged, Full, Memory}
use Rattle.book_file.specs.declared.found.Found.{Found}
use Rattle.book_file.specs.declared.found.Found.TheVariants.{Blank, Book}
use Rattle.book_file.specs.File.{front, Spells, StandsFor}
use Rattle.book_file.specs.Found.{Suits, Finds, read_entry, book_of, count_of}
use Rattle.book_file.specs.Laws.{LawOfWholeFiles}
use Rattle.book_file.proofs.OneAnswer.{one_answer}

-- the records of a book that was read are those that it was made of
pub read_back : (rs : List UploadData) → records (map read_entry rs) ≡ rs
read_back [] = refl
read_back (r ∷ rs) = ap (λ (l : List UploadData). r ∷ l) (read_back rs)

pub book_found : (asked : Option Shape) (shape : Shape) (room : ℕ) (L : List UploadData) (file : List ℕ) → Suits asked shape
    → Spells shape L file → count_of L ≤ room
    → Finds asked room file (Ok (Book (book_of shape room L) (length (front shape L))))
book_found asked shape room L file suits spells few = record {
  suits = suits;
  spells = subst (λ (rs : List UploadData). Spells shape rs file) (sym (read_back L)) spells;
  few = subst (λ (rs : List UploadData). count_of rs ≤ room) (sym (read_back L)) few;
  book = ap (λ (rs : List UploadData). book_of shape room rs) (sym (read_back L));
  place = ap (λ (rs : List UploadData). length (front shape rs)) (sym (read_back L));
}

found_some : (asked : Option Shape) (shape : Shape) (room : ℕ) (L : List UploadData) (file : List ℕ) → Suits asked shape
    → StandsFor shape L file → count_of L ≤ room → (r : Found) × Finds asked room file (Ok r)
found_some asked shape room L file suits (inl blank) few = (Blank, blank.0)
found_some asked shape room L file suits (inr s) few =
    (Book (book_of shape room L) (length (front shape L)), book_found asked shape room L file suits s few)

never_both : (asked : Option Shape) (room : ℕ) (file : List ℕ) (r : Found) (f : OpenFault) → Finds asked room file (Ok r)
    → Finds asked room file (Err f) → (f ≡ Memory → ⊥) → ⊥
never_both asked room file r f a b free =
    let same = one_answer asked room file (Ok r) (Err f) a b (λ e. cc) (λ e. free cc) in
    absurd (cc same)

pub whole_law : LawOfWholeFiles
whole_law asked room file shape L DiskFault suits stands few f = absurd f
whole_law asked room file shape L Memory suits stands few f = refl
whole_law asked room file shape L NotAJournal suits stands few f = let s = found_some asked shape room L file suits stands few in
    absurd (never_both asked room file s.0 NotAJournal s.1 f (λ e. cc))
whole_law asked room file shape L (WrongShape k a) suits stands few f = let s = found_some asked shape room L file suits stands few in
    absurd (never_both asked room file s.0 (WrongShape k a) s.1 f (λ e. cc))
whole_law asked room file shape L (Damaged at) suits stands few f = let s = found_some asked shape room L file suits stands few in
    absurd (never_both asked room file s.0 (Damaged at) s.1 f (λ e. cc))
whole_law asked room file shape L (Full held more) suits stands few f = let s = found_some asked shape room L file suits stands few in
    absurd (never_both asked room file s.0 (Full held more) s.1 f (λ e. cc))
