-- What was read of a file, and what is answered of it.
use Rattle.std.proofs.Common.{◌≡◌, ◌⊎◌, inl, inr, ℕ, ◌≤◌, List, [], ◌++◌, length, take, Option, Some, Result, Ok, Err, refl, sym, ◌∙◌, ap}
use Rattle.std.proofs.Common.{subst, arith, length-append}
use Rattle.lg_model.specs.Placing.{Shape}
use Rattle.column_book.specs.declared.book.TheConstants.{ROOM}
use Rattle.column_book.specs.Entries.{BookState}
use Rattle.book_file.specs.declared.found.OpenFault.{OpenFault}
use Rattle.book_file.specs.declared.found.OpenFault.TheVariants.{DiskFault, NotAJournal, WrongShape, Damaged, Full, Memory}
use Rattle.book_file.specs.declared.found.Found.{Found}
use Rattle.book_file.specs.declared.found.Found.TheVariants.{Book}
use Rattle.book_file.specs.Found.{Finds, Holds}
use Rattle.book_file.specs.Walk.{WalkState, HasRead}
use Rattle.book_file.proofs.Law.{not_blank}
use Rattle.book_journal.specs.Looking.{Reads, IsFed, HasFound, HoldsBook}
use Rattle.book_journal.proofs.PieceLemmas.{rest_of, rest_len, whole_file}

abbrev refused : OpenFault → Result Found OpenFault
refused f = Err f

-- a fault of the outside says nothing of the file
pub outside : (asked : Option Shape) (room : ℕ) (honest : Type 0) (seen : List ℕ) (f : OpenFault) → (f ≡ DiskFault) ⊎ (f ≡ Memory)
    → (refused f ≡ Err DiskFault → ⊥) → Reads honest seen (λ (file : List ℕ). Finds asked room file (Err f))
outside asked room honest seen f (inl e) told = absurd (told (ap refused e))
outside asked room honest seen f (inr e) told = record {
  file = seen;
  held = λ h. refl;
  told = subst (λ (g : OpenFault). Finds asked room seen (Err g)) (sym e) tt;
}

-- the disk is as it was before a call that only read
pub is_fed_from : (h0 h1 : Type 0) (seen0 seen1 : List ℕ) (a b : WalkState) → (h0 → h1) → (h0 → seen1 ≡ seen0) → IsFed h1 seen1 a b
    → IsFed h0 seen0 a b
is_fed_from h0 h1 seen0 seen1 a b still same p = record {
  bytes = p.bytes;
  held = λ h. p.held (still h) ∙ ap (λ (l : List ℕ). take (length p.bytes) l) (same h);
  fed = p.fed;
}

-- the bytes that were fed, and some after them, are the file
pub finished : (asked : Option Shape) (room len : ℕ) (honest : Type 0) (seen : List ℕ) (a b : WalkState) (r : Result Found OpenFault)
    → HasRead a [] → IsFed honest seen a b → a.len ≡ len → (honest → len ≡ length seen) → a.asked ≡ asked → a.room ≡ room
    → ((read more : List ℕ) → HasRead b read → length (read ++ more) ≡ b.len → Finds b.asked b.room (read ++ more) r)
    → Reads honest seen (λ (file : List ℕ). Finds asked room file r)
finished asked room len honest seen a b r start p long size asks has finds =
    let f = p.fed in
    let read : HasRead b p.bytes = f.read [] start in
    let within : length p.bytes ≤ len = omega (arith, read.fed, read.inside, f.len, long) in
    let n = length p.bytes in
    let file = p.bytes ++ rest_of n len seen in
    let total : length file ≡ b.len = omega (arith, length-append p.bytes (rest_of n len seen), rest_len n len seen, within, f.len, long) in
    record {
      file = file;
      held = λ h. whole_file p.bytes seen len (size h) (p.held h);
      told = subst (λ (k : ℕ). Finds asked k file r) (f.room ∙ has)
          (subst (λ (x : Option Shape). Finds x b.room file r) (f.asked ∙ asks) (finds p.bytes (rest_of n len seen) read total));
    }

pub looked_book : (asked : Option Shape) (honest : Type 0) (seen : List ℕ) (b : BookState) (end : ℕ) (r : Result Found OpenFault)
    → r ≡ Ok (Book b end)
    → ((r ≡ Err DiskFault → ⊥) → Reads honest seen (λ (file : List ℕ). Finds asked ROOM file r)) → Reads honest seen (λ
    (file : List ℕ). HasFound asked file (Ok (Some b)))
looked_book asked honest seen b end r is finds =
    let x = finds (λ e. cc) in
    record {
      file = x.file;
      held = x.held;
      told = holds x.file (subst (λ (s : Result Found OpenFault). Finds asked ROOM x.file s) is x.told);
    }
  where
    holds : (file : List ℕ) → Holds asked ROOM b end file → HoldsBook asked b file
    holds file h = record { stands = inr h.spells; written = not_blank file b.shape _ h.spells; few = h.few; is = h.book; suits = h.suits }

pub looked_fault : (asked : Option Shape) (honest : Type 0) (seen : List ℕ) (f : OpenFault)
    → ((refused f ≡ Err DiskFault → ⊥) → Reads honest seen (λ (file : List ℕ). Finds asked ROOM file (Err f)))
    → Reads honest seen (λ (file : List ℕ). HasFound asked file (Err f))
looked_fault asked honest seen DiskFault r = record { file = seen; held = λ h. refl; told = tt }
looked_fault asked honest seen Memory r = record { file = seen; held = λ h. refl; told = tt }
looked_fault asked honest seen NotAJournal r = let x = r (λ e. cc) in record { file = x.file; held = x.held; told = x.told }
looked_fault asked honest seen (WrongShape kept other) r = let x = r (λ e. cc) in record { file = x.file; held = x.held; told = x.told }
looked_fault asked honest seen (Damaged at) r = let x = r (λ e. cc) in record { file = x.file; held = x.held; told = x.told }
looked_fault asked honest seen (Full held more) r = let x = r (λ e. cc) in record { file = x.file; held = x.held; told = x.told }
