-- What opening a journal leaves.
use Rattle.std.proofs.Common.{◌≡◌, ◌⊎◌, inl, inr, ⊎_elim, ℕ, ◌≤◌, List, [], length, Some, Result, Ok, Err, refl, sym, ◌∙◌, ap, subst, arith}
use Rattle.std.proofs.lemmas.List.{append-nil}
use Rattle.lg_model.specs.Placing.{Shape}
use Rattle.sketchlet_wire.specs.ShapeFields.{FitsShape}
use Rattle.sketchlet_wire.specs.Uploads.{UploadData}
use Rattle.column_book.specs.declared.book.TheConstants.{ROOM}
use Rattle.column_book.specs.Entries.{BookState, records}
use Rattle.book_file.specs.declared.found.OpenFault.{OpenFault}
use Rattle.book_file.specs.declared.found.OpenFault.TheVariants.{DiskFault, NotAJournal, WrongShape, Damaged, Full, Memory}
use Rattle.book_file.specs.declared.found.Found.{Found}
use Rattle.book_file.specs.declared.found.Found.TheVariants.{Blank}
use Rattle.book_file.specs.File.{header, IsBlank, Spells, StandsFor}
use Rattle.book_file.specs.Found.{Finds, Holds, book_of, count_of}
use Rattle.book_file.proofs.Heads.{header_len}
use Rattle.book_file.proofs.Complete.{whole_law}
use Rattle.book_file.proofs.Law.{blank_law}
use Rattle.book_journal.specs.Crashes.{IsSynced, Leaves, OnlyReads}
use Rattle.book_journal.specs.Looking.{Reads}
use Rattle.book_journal.specs.Opening.{IsOutside, IsRead, IsRefused, OpenLeaves}
use Rattle.book_journal.specs.Runs.{IsPlaced}
use Rattle.book_journal.proofs.BlankLemmas.{no_records}
use Rattle.book_journal.proofs.CrashLemmas.{after}

module _ {D : Type 0} (honest : D → Type 0) (seen : D → List ℕ) (images : D → List ℕ → Type 0) (moment : D → ℕ)
    (since : D → ℕ → List ℕ → Type 0)
    (shape : Shape) where
  -- opening only read
  pub read_leaves : (old new : D) → honest old → OnlyReads honest seen images moment since old new
      → OpenLeaves honest seen images moment since shape old new
  read_leaves old new told reads =
      let leaves = reads.leaves told in
      record {
        still = reads.still told;
        later = leaves.later;
        each = λ c k. inl (leaves.each c k);
        reads = λ full. reads.same told;
        stands_on = λ rs stands. subst (StandsFor shape rs) (sym (reads.same told)) stands;
        settled = λ rs stands all c k. all c (leaves.each c k);
      }

  -- a blank file that is left so
  pub blank_stays : (only_now : (d : D) (c : List ℕ) → honest d → since d (moment d) c → images d c) (d : D)
      → IsSynced honest seen images d → IsBlank
      (seen d) → Leaves moment since (StandsFor shape []) d d
  blank_stays only_now d synced blank = record {
    later = omega arith;
    each = λ c k. inl (subst IsBlank (sym (synced.only c (only_now d c synced.told k))) blank, refl);
    before = λ t c le k. inl k;
  }

  module _ (reads_image : (d : D) → honest d → images d (seen d))
      (counts_now : (d : D) (t : ℕ) (c : List ℕ) → honest d → t ≤ moment d → images d c
      → since d t c) where
    -- a blank file was read, and then it was made the empty journal, or nearly
    pub begun_leaves : (old mid new : D) → honest old → OnlyReads honest seen images moment since old mid
        → (honest mid → honest new) → IsBlank
        (seen old) → Leaves moment since (StandsFor shape []) mid new
        → OpenLeaves honest seen images moment since shape old new
    begun_leaves old mid new told reads still blank made =
        let first = reads.leaves told in
        let told_new = still (reads.still told) in
        let all = after moment since (images old) (StandsFor shape []) (λ (c : List ℕ). images old c ⊎ StandsFor shape [] c)
        old mid new first made
        (λ c a. inl a) (λ c b. inr b) in
        record {
          still = told_new;
          later = all.later;
          each = λ c k. ⊎_elim (λ a. inl a) (λ b. inr ([], inl (blank, refl), b)) (all.each c k);
          reads = λ full. absurd (full blank);
          stands_on = λ rs stands. for_list rs stands (seen new)
              (made.each (seen new) (counts_now new (moment mid) (seen new) told_new made.later
              (reads_image new told_new)));
          settled = λ rs stands were c k. ⊎_elim (λ a. were c a) (λ b. for_list rs stands c b) (all.each c k);
        }
      where
        for_list : (rs : List UploadData) → StandsFor shape rs (seen old) → (c : List ℕ) → StandsFor shape [] c → StandsFor shape rs c
        for_list rs stands c empty =
            subst (λ (l : List UploadData). StandsFor shape l c) (sym (blank_law (seen old) shape rs blank stands)) empty

-- ---- what was read

pub refused_outside : (shape : Shape) (room : ℕ) (honest : Type 0) (seen : List ℕ) (f : OpenFault) → IsOutside f → Reads honest seen (λ
    (file : List ℕ). IsRefused shape room file f)
refused_outside shape room honest seen f (inl e) = record {
  file = seen;
  held = λ h. refl;
  told = subst (λ (g : OpenFault). IsRefused shape room seen g)
      (sym e) tt;
}
refused_outside shape room honest seen f (inr e) = record {
  file = seen;
  held = λ h. refl;
  told = subst (λ (g : OpenFault). IsRefused shape room seen g)
      (sym e) tt;
}

abbrev refused : OpenFault → Result Found OpenFault
refused f = Err f

pub refused_for : (shape : Shape) (room : ℕ) (honest : Type 0) (seen : List ℕ) (f : OpenFault)
    → ((refused f ≡ Err DiskFault → ⊥) → Reads honest seen (λ (file : List ℕ). Finds (Some shape) room file (Err f)))
    → Reads honest seen (λ (file : List ℕ). IsRefused shape room file f)
refused_for shape room honest seen DiskFault r = refused_outside shape room honest seen DiskFault (inl refl)
refused_for shape room honest seen Memory r = refused_outside shape room honest seen Memory (inr refl)
refused_for shape room honest seen NotAJournal r = let x = r (λ e. cc) in record { file = x.file; held = x.held; told = x.told }
refused_for shape room honest seen (WrongShape kept other) r = let x = r (λ e. cc) in record { file = x.file; held = x.held; told = x.told }
refused_for shape room honest seen (Damaged at) r = let x = r (λ e. cc) in record { file = x.file; held = x.held; told = x.told }
refused_for shape room honest seen (Full held more) r = let x = r (λ e. cc) in record { file = x.file; held = x.held; told = x.told }

-- a file that stands for a list which there is room for has no fault of its own
pub only_outside : (shape : Shape) (room : ℕ) (honest : Type 0) (seen : List ℕ) (f : OpenFault) → Reads honest seen (λ
    (file : List ℕ). IsRefused shape room file f) → honest
    → (rs : List UploadData) → StandsFor shape rs seen → count_of rs ≤ room → IsOutside f
only_outside shape room honest seen f r told rs stands few =
    pick f (subst (λ (file : List ℕ). IsRefused shape room file f) (r.held told) r.told)
  where
    never : (g : OpenFault) → Finds (Some shape) room seen (Err g) → g ≡ Memory
    never g finds = whole_law (Some shape) room seen shape rs g refl stands few finds

    pick : (g : OpenFault) → IsRefused shape room seen g → IsOutside g
    pick DiskFault x = inl refl
    pick Memory x = inr refl
    pick NotAJournal x = inr (never NotAJournal x)
    pick (WrongShape kept other) x = inr (never (WrongShape kept other) x)
    pick (Damaged at) x = inr (never (Damaged at) x)
    pick (Full held more) x = inr (never (Full held more) x)

-- a file that was found to be blank
pub blank_found : (shape : Shape) (room : ℕ) (honest : Type 0) (seen : List ℕ) (r : Result Found OpenFault) → r ≡ Ok Blank
    → ((r ≡ Err DiskFault → ⊥) → Reads honest seen (λ (file : List ℕ). Finds (Some shape) room file r)) → honest → IsBlank seen
blank_found shape room honest seen r is finds told =
    let x = finds (λ e. cc) in
    subst IsBlank (x.held told) (subst (λ (s : Result Found OpenFault). Finds (Some shape) room x.file s) is x.told)

-- a book that was found
book_is : (shape other : Shape) (room : ℕ) (b : BookState) → other ≡ shape → b ≡ book_of other room (records b.entries)
    → b ≡ book_of shape room
    (records b.entries)
book_is shape other room b same is = is ∙ ap (λ (s : Shape). book_of s room (records b.entries)) same

pub read_is : (shape : Shape) (room : ℕ) (b : BookState) (end : ℕ) (file : List ℕ) → room ≤ ROOM → Holds (Some shape) room b end file
    → IsRead shape room b end
read_is shape room b end file small h = record {
  book = book_is shape b.shape room b h.suits h.book;
  placed = subst (λ (s : Shape). IsPlaced s room (records b.entries) end) h.suits (record {
    shape_fits = h.spells.shape_fits;
    records_fit = h.spells.records_fit;
    few = h.few;
    small = small;
    place = h.place;
  });
}

pub spelled_is : (shape : Shape) (room : ℕ) (b : BookState) (end : ℕ) (file : List ℕ) → Holds (Some shape) room b end file → Spells shape
    (records b.entries) file
spelled_is shape room b end file h = subst (λ (s : Shape). Spells s (records b.entries) file) h.suits h.spells

pub read_empty : (shape : Shape) (room : ℕ) → FitsShape shape → room ≤ ROOM → IsRead shape room (book_of shape room []) 17
read_empty shape room fits small = record {
  book = refl;
  placed = record {
    shape_fits = fits;
    records_fit = no_records shape;
    few = omega arith;
    small = small;
    place = sym (ap length (append-nil (header shape)) ∙ header_len shape);
  };
}
