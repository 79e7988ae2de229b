-- What a run leaves on the disk: what opening left, and then the run of the journal.
use Rattle.std.specs.Prelude.{◌≡◌, ◌⊎◌, ℕ, ◌≤◌, List, [], ◌∷◌, ◌++◌, length, Option, None, Some}
use Rattle.std.proofs.Common.{sym, ap, ◌∙◌, subst, arith, inl, inr, append_assoc, length-append}
use Rattle.std.proofs.lemmas.List.{append-nil, map-append}
use mathlib.Core.List.{IsPrefix}
use Rattle.lg_model.specs.Placing.{Shape}
use Rattle.lg_model.specs.Scenario.{Scenario}
use Rattle.sketchlet_wire.specs.Uploads.{UploadData}
use Rattle.column_book.specs.declared.entry.Entry.{Entry}
use Rattle.column_book.specs.Entries.{records}
use Rattle.book_file.specs.Between.{IsBetween}
use Rattle.book_file.specs.File.{IsBlank, StandsFor}
use Rattle.book_journal.specs.Opening.{OpenLeaves}
use Rattle.book_journal.specs.Runs.{JournalState, IsRun, start_of, with_fault}
use Rattle.link_deliveries.specs.Deliveries.{delivered}
use Rattle.book_laws.specs.Legal.{IsLegal}
use Rattle.book_laws.specs.Leaving.{IsLeft}
use Rattle.book_laws.specs.Laws.{LawOfStanding}

one_more : (es : List Entry) (fault : Option Entry) → (more : List UploadData) × (records (with_fault es fault) ≡ records es ++ more) × (length more ≤ 1)
one_more es None = ([], sym (append-nil (records es)), omega arith)
one_more es (Some e) = (e.stored ∷ [], map-append (λ (x : Entry). x.stored) es (e ∷ []), omega arith)

module _ {D : Type 0} (honest : D → Type 0) (seen : D → List ℕ) (images : D → List ℕ → Type 0) (moment : D → ℕ) (since : D → ℕ → List ℕ → Type 0)
    (w : Scenario) (law : LawOfStanding) (start : D) (old new : JournalState D) (shape : new.shape ≡ w.shape)
    (before : StandsFor w.shape (records old.entries) (seen start)) (opened : OpenLeaves honest seen images moment since w.shape start old.disk)
    (run : IsRun honest seen images moment since (start_of seen moment old) new) where
  abbrev pub full : List UploadData
  full = records (with_fault new.entries new.fault)

  stands_here : (l : List UploadData) (c : List ℕ) → StandsFor new.shape l c → StandsFor w.shape l c
  stands_here l c is = subst (λ (s : Shape). StandsFor s l c) shape is

  between_here : (c : List ℕ) → IsBetween (StandsFor new.shape) (records old.entries) full c → IsBetween (StandsFor w.shape) (records old.entries) full c
  between_here c is = subst (λ (s : Shape). IsBetween (StandsFor s) (records old.entries) full c) shape is

  pub begins : IsPrefix (records old.entries) (records new.entries)
  begins =
      let p = run.begins in
      (records p.0, sym (map-append (λ (e : Entry). e.stored) old.entries p.0) ∙ ap records p.1)

  -- a file for the list that was found
  found_between : (c : List ℕ) → StandsFor w.shape (records old.entries) c → IsBetween (StandsFor w.shape) (records old.entries) full c
  found_between c is =
      let b = begins in
      let m = one_more new.entries new.fault in
      record {
        list = records old.entries;
        is = is;
        begins = ([], append-nil (records old.entries));
        ends = (b.0 ++ m.0, sym (append_assoc (records old.entries) b.0 m.0) ∙ ap (λ (l : List UploadData). l ++ m.0) b.1 ∙ sym m.1);
      }

  pub left : IsLegal delivered w (records old.entries) full → IsLeft (StandsFor w.shape) delivered w (records old.entries) (images start) (images new.disk)
      (since new.disk (moment start)) (records new.entries) full
  left legal =
      let m = one_more new.entries new.fault in
      record {
        legal = legal;
        least = begins;
        front = (m.0, sym m.1);
        one_more = let size = ap length m.1 in let parts = length-append (records new.entries) m.0 in omega (arith, size, parts, m.2);
        now_is = λ c now. elim (run.now c now) as (λ _. StandsFor w.shape (records new.entries) c ⊎ StandsFor w.shape full c) [
          | inl is ↦ inl (stands_here (records new.entries) c is)
          | inr is ↦ inr (stands_here full c is)
        ];
        moments = λ c is. elim (run.before (moment start) c opened.later is) as (λ _. images start c
            ⊎ IsBetween (StandsFor w.shape) (records old.entries) full c) [
              | inl early ↦ elim (opened.each c early) as (λ _. images start c ⊎ IsBetween (StandsFor w.shape) (records old.entries) full c) [
                | inl image ↦ inl image
                | inr that ↦ inr (found_between c (subst (λ (l : List UploadData). StandsFor w.shape l c)
                    (law.one w.shape (seen start) that.0 (records old.entries) that.1 before) that.2))
              ]
              | inr between ↦ inr (between_here c between)
            ];
        settled = λ was c is. elim (run.before (moment start) c opened.later is) as (λ _. IsBetween (StandsFor w.shape) (records old.entries) full c) [
          | inl early ↦ found_between c (opened.settled (records old.entries) before was c early)
          | inr between ↦ between_here c between
        ];
      }

  pub read : ((d : D) → honest d → images d (seen d)) → StandsFor w.shape (records new.entries) (seen new.disk) ⊎ StandsFor w.shape full (seen new.disk)
  read reads_image = elim (run.now (seen new.disk) (reads_image new.disk run.told)) as
      (λ _. StandsFor w.shape (records new.entries) (seen new.disk) ⊎ StandsFor w.shape full (seen new.disk)) [
        | inl is ↦ inl (stands_here (records new.entries) (seen new.disk) is)
        | inr is ↦ inr (stands_here full (seen new.disk) is)
      ]

  pub repeats : (IsBlank (seen start) → ⊥) → new.fault ≡ None → new.entries ≡ old.entries → seen new.disk ≡ seen start
  repeats written whole same = run.reads whole same ∙ opened.reads written
