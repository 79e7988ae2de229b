-- What the files stand for that an append may leave.
use Rattle.std.proofs.Common.{◌≡◌, ◌⊎◌, inl, inr, ⊎_elim, ℕ, ◌+◌, ◌<◌, List, [], ◌∷◌, ◌++◌, length, take, drop, sym, ◌∙◌, ap, arith}
use Rattle.std.proofs.Common.{append_assoc, length-append, take-append-drop}
use Rattle.std.proofs.lemmas.List.{take_at}
use Rattle.std.proofs.lemmas.Bool.{cases_eq}
use Rattle.lg_model.specs.Columns.{dims_of}
use Rattle.lg_model.specs.Placing.{Shape}
use Rattle.sketchlet_wire.specs.Uploads.{UploadData}
use Rattle.book_file.specs.File.{body, front, AreRecords, Spells, StandsFor}
use Rattle.book_file.proofs.Stepping.{front_push}
use Rattle.book_journal.specs.Crashes.{Appending}

module _ (shape : Shape) (rs : List UploadData) (r : UploadData) (end : ℕ) (place : end ≡ length (front shape rs))
    (well : AreRecords (dims_of shape)
    (rs ++ r ∷ [])) where
  abbrev bytes : List ℕ
  bytes = body r ++ 0 ∷ []

  module _ (file : List ℕ) (spells : Spells shape rs file) where
    pub inside : end < length file
    inside = omega (arith, place, ap length spells.bytes, length-append (front shape rs) (spells.gate ∷ spells.rest))

    front_is : take end file ≡ front shape rs
    front_is = ap (λ (l : List ℕ). take end l) spells.bytes ∙ take_at (front shape rs) (spells.gate ∷ spells.rest) end (sym place)

    with_gate : take (end + 1) file ≡ front shape rs ++ spells.gate ∷ []
    with_gate =
        ap (λ (l : List ℕ). take (end + 1) l) (spells.bytes ∙ sym (append_assoc (front shape rs) (spells.gate ∷ []) spells.rest))
        ∙ take_at (front shape rs ++ spells.gate ∷ []) spells.rest (end + 1)
        (omega (arith, place, length-append (front shape rs) (spells.gate ∷ [])))

    -- up to the gate nothing has changed
    unchanged : (c : List ℕ) → take (end + 1) c ≡ take (end + 1) file → Spells shape rs c
    unchanged c same = record {
      gate = spells.gate;
      rest = drop (end + 1) c;
      bytes = sym (take-append-drop (end + 1) c) ∙ ap (λ (l : List ℕ). l ++ drop (end + 1) c) (same ∙ with_gate)
          ∙ append_assoc (front shape rs)
          (spells.gate ∷ []) (drop (end + 1) c);
      closed = spells.closed;
      shape_fits = spells.shape_fits;
      records_fit = spells.records_fit;
    }

    module _ (x : ℕ) (c : List ℕ) (is : c ≡ take end file ++ x ∷ bytes ++ drop (end + 1 + length bytes) file) where
      abbrev tail : List ℕ
      tail = drop (end + 1 + length bytes) file

      -- the body stands after the gate
      whole : c ≡ front shape rs ++ x ∷ (body r ++ 0 ∷ tail)
      whole =
          is
          ∙ ap (λ (l : List ℕ). l ++ x ∷ bytes ++ tail) front_is
          ∙ append_assoc (front shape rs) (x ∷ bytes) tail
          ∙ ap (λ (l : List ℕ). front shape rs ++ x ∷ l) (append_assoc (body r) (0 ∷ []) tail)

      pub with_it : x ≡ 1 → Spells shape (rs ++ r ∷ []) c
      with_it one = record {
        gate = 0;
        rest = tail;
        bytes =
            whole
            ∙ ap (λ (g : ℕ). front shape rs ++ g ∷ (body r ++ 0 ∷ tail)) one
            ∙ sym (append_assoc (front shape rs) (1 ∷ body r) (0 ∷ tail))
            ∙ ap (λ (l : List ℕ). l ++ 0 ∷ tail) (sym (front_push shape rs r));
        closed = λ h. omega (arith, h);
        shape_fits = spells.shape_fits;
        records_fit = well;
      }

      without_it : (x ≡ 1 → ⊥) → Spells shape rs c
      without_it shut = record {
        gate = x;
        rest = body r ++ 0 ∷ tail;
        bytes = whole;
        closed = shut;
        shape_fits = spells.shape_fits;
        records_fit =
            spells.records_fit;
      }

    pub before_or_after : (c : List ℕ) → Appending file end bytes c → StandsFor shape rs c ⊎ StandsFor shape (rs ++ r ∷ []) c
    before_or_after c (inl same) = inl (inr (unchanged c same.0))
    before_or_after c (inr late) =
        ⊎_elim (λ one. inr (inr (with_it late.0 c late.1 one))) (λ shut. inl (inr (without_it late.0 c late.1 shut)))
        (cases_eq late.0 1)
