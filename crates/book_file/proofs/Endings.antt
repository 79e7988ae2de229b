-- What a file holds that ends where a walk goes on.
use Rattle.std.proofs.Common.{◌≡◌, ◌⊎◌, inl, inr, ⊎_elim, ℕ, ◌-◌, ◌<◌, replicate, true, false, List, [], ◌∷◌, ◌++◌, length, get_or, Option}
use Rattle.std.proofs.Common.{Result, Err, refl, sym, ◌∙◌, ap, subst, arith, length-append}
use Rattle.std.proofs.lemmas.List.{append-nil, nil_from_length, length-replicate}
use Rattle.std.proofs.lemmas.Bool.{cases_Bool, both_ways}
use Rattle.lg_model.specs.Placing.{Shape}
use Rattle.lg_model.specs.Columns.{dims_of}
use Rattle.sketchlet_wire.specs.Uploads.{UploadData}
use Rattle.column_book.specs.Entries.{BookState, records}
use Rattle.book_file.specs.declared.found.OpenFault.{OpenFault}
use Rattle.book_file.specs.declared.found.OpenFault.TheVariants.{Damaged}
use Rattle.book_file.specs.declared.found.Found.{Found}
use Rattle.book_file.specs.declared.stage.Stage.{Stage}
use Rattle.book_file.specs.declared.stage.Stage.TheVariants.{Head, Gate, Lead, Body, Ended}
use Rattle.book_file.specs.File.{header, body, body_len, front}
use Rattle.book_file.specs.Found.{HasHeader, HasNoBody, Finds}
use Rattle.book_file.specs.Walk.{IsGoing, Waits, Stands, is_ended, WalkState, HasRead, IsWalk}
use Rattle.book_file.proofs.Bodies.{count_at, body_size}
use Rattle.book_file.proofs.Heads.{header_len}
use Rattle.book_file.proofs.OneAnswer.{last_fits}
use Rattle.book_file.proofs.Stepping.{reached}

pub too_short : (rest : List ℕ) → length rest < 17 → (shape : Shape) → HasHeader shape rest → ⊥
too_short rest lt shape h = omega (arith, lt, ap length h.bytes, length-append (header shape) h.rest, header_len shape)

pub cut_lead : (shape : Shape) (L : List UploadData) (rest : List ℕ) → length rest < 7 → HasNoBody shape L rest
cut_lead shape L rest lt e tail all is =
    let fits = last_fits (dims_of shape) L e all in
    omega (arith, lt, ap length is, length-append (body e) tail, body_size (dims_of shape) e fits)

pub cut_body : (shape : Shape) (L : List UploadData) (rest : List ℕ) → length rest < body_len shape.rows (get_or rest 6 0)
    → HasNoBody shape L rest
cut_body shape L rest lt e tail all is =
    let fits = last_fits (dims_of shape) L e all in
    let count : get_or rest 6 0 ≡ length e.columns = ap (λ (l : List ℕ). get_or l 6 0) is ∙ count_at e tail in
    let size : length (body e) ≡ body_len shape.rows (get_or rest 6 0) =
    body_size (dims_of shape) e fits ∙ ap (λ (n : ℕ). body_len shape.rows n) (sym count) in
    omega (arith, lt, ap length is, length-append (body e) tail, size)

module _ (asked : Option Shape) (room len gate : ℕ) (rest read : List ℕ) where
  broken : (b : BookState) → IsGoing asked room gate b → read ≡ front b.shape (records b.entries) ++ 1 ∷ rest
      → HasNoBody b.shape (records b.entries) rest → Finds asked room read (Err (Damaged gate))
  broken b going is none = inr (record {
    shape = b.shape;
    before = records b.entries;
    reached = reached asked room gate b going read (1 ∷ rest) is;
    place = going.place;
    tail = rest;
    opens = is;
    no_body = none;
  })

  pub cut_at_gate : (b : BookState) (fed : ℕ) → Stands asked room len gate (Gate b) rest read → length read ≡ fed
      → Finds asked room read (Err (Damaged fed))
  cut_at_gate b fed s size =
      let none : rest ≡ [] = nil_from_length rest (omega (arith, s.lacks refl)) in
      let is : read ≡ front b.shape (records b.entries) = s.waits.1 ∙ ap (λ (l : List ℕ). front b.shape (records b.entries) ++ l) none
      ∙ append-nil (front b.shape (records b.entries)) in
      inl (record {
        shape = b.shape;
        before = records b.entries;
        reached = reached asked room gate b s.waits.0 read rest s.waits.1;
        place = sym size ∙ ap length is;
        nothing = is;
      })

  pub cut_later : (stage : Stage) → (stage ≡ Head → ⊥) → ((b : BookState) → stage ≡ Gate b → ⊥) → is_ended stage ≡ false
      → Stands asked room len gate stage rest read → Finds asked room read (Err (Damaged gate))
  cut_later Head h g e s = absurd (h refl)
  cut_later (Gate b) h g e s = absurd (g b refl)
  cut_later (Lead b) h g e s = broken b s.waits.0 s.waits.1 (cut_lead b.shape (records b.entries) rest (s.lacks refl))
  cut_later (Body b) h g e s = broken b s.waits.0 s.waits.1 (cut_body b.shape (records b.entries) rest (s.lacks refl))
  cut_later (Ended a) h g e s = absurd cc

pub ended_is : (stage : Stage) → is_ended stage ≡ true → (a : Result Found OpenFault) × (stage ≡ Ended a)
ended_is Head e = absurd cc
ended_is (Gate b) e = absurd cc
ended_is (Lead b) e = absurd cc
ended_is (Body b) e = absurd cc
ended_is (Ended a) e = (a, refl)

pub finds_whole : (w : WalkState) (result : Result Found OpenFault) → ((a : Result Found OpenFault) → w.stage ≡ Ended a → result ≡ a)
    → ((asked : Option Shape) (room len : ℕ) (read : List ℕ) → Stands asked room len w.gate w.stage w.rest read → length read ≡ w.fed
    → is_ended w.stage ≡ false → Finds asked room read result)
    → (w.fed ≡ w.len) ⊎ (is_ended w.stage ≡ true) → (read more : List ℕ) → HasRead w read → length (read ++ more) ≡ w.len
    → Finds w.asked w.room (read ++ more) result
finds_whole w result ended going all read more h size =
    elim (cases_Bool (is_ended w.stage)) [
      | inl t ↦
          let a = ended_is w.stage t in
          let decides = subst (λ (s : Stage). Waits w.asked w.room w.len w.gate s w.rest read) a.1 h.stands.waits in
          subst (λ (r : Result Found OpenFault). Finds w.asked w.room (read ++ more) r) (sym (ended a.0 a.1)) (decides more size)
      | inr f ↦
          let whole : w.fed ≡ w.len = ⊎_elim (λ e. e) (λ t. absurd (both_ways (is_ended w.stage) f t)) all in
          let none : more ≡ [] = nil_from_length more (omega (arith, size, length-append read more, h.fed, whole)) in
          subst (λ (l : List ℕ). Finds w.asked w.room l result) (sym (ap (λ (l : List ℕ). read ++ l) none ∙ append-nil read))
          (going w.asked w.room w.len read h.stands h.fed f)
    ]

pub finds_some : (w : WalkState) (result : Result Found OpenFault) → IsWalk w
    → ((a : Result Found OpenFault) → w.stage ≡ Ended a → result ≡ a)
    → ((asked : Option Shape) (room len : ℕ) (read : List ℕ) → Stands asked room len w.gate w.stage w.rest read → length read ≡ w.fed
    → is_ended w.stage ≡ false → Finds asked room read result)
    → (w.fed ≡ w.len) ⊎ (is_ended w.stage ≡ true) → (file : List ℕ) × Finds w.asked w.room file result
finds_some w result is ended going all =
    let read = is.read.0 in
    let h = is.read.1 in
    let more : List ℕ = replicate (w.len - w.fed) 0 in
    let size : length (read ++ more) ≡ w.len =
    omega (arith, length-append read more, length-replicate {A = ℕ} (w.len - w.fed) 0, h.fed, h.inside) in
    (read ++ more, finds_whole w result ended going all read more h size)
