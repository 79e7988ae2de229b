-- What a crash leaves while a blank file is made the empty journal.
use Rattle.std.proofs.Common.{◌≡◌, inl, inr, ⊎_elim, ℕ, ◌+◌, ◌≤◌, List, [], ◌∷◌, ◌++◌, length, get_or, take, drop, refl, sym, ◌∙◌, ap}
use Rattle.std.proofs.Common.{subst, arith, length-take, length-append}
use Rattle.std.specs.List.{IsDistinct}
use Rattle.std.proofs.lemmas.Bool.{cases_eq, cases_lt}
use Rattle.std.proofs.lemmas.List.{append-nil, get_or-take, take_all}
use Rattle.lg_disk.specs.Disk.{Holds, Shorter, Torn}
use Rattle.lg_model.specs.Columns.{dims_of}
use Rattle.lg_model.specs.Placing.{Shape}
use Rattle.sketchlet_wire.specs.ShapeFields.{FitsShape, shape_bytes}
use Rattle.book_file.specs.File.{header, AreRecords, IsBlank, Spells, StandsFor}
use Rattle.book_file.proofs.Heads.{header_len}
use Rattle.book_journal.specs.Crashes.{Appending}

pub blank_cut : (b c : List ℕ) → IsBlank b → Shorter 0 b c → IsBlank c
blank_cut b c blank cut =
    let size : length c ≤ length b = omega (arith, ap length cut.front, length-take (length c) b) in
    elim (cases_lt 0 (length c)) [
      | inl some ↦ ⊎_elim (λ le. inl (omega (arith, le, size)))
          (λ s. inr (
            omega (arith, s.0, size),
            λ one. s.1 (sym (get_or-take (length c) b 0 0 some) ∙ sym (ap (λ (l : List ℕ). get_or l 0 0) cut.front)
                ∙ one),
          )) blank
      | inr none ↦ inl (omega (arith, none))
    ]

pub blank_zero : (f c : List ℕ) → f ≡ [] → Torn 0 1 f c → IsBlank c
blank_zero f c none torn = inl (omega (arith, torn.no_longer, ap length none))

pub zero_written : (f g : List ℕ) → f ≡ [] → Holds f 0 (0 ∷ []) g → g ≡ 0 ∷ []
zero_written f g none holds = subst (λ (l : List ℕ). Holds l 0 (0 ∷ []) g) none holds

pub no_records : (shape : Shape) → AreRecords (dims_of shape) []
unfolding IsDistinct
no_records shape = record { each = tt; apart = tt }

-- all but the gate of the file
pub after_gate : (shape : Shape) (file : List ℕ) → file ≡ header shape ++ 0 ∷ [] → 1 ∷ take 17 (drop 1 file) ≡ header shape ++ 0 ∷ []
unfolding header
after_gate shape file is =
    ap (λ (l : List ℕ). 1 ∷ take 17 (drop 1 l)) is
    ∙ ap (λ (l : List ℕ). 1 ∷ l) (take_all 17 (76 ∷ 71 ∷ 66 ∷ 49 ∷ (shape_bytes shape ++ 0 ∷ [])) (omega (
      arith,
      header_len shape,
      length-append
          (shape_bytes shape) (0 ∷ []),
    )))

module _ (shape : Shape) (fits : FitsShape shape) (bytes : List ℕ) (is : 1 ∷ bytes ≡ header shape ++ 0 ∷ []) where
  size : length bytes ≡ 17
  size = omega (arith, ap length is, header_len shape, length-append (header shape) (0 ∷ []))

  spelled : (c : List ℕ) → c ≡ 1 ∷ bytes → Spells shape [] c
  spelled c same = record {
    gate = 0;
    rest = [];
    bytes = same ∙ is ∙ ap (λ (l : List ℕ). l ++ 0 ∷ []) (sym (append-nil (header shape)));
    closed = λ h. omega (arith, h);
    shape_fits = fits;
    records_fit = no_records shape;
  }

  empty : (x : ℕ) (c : List ℕ) → c ≡ x ∷ bytes → StandsFor shape [] c
  empty x c same = ⊎_elim
      (λ one. inr (spelled c (same ∙ ap (λ (g : ℕ). g ∷ bytes) one)))
      (λ shut. inl (inr (omega (arith, ap length same, size), λ one. shut (sym (ap (λ (l : List ℕ). get_or l 0 0) same) ∙ one)), refl))
      (cases_eq x 1)

  starts_blank : (c : List ℕ) → take 1 c ≡ 0 ∷ [] → length c ≤ 18 → IsBlank c
  starts_blank c e le =
      let zero_first : get_or c 0 0 ≡ 0 = sym (get_or-take 1 c 0 0 (omega arith)) ∙ ap (λ (l : List ℕ). get_or l 0 0) e in
      inr (le, λ one. omega (arith, zero_first, one))

  pub blank_or_empty : (f c : List ℕ) → f ≡ 0 ∷ [] → Appending f 0 bytes c → StandsFor shape [] c
  blank_or_empty f c start left = pick (subst (λ (l : List ℕ). Appending l 0 bytes c) start left)
    where
      past : drop {A = ℕ} (0 + 1 + length bytes) (0 ∷ []) ≡ []
      past = ap (λ (n : ℕ). drop {A = ℕ} (0 + 1 + n) (0 ∷ [])) size

      pick : Appending (0 ∷ []) 0 bytes c → StandsFor shape [] c
      pick (inl early) = inl (starts_blank c early.0 (omega (arith, early.1, size)), refl)
      pick (inr late) = empty late.0 c (late.1 ∙ ap (λ (l : List ℕ). late.0 ∷ bytes ++ l) past ∙ append-nil (late.0 ∷ bytes))

  pub empty_written : (f g : List ℕ) → f ≡ 0 ∷ [] → g ≡ take 0 f ++ 1 ∷ bytes ++ drop (0 + 1 + length bytes) f → Spells shape [] g
  empty_written f g start made =
      spelled g (made ∙ ap (λ (l : List ℕ). take 0 l ++ 1 ∷ bytes ++ drop (0 + 1 + length bytes) l) start
      ∙ ap (λ (n : ℕ). 1 ∷ bytes ++ drop {A = ℕ} (0 + 1 + n) (0 ∷ [])) size ∙ append-nil (1 ∷ bytes))
