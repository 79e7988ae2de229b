-- What a crash leaves of bytes that are written behind a closed gate.
use Rattle.std.proofs.Common.{◌≡◌, ℕ, ◌+◌, ◌<◌, ◌≤◌, List, [], ◌∷◌, ◌++◌, length, take, drop, refl, sym, ◌∙◌, ap, subst, arith}
use Rattle.std.proofs.Common.{append_assoc, length-append, length-take, length-drop}
use Rattle.std.proofs.lemmas.List.{take_at, drop_at, take-take, take-append-le}
use Rattle.lg_disk.specs.Disk.{Holds, Torn}

single : (m : List ℕ) → length m ≡ 1 → (x : ℕ) × (m ≡ x ∷ [])
single [] one = absurd (omega (arith, one))
single (x ∷ []) one = (x, refl)
single (x ∷ y ∷ m) one = absurd (omega (arith, one))

module _ (file : List ℕ) (gate : ℕ) (bytes : List ℕ) (inside : gate < length file) where
  abbrev rest : List ℕ
  rest = drop (gate + 1 + length bytes) file

  abbrev staged : List ℕ
  staged = take (gate + 1) file ++ bytes ++ rest

  front_size : length (take (gate + 1) file) ≡ gate + 1
  front_size = omega (arith, length-take (gate + 1) file, inside)

  split : staged ≡ take (gate + 1) file ++ (bytes ++ rest)
  split = append_assoc (take (gate + 1) file) bytes rest

  take_staged : take gate staged ≡ take gate file
  take_staged = ap (λ (l : List ℕ). take gate l) split ∙ take-append-le gate (take (gate + 1) file) (bytes ++ rest)
      (omega (arith, front_size))
      ∙ take-take gate (gate + 1) file (omega arith)

  drop_staged : drop (gate + 1) staged ≡ bytes ++ rest
  drop_staged = ap (λ (l : List ℕ). drop (gate + 1) l) split ∙ drop_at (take (gate + 1) file) (bytes ++ rest) (gate + 1) front_size

  length_staged : length staged ≡ gate + 1 + length (bytes ++ rest)
  length_staged = ap length split ∙ omega (arith, length-append (take (gate + 1) file) (bytes ++ rest), front_size)

  -- with any byte at the gate
  regroup : (x : ℕ) → take gate staged ++ (x ∷ []) ++ drop (gate + 1) staged ≡ take gate file ++ x ∷ bytes ++ rest
  regroup x =
      ap (λ (l : List ℕ). l ++ (x ∷ []) ++ drop (gate + 1) staged) take_staged
      ∙ ap (λ (l : List ℕ). take gate file ++ (x ∷ []) ++ l) drop_staged
      ∙ sym (append_assoc (take gate file ++ (x ∷ [])) bytes rest)
      ∙ ap (λ (l : List ℕ). l ++ rest) (append_assoc (take gate file) (x ∷ []) bytes)

  pub early : (n : ℕ) (c : List ℕ) → Torn (gate + 1) n file c → take (gate + 1) c ≡ take (gate + 1) file
  early n c torn =
      ap (λ (l : List ℕ). take (gate + 1) l) (torn.parts ∙ append_assoc (take (gate + 1) file) torn.middle (drop (gate + 1 + n) file))
      ∙ take_at (take (gate + 1) file) (torn.middle ++ drop (gate + 1 + n) file) (gate + 1) front_size

  pub late : (f c : List ℕ) → Holds file (gate + 1) bytes f → Torn gate 1 f c → (x : ℕ) × (c ≡ take gate file ++ x ∷ bytes ++ rest)
  late f c holds torn =
      let t = subst (λ (l : List ℕ). Torn gate 1 l c) holds torn in
      let one = single t.middle (size t) in
      (one.0, t.parts ∙ ap (λ (l : List ℕ). take gate staged ++ l ++ drop (gate + 1) staged) one.1 ∙ regroup one.0)
    where
      size : (t : Torn gate 1 staged c) → length t.middle ≡ 1
      size t = omega (
        arith,
        ap length t.parts,
        length-append (take gate staged ++ t.middle) (drop (gate + 1) staged),
        length-append
            (take gate staged) t.middle,
        length-take gate staged,
        length-drop (gate + 1) staged,
        length_staged,
        t.no_shorter,
        t.no_longer,
      )

  pub opened : (f new : List ℕ) → Holds file (gate + 1) bytes f → Holds f gate (1 ∷ []) new → new ≡ take gate file ++ 1 ∷ bytes ++ rest
  opened f new first second = subst (λ (l : List ℕ). Holds l gate (1 ∷ []) new) first second ∙ regroup 1

pub long : (file : List ℕ) (gate : ℕ) (bytes f : List ℕ) → gate < length file → Holds file (gate + 1) bytes f → gate ≤ length f
long file gate bytes f inside holds = omega (
  arith,
  ap length holds,
  length-append (take (gate + 1) file ++ bytes) (drop
      (gate + 1 + length bytes) file),
  length-append (take (gate + 1) file) bytes,
  length-take (gate + 1) file,
)
