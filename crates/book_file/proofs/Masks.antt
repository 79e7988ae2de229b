-- Columns that are picked by the bits of a mask.
use Rattle.std.proofs.Common.{◌≡◌, ℕ, zero, suc, ◌+◌, ◌*◌, ◌/◌, ◌%◌, ◌<◌, Bool, true, false, cond, List, [], ◌∷◌, ◌++◌, length, get_or}
use Rattle.std.proofs.Common.{take, drop, map, refl, sym, ◌∙◌, ap, arith, append_assoc}
use Rattle.std.specs.Prelude.{filter, if◌then◌else◌}
use Rattle.std.specs.List.{flat_map}
use Rattle.std.proofs.lemmas.List.{append-nil, get_or_default}
use Rattle.lg_model.specs.Columns.{Column}
use Rattle.std.specs.Int.{w16, w32, to_be_bytes}
use Rattle.sketchlet_wire.specs.Uploads.{UploadData, no_column}
use Rattle.column_book.specs.Applying.{mask_of}
use Rattle.book_file.specs.File.{column_bytes, body}

abbrev at : List Column → ℕ → Column
at cs i = get_or cs i no_column

abbrev pub bit : Bool → ℕ
bit b = if b then 1 else 0

mask_step : (p : Column → Bool) (cs : List Column) (i : ℕ) → i < length cs → mask_of (map p (drop i cs)) ≡ bit (p (at cs i)) + 2 * mask_of
    (map p (drop (suc i) cs))
mask_step p [] i lt = absurd (omega (arith, lt))
mask_step p (c ∷ cs) zero lt = refl
mask_step p (c ∷ cs) (suc i) lt = mask_step p cs i (omega (arith, lt))

count_step : (p : Column → Bool) (cs : List Column) (i : ℕ) → i < length cs
    → length (filter p (take (suc i) cs)) ≡ length (filter p (take i cs)) + bit (p (at cs i))
count_step p [] i lt = absurd (omega (arith, lt))
count_step p (c ∷ cs) zero lt = (elim (p c) as (λ b. length (cond b (c ∷ []) []) ≡ 0 + bit b) [
  | true ↦ refl
  | false ↦ refl
])
count_step p (c ∷ cs) (suc i) lt =
    let rest = count_step p cs i (omega (arith, lt)) in
    (elim (p c) as (λ b. length (cond b (c ∷ filter p (take (suc i) cs)) (filter p (take (suc i) cs))) ≡ length
    (cond b (c ∷ filter p (take i cs)) (filter p (take i cs))) + bit (p (at cs i))) [
      | true ↦ omega (arith, rest)
      | false ↦ rest
    ])

-- the bytes of the columns that are picked
abbrev pub picked : (Column → Bool) → List Column → List ℕ
picked p cs = flat_map column_bytes (filter p cs)

picked_step : (p : Column → Bool) (cs : List Column) (i : ℕ) → i < length cs → picked p (take (suc i) cs) ≡ picked p (take i cs) ++ cond
    (p (at cs i)) (column_bytes (at cs i)) []
picked_step p [] i lt = absurd (omega (arith, lt))
picked_step p (c ∷ cs) zero lt = (elim (p c) as (λ b. flat_map column_bytes (cond b (c ∷ []) []) ≡ cond b (column_bytes c) []) [
  | true ↦ append-nil (column_bytes c)
  | false ↦ refl
])
picked_step p (c ∷ cs) (suc i) lt =
    let rest = picked_step p cs i (omega (arith, lt)) in
    let last = cond (p (at cs i)) (column_bytes (at cs i)) [] in
    (elim (p c) as (λ b. flat_map column_bytes (cond b (c ∷ filter p (take (suc i) cs)) (filter p (take (suc i) cs)))
    ≡ flat_map column_bytes (cond b (c ∷ filter p (take i cs)) (filter p (take i cs))) ++ last) [
      | true ↦ ap (λ (l : List ℕ). column_bytes c ++ l) rest ∙ sym (append_assoc (column_bytes c) (picked p (take i cs)) last)
      | false ↦ rest
    ])

one_on : (i : ℕ) → suc i ≡ i + 1
one_on i = omega arith

mask_next : (p : Column → Bool) (cs : List Column) (i : ℕ) → i < length cs → mask_of (map p (drop i cs)) ≡ bit (p (at cs i)) + 2 * mask_of
    (map p (drop (i + 1) cs))
mask_next p cs i lt = mask_step p cs i lt ∙ ap (λ (n : ℕ). bit (p (at cs i)) + 2 * mask_of (map p (drop n cs))) (one_on i)

count_next : (p : Column → Bool) (cs : List Column) (i : ℕ) → i < length cs
    → length (filter p (take (i + 1) cs)) ≡ length (filter p (take i cs)) + bit (p (at cs i))
count_next p cs i lt = ap (λ (n : ℕ). length (filter p (take n cs))) (sym (one_on i)) ∙ count_step p cs i lt

picked_next : (p : Column → Bool) (cs : List Column) (i : ℕ) → i < length cs → picked p (take (i + 1) cs) ≡ picked p (take i cs) ++ cond
    (p (at cs i)) (column_bytes (at cs i)) []
picked_next p cs i lt = ap (λ (n : ℕ). picked p (take n cs)) (sym (one_on i)) ∙ picked_step p cs i lt

-- what is left of a mask, and what its bits have picked so far
pub halved : (b : Bool) (left rest : ℕ) → left ≡ bit b + 2 * rest → (left % 2 ≡ bit b) × (left / 2 ≡ rest)
halved true left rest is = (omega (arith, is), omega (arith, is))
halved false left rest is = (omega (arith, is), omega (arith, is))

abbrev pub Left : (mask : ℕ) → List Column → (i left : ℕ) → Type 0
Left mask cs i left = (p : Column → Bool) → mask ≡ mask_of (map p cs) → left ≡ mask_of (map p (drop i cs))

pub left_next : (mask : ℕ) (cs : List Column) (i left : ℕ) → i < length cs → Left mask cs i left → Left mask cs (i + 1) (left / 2)
left_next mask cs i left lt so_far p is =
    (halved (p (get_or cs i no_column)) left (mask_of (map p (drop (i + 1) cs))) (so_far p is ∙ mask_next p cs i lt)).1

pub bit_next : (mask : ℕ) (cs : List Column) (i left : ℕ) → i < length cs → Left mask cs i left → (p : Column → Bool)
    → mask ≡ mask_of (map p cs) → left % 2 ≡ bit (p (get_or cs i no_column))
bit_next mask cs i left lt so_far p is =
    (halved (p (get_or cs i no_column)) left (mask_of (map p (drop (i + 1) cs))) (so_far p is ∙ mask_next p cs i lt)).0

true_bit : (b : Bool) (n : ℕ) → n ≡ bit b → n ≡ 1 → b ≡ true
true_bit true n is one = refl
true_bit false n is one = absurd (omega (arith, is, one))

false_bit : (b : Bool) (n : ℕ) → n ≡ bit b → (n ≡ 1 → ⊥) → b ≡ false
false_bit true n is other = absurd (other is)
false_bit false n is other = refl

module _ (mask : ℕ) (cs : List Column) (i left : ℕ) (lt : i < length cs) (so_far : Left mask cs i left) (p : Column → Bool)
    (is : mask ≡ mask_of (map p cs)) where
  pub counted : (count : ℕ) → count ≡ length (filter p (take i cs)) → count + left % 2 ≡ length (filter p (take (i + 1) cs))
  counted count before = (λ j. before j + bit_next mask cs i left lt so_far p is j) ∙ sym (count_next p cs i lt)

  pub put_more : (c : Column) (start old new : List ℕ) → c ≡ get_or cs i c → left % 2 ≡ 1 → old ≡ start ++ picked p (take i cs)
      → new ≡ old ++ column_bytes c → new ≡ start ++ picked p (take (i + 1) cs)
  put_more c start old new here one before adds =
      let yes : p (at cs i) ≡ true = true_bit (p (at cs i)) (left % 2) (bit_next mask cs i left lt so_far p is) one in
      let same : c ≡ at cs i = here ∙ get_or_default cs i c no_column lt in
      adds
      ∙ ap (λ (l : List ℕ). l ++ column_bytes c) before
      ∙ append_assoc start (picked p (take i cs)) (column_bytes c)
      ∙ ap (λ (x : Column). start ++ (picked p (take i cs) ++ column_bytes x)) same
      ∙ ap (λ (b : Bool). start ++ (picked p (take i cs) ++ cond b (column_bytes (at cs i)) [])) (sym yes)
      ∙ ap (λ (l : List ℕ). start ++ l) (sym (picked_next p cs i lt))

  pub put_none : (start old : List ℕ) → (left % 2 ≡ 1 → ⊥) → old ≡ start ++ picked p (take i cs) → old ≡ start ++ picked p (take (i + 1) cs)
  put_none start old other before =
      let no_bit : p (at cs i) ≡ false = false_bit (p (at cs i)) (left % 2) (bit_next mask cs i left lt so_far p is) other in
      before
      ∙ ap (λ (l : List ℕ). start ++ l) (sym (append-nil (picked p (take i cs))))
      ∙ ap (λ (b : Bool). start ++ (picked p (take i cs) ++ cond b (column_bytes (at cs i)) [])) (sym no_bit)
      ∙ ap (λ (l : List ℕ). start ++ l) (sym (picked_next p cs i lt))

pub body_parts : (r : UploadData) (lead cols : List ℕ) (h s n : ℕ) → lead ≡ to_be_bytes w16 h ++ (to_be_bytes w32 s ++ n ∷ []) → h ≡ r.host
    → s ≡ r.seq → n ≡ length r.columns → cols ≡ flat_map column_bytes r.columns
    → ([] ++ lead) ++ cols ≡ body r
unfolding body
body_parts r lead cols h s n is eh es en ec =
    ap (λ (l : List ℕ). l ++ cols) is ∙ (λ i. (to_be_bytes w16 (eh i) ++ (to_be_bytes w32 (es i) ++ en i ∷ [])) ++ ec i)
