-- The header of a shape.
use Rattle.std.proofs.Common.{◌≡◌, ℕ, ◌<◌, ◌≤◌, List, zero, suc, [], ◌∷◌, ◌++◌, length, get_or, drop, Ok, refl, sym, ◌∙◌, ap, arith}
use Rattle.std.proofs.Common.{length-append}
use Rattle.std.specs.Int.{w32, from_be_bytes}
use Rattle.std.proofs.lemmas.List.{append-nil, length-drop, nil_from_length}
use Rattle.std.proofs.lemmas.Nat.{be_bytes_4}
use Rattle.byte_fields.specs.Law.{IsBytes}
use Rattle.byte_fields.proofs.Numbers.{IsBytes-drop}
use Rattle.byte_fields.proofs.Steps.{ok_is}
use Rattle.lg_model.specs.Placing.{Shape}
use Rattle.sketchlet_wire.specs.declared.fault.WireFault.{WireFault}
use Rattle.sketchlet_wire.specs.declared.fault.WireFault.TheVariants.{Short}
use Rattle.sketchlet_wire.specs.ShapeFields.{FitsShape, shape_bytes, shape_at}
use Rattle.sketchlet_wire.proofs.Shapes.{shape_len, shape_again, shape_takes}
use Rattle.book_file.specs.File.{header}

pub header_len : (s : Shape) → length (header s) ≡ 17
unfolding header
header_len s = omega (arith, shape_len s)

pub header_one : (s : Shape) → get_or (header s) 0 0 ≡ 1
unfolding header
header_one s = refl

pub header_tail : (s : Shape) (rest : List ℕ) → drop 5 (header s ++ rest) ≡ shape_bytes s ++ rest
unfolding header
header_tail s rest = refl

pub front_header : (s t : Shape) (x y : List ℕ) → FitsShape s → FitsShape t → header s ++ x ≡ header t ++ y → (s ≡ t) × (x ≡ y)
front_header s t x y fs ft same =
    let tails : shape_bytes s ++ x ≡ shape_bytes t ++ y = sym (header_tail s x) ∙ ap (λ (l : List ℕ). drop 5 l) same ∙ header_tail t y in
    let read : Ok (s, x) ≡ Ok (t, y) = sym (shape_again Short Short s x fs) ∙ ap (shape_at Short Short) tails
    ∙ shape_again Short Short t y ft in
    let both = ok_is {E = WireFault} (s, x) (t, y) read in
    (ap (λ (p : Shape × List ℕ). p.0) both, ap (λ (p : Shape × List ℕ). p.1) both)

-- ---- what is read of one

letters : List ℕ → ℕ
letters l = from_be_bytes w32 (get_or l 1 0 ∷ get_or l 2 0 ∷ get_or l 3 0 ∷ get_or l 4 0 ∷ [])

pub letters_there : (s : Shape) (head : List ℕ) → head ≡ header s
    → from_be_bytes w32 (get_or head 1 0 ∷ get_or head 2 0 ∷ get_or head 3 0 ∷ get_or head 4 0 ∷ []) ≡ 0x4C474231
unfolding header letters
letters_there s head is = ap letters is

pub shape_there : (s : Shape) (head : List ℕ) → FitsShape s → head ≡ header s → shape_at Short Short (drop 5 head) ≡ Ok (s, [])
unfolding header
shape_there s head fits is = ap (λ (l : List ℕ). shape_at Short Short (drop 5 l)) is
    ∙ ap (shape_at Short Short) (sym (append-nil (shape_bytes s))) ∙ shape_again Short Short s [] fits

five : (l : List ℕ) → 5 ≤ length l → l ≡ get_or l 0 0 ∷ get_or l 1 0 ∷ get_or l 2 0 ∷ get_or l 3 0 ∷ get_or l 4 0 ∷ drop 5 l
five [] le = absurd (omega arith)
five (a ∷ []) le = absurd (omega arith)
five (a ∷ b ∷ []) le = absurd (omega arith)
five (a ∷ b ∷ c ∷ []) le = absurd (omega arith)
five (a ∷ b ∷ c ∷ d ∷ []) le = absurd (omega arith)
five (a ∷ b ∷ c ∷ d ∷ e ∷ rest) le = refl

small_4 : (a b c d : ℕ) → a < 256 → b < 256 → c < 256 → d < 256 → (i : ℕ) → get_or (a ∷ b ∷ c ∷ d ∷ []) i 0 < 256
small_4 a b c d sa sb sc sd zero = sa
small_4 a b c d sa sb sc sd (suc zero) = sb
small_4 a b c d sa sb sc sd (suc (suc zero)) = sc
small_4 a b c d sa sb sc sd (suc (suc (suc zero))) = sd
small_4 a b c d sa sb sc sd (suc (suc (suc (suc i)))) = omega arith

pub header_read : (head : List ℕ) (x : Shape × List ℕ) → IsBytes head → length head ≡ 17 → get_or head 0 0 ≡ 1
    → from_be_bytes w32 (get_or head 1 0 ∷ get_or head 2 0 ∷ get_or head 3 0 ∷ get_or head 4 0 ∷ []) ≡ 0x4C474231
    → shape_at Short Short (drop 5 head) ≡ Ok x → FitsShape x.0 × (head ≡ header x.0)
unfolding header
header_read head x small size one letter read =
    let t = shape_takes Short Short (drop 5 head) x (IsBytes-drop 5 head small) read in
    let none : x.1 ≡ [] =
    nil_from_length x.1 (omega (
      arith,
      ap length t.0.parts,
      length-append (shape_bytes x.0) x.1,
      shape_len x.0,
      size,
      length-drop 5 head,
    )) in
    let tail : drop 5 head ≡ shape_bytes x.0 = t.0.parts ∙ ap (λ (l : List ℕ). shape_bytes x.0 ++ l) none ∙ append-nil (shape_bytes x.0) in
    let b = λ (i : ℕ). get_or head i 0 in
    let l : 76 ∷ 71 ∷ 66 ∷ 49 ∷ [] ≡ b 1 ∷ b 2 ∷ b 3 ∷ b 4 ∷ [] =
    be_bytes_4 (b 1 ∷ b 2 ∷ b 3 ∷ b 4 ∷ []) 0x4C474231 refl (small_4 (b 1) (b 2) (b 3) (b 4) (small 1) (small 2) (small 3) (small 4))
    (sym letter) in
    (t.1, five head (omega (arith, size)) ∙ (λ i. one i ∷ (sym l i ++ tail i)))
