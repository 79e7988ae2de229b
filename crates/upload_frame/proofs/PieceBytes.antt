-- The bytes of the first pieces of a stream.
use Rattle.std.proofs.Common.{◌≡◌, ℕ, ◌+◌, ◌<◌, ◌≤◌, List, [], ◌∷◌, ◌++◌, length, take, drop, get_or, sym, ap, ◌∙◌, arith}
use Rattle.std.specs.Global.{Vec}
use Rattle.std.specs.List.{flat_map}
use Rattle.std.proofs.lemmas.List.{take_more, take-append-drop, length-append, append-nil}
use Rattle.std.proofs.lemmas.List.Concat.{flat_map-append, flat_map-cons}

abbrev pub bytes_of : List (Vec ℕ) → List ℕ
bytes_of pieces = flat_map (λ (piece : Vec ℕ). piece.items) pieces

pub one_more : (pieces : List (Vec ℕ)) (i : ℕ) (d : Vec ℕ) → i < length pieces
    → bytes_of (take (i + 1) pieces) ≡ bytes_of (take i pieces) ++ (get_or pieces i d).items
one_more pieces i d lt =
    ap bytes_of (take_more pieces i d lt) ∙ flat_map-append (λ (piece : Vec ℕ). piece.items) (take i pieces) (get_or pieces i d ∷ [])
    ∙ ap (λ (x : List ℕ). bytes_of (take i pieces) ++ x) (flat_map-cons (λ (piece : Vec ℕ). piece.items) (get_or pieces i d) []
    ∙ append-nil (get_or pieces i d).items)

pub fits : (pieces : List (Vec ℕ)) (i : ℕ) (d : Vec ℕ) → i < length pieces
    → length (bytes_of (take i pieces)) + length (get_or pieces i d).items ≤ length (bytes_of pieces)
fits pieces i d lt =
    let whole : bytes_of (take (i + 1) pieces) ++ bytes_of (drop (i + 1) pieces) ≡ bytes_of pieces =
    sym (flat_map-append (λ (piece : Vec ℕ). piece.items) (take (i + 1) pieces) (drop (i + 1) pieces)) ∙ ap bytes_of (take-append-drop (i + 1) pieces) in
    omega (
      arith,
      ap length whole,
      ap length (one_more pieces i d lt),
      length-append (bytes_of (take (i + 1) pieces)) (bytes_of (drop (i + 1) pieces)),
      length-append (bytes_of (take i pieces)) (get_or pieces i d).items,
    )
