-- Lines, words, and words with numbers.
use Rattle.std.specs.Prelude.{ℕ, List, [], ◌∷◌, ◌++◌}
use Rattle.std.specs.Fmt.{decimal}

-- A line ends with the byte 10.
abbrev pub line : List ℕ → List ℕ
line text = text ++ 10 ∷ []

-- A word with the spaces around it, and a number.
abbrev pub field : (word : List ℕ) (n : ℕ) → List ℕ
field word n = word ++ decimal n

-- The words of a line.
abbrev pub Words : Type 0
Words = List (List ℕ)

-- The text of words, each after a space.
abbrev pub spaced : Words → List ℕ
spaced [] = []
spaced (w ∷ ws) = 32 ∷ (w ++ spaced ws)

-- The text of words, with one space between each two.
abbrev pub joined : Words → List ℕ
joined [] = []
joined (w ∷ ws) = w ++ spaced ws
