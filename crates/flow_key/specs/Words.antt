-- Words between single bytes, and numbers written without leading zeros.
use Rattle.std.specs.Prelude.{ℕ, Bool, false, List, [], Option, Some, None, length, nat_le, nat_lt, ◌&&◌, ◌==◌, if◌then◌else◌, slice_index, take}
use Rattle.std.specs.List.{slice_split, position_or_len, list_all}
use Rattle.std.specs.Char.{is_ascii_digit}
use Rattle.std.specs.Str.Parse.{digits_value}

-- The words of a text, between single bytes `at`: one more than it has bytes `at`, each may be empty.
abbrev pub words_at : ℕ → List ℕ → List (List ℕ)
words_at at text = slice_split (λ b. b == at) text

-- The words of what is left of a text, none where nothing is left.
abbrev pub words_left : ℕ → Option (List ℕ) → List (List ℕ)
words_left at None = []
words_left at (Some text) = words_at at text

-- The first word of a text: its bytes before the first byte `at`, all where there is none.
abbrev pub first_word : ℕ → List ℕ → List ℕ
first_word at text = take (position_or_len (λ b. b == at) text) text

-- The form of a number: decimal digits, one or more, with no zero in front of others.
unfoldable pub is_number : List ℕ → Bool
is_number word =
    if length word == 0 then false else (if slice_index word 0 == 48 && nat_lt 1 (length word) then false else list_all is_ascii_digit word)

-- The number from 0 to `most` that decimal digits write, none where it is greater.
unfoldable pub value_to : ℕ → List ℕ → Option ℕ
value_to most word = if nat_le (digits_value 10 word) most then Some (digits_value 10 word) else None

-- The number from 0 to `most` that a word of digits writes, with zeros in front or without.
abbrev pub digits_to : ℕ → List ℕ → Option ℕ
digits_to most word = if list_all is_ascii_digit word then value_to most word else None

-- The number from 0 to `most` that a word writes, none where it has not the form or is greater.
unfoldable pub number_to : ℕ → List ℕ → Option ℕ
number_to most word = if is_number word then value_to most word else None
