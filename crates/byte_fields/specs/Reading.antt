-- Reading fields from left to right. A reading function is given the bytes, and gives the field at their front with the
-- bytes after it, or an error. A field that is not wholly there is the error that the caller names.
use Rattle.std.specs.Prelude.{◌≡◌, ℕ, List, [], ◌∷◌, length, take, drop, Result, Ok, Err, nat_lt, if◌then◌else◌}
use Rattle.std.specs.Int.{Width, byte_len, from_be_bytes}

-- Goes on with the value of a step that did not fail.
infixl 10 ◌>>=◌
abbrev pub ◌>>=◌ : {A B E : Type 0} → Result A E → (A → Result B E) → Result B E
(Ok x) >>= f = f x
(Err e) >>= f = Err e

-- What a function returned, seen by view, is what reading gives.
abbrev pub Gives : {X Y E : Type 0} → (X → Y) → Result X E → Result Y E → Type 0
Gives view (Ok x) read = read ≡ Ok (view x)
Gives view (Err e) read = read ≡ Err e

-- One byte, and the bytes after it.
unfoldable pub byte_at : {E : Type 0} → (missing : E) → List ℕ → Result (ℕ × List ℕ) E
byte_at missing [] = Err missing
byte_at missing (b ∷ rest) = Ok (b, rest)

-- A big-endian number of that many bytes, and the bytes after it.
unfoldable pub number_at : {E : Type 0} → (missing : E) → Width → List ℕ → Result (ℕ × List ℕ) E
number_at missing w bytes =
    if nat_lt (length bytes) (byte_len w) then Err missing
    else Ok (from_be_bytes w (take (byte_len w) bytes), drop (byte_len w) bytes)
