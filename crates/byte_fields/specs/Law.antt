-- Numbers and their bytes.
use Rattle.std.specs.Prelude.{◌≡◌, ℕ, ◌<◌, List, ◌++◌, length, slice_index, Ok}
use Rattle.std.specs.Int.{Width, byte_len, to_be_bytes}
use Rattle.byte_fields.specs.Reading.{number_at}

-- Each item of the list is a byte.
abbrev pub IsBytes : List ℕ → Type 0
IsBytes bytes = (i : ℕ) → slice_index bytes i < 256

-- Some bytes are this text, and then the rest, which are bytes too.
pub record Takes (bytes text rest : List ℕ) : Type 0 where
  pub parts : bytes ≡ text ++ rest
  pub rest_fits : IsBytes rest

-- Numbers below a limit are written in that many bytes and read back, whatever follows, and what is read was written so.
pub record LawOfNumbers {E : Type 0} (missing : E) (w : Width) (limit : ℕ) : Type 0 where
  pub len : (n : ℕ) → length (to_be_bytes w n) ≡ byte_len w
  pub again : (n : ℕ) (rest : List ℕ) → n < limit → number_at missing w (to_be_bytes w n ++ rest) ≡ Ok (n, rest)
  pub takes : (bytes : List ℕ) (x : ℕ × List ℕ) → IsBytes bytes → number_at missing w bytes ≡ Ok x
      → Takes bytes (to_be_bytes w x.0) x.1 × (x.0 < limit)
