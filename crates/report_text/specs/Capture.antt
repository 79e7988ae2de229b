-- The lines of a capture.
use Rattle.std.specs.Prelude.{ℕ, List, ◌++◌, codes}
use Rattle.std.specs.Fmt.{decimal}
use Rattle.hex.specs.Hex.{encode_lower}
use Rattle.text_out.specs.Words.{line}

-- `host H X`, X being the bytes in lower-case hexadecimal, two digits a byte
unfoldable pub hex_line : (host : ℕ) (bytes : List ℕ) → List ℕ
hex_line host bytes = line (codes "host " ++ decimal host ++ codes " " ++ encode_lower bytes)

-- `sketchlets N`
unfoldable pub sketchlets_line : ℕ → List ℕ
sketchlets_line n = line (codes "sketchlets " ++ decimal n)
