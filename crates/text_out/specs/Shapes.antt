-- The words of a shape.
use Rattle.std.specs.Prelude.{[], ◌∷◌, codes}
use Rattle.std.specs.Fmt.{decimal}
use Rattle.lg_model.specs.declared.scenario.Hash.{Hash}
use Rattle.lg_model.specs.declared.scenario.Hash.TheVariants as hashes
use Rattle.lg_model.specs.Placing.{Shape}
use Rattle.text_out.specs.Words.{Words}

-- `ports`, or `seed N`
abbrev pub hash_words : Hash → Words
hash_words hashes.Ports = codes "ports" ∷ []
hash_words (hashes.Seed n) = codes "seed" ∷ decimal n ∷ []

-- `R W ports` or `R W seed N`: the rows, the buckets of a row, and the hash
abbrev pub shape_words : Shape → Words
shape_words s = decimal s.rows ∷ decimal s.width ∷ hash_words s.hash
