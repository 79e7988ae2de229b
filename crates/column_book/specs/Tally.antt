-- Sums below a number.
use Rattle.std.specs.Prelude.{ℕ, zero, suc, ◌+◌, Bool, is_some, if◌then◌else◌}
use Rattle.lg_model.specs.declared.column.Key.{Key}
use Rattle.column_book.specs.Blocks.{Made, kept_at}

-- The sum of f over all numbers below n.
abbrev pub sum_below : (ℕ → ℕ) → ℕ → ℕ
sum_below f zero = 0
sum_below f (suc n) = sum_below f n + f n

abbrev pub bit : Bool → ℕ
bit b = if b then 1 else 0

abbrev pub key_at : (s e j : ℕ) → Key
key_at s e j = record { switch = s; epoch = e; index = j }

-- How many columns of a switch and epoch are kept below an index.
abbrev pub tally : Made → (s e n : ℕ) → ℕ
tally es s e n = sum_below (λ j. bit (is_some (kept_at es (key_at s e j)))) n
