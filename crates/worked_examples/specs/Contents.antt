-- Contents: what is known, in which order, and what is joined, by computation.
use Rattle.std.specs.Prelude.{◌≡◌, ℕ, [], ◌∷◌, map, true, false, Some, None}
use Rattle.std.specs.Ordering.{is_lt}
use Rattle.lg_model.specs.Columns.{Cells, Column}
use Rattle.lg_model.specs.Answer.{Content, key_cmp, content_of, found}
use Rattle.lg_model.specs.Joining.{AreJoinable, join}
use Rattle.worked_examples.specs.Networks.{bucket, key_of, cells}

abbrev pub one : ℕ → Cells
one n = cells (bucket n n ∷ [])

abbrev pub col : (switch epoch index n : ℕ) → Column
col s e j n = record { key = key_of s e j; dims = record { rows = 1; width = 9 }; cells = one n }

-- Under three keys.
abbrev pub some : Content
some = (key_of 1 0 1, one 8) ∷ (key_of 1 1 0, one 6) ∷ (key_of 2 0 0, one 5) ∷ []

pub record WorkedContents : Type 0 where
  -- by switch, then by epoch, then by index
  pub order : map (λ k. is_lt (key_cmp (key_of 5 5 5) k)) (
      key_of 6 0 0 ∷ key_of 5 6 0 ∷ key_of 5 5 6 ∷ key_of 5 5 5 ∷ key_of 5 5 4 ∷ key_of 5 4 9 ∷ key_of 4 9 9 ∷ [])
      ≡ true ∷ true ∷ true ∷ false ∷ false ∷ false ∷ false ∷ []
  -- in the order of the keys; of columns with one key the last one counts
  pub content : content_of (col 2 0 0 5 ∷ col 1 1 0 6 ∷ col 1 0 1 7 ∷ col 1 0 1 8 ∷ []) ≡ some
  pub looked_up : map (found some) (key_of 1 0 1 ∷ key_of 2 0 0 ∷ key_of 0 0 1 ∷ key_of 1 1 1 ∷ [])
      ≡ Some (one 8) ∷ Some (one 5) ∷ None ∷ None ∷ []
  -- the pairs of both, in order
  pub joined : join some ((key_of 0 7 7, one 1) ∷ (key_of 1 0 1, one 8) ∷ (key_of 1 0 2, one 2) ∷ [])
      ≡ (key_of 0 7 7, one 1) ∷ (key_of 1 0 1, one 8) ∷ (key_of 1 0 2, one 2) ∷ (key_of 1 1 0, one 6)
      ∷ (key_of 2 0 0, one 5) ∷ []
  -- other counters under a key of both
  pub apart : AreJoinable some ((key_of 1 1 0, one 7) ∷ []) → ⊥
