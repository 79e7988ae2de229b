-- Answers of a content, by computation.
use Rattle.std.specs.Prelude.{◌≡◌, ℕ, [], ◌∷◌, map}
use Rattle.lg_model.specs.declared.answer.Answer.{Answer}
use Rattle.lg_model.specs.declared.answer.Value.{Value}
use Rattle.lg_model.specs.declared.answer.Value.TheVariants.{Unknown, AtMost, Saturated}
use Rattle.lg_model.specs.declared.limits.TheConstants.{LAST_BYTES, LAST_DELAY}
use Rattle.lg_model.specs.declared.scenario.Pick.TheVariants.{Turns}
use Rattle.lg_model.specs.Scenario.{Scenario}
use Rattle.lg_model.specs.Answer.{Content, known, look_in, value_of, answered}
use Rattle.lg_model.specs.Bound.{IsAtLeast, IsLow}
use Rattle.worked_examples.specs.Networks.{bucket, key_of, cells, ports, network, ask}

abbrev pub says : (rows : ℕ) → (bytes delay : Value) → Answer
says rows bytes delay = record { rows_known = rows; bytes = bytes; delay = delay }

-- Of epoch 3 at switch 12 both columns, of epoch 4 the second one, of switch 11 the first one, with last values.
abbrev pub some : Content
some = (key_of 11 3 0, cells (bucket LAST_BYTES LAST_DELAY ∷ bucket 1 1 ∷ []))
    ∷ (key_of 12 3 0, cells (bucket 150 30 ∷ bucket 70 LAST_DELAY ∷ []))
    ∷ (key_of 12 3 1, cells (bucket 80 9 ∷ bucket 60 40 ∷ []))
    ∷ (key_of 12 4 1, cells (bucket 0 7 ∷ bucket 5 6 ∷ [])) ∷ []

-- Flow 31 has the places 0 and 1, flow 32 the places 1 and 1.
abbrev pub asked : Scenario
asked = network Turns 2 [] (ask 0 12 3 ∷ ask 1 12 3 ∷ ask 0 12 4 ∷ ask 1 12 4 ∷ ask 0 11 3 ∷ ask 1 11 3 ∷ ask 0 0 3 ∷ [])

pub record WorkedAnswers : Type 0 where
  -- the bucket of each row at the flow's place there, row 0 first
  pub rows : known (look_in some) asked.shape 12 3 (ports 2 1) ≡ bucket 150 30 ∷ bucket 60 40 ∷ []
  -- the least of each counter by itself; 0 is a number; the last value is `saturated`; no row is `unknown`; and an ask
  -- names its switch, not its position
  pub told : map (answered some asked) asked.asks
      ≡ says 2 (AtMost 60) (AtMost 30) ∷ says 2 (AtMost 60) (AtMost 9)
      ∷ says 1 (AtMost 5) (AtMost 6) ∷ says 2 (AtMost 0) (AtMost 6)
      ∷ says 1 Saturated Saturated ∷ says 0 Unknown Unknown ∷ says 0 Unknown Unknown ∷ []
  -- saturated where the least is the last value, and not where any is
  pub least_is_last : map (value_of LAST_DELAY) ((65535 ∷ 65534 ∷ []) ∷ (65535 ∷ 65535 ∷ []) ∷ [])
      ≡ AtMost 65534 ∷ Saturated ∷ []
  -- what is below the truth is not at least the truth, and what is past the last value is not low
  pub too_low : IsAtLeast (AtMost 4) 5 → ⊥
  pub high_bytes : IsLow (bucket 4294967296 0) → ⊥
  pub high_delay : IsLow (bucket 0 65536) → ⊥
