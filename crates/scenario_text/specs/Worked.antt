-- The reading of worked texts, by computation.
use Rattle.std.specs.Prelude.{◌≡◌, ℕ, List, [], ◌∷◌, ◌++◌, Ok, Err, codes}
use Rattle.lg_model.specs.declared.scenario.Hash.TheVariants.{Ports}
use Rattle.lg_model.specs.declared.scenario.Pick.TheVariants.{Turns}
use Rattle.lg_model.specs.declared.scenario.Fate.TheVariants.{Straight}
use Rattle.lg_model.specs.declared.scenario.Step.TheVariants.{Packet, End}
use Rattle.lg_model.specs.Scenario.{Scenario}
use Rattle.scenario_lines.specs.declared.why.Why.TheVariants as whys
use Rattle.scenario_text.specs.Text.{reading}

-- The text of these lines, each with its 0A.
abbrev pub text : List (List ℕ) → List ℕ
text [] = []
text (line ∷ lines) = line ++ 10 ∷ text lines

-- A text of a host and a switch of the name 1 and of these lines.
abbrev pub with_head : List (List ℕ) → List ℕ
with_head lines = text (codes "guardian 1" ∷ codes "shape 2 1 ports" ∷ codes "pick turns" ∷ codes "host 1" ∷ codes "switch 1" ∷ lines)

-- The text of the first scenario, with this ask.
abbrev pub first_scenario_text : List ℕ → List ℕ
first_scenario_text ask =
    with_head (codes "flow 1 10.0.0.1 10.0.0.2 6 2 1 host 1 path 1" ∷ codes "packet 1 1500 20" ∷ codes "end 1"
    ∷ codes "packet 1 100 5" ∷ ask ∷ codes "done" ∷ [])

-- The first scenario.
abbrev pub first_scenario : Scenario
first_scenario = record {
  shape = record { rows = 2; width = 1; hash = Ports };
  pick = Turns;
  hosts = record { name = 1; letters = [] } ∷ [];
  switches = 1 ∷ [];
  flows = record {
    name = 1;
    key = record { src = 10 ∷ 0 ∷ 0 ∷ 1 ∷ []; dst = 10 ∷ 0 ∷ 0 ∷ 2 ∷ []; proto = 6; sport = 2; dport = 1 };
    host_at = 0;
    path = 0 ∷ [];
  } ∷ [];
  steps = Packet 0 1500 (20 ∷ []) 1 Straight ∷ End 0 ∷ Packet 0 100 (5 ∷ []) 1 Straight ∷ [];
  asks = record { flow_at = 0; switch = 1; epoch = 0 } ∷ [];
}

-- Worked texts, and what each says.
pub record WorkedTexts : Type 0 where
  pub the_first : reading (first_scenario_text (codes "ask 1 1 0")) ≡ Ok first_scenario
  pub nothing : reading [] ≡ Err (1, whys.NoDone)
  pub one_line : reading (text (codes "guardian 1" ∷ [])) ≡ Err (2, whys.NoDone)
  pub one_unfinished_line : reading (codes "guardian 1") ≡ Err (1, whys.NoDone)
  pub too_wide : reading (text (codes "guardian 1" ∷ codes "shape 2 4097 ports" ∷ [])) ≡ Err (2, whys.BadNumber)
  pub other_switch : reading (first_scenario_text (codes "ask 1 2 0")) ≡ Err (10, whys.UnknownName)
  pub switch_twice : reading (with_head (codes "flow 1 10.0.0.1 10.0.0.2 6 2 1 host 1 path 1 1" ∷ [])) ≡ Err (6, whys.Repeated)
  pub no_key : reading (with_head (codes "flow 1 10.0.0.1 x" ∷ [])) ≡ Err (6, whys.BadKey)
  pub part_of_a_key : reading (with_head (codes "flow 1 10.0.0.1" ∷ [])) ≡ Err (6, whys.WordCount)
