-- A text with every kind of line: what it says, and how it is printed, by computation.
use Rattle.std.specs.Prelude.{◌≡◌, ℕ, List, [], ◌∷◌, ◌++◌, Ok, Err, codes}
use Rattle.lg_model.specs.declared.scenario.Fate.TheVariants.{Lost, Twice, Late}
use Rattle.lg_model.specs.declared.scenario.Hash.TheVariants.{Seed}
use Rattle.lg_model.specs.declared.scenario.Letter.{Letter}
use Rattle.lg_model.specs.declared.scenario.Letter.TheVariants as letter
use Rattle.lg_model.specs.declared.scenario.Pick.TheVariants.{Chance}
use Rattle.lg_model.specs.declared.scenario.Step.TheVariants.{Packet, End, EndAll, Release}
use Rattle.lg_model.specs.Scenario.{Scenario}
use Rattle.scenario_lines.specs.declared.why.Why.TheVariants as whys
use Rattle.scenario_parts.specs.Printed.{text_of}
use Rattle.scenario_text.specs.Text.{reading, deciding}
use Rattle.worked_examples.specs.Networks.{ports, flow, host, ask}
use Rattle.worked_examples.specs.Lines.{text}

abbrev pub all_lines : List (List ℕ)
all_lines = codes "guardian 1" ∷ codes "shape 8 4096 seed 9" ∷ codes "pick chance 7" ∷ codes "host 21" ∷ codes "host 22"
    ∷ codes "switch 11" ∷ codes "switch 12" ∷ codes "flow 31 10.0.0.1 10.0.0.2 6 2 1 host 22 path 12 11"
    ∷ codes "link 22 dxarh" ∷ codes "packet 31 1500 20 30 burst 3 lost 1" ∷ codes "end 12"
    ∷ codes "packet 31 1 2 3 twice" ∷ codes "end all"
    ∷ codes "packet 31 1 2 3 late" ∷ codes "release" ∷ codes "ask 31 12 5" ∷ codes "done" ∷ []

abbrev pub five : List Letter
five = letter.Deliver ∷ letter.Lose ∷ letter.LoseReply ∷ letter.Twice ∷ letter.Hold ∷ []

abbrev pub all_said : Scenario
all_said = record {
  shape = record { rows = 8; width = 4096; hash = Seed 9 };
  pick = Chance 7;
  hosts = host 21 ∷ record { name = 22; letters = five } ∷ [];
  switches = 11 ∷ 12 ∷ [];
  flows = flow 31 (ports 2 1) 1 (1 ∷ 0 ∷ []) ∷ [];
  steps = Packet 0 1500 (20 ∷ 30 ∷ []) 3 (Lost 1) ∷ End 1 ∷ Packet 0 1 (2 ∷ 3 ∷ []) 1 Twice ∷ EndAll
      ∷ Packet 0 1 (2 ∷ 3 ∷ []) 1 Late ∷ Release ∷ [];
  asks = ask 0 12 5 ∷ [];
}

abbrev pub head : List (List ℕ) → List (List ℕ)
head lines = codes "guardian 1" ∷ codes "shape 1 1 ports" ∷ codes "pick turns" ∷ lines

pub record WorkedReadings : Type 0 where
  pub read : reading (text all_lines) ≡ Ok all_said
  pub printed : text_of all_said ≡ text all_lines
  -- nothing after `done` counts, and the deciding prefix ends there, or with the first faulty line
  pub after_done : reading (text all_lines ++ codes "x") ≡ Ok all_said
  pub decided : deciding (text (head (codes "done" ∷ codes "x" ∷ []))) ≡ text (head (codes "done" ∷ []))
  pub decided_early : deciding (text (codes "guardian 1" ∷ codes "x" ∷ codes "y" ∷ []))
      ≡ text (codes "guardian 1" ∷ codes "x" ∷ [])
  pub undecided : deciding (text (codes "guardian 1" ∷ [])) ≡ text (codes "guardian 1" ∷ [])
  -- one past each limit of a line, and names that were not declared
  pub nine_rows : reading (text (codes "guardian 1" ∷ codes "shape 9 1 ports" ∷ [])) ≡ Err (2, whys.BadNumber)
  pub no_width : reading (text (codes "guardian 1" ∷ codes "shape 1 0 ports" ∷ [])) ≡ Err (2, whys.BadNumber)
  pub other_version : reading (text (codes "guardian 2" ∷ [])) ≡ Err (1, whys.Version)
  pub same_name : reading (text (head (codes "host 1" ∷ codes "switch 1" ∷ codes "host 1" ∷ []))) ≡ Err (6, whys.Repeated)
  pub no_host : reading (text (head (codes "link 1 d" ∷ []))) ≡ Err (4, whys.UnknownName)
  pub late_switch : reading (text (head (codes "end all" ∷ codes "switch 1" ∷ []))) ≡ Err (5, whys.OutOfPlace)
