-- The text of the generated scenario of one round.
use Rattle.std.specs.Prelude.{◌≡◌, ℕ, List, [], ◌∷◌, ◌++◌, codes}
use Rattle.scenario_parts.specs.Printed.{text_of}
use Rattle.scenario_make.specs.Generator.{generated}

-- The text of these lines, each with its 0A.
abbrev pub text : List (List ℕ) → List ℕ
text [] = []
text (line ∷ lines) = line ++ 10 ∷ text lines

-- What is printed of it.
abbrev pub one_round_text : List ℕ
one_round_text =
    text (
    codes "guardian 1"
    ∷ codes "shape 4 16 seed 1"
    ∷ codes "pick turns"
    ∷ codes "host 1"
    ∷ codes "host 2"
    ∷ codes "switch 1"
    ∷ codes "switch 2"
    ∷ codes "switch 3"
    ∷ codes "switch 4"
    ∷ codes "flow 1 10.0.0.1 10.0.1.1 6 1001 80 host 2 path 2 3 4"
    ∷ codes "flow 2 10.0.0.2 10.0.1.2 6 1002 80 host 1 path 3 4 1"
    ∷ codes "flow 3 10.0.0.3 10.0.1.3 6 1003 80 host 2 path 4 1 2"
    ∷ codes "flow 4 10.0.0.4 10.0.1.4 6 1004 80 host 1 path 1 2 3"
    ∷ codes "flow 5 10.0.0.5 10.0.1.5 6 1005 80 host 2 path 2 3 4"
    ∷ codes "flow 6 10.0.0.6 10.0.1.6 6 1006 80 host 1 path 3 4 1"
    ∷ codes "flow 7 10.0.0.7 10.0.1.7 6 1007 80 host 2 path 4 1 2"
    ∷ codes "flow 8 10.0.0.8 10.0.1.8 6 1008 80 host 1 path 1 2 3"
    ∷ codes "link 1 xarh"
    ∷ codes "link 2 hdxa"
    ∷ codes "packet 1 101 11 21 31 burst 20"
    ∷ codes "packet 2 138 12 22 32 burst 20"
    ∷ codes "packet 3 175 13 23 33 burst 20 lost 1"
    ∷ codes "packet 4 212 14 24 34 burst 20"
    ∷ codes "packet 5 249 15 25 35 burst 20"
    ∷ codes "packet 6 286 16 26 36 burst 20"
    ∷ codes "packet 7 323 17 27 37 burst 20 twice"
    ∷ codes "packet 8 360 18 28 38 burst 20"
    ∷ codes "end all"
    ∷ codes "packet 1 64 1 1 1 burst 32"
    ∷ codes "packet 2 64 1 1 1 burst 32"
    ∷ codes "packet 3 64 1 1 1 burst 32"
    ∷ codes "packet 4 64 1 1 1 burst 32"
    ∷ codes "packet 5 64 1 1 1 burst 32"
    ∷ codes "packet 6 64 1 1 1 burst 32"
    ∷ codes "packet 7 64 1 1 1 burst 32"
    ∷ codes "packet 8 64 1 1 1 burst 32"
    ∷ codes "ask 1 2 0"
    ∷ codes "ask 2 3 0"
    ∷ codes "ask 3 4 0"
    ∷ codes "ask 4 1 0"
    ∷ codes "ask 5 2 0"
    ∷ codes "ask 6 3 0"
    ∷ codes "ask 7 4 0"
    ∷ codes "ask 8 1 0"
    ∷ codes "done"
    ∷ []
    )

-- The generated scenario of one round is printed so.
abbrev pub WorkedRound : Type 0
WorkedRound = text_of (generated 1) ≡ one_round_text
