-- Which command the words are, by computation.
use Rattle.std.specs.Prelude.{◌≡◌, ℕ, List, [], ◌∷◌, map, replicate, Option, Some, None, codes}
use Rattle.guardian_words.specs.declared.commands.Command.{Command}
use Rattle.guardian_words.specs.declared.commands.Command.TheVariants.{Run, Demo, Ask, List as ListAll, Rebuild}
use Rattle.guardian_words.specs.declared.commands.Command.TheVariants.{Capture, Make}
use Rattle.guardian_words.specs.Words.{command_of}

abbrev pub one : List ℕ → List (List ℕ)
one w = w ∷ []

abbrev pub two : List ℕ → List ℕ → List (List ℕ)
two w x = w ∷ x ∷ []

abbrev pub rebuild : List ℕ → List ℕ → List (List ℕ)
rebuild s e = codes "rebuild" ∷ s ∷ e ∷ []

abbrev pub no_command : Option Command
no_command = None

pub record WorkedCommands : Type 0 where
  pub lone : map command_of (one (codes "run") ∷ one (codes "ask") ∷ one (codes "list") ∷ one (codes "capture") ∷ [])
      ≡ Some Run ∷ Some Ask ∷ Some ListAll ∷ Some Capture ∷ []
  pub made : map command_of (two (codes "make") (codes "1") ∷ two (codes "make") (codes "1000")
      ∷ two (codes "demo") (codes "7") ∷ [])
      ≡ Some (Make 1) ∷ Some (Make 1000) ∷ Some (Demo 7) ∷ []
  -- the switch before the epoch, each up to its last number
  pub rebuilt : map command_of (rebuild (codes "3") (codes "0") ∷ rebuild (codes "65535") (codes "4294967295") ∷ [])
      ≡ Some (Rebuild 3 0) ∷ Some (Rebuild 65535 4294967295) ∷ []
  pub others : map command_of ([] ∷ one (codes "Run") ∷ one (codes "make") ∷ two (codes "run") (codes "1")
      ∷ two (codes "make") (codes "0") ∷ two (codes "make") (codes "1001") ∷ two (codes "demo") (codes "1001")
      ∷ two (codes "make") (codes "01") ∷ two (codes "rebuild") (codes "1")
      ∷ rebuild (codes "65536") (codes "0") ∷ rebuild (codes "0") (codes "4294967296")
      ∷ (codes "rebuild" ∷ codes "1" ∷ codes "0" ∷ codes "0" ∷ []) ∷ [])
      ≡ replicate 12 no_command
