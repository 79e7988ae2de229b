-- The command of the words after the program's name.
use Rattle.std.specs.Prelude.{ℕ, ◌≤◌, ◌==◌, List, [], ◌∷◌, map, String, string_bytes, Option, Some, None, if◌then◌else◌, codes}
use Rattle.std.specs.Str.{bytes_eq}
use Rattle.flow_key.specs.Words.{number_to}
use Rattle.guardian_words.specs.declared.commands.Command.{Command}
use Rattle.guardian_words.specs.declared.commands.Command.TheVariants.{Run, Demo, Ask, List as ListAll, Rebuild, Capture, Make}

-- The commands of one word.
abbrev pub lone_word : List ℕ → Option Command
lone_word word =
    if bytes_eq word (codes "run") then Some Run
    else (if bytes_eq word (codes "ask") then Some Ask
    else (if bytes_eq word (codes "list") then Some ListAll
    else (if bytes_eq word (codes "capture") then Some Capture
    else None)))

-- A number of rounds, 1 to 1,000, that a word writes in decimal with no sign and no leading zeros.
abbrev pub some_rounds : Option ℕ → Option ℕ
some_rounds None = None
some_rounds (Some n) = if n == 0 then None else Some n

abbrev pub rounds_of : List ℕ → Option ℕ
rounds_of word = some_rounds (number_to 1000 word)

-- `make N` and `demo N`, N being a number of rounds.
abbrev pub making : (rounds : Option ℕ) → Option Command
making None = None
making (Some n) = Some (Make n)

abbrev pub showing : (rounds : Option ℕ) → Option Command
showing None = None
showing (Some n) = Some (Demo n)

-- The commands of two words.
abbrev pub two_words : (word rounds : List ℕ) → Option Command
two_words word rounds =
    if bytes_eq word (codes "make") then making (rounds_of rounds)
    else (if bytes_eq word (codes "demo") then showing (rounds_of rounds)
    else None)

-- `rebuild S E`, where both are numbers of their range.
abbrev pub rebuilding : (switch epoch : Option ℕ) → Option Command
rebuilding None e = None
rebuilding (Some s) None = None
rebuilding (Some s) (Some e) = Some (Rebuild s e)

-- The command of three words: `rebuild`, the name of a switch, 0 to 65535, and an epoch, 0 to 4294967295, each in decimal with
-- no sign and no leading zeros.
abbrev pub three_words : (word switch epoch : List ℕ) → Option Command
three_words word switch epoch =
    if bytes_eq word (codes "rebuild") then rebuilding (number_to 65535 switch) (number_to 4294967295 epoch) else None

abbrev pub command_of : List (List ℕ) → Option Command
command_of [] = None
command_of (word ∷ []) = lone_word word
command_of (word ∷ second ∷ []) = two_words word second
command_of (word ∷ second ∷ third ∷ []) = three_words word second third
command_of (word ∷ second ∷ third ∷ fourth ∷ more) = None

-- What some words ask for.
abbrev pub asked : {Z : Type 0} → List (String Z) → Option Command
asked words = command_of (map (λ w. string_bytes w) words)

-- The numbers of a command are in their ranges.
abbrev pub IsCommand : Command → Type 0
IsCommand Run = Unit {0}
IsCommand (Demo n) = (1 ≤ n) × (n ≤ 1000)
IsCommand Ask = Unit {0}
IsCommand ListAll = Unit {0}
IsCommand (Rebuild s e) = (s ≤ 65535) × (e ≤ 4294967295)
IsCommand Capture = Unit {0}
IsCommand (Make n) = (1 ≤ n) × (n ≤ 1000)
