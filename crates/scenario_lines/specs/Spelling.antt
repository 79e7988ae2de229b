-- The words that write the parts of a scenario, the texts of words, and how many bytes words take.
use Rattle.std.specs.Prelude.{ℕ, ◌+◌, List, [], ◌∷◌, ◌++◌, length, map, codes, ◌==◌, if◌then◌else◌, slice_index}
use Rattle.std.specs.Fmt.{decimal}
use Rattle.flow_key.specs.declared.key.FlowKey.{FlowKey}
use Rattle.flow_key.specs.KeyText.{dotted}
use Rattle.lg_model.specs.declared.scenario.Pick.{Pick}
use Rattle.lg_model.specs.declared.scenario.Pick.TheVariants as picks
use Rattle.lg_model.specs.declared.scenario.Letter.{Letter}
use Rattle.lg_model.specs.declared.scenario.Letter.TheVariants as letters
use Rattle.lg_model.specs.declared.scenario.HostLine.{HostLine}
use Rattle.lg_model.specs.declared.scenario.Flow.{Flow}
use Rattle.lg_model.specs.declared.scenario.Fate.{Fate}
use Rattle.lg_model.specs.declared.scenario.Fate.TheVariants as fates
use Rattle.lg_model.specs.declared.scenario.Step.{Step}
use Rattle.lg_model.specs.declared.scenario.Step.TheVariants as steps
use Rattle.lg_model.specs.declared.scenario.Ask.{Ask}
use Rattle.lg_model.specs.Placing.{Shape}
use Rattle.text_out.specs.Words.{Words, joined}
use Rattle.text_out.specs.Shapes.{shape_words}
use Rattle.lg_model.specs.Keeping.{names_of, host_names}

-- The text of a line of these words, with its 0A.
abbrev pub line_text : Words → List ℕ
line_text ws = joined ws ++ 10 ∷ []

-- The bytes of words with one byte after each.
abbrev pub size : Words → ℕ
size [] = 0
size (w ∷ ws) = (length w + 1) + size ws

-- The five words of a key, before these words.
abbrev pub key_parts : FlowKey → Words → Words
key_parts k ws = dotted k.src ∷ dotted k.dst ∷ decimal k.proto ∷ decimal k.sport ∷ decimal k.dport ∷ ws

-- The words of a pick.
abbrev pub pick_words : Pick → Words
pick_words picks.Turns = codes "turns" ∷ []
pick_words (picks.Chance n) = codes "chance" ∷ decimal n ∷ []

-- The words of a burst, which are none for one packet.
abbrev pub burst_words : ℕ → Words
burst_words n = if n == 1 then [] else (codes "burst" ∷ decimal n ∷ [])

-- The words of a fate.
abbrev pub fate_words : Fate → Words
fate_words fates.Straight = []
fate_words (fates.Lost k) = codes "lost" ∷ decimal k ∷ []
fate_words fates.Twice = codes "twice" ∷ []
fate_words fates.Late = codes "late" ∷ []

-- ---- whole lines

-- The words of the first line.
abbrev pub guardian_words : Words
guardian_words = codes "guardian" ∷ codes "1" ∷ []

-- The words of the line of a shape.
abbrev pub shape_line_words : Shape → Words
shape_line_words s = codes "shape" ∷ shape_words s

-- The words of the line of a pick.
abbrev pub pick_line_words : Pick → Words
pick_line_words p = codes "pick" ∷ pick_words p

-- The words of the line of a host's name.
abbrev pub host_words : HostLine → Words
host_words h = codes "host" ∷ decimal h.name ∷ []

-- The words of the line of a switch.
abbrev pub switch_words : ℕ → Words
switch_words n = codes "switch" ∷ decimal n ∷ []

-- The names of the switches at these positions.
abbrev pub path_words : List ℕ → List ℕ → Words
path_words switches path = map (λ at. decimal (slice_index switches at)) path

-- The words of the line of a flow, which names its host and its switches.
abbrev pub flow_words : List HostLine → List ℕ → Flow → Words
flow_words hosts switches f =
    codes "flow" ∷ decimal f.name ∷ key_parts f.key
    (codes "host" ∷ decimal (slice_index (host_names hosts) f.host_at) ∷ codes "path" ∷ path_words switches f.path)

-- The byte of a letter.
abbrev pub byte_of : Letter → ℕ
byte_of letters.Deliver = 100
byte_of letters.Lose = 120
byte_of letters.LoseReply = 97
byte_of letters.Twice = 114
byte_of letters.Hold = 104

-- The words of the line of a host's letters.
abbrev pub link_words : HostLine → Words
link_words h = codes "link" ∷ decimal h.name ∷ map byte_of h.letters ∷ []

-- The words of the line of a step.
abbrev pub step_words : List Flow → List ℕ → Step → Words
step_words flows switches (steps.Packet at size delays burst fate) =
    codes "packet" ∷ decimal (slice_index (names_of flows) at) ∷ decimal size ∷ (map decimal delays ++ (burst_words burst ++ fate_words fate))
step_words flows switches (steps.End at) = codes "end" ∷ decimal (slice_index switches at) ∷ []
step_words flows switches steps.EndAll = codes "end" ∷ codes "all" ∷ []
step_words flows switches steps.Release = codes "release" ∷ []

-- The words of the line of an ask.
abbrev pub ask_words : List Flow → Ask → Words
ask_words flows q = codes "ask" ∷ decimal (slice_index (names_of flows) q.flow_at) ∷ decimal q.switch ∷ decimal q.epoch ∷ []

-- The words of the last line.
abbrev pub done_words : Words
done_words = codes "done" ∷ []
