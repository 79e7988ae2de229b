-- The text of a scenario.
use Rattle.std.specs.Prelude.{ℕ, List, [], ◌++◌, length, ◌==◌, if◌then◌else◌}
use Rattle.std.specs.List.{flat_map}
use Rattle.lg_model.specs.declared.scenario.HostLine.{HostLine}
use Rattle.lg_model.specs.Scenario.{Scenario}
use Rattle.text_out.specs.Words.{Words}
use Rattle.scenario_lines.specs.Spelling.{line_text, guardian_words, shape_line_words, pick_line_words, host_words, switch_words, flow_words, link_words}
use Rattle.scenario_lines.specs.Spelling.{step_words, ask_words, done_words}

-- The text of the lines of some parts, in their order, with these words for each.
abbrev pub lines_text : {X : Type 0} → (X → Words) → List X → List ℕ
lines_text words xs = flat_map (λ x. line_text (words x)) xs

-- The line of a host's letters; none where it has no letters.
abbrev pub link_text : HostLine → List ℕ
link_text h = if length h.letters == 0 then [] else line_text (link_words h)

-- The first three lines.
abbrev pub first_text : Scenario → List ℕ
first_text w = line_text guardian_words ++ (line_text (shape_line_words w.shape) ++ line_text (pick_line_words w.pick))

-- The declarations: the hosts, the switches, the flows, and the links of hosts that have letters.
abbrev pub declared_text : Scenario → List ℕ
declared_text w = lines_text host_words w.hosts ++
    (lines_text switch_words w.switches ++ (lines_text (flow_words w.hosts w.switches) w.flows ++ flat_map link_text w.hosts))

-- The steps, the asks and the last line.
abbrev pub happening_text : Scenario → List ℕ
happening_text w = lines_text (step_words w.flows w.switches) w.steps ++ (lines_text (ask_words w.flows) w.asks ++ line_text done_words)

-- The text of a scenario: the first three lines, the declarations, the steps and the asks, each in the order of the
-- scenario, and `done`; every line ends with 0A.
abbrev pub text_of : Scenario → List ℕ
text_of w = first_text w ++ (declared_text w ++ happening_text w)
