-- How many bytes the lines of the parts so far take when they are printed.
use Rattle.std.specs.Prelude.{ℕ, ◌+◌, ◌==◌, List, length, sum_by, Option, Some, None, if◌then◌else◌}
use Rattle.lg_model.specs.declared.scenario.HostLine.{HostLine}
use Rattle.lg_model.specs.declared.scenario.Flow.{Flow}
use Rattle.lg_model.specs.declared.scenario.Step.{Step}
use Rattle.lg_model.specs.declared.scenario.Ask.{Ask}
use Rattle.lg_model.specs.declared.scenario.Pick.{Pick}
use Rattle.lg_model.specs.Placing.{Shape}
use Rattle.scenario_lines.specs.declared.section.Section.{Section}
use Rattle.scenario_lines.specs.declared.section.Section.TheVariants as sections
use Rattle.scenario_lines.specs.declared.section.Section.TheVariants.{Declarations, Steps, Done}
use Rattle.scenario_lines.specs.declared.section.Keyword.{Keyword}
use Rattle.scenario_lines.specs.declared.section.Keyword.TheVariants as words
use Rattle.scenario_lines.specs.Spelling.{size, guardian_words, shape_line_words, pick_line_words, host_words, switch_words, flow_words, link_words}
use Rattle.scenario_lines.specs.Spelling.{step_words, ask_words, done_words}
use Rattle.scenario_lines.specs.Draft.{State}

-- The bytes of the first three lines, as far as they have come, and of the last line.
abbrev pub frame_size : Section → Shape → Pick → ℕ
frame_size sections.Version shape pick = 0
frame_size sections.Shape shape pick = size guardian_words
frame_size sections.Pick shape pick = size guardian_words + size (shape_line_words shape)
frame_size Declarations shape pick = (size guardian_words + size (shape_line_words shape)) + size (pick_line_words pick)
frame_size Steps shape pick = (size guardian_words + size (shape_line_words shape)) + size (pick_line_words pick)
frame_size Done shape pick = ((size guardian_words + size (shape_line_words shape)) + size (pick_line_words pick)) + size done_words

-- The bytes of the line of a host's letters; none where it has no letters.
abbrev pub link_size : HostLine → ℕ
link_size h = if length h.letters == 0 then 0 else size (link_words h)

-- The bytes of the declarations.
abbrev pub declared_size : List HostLine → List ℕ → List Flow → ℕ
declared_size hosts switches flows =
    sum_by (λ h. size (host_words h)) hosts +
    (sum_by (λ n. size (switch_words n)) switches + (sum_by (λ f. size (flow_words hosts switches f)) flows + sum_by link_size hosts))

-- The bytes of the steps and the asks.
abbrev pub happening_size : List ℕ → List Flow → List Step → List Ask → ℕ
happening_size switches flows steps asks = sum_by (λ t. size (step_words flows switches t)) steps + sum_by (λ q. size (ask_words flows q)) asks

-- The bytes of all lines that the parts so far print, each with its 0A.
unfoldable pub printed_len : State → ℕ
printed_len s =
    frame_size s.section s.parts.shape s.parts.pick
    + (declared_size s.parts.hosts s.parts.switches s.parts.flows + happening_size s.parts.switches s.parts.flows s.parts.steps s.parts.asks)

-- The bytes of a first word and the space after it.
abbrev pub keyword_size : Keyword → ℕ
keyword_size words.Guardian = 9
keyword_size words.Shape = 6
keyword_size words.Pick = 5
keyword_size words.Host = 5
keyword_size words.Switch = 7
keyword_size words.Flow = 5
keyword_size words.Link = 5
keyword_size words.Packet = 7
keyword_size words.End = 4
keyword_size words.Release = 8
keyword_size words.Ask = 4
keyword_size words.Done = 5

-- The same where a first word may be none of these, which takes no line.
abbrev pub first_size : Option Keyword → ℕ
first_size None = 0
first_size (Some k) = keyword_size k
