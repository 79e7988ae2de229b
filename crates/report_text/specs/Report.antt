-- The lines of a report.
use Rattle.std.specs.Prelude.{ℕ, List, ◌++◌, length, codes}
use Rattle.std.specs.List.{flat_map}
use Rattle.std.specs.Fmt.{decimal}
use Rattle.lg_model.specs.declared.scenario.Ask.{Ask}
use Rattle.lg_model.specs.Scenario.{Scenario, flow_at}
use Rattle.lg_model.specs.declared.answer.Answer.{Answer}
use Rattle.lg_model.specs.Answer.{Content, answered}
use Rattle.lg_model.specs.declared.answer.Value.{Value}
use Rattle.lg_model.specs.declared.answer.Value.TheVariants.{Unknown, AtMost, Saturated}
use Rattle.text_out.specs.Words.{line}

-- `unknown`, a number, or `saturated`
abbrev pub value_text : Value → List ℕ
value_text Unknown = codes "unknown"
value_text (AtMost n) = decimal n
value_text Saturated = codes "saturated"

-- `flow F switch S epoch E rows K of R bytes B delay D`
unfoldable pub answer_line : (flow switch epoch rows : ℕ) → Answer → List ℕ
answer_line flow switch epoch rows a = line (codes "flow " ++ decimal flow ++ codes " switch " ++ decimal switch ++ codes " epoch " ++ decimal epoch
    ++ codes " rows " ++ decimal a.rows_known ++ codes " of " ++ decimal rows ++ codes " bytes " ++ value_text a.bytes ++ codes " delay " ++ value_text a.delay)

-- The line of the answer of a content to an ask.
abbrev pub asked_line : Content → Scenario → Ask → List ℕ
asked_line content w ask = answer_line (flow_at w.flows ask.flow_at).name ask.switch ask.epoch w.shape.rows (answered content w ask)

-- `columns N`
unfoldable pub columns_line : ℕ → List ℕ
columns_line n = line (codes "columns " ++ decimal n)

-- The report of a content: a line for each ask in order, and how many columns there are.
abbrev pub report : Content → Scenario → List ℕ
report content w = flat_map (asked_line content w) w.asks ++ columns_line (length content)
