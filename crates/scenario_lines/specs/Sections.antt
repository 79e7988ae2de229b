-- The sections of a text, and the first words of lines.
use Rattle.std.specs.Prelude.{ℕ, List, Bool, true, false, Option, Some, None, codes, if◌then◌else◌}
use Rattle.std.specs.Str.{bytes_eq}
use Rattle.scenario_lines.specs.declared.section.Section.{Section}
use Rattle.scenario_lines.specs.declared.section.Section.TheVariants as sections
use Rattle.scenario_lines.specs.declared.section.Section.TheVariants.{Declarations, Steps, Done}
use Rattle.scenario_lines.specs.declared.section.Keyword.{Keyword}
use Rattle.scenario_lines.specs.declared.section.Keyword.TheVariants as words

-- Whether the line `done` came.
abbrev pub is_done : Section → Bool
is_done Done = true
is_done _ = false

-- Whether no line came that isn't skipped.
abbrev pub is_first : Section → Bool
is_first sections.Version = true
is_first _ = false

-- Whether steps and asks may have come.
abbrev pub has_steps : Section → Bool
has_steps Steps = true
has_steps Done = true
has_steps _ = false

-- The first words of lines, but for the first line.
unfoldable pub keyword_of : List ℕ → Option Keyword
keyword_of w =
    if bytes_eq w (codes "guardian") then Some words.Guardian else (
    if bytes_eq w (codes "shape") then Some words.Shape else (
    if bytes_eq w (codes "pick") then Some words.Pick else (
    if bytes_eq w (codes "host") then Some words.Host else (
    if bytes_eq w (codes "switch") then Some words.Switch else (
    if bytes_eq w (codes "flow") then Some words.Flow else (
    if bytes_eq w (codes "link") then Some words.Link else (
    if bytes_eq w (codes "packet") then Some words.Packet else (
    if bytes_eq w (codes "end") then Some words.End else (
    if bytes_eq w (codes "release") then Some words.Release else (
    if bytes_eq w (codes "ask") then Some words.Ask else (
    if bytes_eq w (codes "done") then Some words.Done else None)))))))))))

-- Whether a line with this first word may stand in this section.
abbrev pub admits : Section → Keyword → Bool
admits sections.Shape words.Shape = true
admits sections.Pick words.Pick = true
admits Declarations words.Host = true
admits Declarations words.Switch = true
admits Declarations words.Flow = true
admits Declarations words.Link = true
admits Declarations words.Packet = true
admits Declarations words.End = true
admits Declarations words.Release = true
admits Declarations words.Ask = true
admits Declarations words.Done = true
admits Steps words.Packet = true
admits Steps words.End = true
admits Steps words.Release = true
admits Steps words.Ask = true
admits Steps words.Done = true
admits _ _ = false
