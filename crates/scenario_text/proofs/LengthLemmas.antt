-- The length of a scenario's text is what its lines weigh.
use Rattle.std.proofs.Common.{◌≡◌, length, refl, arith, true}
use Rattle.lg_model.specs.declared.scenario.Pick.{Pick}
use Rattle.lg_model.specs.Placing.{Shape}
use Rattle.scenario_lines.specs.declared.section.Section.{Section}
use Rattle.scenario_lines.specs.declared.section.Section.TheVariants as sections
use Rattle.scenario_lines.specs.declared.section.Section.TheVariants.{Declarations, Steps, Done}
use Rattle.scenario_lines.specs.Sections.{is_done}
use Rattle.scenario_lines.specs.Draft.{State, start}
use Rattle.scenario_lines.specs.PrintedLen.{frame_size, printed_len}
use Rattle.scenario_parts.specs.Printed.{text_of}
use Rattle.scenario_parts.proofs.LengthLemmas.{text_size}

frame_done : (x : Section) (shape : Shape) (pick : Pick) → is_done x ≡ true → frame_size x shape pick ≡ frame_size Done shape pick
frame_done sections.Version shape pick is = absurd cc
frame_done sections.Shape shape pick is = absurd cc
frame_done sections.Pick shape pick is = absurd cc
frame_done Declarations shape pick is = absurd cc
frame_done Steps shape pick is = absurd cc
frame_done Done shape pick is = refl

-- After `done` the text of the parts has the bytes of their lines.
pub done_weighs : (s : State) → is_done s.section ≡ true → length (text_of s.parts) ≡ printed_len s
unfolding printed_len
done_weighs s is = omega (arith, text_size s.parts, frame_done s.section s.parts.shape s.parts.pick is)

-- Before the first line there is none.
pub nothing_weighs : (s : State) → s ≡ start → printed_len s ≡ 0
unfolding printed_len
nothing_weighs s is = rw is refl
