use Rattle.scenario_text.proofs.PrintedTextIsRead.{printed}
use Rattle.scenario_text.proofs.laws.printed_is_read.Goals as goal

pub returns : goal.returns
returns c = printed
