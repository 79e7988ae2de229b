use Rattle.std.proofs.Common.{true}
use Rattle.scenario_lines.specs.Draft.{view}
use Rattle.scenario_text.proofs.ReaderLemmas.{stops}
use Rattle.scenario_text.proofs.reader.Reader.stop.Goals as goal

pub returns-clause-says : goal.returns-clause-says
returns-clause-says c = stops true c.args.self.line (view c.args.self.draft) c.args.self.pending.items c.requires.unbroken
