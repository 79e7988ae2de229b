use Rattle.host_collect.proofs.Items.{only, memory}
use Rattle.host_collect.proofs.collecting.uploads.Goals as goal

pub returns-clause-only : goal.returns-clause-only
returns-clause-only c = λ cs all. only c.args.host c.args.items.now cs c.collect.result c.collect.ensures all

pub returns-clause-memory : goal.returns-clause-memory
returns-clause-memory c = λ cs all. memory c.args.host c.args.items.now cs c.collect.result c.collect.ensures all
