use Rattle.std.proofs.Common.{refl, sym, ◌∙◌}
use Rattle.scenario_parts.proofs.ApartLemmas.{apart_more, apart_not, apart_done}
use Rattle.scenario_parts.proofs.apart.are_apart.Goals as goal

pub returns-then-contains : goal.returns-then-contains
returns-then-contains c = apart_not c.args.names.now c.loop-i.i _ c.loop-i-test.true refl (sym c.contains.ensures.value ∙ c.if-contains.true)

pub loop-i-preserved : goal.loop-i-preserved
loop-i-preserved c = apart_more c.args.names.now c.loop-i.i _ c.loop-i-test.true refl c.loop-i.invariant (sym c.contains.ensures.value ∙ c.if-contains.false)

pub returns : goal.returns
returns c = apart_done c.args.names.now c.loop-i.i c.loop-i-test.false c.loop-i.invariant
