use Rattle.flow_query.proofs.Folding.{told_of_least}
use Rattle.flow_query.proofs.least.Known.answer.Goals as goal

pub returns-in-Some : goal.returns-in-Some
returns-in-Some c bs is = let told = told_of_least bs c.args.self.now c.in-Some.least is c.in-Some.is in cc (told, c.value.ensures, c.value-in-Some.ensures, c.from.ensures, c.from-in-Some.ensures)
