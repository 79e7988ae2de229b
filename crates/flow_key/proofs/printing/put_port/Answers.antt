use Rattle.std.proofs.Common.{arith, lit<}
use Rattle.std.proofs.lemmas.Fmt.{length-decimal-le}
use Rattle.flow_key.proofs.printing.put_port.Goals as goal

pub put_number-requires : goal.put_number-requires
put_number-requires c = omega (arith, length-decimal-le 5 c.args.n (lit< tt) (omega arith) (omega arith))

pub returns-clause-short : goal.returns-clause-short
returns-clause-short c = length-decimal-le 5 c.args.n (lit< tt) (omega arith) (omega arith)
