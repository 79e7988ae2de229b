use Rattle.std.proofs.Common.{◌∙◌, arith}
use Rattle.sketchlet_wire.proofs.Columns.{is_found, is_read, is_whole, is_inside}
use Rattle.sketchlet_wire.proofs.reading.decode.Goals as goal

pub returns-clause-found : goal.returns-clause-found
returns-clause-found c = is_found c.args.bytes.now c.read.result (λ i. omega (arith, c.type_inv.bytes i)) c.read.ensures

pub returns-clause-only : goal.returns-clause-only
returns-clause-only c = λ column rest is e. c.read.ensures ∙ is_read c.args.bytes.now column rest is e

pub returns-clause-whole : goal.returns-clause-whole
returns-clause-whole c = λ column is e. c.read.ensures ∙ is_whole c.args.bytes.now column is e

pub returns-clause-inside : goal.returns-clause-inside
returns-clause-inside c = is_inside c.args.bytes.now c.read.result
    (is_found c.args.bytes.now c.read.result (λ i. omega (arith, c.type_inv.bytes i)) c.read.ensures)
