use Rattle.std.proofs.Common.{◌∙◌, ap, sym, arith}
use Rattle.std.proofs.lemmas.List.{take_rest}
use Rattle.sketchlet_wire.specs.declared.fault.WireFault.TheVariants.{Short}
use Rattle.sketchlet_wire.specs.ShapeFields.{shape_at}
use Rattle.book_file.proofs.Heads.{letters_there, shape_there, header_read}
use Rattle.book_file.proofs.header.shape_of.Goals as goal

pub returns-then-from_be_bytes-ne1279738417 : goal.returns-then-from_be_bytes-ne1279738417
returns-then-from_be_bytes-ne1279738417 c =
    λ shape fits is. c.if-from_be_bytes-ne1279738417.true (c.from_be_bytes.ensures ∙ letters_there shape c.args.head.now is)

pub returns-in-Ok : goal.returns-in-Ok
returns-in-Ok c =
    let head = c.args.head.now in
    header_read head _ (λ i. omega (arith, c.type_inv.head i)) c.requires.size c.requires.opens
    (sym c.from_be_bytes.ensures ∙ c.if-from_be_bytes-ne1279738417.false)
    (ap (shape_at Short Short) (sym (take_rest head 5)) ∙ c.in-Ok.ensures)

pub returns-in-Err : goal.returns-in-Err
returns-in-Err c = λ shape fits is.
    let head = c.args.head.now in
    let e = sym (shape_there shape head fits is) ∙ ap (shape_at Short Short) (sym (take_rest head 5)) ∙ c.in-Err.ensures in
    cc e
