use Rattle.std.proofs.Common.{sym, arith}
use Rattle.scenario_lines.specs.Draft.{view}
use Rattle.scenario_text.proofs.LengthLemmas.{done_weighs}
use Rattle.scenario_text.proofs.ReaderLemmas.{end_bad, end_well}
use Rattle.scenario_text.proofs.SpentLemmas.{spend_bad, spend_well}
use Rattle.scenario_text.proofs.reader.Reader.end_line.Goals as goal

pub returns-in-Err-Bad-clause-fed : goal.returns-in-Err-Bad-clause-fed
returns-in-Err-Bad-clause-fed c =
    let refused = rw c.in-Err-Bad.field-0-is at c.in-Err-Bad.ensures.leaves in
    end_bad c.args.self.now c.args.front.now c.take_line.new.self.line c.in-Err-Bad.why c.requires.reader.unbroken c.requires.unbroken
    c.in-Err-Bad.ensures.line refused

pub returns-then-is_done-clause-fed : goal.returns-then-is_done-clause-fed
returns-then-is_done-clause-fed c = λ long more.
    let e = end_well c.args.self.now c.args.front.now
    (view c.take_line.new.self.draft) c.requires.reader.unbroken c.requires.unbroken c.in-Ok.ensures.leaves long more in
    rw (← c.if-is_done.ensures) at e

pub returns-clause-fed : goal.returns-clause-fed
returns-clause-fed c = λ long more.
    let e = end_well c.args.self.now c.args.front.now
    (view c.take_line.new.self.draft) c.requires.reader.unbroken c.requires.unbroken c.in-Ok.ensures.leaves long more in
    let next = rw (← c.if-is_done.ensures) at e in
    rw (c.clear.ensures.items, c.in-Ok.ensures.line) next

pub returns-in-Err-Bad-clause-spent : goal.returns-in-Err-Bad-clause-spent
returns-in-Err-Bad-clause-spent c =
    let refused = rw c.in-Err-Bad.field-0-is at c.in-Err-Bad.ensures.leaves in
    spend_bad c.args.self.now c.args.front.now c.in-Err-Bad.why c.requires.reader.unbroken c.requires.unbroken refused

pub returns-then-is_done-clause-spent : goal.returns-then-is_done-clause-spent
returns-then-is_done-clause-spent c = λ more.
    let e = spend_well c.args.self.now c.args.front.now
    (view c.take_line.new.self.draft) c.requires.reader.unbroken c.requires.unbroken c.in-Ok.ensures.leaves more in
    let f = rw (← c.if-is_done.ensures) at e in
    omega (arith, f)

pub returns-clause-spent : goal.returns-clause-spent
returns-clause-spent c = λ more.
    let e = spend_well c.args.self.now c.args.front.now
    (view c.take_line.new.self.draft) c.requires.reader.unbroken c.requires.unbroken c.in-Ok.ensures.leaves more in
    let f = rw (← c.if-is_done.ensures) at e in
    rw c.clear.ensures.items (omega (arith, f))

pub returns-then-is_done-clause-printed_len : goal.returns-then-is_done-clause-printed_len
returns-then-is_done-clause-printed_len c = omega (arith, done_weighs (view c.take_line.new.self.draft) (sym c.if-is_done.ensures), c.in-Ok.ensures.printed_len)
