use Rattle.std.proofs.Common.{sym, ap, ◌∙◌, Result, Err}
use Rattle.book_journal.specs.declared.applied.Applied.{Applied}
use Rattle.book_journal.specs.declared.applied.ApplyFault.{ApplyFault}
use Rattle.lock_rule.specs.declared.view.Doing.TheVariants.{Has}
use Rattle.shared_book.proofs.Turning.{breaks, was_broken}
use Rattle.shared_book.proofs.turns.tell.Goals as goal

pub mark_pass-requires-clause-broken : goal.mark_pass-requires-clause-broken
mark_pass-requires-clause-broken g c =
    let k = c.requires.turn in
    let is = c.in-Err.is ∙ ap (λ (f : ApplyFault). let x : Result Applied ApplyFault = Err f in x) c.in-DiskFault.is in
    let b = breaks c.args.seat.now.me.0.number c.args.upload.now k.1 c.args.journal c.args.answer.now is k.3 in
    (k.0, k.1.fault, b.entry, k.2 ∙ (λ i. Has k.0 (sym b.entries i) k.1.fault), b.fault, b.before)

pub mark_pass-requires-in-Broken-clause-broken : goal.mark_pass-requires-in-Broken-clause-broken
mark_pass-requires-in-Broken-clause-broken g c =
    let k = c.requires.turn in
    let is = c.in-Err.is ∙ ap (λ (f : ApplyFault). let x : Result Applied ApplyFault = Err f in x) c.in-Broken.is in
    let b = was_broken c.args.seat.now.me.0.number _ c.args.upload.now k.1 c.args.journal c.args.answer.now is k.3 in
    (k.0, k.1.fault, b.entry, k.2 ∙ (λ i. Has k.0 (sym b.entries i) k.1.fault), b.fault, b.before)
