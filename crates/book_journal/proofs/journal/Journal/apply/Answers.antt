use Rattle.std.proofs.Common.{◌∙◌, refl, sym, ap, arith}
use Rattle.column_book.specs.Entries.{BookState}
use Rattle.book_journal.specs.Kept.{state_of}
use Rattle.book_journal.proofs.ApplyLemmas.{does_know, does_want, puts_of, in_range, fails, stores, sound_next}
use Rattle.book_journal.proofs.journal.Journal.apply.Goals as goal

pub returns-then-mask-eq0-clause-applies : goal.returns-then-mask-eq0-clause-applies
returns-then-mask-eq0-clause-applies g c =
    let s = c.self.inside in
    does_know g.D.Disk.honest g.D.Disk.seen g.D.Disk.images g.D.Disk.moment g.D.Disk.since c.args.pass c.args.upload.now s.disk s.book
    s.fault s.end
    c.args.self.now c.self.invariant c.self.view_is
    c.in_ok-mask.mask (sym c.is_some.ensures ∙ c.if-is_some.false) c.in_ok-mask.ensures g.met.D.Disk.only_now c.if-mask-eq0.true

pub returns-in_err-bytes-clause-applies : goal.returns-in_err-bytes-clause-applies
returns-in_err-bytes-clause-applies g c =
    let s = c.self.inside in
    does_want g.D.Disk.honest g.D.Disk.seen g.D.Disk.images g.D.Disk.moment g.D.Disk.since c.args.pass c.args.upload.now s.disk s.book
    s.fault s.end
    c.args.self.now c.self.invariant c.self.view_is
    c.in_ok-mask.mask (sym c.is_some.ensures ∙ c.if-is_some.false) c.in_ok-mask.ensures c.if-mask-eq0.false g.met.D.Disk.only_now
    c.args.self.now refl
    c.from_residual-in_err-bytes.result c.from_residual-in_err-bytes.ensures.1

pub returns-in_err-reserve-clause-applies : goal.returns-in_err-reserve-clause-applies
returns-in_err-reserve-clause-applies g c =
    let s = c.self.inside in
    does_want g.D.Disk.honest g.D.Disk.seen g.D.Disk.images g.D.Disk.moment g.D.Disk.since c.args.pass c.args.upload.now s.disk s.book
    s.fault s.end
    c.args.self.now c.self.invariant c.self.view_is
    c.in_ok-mask.mask (sym c.is_some.ensures ∙ c.if-is_some.false) c.in_ok-mask.ensures c.if-mask-eq0.false g.met.D.Disk.only_now _
    (ap (λ (x : BookState). state_of s.disk x s.fault) c.reserve.ensures.others ∙ c.self.view_is) c.from_residual-in_err-reserve.result
    c.from_residual-in_err-reserve.ensures.1

pub append-requires : goal.append-requires
append-requires g c =
    let s = c.self.inside in
    let put = c.deref.result.now in
    let puts = c.deref.ensures.value
    ∙ puts_of g.D.Disk.honest g.D.Disk.seen g.D.Disk.images g.D.Disk.moment g.D.Disk.since c.args.pass c.args.upload.now
    s.disk s.book s.fault s.end c.args.self.now c.self.invariant c.self.view_is
    c.in_ok-mask.mask (sym c.is_some.ensures ∙ c.if-is_some.false) c.in_ok-mask.ensures c.if-mask-eq0.false c.in_ok-bytes.bytes.items
    c.in_ok-bytes.ensures.bytes in
    in_range g.D.Disk.honest g.D.Disk.seen g.D.Disk.images g.D.Disk.moment g.D.Disk.since c.args.pass c.args.upload.now s.disk s.book
    s.fault s.end
    c.args.self.now c.self.invariant c.self.view_is
    c.in_ok-mask.mask (sym c.is_some.ensures ∙ c.if-is_some.false)
    c.in_ok-mask.ensures c.if-mask-eq0.false c.in_ok-bytes.ensures.full put puts

pub overflow_add-self : goal.overflow_add-self
overflow_add-self g c =
    let s = c.self.inside in
    let put = c.deref.result.now in
    let puts = c.deref.ensures.value
    ∙ puts_of g.D.Disk.honest g.D.Disk.seen g.D.Disk.images g.D.Disk.moment g.D.Disk.since c.args.pass c.args.upload.now
    s.disk s.book s.fault s.end c.args.self.now c.self.invariant c.self.view_is
    c.in_ok-mask.mask (sym c.is_some.ensures ∙ c.if-is_some.false) c.in_ok-mask.ensures c.if-mask-eq0.false c.in_ok-bytes.bytes.items
    c.in_ok-bytes.ensures.bytes in
    let range = in_range g.D.Disk.honest g.D.Disk.seen g.D.Disk.images g.D.Disk.moment g.D.Disk.since c.args.pass c.args.upload.now s.disk
    s.book s.fault
    s.end c.args.self.now c.self.invariant c.self.view_is
    c.in_ok-mask.mask (sym c.is_some.ensures ∙ c.if-is_some.false) c.in_ok-mask.ensures c.if-mask-eq0.false c.in_ok-bytes.ensures.full
    put puts in
    omega (arith, range, c.len.ensures, c.deref.ensures.len)

pub returns-in_err-append-clause-applies : goal.returns-in_err-append-clause-applies
returns-in_err-append-clause-applies g c =
    let s = c.self.inside in
    let put = c.deref.result.now in
    let puts = c.deref.ensures.value
    ∙ puts_of g.D.Disk.honest g.D.Disk.seen g.D.Disk.images g.D.Disk.moment g.D.Disk.since c.args.pass c.args.upload.now
    s.disk s.book s.fault s.end c.args.self.now c.self.invariant c.self.view_is
    c.in_ok-mask.mask (sym c.is_some.ensures ∙ c.if-is_some.false) c.in_ok-mask.ensures c.if-mask-eq0.false c.in_ok-bytes.bytes.items
    c.in_ok-bytes.ensures.bytes in
    fails g.D.Disk.honest g.D.Disk.seen g.D.Disk.images g.D.Disk.moment g.D.Disk.since c.args.pass c.args.upload.now s.disk s.book
    s.fault s.end
    c.args.self.now c.self.invariant c.self.view_is
    c.in_ok-mask.mask (sym c.is_some.ensures ∙ c.if-is_some.false)
    c.in_ok-mask.ensures c.if-mask-eq0.false c.in_ok-bytes.ensures.full put puts
    g.met.D.Disk.counts_now c.append.new.disk c.append.ensures.crash c.append.ensures.still c.append.ensures.was c.reserve.new.self
    c.reserve.ensures.others
    (record { pass = c.args.pass; upload = c.of.result }) refl c.of.ensures _ refl c.from_residual-in_err-append.result
    c.from_residual-in_err-append.ensures.1

pub invariant_of-self-2 : goal.invariant_of-self-2
invariant_of-self-2 g c =
    let s = c.self.inside in
    let put = c.deref.result.now in
    let puts = c.deref.ensures.value
    ∙ puts_of g.D.Disk.honest g.D.Disk.seen g.D.Disk.images g.D.Disk.moment g.D.Disk.since c.args.pass c.args.upload.now
    s.disk s.book s.fault s.end c.args.self.now c.self.invariant c.self.view_is
    c.in_ok-mask.mask (sym c.is_some.ensures ∙ c.if-is_some.false) c.in_ok-mask.ensures c.if-mask-eq0.false c.in_ok-bytes.bytes.items
    c.in_ok-bytes.ensures.bytes in
    sound_next g.D.Disk.honest g.D.Disk.seen g.D.Disk.images g.D.Disk.moment g.D.Disk.since c.args.pass c.args.upload.now s.disk s.book
    s.fault s.end
    c.args.self.now c.self.invariant c.self.view_is
    c.in_ok-mask.mask (sym c.is_some.ensures ∙ c.if-is_some.false)
    c.in_ok-mask.ensures c.if-mask-eq0.false c.in_ok-bytes.ensures.full put puts
    g.met.D.Disk.counts_now c.append.new.disk c.append.ensures.crash c.append.ensures.still c.append.ensures.was c.reserve.new.self
    c.reserve.ensures.others
    c.in_ok-append.ensures.synced c.in_ok-append.ensures.written c.add-position.new.self c.add-position.ensures.added
    c.len.result (c.len.ensures ∙ sym c.deref.ensures.len)

pub returns-clause-applies : goal.returns-clause-applies
returns-clause-applies g c =
    let s = c.self.inside in
    let put = c.deref.result.now in
    let puts = c.deref.ensures.value
    ∙ puts_of g.D.Disk.honest g.D.Disk.seen g.D.Disk.images g.D.Disk.moment g.D.Disk.since c.args.pass c.args.upload.now
    s.disk s.book s.fault s.end c.args.self.now c.self.invariant c.self.view_is
    c.in_ok-mask.mask (sym c.is_some.ensures ∙ c.if-is_some.false) c.in_ok-mask.ensures c.if-mask-eq0.false c.in_ok-bytes.bytes.items
    c.in_ok-bytes.ensures.bytes in
    stores g.D.Disk.honest g.D.Disk.seen g.D.Disk.images g.D.Disk.moment g.D.Disk.since c.args.pass c.args.upload.now s.disk s.book
    s.fault s.end
    c.args.self.now c.self.invariant c.self.view_is
    c.in_ok-mask.mask (sym c.is_some.ensures ∙ c.if-is_some.false)
    c.in_ok-mask.ensures c.if-mask-eq0.false c.in_ok-bytes.ensures.full put puts
    g.met.D.Disk.counts_now c.append.new.disk c.append.ensures.crash c.append.ensures.still c.append.ensures.was c.reserve.new.self
    c.reserve.ensures.others
    c.in_ok-append.ensures.synced c.in_ok-append.ensures.written c.add-position.new.self c.add-position.ensures.added
    _ refl c.add-position.result c.add-position.ensures.at
