use Rattle.std.proofs.Common.{◌+◌, ◌≤◌, length, inl, inr, arith}
use Rattle.lg_disk.specs.Disk.{Torn}
use Rattle.book_journal.specs.Crashes.{Appending}
use Rattle.book_journal.proofs.CrashLemmas.{after, widen, on_ok}
use Rattle.book_journal.proofs.AppendLemmas.{early, late, opened, long}
use Rattle.book_journal.proofs.synced.append.Goals as goal

pub returns-in_err-write_synced-clause-crash : goal.returns-in_err-write_synced-clause-crash
returns-in_err-write_synced-clause-crash g c synced inside =
    let file = g.D.Disk.seen c.args.disk.now in
    widen g.D.Disk.moment g.D.Disk.since (Torn (c.args.gate + 1) (length c.args.bytes.now) file)
    (Appending file c.args.gate c.args.bytes.now) c.args.disk.now c.write_synced.new.disk (c.write_synced.ensures.crash synced)
    (λ f torn. inl (early file c.args.gate c.args.bytes.now inside (length c.args.bytes.now) f torn, torn.no_longer))

pub returns-clause-crash : goal.returns-clause-crash
returns-clause-crash g c synced inside =
    let file = g.D.Disk.seen c.args.disk.now in
    let reach : c.args.gate + 1 ≤ length (g.D.Disk.seen c.args.disk.now) = omega (arith, inside) in
    let holds = c.in_ok-write_synced.ensures.written synced reach in
    let half = g.D.Disk.seen c.write_synced.new.disk in
    after g.D.Disk.moment g.D.Disk.since (Torn (c.args.gate + 1) (length c.args.bytes.now) file) (Torn c.args.gate 1 half)
    (Appending file c.args.gate c.args.bytes.now) c.args.disk.now c.write_synced.new.disk c.write_synced-2.new.disk
    (c.write_synced.ensures.crash synced) (c.write_synced-2.ensures.crash (c.in_ok-write_synced.ensures.synced synced))
    (λ f torn. inl (early file c.args.gate c.args.bytes.now inside (length c.args.bytes.now) f torn, torn.no_longer))
    (λ f torn. inr (late file c.args.gate c.args.bytes.now inside half f holds torn))

pub returns-clause-synced : goal.returns-clause-synced
returns-clause-synced g c synced = c.write_synced-2.ensures.synced (c.in_ok-write_synced.ensures.synced synced)

pub returns-clause-written : goal.returns-clause-written
returns-clause-written g c synced inside =
    let file = g.D.Disk.seen c.args.disk.now in
    let reach : c.args.gate + 1 ≤ length (g.D.Disk.seen c.args.disk.now) = omega (arith, inside) in
    let holds = c.in_ok-write_synced.ensures.written synced reach in
    on_ok c.write_synced-2.result (λ second. opened file c.args.gate c.args.bytes.now inside (g.D.Disk.seen c.write_synced.new.disk)
    (g.D.Disk.seen c.write_synced-2.new.disk) holds second)
    (c.write_synced-2.ensures.written (c.in_ok-write_synced.ensures.synced synced) (long file c.args.gate c.args.bytes.now
    (g.D.Disk.seen c.write_synced.new.disk) inside holds))
