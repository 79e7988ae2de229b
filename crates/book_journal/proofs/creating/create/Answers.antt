use Rattle.std.proofs.Common.{◌<◌, [], length, take, drop, inl, refl, ap, arith}
use Rattle.lg_disk.specs.Disk.{Shorter, Torn}
use Rattle.book_file.specs.File.{StandsFor}
use Rattle.book_journal.specs.Crashes.{Appending}
use Rattle.book_journal.proofs.BlankLemmas.{blank_cut, blank_zero, zero_written, after_gate, blank_or_empty, empty_written}
use Rattle.book_journal.proofs.CrashLemmas.{after, widen, on_ok}
use Rattle.book_journal.proofs.creating.create.Goals as goal

pub returns-in_err-cut_synced-clause-crash : goal.returns-in_err-cut_synced-clause-crash
returns-in_err-cut_synced-clause-crash g c synced blank =
    widen g.D.Disk.moment g.D.Disk.since (Shorter 0 (g.D.Disk.seen c.args.disk.now))
    (StandsFor c.args.shape.now []) c.args.disk.now c.cut_synced.new.disk
    (c.cut_synced.ensures.crash synced)
    (λ f s. inl (blank_cut (g.D.Disk.seen c.args.disk.now) f blank s, refl))

pub returns-in_err-write_synced-clause-crash : goal.returns-in_err-write_synced-clause-crash
returns-in_err-write_synced-clause-crash g c synced blank =
    after g.D.Disk.moment g.D.Disk.since (Shorter 0 (g.D.Disk.seen c.args.disk.now)) (Torn 0 1 (g.D.Disk.seen c.cut_synced.new.disk))
    (StandsFor c.args.shape.now []) c.args.disk.now c.cut_synced.new.disk c.write_synced.new.disk
    (c.cut_synced.ensures.crash synced) (c.write_synced.ensures.crash (c.in_ok-cut_synced.ensures.synced synced))
    (λ f s. inl (blank_cut (g.D.Disk.seen c.args.disk.now) f blank s, refl))
    (λ f s. inl (blank_zero (g.D.Disk.seen c.cut_synced.new.disk) f (c.in_ok-cut_synced.ensures.cut synced) s, refl))

pub returns-clause-crash : goal.returns-clause-crash
returns-clause-crash g c synced blank =
    let second = c.in_ok-cut_synced.ensures.synced synced in
    let third = c.in_ok-write_synced.ensures.synced second in
    let gone = c.in_ok-cut_synced.ensures.cut synced in
    let gate = zero_written (g.D.Disk.seen c.cut_synced.new.disk) (g.D.Disk.seen c.write_synced.new.disk) gone
    (c.in_ok-write_synced.ensures.written second (omega arith)) in
    let inside : 0 < length (g.D.Disk.seen c.write_synced.new.disk) = omega (arith, ap length gate) in
    let cleared = after g.D.Disk.moment g.D.Disk.since (Shorter 0 (g.D.Disk.seen c.args.disk.now))
    (Torn 0 1 (g.D.Disk.seen c.cut_synced.new.disk))
    (StandsFor c.args.shape.now []) c.args.disk.now c.cut_synced.new.disk c.write_synced.new.disk
    (c.cut_synced.ensures.crash synced) (c.write_synced.ensures.crash second)
    (λ f s. inl (blank_cut (g.D.Disk.seen c.args.disk.now) f blank s, refl))
    (λ f s. inl (blank_zero (g.D.Disk.seen c.cut_synced.new.disk) f gone s, refl)) in
    after g.D.Disk.moment g.D.Disk.since (StandsFor c.args.shape.now []) (Appending (g.D.Disk.seen c.write_synced.new.disk) 0 (take 17
    (drop 1 c.empty_file-file.result))) (StandsFor c.args.shape.now []) c.args.disk.now c.write_synced.new.disk c.append.new.disk
    cleared (c.append.ensures.crash third inside)
    (λ f s. s)
    (λ f s. blank_or_empty c.args.shape.now c.empty_file-file.ensures.fits (take 17 (drop 1 c.empty_file-file.result))
    (after_gate c.args.shape.now c.empty_file-file.result c.empty_file-file.ensures.bytes) (g.D.Disk.seen c.write_synced.new.disk) f gate s)

pub returns-clause-synced : goal.returns-clause-synced
returns-clause-synced g c synced = c.append.ensures.synced (c.in_ok-write_synced.ensures.synced (c.in_ok-cut_synced.ensures.synced synced))

pub returns-clause-written : goal.returns-clause-written
returns-clause-written g c synced =
    let second = c.in_ok-cut_synced.ensures.synced synced in
    let third = c.in_ok-write_synced.ensures.synced second in
    let gone = c.in_ok-cut_synced.ensures.cut synced in
    let gate = zero_written (g.D.Disk.seen c.cut_synced.new.disk) (g.D.Disk.seen c.write_synced.new.disk) gone
    (c.in_ok-write_synced.ensures.written second (omega arith)) in
    let inside : 0 < length (g.D.Disk.seen c.write_synced.new.disk) = omega (arith, ap length gate) in
    on_ok c.append.result (λ made. empty_written c.args.shape.now c.empty_file-file.ensures.fits (take 17 (drop 1 c.empty_file-file.result))
    (after_gate c.args.shape.now c.empty_file-file.result c.empty_file-file.ensures.bytes) (g.D.Disk.seen c.write_synced.new.disk)
    (g.D.Disk.seen c.append.new.disk) gate made) (c.append.ensures.written third inside)
