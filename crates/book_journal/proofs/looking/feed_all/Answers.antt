use Rattle.std.proofs.Common.{◌≡◌, ◌+◌, ◌≤◌, ◌∙◌, ℕ, length, take, drop, sym, ap, arith}
use Rattle.std.proofs.lemmas.List.{length-take}
use Rattle.book_journal.proofs.ReadLemmas.{then_read}
use Rattle.book_journal.proofs.PieceLemmas.{is_fed_then}
use Rattle.book_journal.proofs.looking.feed_all.Goals as goal

pub loop-at-preserved : goal.loop-at-preserved
loop-at-preserved g c =
    let i = c.loop-at.invariant in
    let f = c.feed.ensures.fed in
    let n = c.min-count.result in
    let full : length (take n c.loop-at.buf) ≡ n =
    omega (arith, length-take n c.loop-at.buf, c.min-count.array_long, c.min-count.ensures) in
    let size : length c.read_piece.new.buf ≡ n = omega (arith, c.read_piece.auto.buf, full) in
    let within : c.loop-at.at + n ≤ c.args.len = omega (arith, c.min-count.ensures, c.loop-at-test.true) in
    let old = g.D.Disk.seen c.args.disk.now in
    record {
      start = i.start;
      place = omega (arith, f.fed, size, i.place);
      small = within;
      whole = f.len ∙ i.whole;
      size = i.size;
      reads = then_read g.D.Disk.honest g.D.Disk.seen g.D.Disk.images g.D.Disk.moment g.D.Disk.since g.met.D.Disk.counts_now c.args.disk.now
          c.loop-at.disk
          c.read_piece.new.disk i.reads c.read_piece.ensures.reads;
      fed = is_fed_then (g.D.Disk.honest c.args.disk.now) old c.args.walk.now c.loop-at.walk c.feed.new.self c.loop-at.at
          c.read_piece.new.buf i.start
          i.place i.fed f
          (λ h.
          let same : g.D.Disk.seen c.loop-at.disk ≡ old = i.reads.same h in
          let read = c.in_ok-read_piece.ensures.bytes (i.reads.still h) (omega (arith, full, within, i.size h, ap length same)) in
          read ∙ (λ j. take (full j) (drop c.loop-at.at (same j))) ∙ ap (λ (k : ℕ). take k (drop c.loop-at.at old)) (sym size));
      faults = omega (arith, i.faults, c.read_piece.ensures.cause.later);
    }
