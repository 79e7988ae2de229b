use Rattle.std.proofs.Common.{◌≡◌, ◌≤◌, ◌-◌, length}
use Rattle.book_journal.specs.Crashes.{OnlyReads}
use Rattle.book_journal.specs.Looking.{IsFed}
use Rattle.book_journal.proofs.looking.feed_all.Given as goal

abbrev pub invariant-loop-at : goal.invariant-loop-at
invariant-loop-at g l = record {
  start : l.fn.walk.fed ≡ 0;
  place : l.walk.fed ≡ l.at;
  small : l.at ≤ l.len;
  whole : l.walk.len ≡ l.len;
  size : g.D.Disk.honest l.fn.disk → l.len ≡ length (g.D.Disk.seen l.fn.disk);
  reads : OnlyReads g.D.Disk.honest g.D.Disk.seen g.D.Disk.images g.D.Disk.moment g.D.Disk.since l.fn.disk l.disk;
  fed : IsFed (g.D.Disk.honest l.fn.disk) (g.D.Disk.seen l.fn.disk) l.fn.walk l.walk;
  faults : g.D.Disk.faults l.fn.disk ≤ g.D.Disk.faults l.disk;
}

abbrev pub decreases-loop-at : goal.decreases-loop-at
decreases-loop-at g l = l.len - l.at
