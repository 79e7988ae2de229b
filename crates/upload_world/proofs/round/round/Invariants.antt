use Rattle.std.proofs.Common.{◌≡◌, drop}
use Rattle.std.specs.Prelude.{All}
use Rattle.upload_world.specs.Pumping.{IsSteady, IsSame, IsSent, IsDue, dues}
use Rattle.upload_world.proofs.Postponed.{to_do}
use Rattle.upload_world.proofs.Rounding.{Stands}
use Rattle.upload_world.proofs.round.round.Given as goal

abbrev pub invariant-sends : goal.invariant-sends
invariant-sends g l = record {
  book : l.pass.book ≡ l.fn.pass.book;
  same : IsSame l.fn.uploader l.uploader;
  steady : IsSteady l.uploader;
  held : All (IsSent l.uploader.host l.uploader.uploads) l.held.items;
  due : IsDue l.uploader.host l.uploader.uploads l.due;
  stands : Stands l.book.first.shape l.book.first.room l.fn.uploader.uploads l.fn.uploader.states
      (drop l.from l.letters) l.fn.pass.view l.uploader.states l.held.items (dues l.due) (drop l.at l.letters) l.pass.view;
}

abbrev pub decreases-sends : goal.decreases-sends
decreases-sends g l = to_do l.uploader.states (dues l.due)
