use Rattle.std.proofs.Common.{◌≡◌, drop}
use Rattle.link_deliveries.specs.Deliveries.{rounds_left}
use Rattle.upload_world.specs.Pumping.{IsSteady, IsSame}
use Rattle.upload_world.proofs.Whole.{Stands}
use Rattle.upload_world.proofs.worker.all_rounds.Given as goal

abbrev pub invariant-rounds : goal.invariant-rounds
invariant-rounds g l = record {
  book : l.pass.book ≡ l.fn.pass.book;
  same : IsSame l.fn.uploader l.uploader;
  steady : IsSteady l.uploader;
  stands : Stands l.book.first.shape l.book.first.room l.fn.uploader.uploads l.fn.uploader.states l.letters l.fn.pass.view l.uploader.states
      (drop l.at l.letters) l.pass.view;
}

abbrev pub decreases-rounds : goal.decreases-rounds
decreases-rounds g l = rounds_left l.uploader.states (drop l.at l.letters)
