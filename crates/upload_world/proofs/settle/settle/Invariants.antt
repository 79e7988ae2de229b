use Rattle.upload_world.specs.Pumping.{IsSteady, IsSame}
use Rattle.upload_world.proofs.Turns.{Between}
use Rattle.upload_world.proofs.settle.settle.Given as goal

abbrev pub invariant-answers : goal.invariant-answers
invariant-answers g l = record {
  same : IsSame l.fn.uploader l.uploader;
  steady : IsSteady l.uploader;
  between : Between l.book.first.shape l.book.first.room l.fn.uploader.uploads l.fn.uploader.host l.fn.due l.answer-items
      l.fn.pass.view l.pass.view l.fn.uploader.states l.at l.uploader.states;
}
