use Rattle.std.proofs.Common.{◌≡◌, ◌+◌, ◌≤◌}
use Rattle.analyser_session.proofs.Serving.{Going}
use Rattle.analyser_session.proofs.session.answer_frames.Given as goal

abbrev pub invariant-loop-nth : goal.invariant-loop-nth
invariant-loop-nth g l = record {
  same : l.pass.book ≡ l.fn.pass.book;
  going : Going l.fn.book.first.shape l.fn.book.first.room l.fn.pass.view l.pass.view (g.S.Source.left l.fn.source) (g.S.Source.left l.source)
      (g.K.Sink.written l.fn.sink) (g.K.Sink.written l.sink) l.reader l.taken l.nth;
  begun : l.pass.view.begun ≤ l.fn.pass.view.begun + l.nth;
  read_faults : g.S.Source.faults l.fn.source ≤ g.S.Source.faults l.source;
  write_faults : g.K.Sink.faults l.fn.sink ≤ g.K.Sink.faults l.sink;
}
