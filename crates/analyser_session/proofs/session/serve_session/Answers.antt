use Rattle.analyser_session.proofs.Whole.{whole}
use Rattle.analyser_session.proofs.session.serve_session.Goals as goal

pub returns-clause-complete : goal.returns-clause-complete
returns-clause-complete g c read write =
    let s = c.answer_frames in
    whole (g.S.Source.left c.args.source.now) s.result s.ensures.session.frames _ _ _ _ s.ensures.session.hears.told s.ensures.read_fault
    s.ensures.write_fault read write
