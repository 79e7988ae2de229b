use Rattle.analyser_session.proofs.OneCourse.{law}
use Rattle.analyser_session.proofs.laws.inputs_come_to_one_end.Goals as goal

pub returns : goal.returns
returns c = law
