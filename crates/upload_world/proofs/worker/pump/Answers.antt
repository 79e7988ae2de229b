use Rattle.link_deliveries.specs.Deliveries.{brought_in_all}
use Rattle.link_deliveries.proofs.Acked.{each_heard}
use Rattle.upload_world.proofs.Promised.{told}
use Rattle.upload_world.proofs.worker.pump.Goals as goal

pub returns-clause-pumps : goal.returns-clause-pumps
returns-clause-pumps g c =
    let a = c.args in
    let e = c.all_rounds.ensures in
    told a.book.now.first.shape a.book.now.first.room a.uploader.now.uploads c.all_rounds.result
    (brought_in_all a.uploader.now.states a.letters.now) a.letters.now a.pass.now.view c.all_rounds.new.pass.view a.uploader.now.states
    c.all_rounds.new.uploader.states
    c.len-count.ensures.uploader.paired (each_heard a.uploader.now.states a.letters.now) e.done e.outcome
