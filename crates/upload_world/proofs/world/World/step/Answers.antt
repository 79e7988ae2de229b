use Rattle.std.proofs.Common.{ℕ, Ok}
use Rattle.upload_world.specs.declared.event.Event.TheVariants.{Send, Tick, Back}
use Rattle.upload_world.proofs.Parts.{stays_by}
use Rattle.upload_world.proofs.world.World.step.Goals as goal

pub returns-in-Send-clause-stays : goal.returns-in-Send-clause-stays
returns-in-Send-clause-stays c = stays_by c.args.self.now c.send.new.self (Send c.in-Send.at) c.send.result c.send.ensures

pub returns-in-Tick-clause-stays : goal.returns-in-Tick-clause-stays
returns-in-Tick-clause-stays c = stays_by {E = ℕ} c.args.self.now c.tick.new.self (Tick c.in-Tick.at) (Ok c.tick.result) c.tick.ensures

pub returns-in-Back-clause-stays : goal.returns-in-Back-clause-stays
returns-in-Back-clause-stays c = stays_by {E = ℕ} c.args.self.now c.back.new.self (Back c.in-Back.reply) (Ok c.back.result) c.back.ensures
