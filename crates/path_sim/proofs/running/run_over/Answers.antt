use Rattle.std.proofs.Common.{refl, []}
use Rattle.lg_model.specs.Offering.{offering}
use Rattle.path_sim.proofs.Ends.{started, run_all}
use Rattle.path_sim.proofs.running.run_over.Goals as goal

pub run_steps-requires-clause-run : goal.run_steps-requires-clause-run
run_steps-requires-clause-run g c = (
  offering c.args.pickers.now [],
  started g.P.Picker.picks g.O.Post c.args.scenario.now c.args.pickers.now _ c.in_ok-fresh_twins.ensures
      c.requires.fresh c.new.ensures.items,
)

pub release-requires-clause-inside : goal.release-requires-clause-inside
release-requires-clause-inside g c =
    let start = started g.P.Picker.picks g.O.Post c.args.scenario.now c.args.pickers.now _ c.in_ok-fresh_twins.ensures c.requires.fresh c.new.ensures.items in
    let mail = (c.in_ok-run_steps.ensures.run (offering c.args.pickers.now []) start).mail in
    rw mail.hosts mail.held_inside

pub release-requires-clause-held : goal.release-requires-clause-held
release-requires-clause-held g c =
    let start = started g.P.Picker.picks g.O.Post c.args.scenario.now c.args.pickers.now _ c.in_ok-fresh_twins.ensures c.requires.fresh c.new.ensures.items in
    (_, (c.in_ok-run_steps.ensures.run (offering c.args.pickers.now []) start).mail.held)

pub returns : goal.returns
returns g c =
    let start = started g.P.Picker.picks g.O.Post c.args.scenario.now c.args.pickers.now _ c.in_ok-fresh_twins.ensures c.requires.fresh c.new.ensures.items in
    let gone = c.in_ok-release.ensures in
    run_all g.P.Picker.picks g.O.Post c.args.scenario.now c.args.pickers.now c.run_steps.new.pickers c.run_steps.new.traffic _
    (c.in_ok-run_steps.ensures.run (offering c.args.pickers.now []) start) refl
    gone.hosts gone.noted gone.arrived
