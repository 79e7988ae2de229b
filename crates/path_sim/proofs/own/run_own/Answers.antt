use Rattle.std.proofs.Common.{◌∙◌, length}
use Rattle.std.proofs.lemmas.Result.{IfOk-weaker}
use Rattle.lg_model.specs.Carrying.{picked, IsAllowed}
use Rattle.lg_model.specs.Offering.{offering}
use Rattle.lg_model.specs.Trace.{meetings}
use Rattle.lg_model.specs.TwinsState.{AreTwins}
use Rattle.path_sim.specs.Outcome.{Outcome}
use Rattle.path_sim.specs.Parts.{carried_are}
use Rattle.path_sim.specs.Arrived.{HaveArrived}
use Rattle.path_sim.proofs.Owning.{own_picked, with_picked}
use Rattle.path_sim.proofs.own.run_own.Goals as goal

pub returns-clause-picked : goal.returns-clause-picked
returns-clause-picked c =
    let w = c.args.scenario.now in
    let known = c.in_ok-pickers.ensures in
    IfOk-weaker c.run_net.result _ _ (λ a run. own_picked w c.deref_mut.result.now (offering c.run_net.new.pickers (carried_are a.carried)) known.fits
    (c.deref_mut.ensures.value ∙ known.fresh) run) c.run_net.ensures.picks

pub returns-clause-allowed : goal.returns-clause-allowed
returns-clause-allowed c =
    let w = c.args.scenario.now in
    with_picked c.run_net.result (λ (a : Outcome). carried_are a.carried) (picked w) (λ a cs. IsAllowed w cs)
    (returns-clause-picked c) c.run_net.ensures.allowed

pub returns-clause-arrived : goal.returns-clause-arrived
returns-clause-arrived c =
    let w = c.args.scenario.now in
    with_picked c.run_net.result (λ (a : Outcome). carried_are a.carried) (picked w) (λ a cs. HaveArrived w cs a.inboxes)
    (returns-clause-picked c) c.run_net.ensures.arrived

pub returns-clause-twins : goal.returns-clause-twins
returns-clause-twins c =
    let w = c.args.scenario.now in
    with_picked c.run_net.result (λ (a : Outcome). carried_are a.carried) (picked w) (λ a cs. AreTwins w (length w.steps) (meetings w) cs a.twins)
    (returns-clause-picked c) c.run_net.ensures.twins
