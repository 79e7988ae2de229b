use Rattle.std.proofs.Common.{◌≡◌, ◌∙◌, List, length, subst}
use Rattle.lg_model.specs.Carrying as model
use Rattle.lg_model.specs.Carrying.{picked, IsAllowed}
use Rattle.lg_model.specs.Offering.{offering}
use Rattle.lg_model.specs.Trace.{meetings}
use Rattle.lg_model.specs.TwinsState.{AreTwins}
use Rattle.path_sim.specs.Arrived.{HaveArrived}
use Rattle.path_sim.specs.Pooling.{pooled}
use Rattle.path_sim.proofs.Owning.{own_picked}
use Rattle.path_sim.proofs.pooled.run_pooled.Goals.{After-drop-pickers-2}
use Rattle.path_sim.proofs.pooled.run_pooled.Goals as goal

-- What was carried is what the scenario's own pickers pick.
is_picked : (c : After-drop-pickers-2) → c.in_ok-post.ensures.carried ≡ picked c.args.scenario.now
is_picked c =
    let known = c.in_ok-pickers.ensures in
    own_picked c.args.scenario.now c.deref_mut.result.now (offering c.run_over.new.pickers c.in_ok-post.ensures.carried) known.fits
    (c.deref_mut.ensures.value ∙ known.fresh) c.in_ok-post.ensures.chosen

pub returns-clause-allowed : goal.returns-clause-allowed
returns-clause-allowed c = subst (IsAllowed c.args.scenario.now) (is_picked c) c.in_ok-post.ensures.allowed

pub returns-clause-arrived : goal.returns-clause-arrived
returns-clause-arrived c =
    let post = c.in_ok-post.field-0.post in
    subst (λ (cs : List model.Carry). HaveArrived c.args.scenario.now cs (pooled post.kept.items post.inboxes.items)) (is_picked c) c.in_ok-post.ensures.arrived

pub returns-clause-twins : goal.returns-clause-twins
returns-clause-twins c =
    let w = c.args.scenario.now in
    subst (λ (cs : List model.Carry). AreTwins w (length w.steps) (meetings w) cs c.in_ok-post.field-0.twins.items) (is_picked c) c.in_ok-post.ensures.twins
