use Rattle.std.proofs.Common.{◌≤◌, length, arith}
use Rattle.path_sim.specs.Pooling.{pooled}
use Rattle.guardian_run.proofs.Sent.{calls, senders_count}
use Rattle.guardian_run.proofs.storing.prepare.Goals as goal

pub returns-clause-calls : goal.returns-clause-calls
returns-clause-calls c =
    calls c.args.scenario.now (pooled c.args.arrivals.now.kept c.args.arrivals.now.places) c.in_ok-senders.senders.items c.requires.fits
    c.requires.arrived.arrived c.in_ok-senders.ensures

pub returns-clause-few : goal.returns-clause-few
returns-clause-few c =
    let w = c.args.scenario.now in
    let count = senders_count w (length w.hosts) c.in_ok-senders.senders.items c.in_ok-senders.ensures in
    let few : length w.hosts ≤ 64 = c.requires.fits.scenario.hosts.few in
    omega (arith, count, few)
