use Rattle.std.proofs.Common.{refl}
use Rattle.path_sim.proofs.Settling.{Arrives, all_ok, settled_none, settled_lost, settled_straight, settled_twice, settled_late}
use Rattle.path_sim.proofs.mail.settle.Goals as goal

pub returns-in_default-clause-mail : goal.returns-in_default-clause-mail
returns-in_default-clause-mail g c cs is cargo_is = settled_none g.O.Post c.args.scenario.now c.args.number c.args.sent.now c.requires.sent cs
    c.args.traffic.now c.args.cargo c.in_default.is is cargo_is

pub returns-in-Lost-clause-mail : goal.returns-in-Lost-clause-mail
returns-in-Lost-clause-mail g c cs is cargo_is = settled_lost g.O.Post c.args.scenario.now c.args.number c.args.sent.now c.requires.sent cs
    c.args.traffic.now c.in-Lost.field-0 c.in-Lost.is is

pub returns-in-Straight-clause-mail : goal.returns-in-Straight-clause-mail
returns-in-Straight-clause-mail g c =
    let step = c.arrive.ensures in
    all_ok c.arrive.result _ _ _ _ _ (λ x arrived hosts stays noted cs is cargo_is.
    settled_straight g.O.Post c.args.scenario.now c.args.number c.args.sent.now c.requires.sent cs c.args.traffic.now _ c.args.cargo c.in-Some.cargo
    c.in-Some.is c.in-Straight.is refl
    (record { arrived = arrived; hosts = hosts; stays = stays; noted = noted }) is cargo_is) step.arrived step.hosts step.stays step.noted

pub returns-in_ok-arrive-in-Twice-clause-mail : goal.returns-in_ok-arrive-in-Twice-clause-mail
returns-in_ok-arrive-in-Twice-clause-mail g c =
    let one = c.in_ok-arrive-in-Twice.ensures in
    let two = c.arrive-in-Twice-2.ensures in
    let first : Arrives g.O.Post c.args.traffic.now.post c.arrive-in-Twice.new.self c.args.sent.now.flow.now.host_at c.in-Some.cargo =
    record { arrived = one.arrived; hosts = one.hosts; stays = one.stays; noted = one.noted } in
    all_ok c.arrive-in-Twice-2.result _ _ _ _ _ (λ x arrived hosts stays noted cs is cargo_is.
    settled_twice g.O.Post c.args.scenario.now c.args.number c.args.sent.now c.requires.sent cs c.args.traffic.now _ c.arrive-in-Twice.new.self
    c.args.cargo c.in-Some.cargo c.in-Some.is c.in-Twice.is refl
    first (record { arrived = arrived; hosts = hosts; stays = stays; noted = noted }) is cargo_is) two.arrived two.hosts two.stays two.noted

pub returns-in_ok-push-in-Late-clause-mail : goal.returns-in_ok-push-in-Late-clause-mail
returns-in_ok-push-in-Late-clause-mail g c cs is cargo_is =
    settled_late g.O.Post c.args.scenario.now c.args.number c.args.sent.now c.requires.sent cs c.args.traffic.now _ c.args.cargo c.in-Some.cargo
    c.in-Some.is c.in-Late.is refl c.in_ok-push-in-Late.ensures.items is cargo_is
