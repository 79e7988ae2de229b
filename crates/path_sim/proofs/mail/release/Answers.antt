use Rattle.std.proofs.Common.{◌≡◌, ◌∙◌, [], rules}
use Rattle.path_sim.proofs.Mailing.{held_still}
use Rattle.path_sim.proofs.Settling.{last_held, released_one, released_all, inside_front}
use Rattle.path_sim.proofs.mail.release.Goals as goal

pub arrive-requires-clause-known : goal.arrive-requires-clause-known
arrive-requires-clause-known g c =
    let its = c.loop-item.invariant.held in
    let part = last_held (g.O.Post.stands c.loop-item.post) its.0 c.loop-item.held.items c.pop.new.self.items c.in-Some.item c.in-Some.ensures.items its.1 in
    (part.last.1, part.here.1)

pub loop-item-preserved : goal.loop-item-preserved
loop-item-preserved g c =
    let was = c.loop-item.invariant in
    let step = c.in_ok-arrive.ensures in
    let stands = g.O.Post.stands c.loop-item.post in
    let stands' = g.O.Post.stands c.arrive.new.self in
    let part = last_held stands was.held.0 c.loop-item.held.items c.pop.new.self.items c.in-Some.item c.in-Some.ensures.items was.held.1 in
    record {
      inside = inside_front _ _ c.pop.new.self.items c.loop-item.held.items c.in-Some.item c.in-Some.ensures.items step.hosts was.inside;
      held = (part.front, held_still stands stands' c.pop.new.self.items part.front step.stays part.before);
      hosts = step.hosts ∙ was.hosts;
      noted = λ w cs noted. step.noted w cs (was.noted w cs noted);
      arrived = λ ds hs waits came. released_one stands stands' ds hs c.loop-item.held.items c.pop.new.self.items c.in-Some.item _ _
          c.in-Some.ensures.items step.stays step.arrived (was.arrived ds hs waits came);
    }

pub returns-clause-arrived : goal.returns-clause-arrived
returns-clause-arrived g c ds hs waits came =
    let none : c.loop-item.held.items ≡ [] = search rules in
    released_all (g.O.Post.stands c.loop-item.post) ds hs c.loop-item.held.items _ none (c.loop-item.invariant.arrived ds hs waits came)
