use Rattle.std.proofs.Common.{◌≡◌, length, arith}
use Rattle.uploader_core.proofs.Tallies.{all_counted}
use Rattle.uploader_core.proofs.states.States.all_acknowledged.Goals as goal

pub returns : goal.returns
returns c =
    let n : c.len.result ≡ length c.self.inside.items.items = omega arith in
    rw (c.self.invariant.closed, n, ← c.self.view_is) (all_counted c.self.inside.items.items)
