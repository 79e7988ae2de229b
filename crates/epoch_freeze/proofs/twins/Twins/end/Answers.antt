use Rattle.std.proofs.Common.{◌≡◌, arith, refl}
use Rattle.epoch_freeze.proofs.Zeros.{all_zero}
use Rattle.epoch_freeze.proofs.twins.Twins.end.Goals as goal
use Rattle.epoch_freeze.proofs.twins.Twins.end.Goals.{then-self-gt0, else-self-gt0}

pub returns : goal.returns
returns c = elim c.if-self-gt0.branch [
  | then-self-gt0 w ↦
      let wide : c.self.inside.times.len ≡ c.self.inside.shape.width = omega (arith, c.self.invariant.wide) in
      let items = w.fill.ensures.items (λ y h. h) in
      rw (w.self-inside-is, c.clear.ensures, c.swap.ensures.x_after, c.swap.ensures.y_after, c.self.invariant.rests, items, wide, ← c.self.view_is) refl
  | else-self-gt0 w ↦
      let none : c.self.inside.put ≡ 0 = omega (arith, w.if-self-gt0) in
      let zero = all_zero c.self.inside.shape.width c.self.inside.put c.self.inside.times.items c.self.invariant.wide c.self.invariant.few none in
      rw (w.self-inside-is, c.clear.ensures, c.swap.ensures.x_after, c.swap.ensures.y_after, c.self.invariant.rests, zero, ← c.self.view_is) refl
]
