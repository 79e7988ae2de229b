use Rattle.std.proofs.Common.{◌≡◌, ◌∙◌, sym, subst, length, arith}
use Rattle.std.proofs.lemmas.List.{with_items_is}
use Rattle.lg_model.specs.Sketch.{IsTable, zero_table}
use Rattle.sumax_sketch.specs.Touched.{IsNoted}
use Rattle.sumax_sketch.proofs.Clearing.{noted_zeros}
use Rattle.sumax_sketch.proofs.Columns.{zeros_of_shape, IsTable-zeros}
use Rattle.sumax_sketch.proofs.sketch.Sketch.clear.Goals as goal

pub invariant_of-self : goal.invariant_of-self
invariant_of-self c =
    let s = c.self.inside in
    let new = c.clear.new.rows in
    let len : length new ≡ s.rows.len = omega (arith, c.clear.auto.rows, c.deref_mut.ensures.len) in
    let zero : new ≡ zero_table s.shape = c.clear.ensures ∙ rw c.deref_mut.ensures.value (zeros_of_shape s.shape s.rows.items c.self.invariant.0) in
    let noted : IsNoted c.clear.new.self new = subst (IsNoted c.clear.new.self) (sym zero) (noted_zeros c.clear.new.self s.shape) in
    let is = sym (with_items_is s.rows new len) in
    (subst (IsTable s.shape) (sym zero ∙ is) (IsTable-zeros s.shape), c.self.invariant.1, subst (IsNoted c.clear.new.self) is noted)

pub returns : goal.returns
returns c =
    let s = c.self.inside in
    let new = c.clear.new.rows in
    let len : length new ≡ s.rows.len = omega (arith, c.clear.auto.rows, c.deref_mut.ensures.len) in
    let zero : new ≡ zero_table s.shape = c.clear.ensures ∙ rw c.deref_mut.ensures.value (zeros_of_shape s.shape s.rows.items c.self.invariant.0) in
    let table = with_items_is s.rows new len ∙ zero in
    rw (← c.self.view_is) (λ i. record { shape = s.shape; table = table i })
