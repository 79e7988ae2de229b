use Rattle.std.proofs.Common.{◌≡◌, sym, subst, length, arith}
use Rattle.std.proofs.lemmas.List.{with_items_is}
use Rattle.lg_model.specs.Sketch.{IsTable}
use Rattle.sumax_sketch.proofs.Clearing.{noted_many}
use Rattle.sumax_sketch.proofs.Columns.{IsTable-with_column}
use Rattle.sumax_sketch.proofs.sketch.Sketch.set_column.Goals as goal

pub invariant_of-self : goal.invariant_of-self
invariant_of-self c =
    let s = c.self.inside in
    let new = c.set_column.new.rows in
    let len : length new ≡ s.rows.len = omega (arith, c.set_column.auto.rows, c.deref_mut.ensures.len) in
    let table : IsTable s.shape new = rw (c.set_column.ensures, c.deref_mut.ensures.value) (IsTable-with_column s.shape c.args.index c.args.buckets.now s.rows.items c.self.invariant.0) in
    let is = sym (with_items_is s.rows new len) in
    (subst (IsTable s.shape) is table, c.self.invariant.1, noted_many c.note_all.new.self _ c.note_all.ensures)
