use Rattle.std.specs.Prelude.{slice_index}
use Rattle.std.proofs.Common.{◌≡◌, sym, ap, subst, length, arith}
use Rattle.std.proofs.lemmas.List.{with_items_is}
use Rattle.lg_model.specs.Sketch.{IsTable}
use Rattle.lg_model.proofs.Bounding.{IsTable-raise}
use Rattle.sumax_sketch.specs.SketchState.{SketchState}
use Rattle.sumax_sketch.specs.Touched.{IsNoted}
use Rattle.sumax_sketch.proofs.Clearing.{noted_raise}
use Rattle.sumax_sketch.proofs.sketch.Sketch.update.Goals as goal

pub invariant_of-self : goal.invariant_of-self
invariant_of-self c =
    let s = c.self.inside in
    let new = c.raise_rows.new.rows in
    let len : length new ≡ s.rows.len = omega (arith, c.raise_rows.auto.rows, c.deref_mut.ensures.len) in
    let table : IsTable s.shape new = rw (c.raise_rows.ensures, c.deref_mut.ensures.value) (IsTable-raise s.shape (slice_index c.args.places.now) c.args.size c.args.delay s.rows.items c.self.invariant.0) in
    let places = c.args.places.now in
    let many : length places ≡ length s.rows.items = omega (arith, c.requires.rows, c.self.invariant.0.rows, ap (λ (x : SketchState). x.shape.rows) c.self.view_is) in
    let noted : IsNoted c.note_packet.new.self new = rw (c.raise_rows.ensures, c.deref_mut.ensures.value)
    (noted_raise c.note_packet.ensures.0 places s.touched c.note_packet.new.self c.args.size c.args.delay s.rows.items c.note_packet.ensures.1 many
    c.note_packet.ensures.2 c.self.invariant.2) in
    let is = sym (with_items_is s.rows new len) in
    (subst (IsTable s.shape) is table, c.self.invariant.1, subst (IsNoted c.note_packet.new.self) is noted)
