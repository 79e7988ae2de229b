use Rattle.std.specs.Prelude.{ℕ, ◌*◌, slice_index, min}
use Rattle.std.proofs.Common.{◌≡◌, ◌<◌, ◌∙◌, ap, subst, arith}
use Rattle.std.proofs.lemmas.List.Elements.{All-get_or}
use Rattle.lg_model.specs.declared.limits.TheConstants.{LAST_BYTES}
use Rattle.lg_model.specs.Sketch.{IsTable, raise}
use Rattle.sumax_sketch.specs.SketchState.{SketchState}
use Rattle.sumax_sketch.proofs.Bursts.{burst_is}
use Rattle.sumax_sketch.proofs.sketch.Sketch.update_burst.Goals as goal

pub returns : goal.returns
returns c =
    let s = c.args.self.now in
    let places = c.args.places.now in
    let below : (i : ℕ) → i < s.shape.rows → slice_index places i < s.shape.width =
    λ i h. All-get_or (λ (j : ℕ). j < s.shape.width) places i 0 (omega (arith, c.requires.rows)) c.requires.width in
    let table : IsTable s.shape s.table = subst (λ (x : SketchState). IsTable x.shape x.table) c.self.view_is c.self.invariant.0 in
    let bytes : c.saturating_mul-bytes.result ≡ min (c.args.size * c.args.burst) LAST_BYTES =
    c.saturating_mul-bytes.ensures ∙ ap (λ (a : ℕ). min (a * c.args.burst) LAST_BYTES) c.from.ensures in
    c.update.ensures ∙ (λ i. record s { table = raise (slice_index places) (bytes i) c.args.delay s.table })
    ∙ (λ i. record s { table = burst_is s.shape (slice_index places) c.args.size c.args.delay c.args.burst s.table table below c.requires.some i })
