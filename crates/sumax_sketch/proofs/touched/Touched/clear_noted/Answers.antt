use Rattle.std.specs.Prelude.{ℕ, List, [], length, slice_index_or}
use Rattle.std.proofs.Common.{◌≡◌, ◌<◌, ◌∙◌, ap, subst, arith}
use Rattle.std.proofs.lemmas.List.{get_or_default}
use Rattle.sumax_sketch.specs.Touched.{Noted, AreZeroedAt}
use Rattle.sumax_sketch.proofs.Clearing.{cleared_none, cleared_next, cleared_all}
use Rattle.sumax_sketch.proofs.touched.Touched.clear_noted.Goals as goal

pub loop-n-init : goal.loop-n-init
loop-n-init c = cleared_none c.args.self.now c.args.rows.now c.requires.all c.requires.noted

pub loop-n-preserved : goal.loop-n-preserved
loop-n-preserved c =
    let n = c.loop-n.n in
    let note = c.args.self.now in
    let items = c.self.inside.list.items in
    let within : n < length items = omega (arith, c.self.invariant) in
    let lists : items ≡ note.list = ap (λ (t : Noted). t.list) c.self.view_is in
    let places : c.index-at.result.now ≡ slice_index_or note.list n [] =
    c.index-at.ensures ∙ get_or_default items n c.index-at.result.now [] within ∙ ap (λ (list : List (List ℕ)). slice_index_or list n []) lists in
    cleared_next n note c.args.rows.now c.loop-n.rows c.clear_places.new.rows c.loop-n.invariant
    (subst (λ (at : List ℕ). AreZeroedAt at c.loop-n.rows c.clear_places.new.rows) places c.clear_places.ensures)

pub returns : goal.returns
returns c =
    let counts : c.self.inside.count ≡ c.args.self.now.count = ap (λ (t : Noted). t.count) c.self.view_is in
    cleared_all c.loop-n.n c.args.self.now c.args.rows.now c.loop-n.rows c.loop-n.invariant (omega (arith, counts))
