use Rattle.std.proofs.Common.{◌≤◌, All, IsTrue, take, slice_index_or, sym, subst, rules}
use Rattle.std.proofs.lemmas.List.{take_more, take_all}
use Rattle.std.proofs.lemmas.List.Elements.{All-push}
use Rattle.lg_model.specs.declared.limits.TheConstants.{MOST_SKETCHLET_BYTES}
use Rattle.sketchlet_wire.specs.declared.packed.Packed.{Packed}
use Rattle.upload_frame.specs.Pooled.{no_item}
use Rattle.host_collect.proofs.PackedParts.{PackFirst, all_short, pack_more, packs_there}
use Rattle.host_collect.proofs.packed_uploads.pack_columns.Goals as goal

pub loop-item-preserved : goal.loop-item-preserved
loop-item-preserved c =
    let P = λ (p : Packed). p.len ≤ MOST_SKETCHLET_BYTES in
    let i = c.loop-item.item-index in
    let pool = c.args.pool.now in
    subst (All P) (sym (take_more pool i no_item c.loop-item-test.true))
    (All-push P (take i pool) (slice_index_or pool i no_item) c.loop-item.invariant c.if-item-gt-MOST_SKETCHLET_BYTES.false)

pub packs_at-requires : goal.packs_at-requires
packs_at-requires c = all_short c.loop-item.item-index c.args.pool.now c.loop-item-test.false c.loop-item.invariant

pub returns-then-not-packs_at : goal.returns-then-not-packs_at
returns-then-not-packs_at c = (
  λ no. absurd (search rules),
  λ is.
      let yes : IsTrue c.packs_at.result = c.packs_at.ensures.1 (packs_there c.args.pool.now c.args.places.now c.loop-place.place-index 0
      c.loop-place-test.true is) in
      subst IsTrue c.if-not-packs_at.true yes,
)

pub loop-place-preserved : goal.loop-place-preserved
loop-place-preserved c =
    let yes : IsTrue c.packs_at.result = search rules in
    pack_more c.args.pool.now c.args.places.now c.loop-place.place-index 0 c.loop-place-test.true c.loop-place.invariant (c.packs_at.ensures.0 yes)

pub returns : goal.returns
returns c =
    let pool = c.args.pool.now in
    let places = c.args.places.now in
    let first : PackFirst pool places = subst (PackFirst pool) (take_all c.loop-place.place-index places c.loop-place-test.false) c.loop-place.invariant in (
      λ yes. record {
        inside = first.0;
        short = all_short c.loop-item.item-index pool c.loop-item-test.false c.loop-item.invariant;
        packed = first.1;
      },
      λ is. search rules,
    )
