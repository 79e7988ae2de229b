use Rattle.std.proofs.Common.{◌≡◌, ◌≤◌, ◌<◌, ◌-◌, ◌+◌, ◌∙◌, ℕ, List, length, take, drop, slice_index_or, sym, ap, arith, rules}
use Rattle.std.proofs.lemmas.Result.{IfOk-weaker}
use Rattle.std.proofs.lemmas.List.{length-take}
use Rattle.lg_model.specs.Columns.{Column}
use Rattle.lg_model.specs.declared.limits.TheConstants.{MOST_UPLOAD_COLUMNS}
use Rattle.sketchlet_wire.specs.Uploads.{UploadData, upload_of}
use Rattle.upload_frame.specs.Frames.{frame_of}
use Rattle.host_collect.specs.declared.packed_uploads.PackedUploads.TheInside.{Inside}
use Rattle.host_collect.specs.PackedUploads.{columns_at, pieces, start_of, uploads_at, KeepUploads}
use Rattle.host_collect.proofs.PackedCuts.{pieces_len}
use Rattle.host_collect.proofs.PackedParts.{uploads_len, range_at, upload_is, small, between}
use Rattle.host_collect.proofs.packed_uploads.PackedUploadsUploads.frame.Goals as goal

-- The upload at a position begins and ends there.
record IsRange (u : Inside) (at from to : ℕ) : Type 0 where
  low : at < length u.ends.items
  from_is : from ≡ start_of 0 u.ends.items at
  to_is : to ≡ slice_index_or u.ends.items at 0
  ordered : from ≤ to
  few : to ≤ from + MOST_UPLOAD_COLUMNS
  inside : to ≤ length u.places.now

range : (u : Inside) (us : List UploadData) (es : List ℕ) (at from to : ℕ) → uploads_at u.host u.pool.now u.places.now u.ends.items ≡ us → at < length us
    → KeepUploads u.host u.pool.now u.places.now u.ends.items → es ≡ u.ends.items → from ≡ start_of 0 es at → to ≡ slice_index_or es at 0 → IsRange u at from to
range u us es at from to view here keep same from_is to_is =
    let low : at < length u.ends.items =
    omega (arith, here, uploads_len u.host u.pool.now u.places.now u.ends.items, ap (λ (x : List UploadData). length x) view) in
    let is = range_at 0 u.ends.items (length u.places.now) at keep.within low in
    let begins : from ≡ start_of 0 u.ends.items at = from_is ∙ ap (λ (x : List ℕ). start_of 0 x at) same in
    let ends : to ≡ slice_index_or u.ends.items at 0 = to_is ∙ ap (λ (x : List ℕ). slice_index_or x at 0) same in
    record {
      low = low;
      from_is = begins;
      to_is = ends;
      ordered = omega (arith, begins, ends, is.0);
      few = omega (arith, begins, ends, is.1);
      inside = omega (arith, ends, is.2);
    }

pub range_of-from-requires : goal.range_of-from-requires
range_of-from-requires c =
    let u = c.self.inside in
    omega (
      arith,
      c.requires,
      uploads_len u.host u.pool.now u.places.now u.ends.items,
      ap (λ (us : List UploadData). length us) c.self.view_is,
      ap (λ (es : List ℕ). length es) c.deref.ensures.value,
    )

pub overflow_cast-at : goal.overflow_cast-at
overflow_cast-at c =
    let u = c.self.inside in
    let is = range c.self.inside c.args.self.now c.deref.result.now c.args.at _ _ c.self.view_is c.requires c.self.invariant c.deref.ensures.value
    c.range_of-from.ensures.from c.range_of-from.ensures.to in
    let cs = columns_at u.pool.now u.places.now in
    record { fits = small u.host (pieces 0 u.ends.items cs) c.args.at c.self.invariant.full (omega (arith, is.low, pieces_len 0 u.ends.items cs)) }

pub offset_bounds-self-inside-from : goal.offset_bounds-self-inside-from
offset_bounds-self-inside-from c =
    let is = range c.self.inside c.args.self.now c.deref.result.now c.args.at _ _ c.self.view_is c.requires c.self.invariant c.deref.ensures.value
    c.range_of-from.ensures.from c.range_of-from.ensures.to in
    record { fits = omega (arith, is.ordered, is.inside, c.self.told2.1) }

pub slice_bounds-write_packed-count : goal.slice_bounds-write_packed-count
slice_bounds-write_packed-count c = let is = range c.self.inside c.args.self.now c.deref.result.now c.args.at _ _ c.self.view_is c.requires
    c.self.invariant c.deref.ensures.value c.range_of-from.ensures.from c.range_of-from.ensures.to in is.ordered

pub slice_bounds-write_packed-start : goal.slice_bounds-write_packed-start
slice_bounds-write_packed-start c =
    let is = range c.self.inside c.args.self.now c.deref.result.now c.args.at _ _ c.self.view_is c.requires c.self.invariant c.deref.ensures.value
    c.range_of-from.ensures.from c.range_of-from.ensures.to in
    let ordered : c.range_of-from.result.0 ≤ c.range_of-from.result.1 = is.ordered in search rules

pub slice_bounds-write_packed-end : goal.slice_bounds-write_packed-end
slice_bounds-write_packed-end c =
    let is = range c.self.inside c.args.self.now c.deref.result.now c.args.at _ _ c.self.view_is c.requires c.self.invariant c.deref.ensures.value
    c.range_of-from.ensures.from c.range_of-from.ensures.to in
    let ordered : c.range_of-from.result.0 ≤ c.range_of-from.result.1 = is.ordered in
    let inside : c.range_of-from.result.1 ≤ length c.self.inside.places.now = is.inside in search rules

pub write_packed-requires-clause-count : goal.write_packed-requires-clause-count
write_packed-requires-clause-count c =
    let is = range c.self.inside c.args.self.now c.deref.result.now c.args.at _ _ c.self.view_is c.requires c.self.invariant c.deref.ensures.value
    c.range_of-from.ensures.from c.range_of-from.ensures.to in
    let from = c.range_of-from.result.0 in
    let to = c.range_of-from.result.1 in
    omega (arith, is.few, length-take (to - from) (drop from c.self.inside.places.now))

pub returns : goal.returns
returns c =
    let u = c.self.inside in
    let is = range c.self.inside c.args.self.now c.deref.result.now c.args.at _ _ c.self.view_is c.requires c.self.invariant c.deref.ensures.value
    c.range_of-from.ensures.from c.range_of-from.ensures.to in
    let from = c.range_of-from.result.0 in
    let to = c.range_of-from.result.1 in
    let cs : List Column = columns_at u.pool.now u.places.now in
    let all = between u.pool.now u.places.now from (to - from) c.self.invariant.columns in
    let same : take (to - from) (drop from cs) ≡ take (slice_index_or u.ends.items c.args.at 0 - start_of 0 u.ends.items c.args.at)
    (drop (start_of 0 u.ends.items c.args.at) cs) =
    ap (λ (n : ℕ). take (to - n) (drop n cs)) is.from_is ∙ ap (λ (n : ℕ). take (n - start_of 0 u.ends.items c.args.at)
    (drop (start_of 0 u.ends.items c.args.at) cs)) is.to_is in
    IfOk-weaker c.write_packed.result _ _ (λ bytes wrote v here.
    wrote (take (to - from) (drop from cs)) all
    ∙ ap (λ (xs : List Column). frame_of (upload_of u.host c.args.at xs)) same
    ∙ ap frame_of (sym (upload_is u.host u.ends.items cs c.args.at v is.low (ap (λ us. Rattle.std.specs.List.slice_get us c.args.at) c.self.view_is
    ∙ here)))) c.write_packed.ensures
