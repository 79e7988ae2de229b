use Rattle.std.proofs.Common.{◌≡◌, ◌∙◌, List, length, sym, ap, rules}
use Rattle.std.specs.List.{AllByRecursion}
use Rattle.sketchlet_wire.specs.Uploads.{UploadData}
use Rattle.host_collect.proofs.PackedParts.{uploads_len}
use Rattle.host_collect.proofs.packed_uploads.PackedUploadsUploads.count.Goals as goal

pub returns-clause-count : goal.returns-clause-count
returns-clause-count c =
    let u = c.self.inside in
    let same : Rattle.std.specs.Vec.vec_len u.ends ≡ length u.ends.items = search rules in
    c.len.ensures ∙ same ∙ sym (uploads_len u.host u.pool.now u.places.now u.ends.items) ∙ ap (λ (us : List UploadData). length us) c.self.view_is
