use Rattle.std.proofs.Common.{◌≡◌, ◌+◌, ◌++◌, ◌∙◌, List, ℕ, ap}
use Rattle.std.specs.List.{flat_map}
use Rattle.upload_frame.specs.Pooled.{bytes_at}
use Rattle.upload_frame.proofs.PackedSpelled.{bytes_are, frame_is}
use Rattle.upload_frame.proofs.writing_packed.write_packed.Goals as goal

pub returns : goal.returns
returns c = λ cs all.
    let text : List ℕ = flat_map (bytes_at c.args.pool.now) c.args.places.now in
    let same = bytes_are c.args.pool.now c.args.places.now cs all in
    let head : c.extend_from_slice.new.self.items ≡ c.upload_head-head.result = c.in_ok-extend_from_slice.ensures.items ∙ ap (λ (t : List ℕ). t ++ c.upload_head-head.result) c.in_ok-out.ensures.items in
    c.in_ok-put_packed.ensures ∙ ap (λ (t : List ℕ). t ++ text) (head ∙ c.upload_head-head.ensures)
    ∙ frame_is c.args.host c.args.seq cs _ _ text same.0 same.1 (ap (λ (n : ℕ). n + 8) c.packed_len-len.ensures.len)
