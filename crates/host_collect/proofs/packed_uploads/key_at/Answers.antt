use Rattle.std.proofs.Common.{◌≤◌, length, rules}
use Rattle.host_collect.proofs.PackedKeys.{key_is, long, no_fault, same_key}
use Rattle.host_collect.proofs.packed_uploads.key_at.Goals as goal

pub slice_bounds-take_key-count : goal.slice_bounds-take_key-count
slice_bounds-take_key-count c =
    let is = c.requires.packed in long _ is.0 c.spelled-bytes.result.now is.1 c.spelled-bytes.ensures

pub slice_bounds-take_key-start : goal.slice_bounds-take_key-start
slice_bounds-take_key-start c =
    let is = c.requires.packed in
    let h : 6 ≤ length c.spelled-bytes.result.now = long _ is.0 c.spelled-bytes.result.now is.1 c.spelled-bytes.ensures in search rules

pub unreachable-requires : goal.unreachable-requires
unreachable-requires c =
    let is = c.requires.packed in
    no_fault _ _ _ (key_is _ _ is.0 c.spelled-bytes.result.now is.1 c.spelled-bytes.ensures) c.in-Err.ensures

pub returns : goal.returns
returns c = λ col is.
    same_key _ _ _ _ _ c.in-Ok.ensures (key_is _ _ col c.spelled-bytes.result.now is c.spelled-bytes.ensures)
