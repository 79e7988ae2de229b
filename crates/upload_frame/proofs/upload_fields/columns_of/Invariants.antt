use Rattle.std.proofs.Common.{◌≡◌, ◌-◌, [], length}
use Rattle.upload_frame.specs.Frames.{columns_at}
use Rattle.upload_frame.proofs.upload_fields.columns_of.Given as goal

abbrev pub invariant-loop-nth : goal.invariant-loop-nth
invariant-loop-nth l = (length l.columns.items ≡ l.nth) × (columns_at l.len (l.count - l.nth) l.columns.items l.rest ≡ columns_at l.len l.count [] l.body)
