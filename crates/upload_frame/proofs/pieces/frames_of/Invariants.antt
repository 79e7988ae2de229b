use Rattle.std.proofs.Common.{◌≡◌, take}
use Rattle.std.specs.List.{flat_map}
use Rattle.upload_frame.specs.Frames.{frames}
use Rattle.upload_frame.specs.Machine.{Follows, IsDry}
use Rattle.upload_frame.proofs.pieces.frames_of.Given as goal

abbrev pub invariant-loop-piece : goal.invariant-loop-piece
invariant-loop-piece l = Follows frames (flat_map (λ piece. piece.items) (take l.piece-index l.pieces)) l.given.items l.reader × (l.reader.fault ≡ l.end)
    × IsDry frames l.reader.rest l.reader.fault
