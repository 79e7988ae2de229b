use Rattle.std.proofs.Common.{◌≡◌, ◌+◌, ◌++◌, refl, arith, List, ℕ, Option, take, get_or, length, ap, sym, subst, ◌∙◌}
use Rattle.std.proofs.lemmas.List.{take_all}
use Rattle.std.specs.Global.{Vec}
use Rattle.upload_frame.specs.declared.fault.FrameFault.{FrameFault}
use Rattle.upload_frame.specs.Front.{head_at}
use Rattle.upload_frame.specs.Frames.{frames}
use Rattle.upload_frame.specs.Machine.{ReaderData, Follows, Streams}
use Rattle.upload_frame.proofs.Streams.{readers, streams_of}
use Rattle.upload_frame.proofs.PieceBytes.{bytes_of, fits, one_more}
use Rattle.upload_frame.proofs.pieces.frames_of.Goals as goal

pub loop-piece-init : goal.loop-piece-init
unfolding head_at
loop-piece-init c = rw (c.new-reader.ensures, c.new-given.ensures.items) ((readers frames).start, refl, refl)

pub feed-requires : goal.feed-requires
feed-requires c =
    let piece : c.deref.result.now ≡ (get_or c.args.pieces.now c.loop-piece.piece-index c.piece-item.result).items =
    c.deref.ensures.value ∙ ap (λ (v : Vec ℕ). v.items) c.piece-item.is in
    omega (
      arith,
      fits c.args.pieces.now c.loop-piece.piece-index c.piece-item.result c.loop-piece-test.true,
      ap length piece,
      c.loop-piece.invariant.0.size,
      c.requires,
    )

pub loop-piece-preserved : goal.loop-piece-preserved
loop-piece-preserved c =
    let i = c.loop-piece.piece-index in
    let pieces = c.args.pieces.now in
    let before = bytes_of (take i pieces) in
    let piece : c.deref.result.now ≡ (get_or pieces i c.piece-item.result).items = c.deref.ensures.value ∙ ap (λ (v : Vec ℕ). v.items) c.piece-item.is in
    let keeps = subst (λ (r : ReaderData). Follows frames (before ++ c.deref.result.now) c.loop-piece.given.items r) (sym c.in_ok-feed.ensures.ok)
    ((readers frames).fed before c.loop-piece.given.items c.loop-piece.reader c.deref.result.now c.loop-piece.invariant.0) in
    let all = c.in_ok-end.ensures (before ++ c.deref.result.now) keeps in
    let grown : before ++ c.deref.result.now ≡ bytes_of (take (i + 1) pieces) =
    ap (λ (x : List ℕ). before ++ x) piece ∙ sym (one_more pieces i c.piece-item.result c.loop-piece-test.true) in
    (subst (λ (s : List ℕ). Follows frames s c.drain.new.out.items c.drain.new.reader) grown all.0, all.1, all.2)

pub returns : goal.returns
returns c =
    let inv = c.loop-piece.invariant in
    let whole : take c.loop-piece.piece-index c.args.pieces.now ≡ c.args.pieces.now =
    take_all c.loop-piece.piece-index c.args.pieces.now c.loop-piece-test.false in
    let all = streams_of frames (bytes_of
    (take c.loop-piece.piece-index c.args.pieces.now)) c.loop-piece.given.items c.loop-piece.reader.rest c.loop-piece.reader.fault inv.0.frames inv.2 in
    subst (λ (end : Option FrameFault). Streams frames (bytes_of c.args.pieces.now) c.loop-piece.given.items end) inv.1
    (subst (λ (p : List (Vec ℕ)). Streams frames (bytes_of p) c.loop-piece.given.items c.loop-piece.reader.fault) whole all)
