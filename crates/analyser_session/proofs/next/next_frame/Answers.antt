use Rattle.std.proofs.Common.{◌≡◌, ◌∙◌, ◌++◌, ◌≤◌, ℕ, List, ap, arith, length, take, length-append, append_assoc, length-take-le}
use Rattle.std.proofs.KnownBytes.{Consumes-trans}
use Rattle.analyser_session.proofs.Stepping.{step_none, few_bytes, grown}
use Rattle.analyser_session.proofs.next.next_frame.Goals as goal

pub loop-frame-preserved : goal.loop-frame-preserved
loop-frame-preserved g c =
    let i = c.loop-frame.invariant in
    let r0 = c.loop-frame.reader in
    let p = take c.in_ok-count.count c.next_piece.new.buf in
    let none = step_none r0 c.next.new.self i.clear (rw c.in-Ok-None.field-0-is at c.in-Ok-None.ensures) in
    let few = few_bytes r0.rest none.1 in
    let after = grown r0 c.next.new.self c.feed.new.self p i.clear none.0 c.in-Ok.ensures.ok in
    let b = c.in_ok-count.ensures in
    let fits : c.in_ok-count.count ≤ length c.next_piece.new.buf = omega (arith, b.count, b.long) in
    let long : length p ≡ c.in_ok-count.count = length-take-le c.in_ok-count.count c.next_piece.new.buf fits in
    let size = ap length after.1 ∙ length-append r0.rest p in
    record {
      clear = after.0;
      small = omega (arith, size, few, long, b.count);
      same = after.2 ∙ i.same;
      piece = i.piece ++ p;
      consumed = Consumes-trans (g.S.Source.left c.args.source.now) (g.S.Source.left c.loop-frame.source)
          (g.S.Source.left c.next_piece.new.source) i.piece p i.consumed b.bytes.0;
      rest = after.1 ∙ ap (λ (xs : List ℕ). xs ++ p) i.rest ∙ append_assoc c.args.reader.now.rest i.piece p;
      count = omega (arith, i.count, long, length-append i.piece p);
      long = b.long;
      later = omega (arith, i.later, b.never_falls);
    }

pub returns-in-Err-clause-next : goal.returns-in-Err-clause-next
returns-in-Err-clause-next g c =
    let i = c.loop-frame.invariant in
    let p = take c.in_ok-count.count c.next_piece.new.buf in
    let r0 = c.loop-frame.reader in
    let none = step_none r0 c.next.new.self i.clear (rw c.in-Ok-None.field-0-is at c.in-Ok-None.ensures) in
    let few = few_bytes r0.rest none.1 in
    let b = c.in_ok-count.ensures in
    let fits : c.in_ok-count.count ≤ length c.next_piece.new.buf = omega (arith, b.count, b.long) in
    let long : length p ≡ c.in_ok-count.count = length-take-le c.in_ok-count.count c.next_piece.new.buf fits in
    record {
      piece = i.piece ++ p;
      consumed = Consumes-trans (g.S.Source.left c.args.source.now) (g.S.Source.left c.loop-frame.source)
          (g.S.Source.left c.next_piece.new.source) i.piece p i.consumed b.bytes.0;
      count = omega (arith, i.count, long, length-append i.piece p);
      near = omega (
        arith,
        ap length i.rest,
        few,
        long,
        b.count,
        length-append i.piece p,
        length-append c.args.reader.now.rest i.piece,
        length-append c.args.reader.now.rest (i.piece ++ p),
      );
      gets = tt;
    }
