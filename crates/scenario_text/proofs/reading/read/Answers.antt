use Rattle.std.proofs.Common.{◌+◌, ◌≤◌, arith, ap, length, lit≤, Err}
use Rattle.std.proofs.lemmas.List.{length-take}
use Rattle.std.proofs.lemmas.Result.{err_from_is_err_and}
use Rattle.lg_model.specs.declared.limits.TheConstants.{MOST_TEXT_BYTES}
use Rattle.scenario_lines.specs.Draft.{view}
use Rattle.scenario_text.specs.Text.{}
use Rattle.scenario_text.proofs.LengthLemmas.{nothing_weighs}
use Rattle.scenario_text.proofs.ReadLemmas.{says_first, says_more, says_done, says_bad, says_end}
use Rattle.scenario_text.proofs.TookLemmas.{needs_first, needs_more, took_done, took_bad, took_end, took_stop, took_fault}
use Rattle.scenario_text.proofs.reading.read.Goals as goal

pub loop-taken-init : goal.loop-taken-init
loop-taken-init g c = record {
  says = says_first (g.S.Source.left c.args.source.now) c.new-reader.result c.new-reader.ensures.pending c.new-reader.ensures.line c.new-reader.ensures.start;
  needs = needs_first (g.S.Source.left c.args.source.now) c.new-reader.result c.new-reader.ensures.pending c.new-reader.ensures.start;
  reader = c.new-reader.ensures.reader;
  printed_len = omega (arith, nothing_weighs (view c.new-reader.result.draft) c.new-reader.ensures.start, ap length c.new-reader.ensures.pending);
  short = omega (arith, c.new-reader.ensures.line);
  most = lit≤ tt;
  counts = omega arith;
}

pub returns-then-n-eq0-clause-says : goal.returns-then-n-eq0-clause-says
returns-then-n-eq0-clause-says g c =
    says_end (g.S.Source.left c.args.source.now) (g.S.Source.left c.loop-taken.source)
    (g.S.Source.left c.next_piece.new.source) c.loop-taken.taken c.in_ok-n.n c.min-want.result c.loop-taken.reader c.next_piece.new.buf c.end.result
    c.loop-taken-test.true c.if-n-eq0.true (omega arith) c.loop-taken.invariant.says c.in_ok-n.ensures.bytes c.end.ensures.says

pub returns-in-Ok-true-clause-says : goal.returns-in-Ok-true-clause-says
returns-in-Ok-true-clause-says g c =
    let le : c.loop-taken.taken + c.in_ok-n.n ≤ MOST_TEXT_BYTES = omega (arith, c.in_ok-n.ensures.count) in
    let fed = rw c.in-Ok-true.field-0-test at c.in-Ok-true.ensures.fed in
    says_done (g.S.Source.left c.args.source.now) (g.S.Source.left c.loop-taken.source)
    (g.S.Source.left c.next_piece.new.source) c.loop-taken.taken c.in_ok-n.n c.min-want.result c.loop-taken.reader c.feed.new.self c.next_piece.new.buf
    c.scenario.result
    le c.loop-taken.invariant.says c.in_ok-n.ensures.bytes fed c.scenario.ensures

pub returns-in-Err-clause-says : goal.returns-in-Err-clause-says
returns-in-Err-clause-says g c =
    let le : c.loop-taken.taken + c.in_ok-n.n ≤ MOST_TEXT_BYTES = omega (arith, c.in_ok-n.ensures.count) in
    says_bad (g.S.Source.left c.args.source.now) (g.S.Source.left c.loop-taken.source)
    (g.S.Source.left c.next_piece.new.source) c.loop-taken.taken c.in_ok-n.n c.min-want.result c.loop-taken.reader c.feed.new.self c.next_piece.new.buf
    c.in-Err.e
    le c.loop-taken.invariant.says c.in_ok-n.ensures.bytes c.in-Err.ensures.fed

pub loop-taken-preserved : goal.loop-taken-preserved
loop-taken-preserved g c =
    let le : c.loop-taken.taken + c.in_ok-n.n ≤ MOST_TEXT_BYTES = omega (arith, c.in_ok-n.ensures.count) in
    let fed = rw c.in-Ok-false.field-0-test at c.in-Ok-false.ensures.fed in
    let spent = rw c.in-Ok-false.field-0-test at c.in-Ok-false.ensures.spent in
    let printed_len = rw c.in-Ok-false.field-0-test at c.in-Ok-false.ensures.printed_len in
    record {
      says = says_more (g.S.Source.left c.args.source.now) (g.S.Source.left c.loop-taken.source)
          (g.S.Source.left c.next_piece.new.source) c.loop-taken.taken c.in_ok-n.n c.min-want.result c.loop-taken.reader c.feed.new.self c.next_piece.new.buf
          le c.loop-taken.invariant.says c.in_ok-n.ensures.bytes fed;
      needs = needs_more (g.S.Source.left c.args.source.now) (g.S.Source.left c.loop-taken.source)
          (g.S.Source.left c.next_piece.new.source) c.loop-taken.taken c.in_ok-n.n c.min-want.result c.loop-taken.reader c.feed.new.self c.next_piece.new.buf
          le c.loop-taken.invariant.needs c.in_ok-n.ensures.bytes spent;
      reader = c.in-Ok-false.ensures.reader;
      printed_len = omega (arith, printed_len, c.loop-taken.invariant.printed_len, length-take c.in_ok-n.n c.next_piece.new.buf);
      short = omega (arith, c.in-Ok-false.ensures.short, c.loop-taken.invariant.short, length-take c.in_ok-n.n c.next_piece.new.buf);
      most = le;
      counts = omega (arith, c.loop-taken.invariant.counts, c.in_ok-n.ensures.never_falls);
    }

pub returns-then-n-eq0-clause-took : goal.returns-then-n-eq0-clause-took
returns-then-n-eq0-clause-took g c =
    took_end (g.S.Source.left c.args.source.now) (g.S.Source.left c.loop-taken.source)
    (g.S.Source.left c.next_piece.new.source) c.loop-taken.taken c.in_ok-n.n c.min-want.result c.loop-taken.reader c.next_piece.new.buf c.end.result
    c.end.ensures.no_fault c.if-n-eq0.true (omega arith) c.loop-taken.invariant.reader.unbroken c.loop-taken.invariant.needs c.in_ok-n.ensures.bytes

pub returns-in-Ok-true-clause-took : goal.returns-in-Ok-true-clause-took
returns-in-Ok-true-clause-took g c =
    let le : c.loop-taken.taken + c.in_ok-n.n ≤ MOST_TEXT_BYTES = omega (arith, c.in_ok-n.ensures.count) in
    let spent = rw c.in-Ok-true.field-0-test at c.in-Ok-true.ensures.spent in
    took_done (g.S.Source.left c.args.source.now) (g.S.Source.left c.loop-taken.source)
    (g.S.Source.left c.next_piece.new.source) c.loop-taken.taken c.in_ok-n.n c.min-want.result c.loop-taken.reader c.feed.new.self c.next_piece.new.buf
    c.scenario.result
    le c.loop-taken.invariant.needs c.in_ok-n.ensures.bytes spent

pub returns-in-Err-clause-took : goal.returns-in-Err-clause-took
returns-in-Err-clause-took g c =
    let le : c.loop-taken.taken + c.in_ok-n.n ≤ MOST_TEXT_BYTES = omega (arith, c.in_ok-n.ensures.count) in
    took_bad (g.S.Source.left c.args.source.now) (g.S.Source.left c.loop-taken.source)
    (g.S.Source.left c.next_piece.new.source) c.loop-taken.taken c.in_ok-n.n c.min-want.result c.loop-taken.reader c.feed.new.self c.next_piece.new.buf
    c.in-Err.e
    le c.loop-taken.invariant.needs c.in_ok-n.ensures.bytes c.in-Err.ensures.spent

pub returns-clause-took : goal.returns-clause-took
returns-clause-took g c =
    took_stop (g.S.Source.left c.args.source.now) (g.S.Source.left c.loop-taken.source) c.loop-taken.taken c.loop-taken.reader (Err c.stop.result)
    c.stop.ensures.no_fault c.loop-taken-test.false c.loop-taken.invariant.reader.unbroken c.loop-taken.invariant.needs

pub returns-in_err-n-clause-took : goal.returns-in_err-n-clause-took
returns-in_err-n-clause-took g c =
    let p = err_from_is_err_and c.from_residual.result c.from_residual.ensures.1 in
    rw (p.1, p.2) (took_fault (g.S.Source.left c.args.source.now) (g.S.Source.left c.loop-taken.source)
    (g.S.Source.left c.next_piece.new.source) c.loop-taken.taken c.loop-taken.reader c.in_err-n.field-0.0
    c.in_err-n.ensures.fault.0 c.loop-taken-test.true c.loop-taken.invariant.reader.unbroken c.loop-taken.invariant.needs c.in_err-n.ensures.kept)
