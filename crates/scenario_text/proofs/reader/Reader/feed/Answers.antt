use Rattle.std.proofs.Common.{◌+◌, arith}
use Rattle.scenario_text.proofs.ReaderLemmas.{line_is, same_line, done_line, bad_line}
use Rattle.scenario_text.proofs.SpentLemmas.{line_len, same_needs_line, spent_done, spent_bad}
use Rattle.scenario_text.proofs.reader.Reader.feed.Goals as goal

pub returns-in-Ok-true-clause-fed : goal.returns-in-Ok-true-clause-fed
returns-in-Ok-true-clause-fed c =
    let fed = rw c.in-Ok-true.field-0-test at c.in-Ok-true.ensures.fed in
    done_line c.args.self.now c.loop-len.self c.end_line.new.self c.args.piece.now _ c.loop-len.from (c.loop-len.from + (c.in-Some.len + 1))
    (line_is c.args.piece.now c.loop-len.from c.in-Some.len c.in-Some.ensures.some) c.loop-len.invariant.same fed

pub returns-in-Ok-true-clause-spent : goal.returns-in-Ok-true-clause-spent
returns-in-Ok-true-clause-spent c =
    let spent = rw c.in-Ok-true.field-0-test at c.in-Ok-true.ensures.spent in
    let here = c.in-Some.ensures.some in
    let len = line_len c.args.piece.now c.loop-len.from c.in-Some.len here in
    spent_done c.args.self.now c.loop-len.self c.end_line.new.self c.args.piece.now _ c.loop-len.from (c.loop-len.from + (c.in-Some.len + 1))
    (line_is c.args.piece.now c.loop-len.from c.in-Some.len here)
    (omega (arith, len)) (omega (arith, here.within)) c.loop-len.invariant.needs spent

pub returns-in-Err-clause-fed : goal.returns-in-Err-clause-fed
returns-in-Err-clause-fed c =
    bad_line c.args.self.now c.loop-len.self c.end_line.new.self c.args.piece.now _ c.loop-len.from (c.loop-len.from + (c.in-Some.len + 1)) c.in-Err.e
    (line_is c.args.piece.now c.loop-len.from c.in-Some.len c.in-Some.ensures.some) c.loop-len.invariant.same c.in-Err.ensures.fed

pub returns-in-Err-clause-spent : goal.returns-in-Err-clause-spent
returns-in-Err-clause-spent c =
    let here = c.in-Some.ensures.some in
    let len = line_len c.args.piece.now c.loop-len.from c.in-Some.len here in
    spent_bad c.args.self.now c.loop-len.self c.end_line.new.self c.args.piece.now _ c.loop-len.from (c.loop-len.from + (c.in-Some.len + 1)) c.in-Err.e
    (line_is c.args.piece.now c.loop-len.from c.in-Some.len here)
    (omega (arith, len)) (omega (arith, here.within)) c.loop-len.invariant.needs c.in-Err.ensures.spent

pub loop-len-preserved : goal.loop-len-preserved
loop-len-preserved c =
    let fed = rw c.in-Ok-false.field-0-test at c.in-Ok-false.ensures.fed in
    let spent = rw c.in-Ok-false.field-0-test at c.in-Ok-false.ensures.spent in
    let printed_len = rw c.in-Ok-false.field-0-test at c.in-Ok-false.ensures.printed_len in
    let here = c.in-Some.ensures.some in
    let line = line_is c.args.piece.now c.loop-len.from c.in-Some.len here in
    let len = line_len c.args.piece.now c.loop-len.from c.in-Some.len here in
    record {
      within = omega (arith, here.within);
      same = same_line c.args.self.now c.loop-len.self c.end_line.new.self c.args.piece.now _ c.loop-len.from
          (c.loop-len.from + (c.in-Some.len + 1)) line c.loop-len.invariant.same fed;
      needs = same_needs_line c.args.self.now c.loop-len.self c.end_line.new.self c.args.piece.now _ c.loop-len.from
          (c.loop-len.from + (c.in-Some.len + 1)) line (omega (arith, len)) c.loop-len.invariant.needs spent;
      reader = c.in-Ok-false.ensures.reader;
      printed_len = omega (arith, printed_len, c.loop-len.invariant.printed_len);
      short = omega (arith, c.end_line.ensures.short, c.loop-len.invariant.short);
    }
