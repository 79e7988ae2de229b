use Rattle.std.proofs.Common.{eqb, arith, ap}
use Rattle.std.proofs.lemmas.Result.{on_ok_weaker}
use Rattle.scenario_lines.specs.Spelling.{size}
use Rattle.scenario_lines.proofs.WeightLemmas.{words_size, first_most}
use Rattle.scenario_lines.proofs.draft.Draft.words.Goals as goal

pub returns-clause-printed_len : goal.returns-clause-printed_len
returns-clause-printed_len c = on_ok_weaker c.form.result
    (λ less. omega (
      arith,
      less,
      first_most c.of.result c.cut.result.0.now c.of.ensures.taken,
      words_size (λ b. eqb b 32) c.args.line.now,
      ap size c.cut.ensures,
    )) c.form.ensures.printed_len
