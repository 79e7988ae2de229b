use Rattle.std.proofs.Common.{refl, arith}
use Rattle.flow_key.specs.Words.{number_to}
use Rattle.flow_key.proofs.FrontLemmas.{number_alone, none_alone, more_than_one}
use Rattle.flow_key.proofs.words.number_in.Goals as goal

pub returns-in-None-clause-value : goal.returns-in-None-clause-value
returns-in-None-clause-value c =
    none_alone c.args.most c.args.word.now (number_to c.args.most c.args.word.now) (omega arith) refl c.in-None.ensures.value

pub returns-in-Some-default-Some-clause-value : goal.returns-in-Some-default-Some-clause-value
returns-in-Some-default-Some-clause-value c =
    let rest = c.in-Some-default-Some.field-0-1-0.now in
    more_than_one c.args.most c.args.word.now rest c.in-Some-default-Some.field-0-0 (number_to c.args.most c.args.word.now)
    (omega arith) refl (rw c.in-Some-default-Some.field-0-1-is at c.in-Some-default-Some.ensures.value)

pub returns-in-Some-default-None-clause-value : goal.returns-in-Some-default-None-clause-value
returns-in-Some-default-None-clause-value c =
    let n = c.in-Some-default-None.n in
    number_alone c.args.most c.args.word.now n
    (omega arith) c.in-Some-default-None.ensures.bound (rw c.in-Some-default-None.field-0-1-is at c.in-Some-default-None.ensures.spelled)
