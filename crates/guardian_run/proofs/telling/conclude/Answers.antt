use Rattle.std.proofs.Common.{subst}
use Rattle.guardian_run.specs.Sending.{IsFirstMet}
use Rattle.guardian_run.proofs.Told.{told_fault, told_stop, none_of}
use Rattle.guardian_run.proofs.telling.conclude.Goals as goal

pub stopped-requires-in-Err-Refused : goal.stopped-requires-in-Err-Refused
stopped-requires-in-Err-Refused g c =
    let none = none_of c.args.journal.now.fault c.is_broken.result c.is_broken.ensures.value c.if-is_broken.false in
    record {
      told = told_fault c.args.journal.now c.args.senders.now c.in-Err-Refused.field-0-0 c.in-Err-Refused.fault none c.requires.met
          (subst (λ f. IsFirstMet f c.args.senders.now) c.in-Err-Refused.field-0-is c.in-Err-Refused.ensures);
    }

pub returns-in-Err-Refused : goal.returns-in-Err-Refused
returns-in-Err-Refused g c =
    let none = none_of c.args.journal.now.fault c.is_broken.result c.is_broken.ensures.value c.if-is_broken.false in
    told_stop c.args.scenario.now c.args.journal.now c.args.senders.now c.in-Err-Refused.field-0-0 c.in-Err-Refused.fault c.stopped-in-Err-Refused.result none
    c.requires.met (subst (λ f. IsFirstMet f c.args.senders.now) c.in-Err-Refused.field-0-is c.in-Err-Refused.ensures) c.stopped-in-Err-Refused.ensures
