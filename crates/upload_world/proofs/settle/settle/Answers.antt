use Rattle.std.proofs.Common.{◌≡◌, ◌+◌, refl, sym, ap, subst, ◌∙◌, List, length, take}
use Rattle.sketchlet_wire.specs.Uploads.{UploadData}
use Rattle.uploader_core.specs.Uploader.{UploaderState}
use Rattle.link_deliveries.specs.Deliveries.{Delivery}
use Rattle.shared_book.specs.Passes.{ServesEach}
use Rattle.upload_world.specs.Pumping.{Went, dues}
use Rattle.upload_world.proofs.Chains.{went_none}
use Rattle.upload_world.proofs.Delivered.{no_memory}
use Rattle.upload_world.proofs.Steady.{steady_acknowledged}
use Rattle.upload_world.proofs.Dues.{no_due}
use Rattle.upload_world.proofs.Turns.{begins, goes_on, fails, answered_all}
use Rattle.upload_world.proofs.settle.settle.Goals as goal

pub returns-then-is_empty-clause-outcome : goal.returns-then-is_empty-clause-outcome
returns-then-is_empty-clause-outcome g c =
    let a = c.args in
    subst (λ (l : List Delivery). Went a.book.now.first.shape a.book.now.first.room a.uploader.now.uploads l a.pass.now.view a.pass.now.view
    a.uploader.now.states a.uploader.now.states) (sym (no_due a.due.now c.is_empty.result c.is_empty.ensures c.if-is_empty.true))
    (went_none a.book.now.first.shape a.book.now.first.room a.uploader.now.uploads a.pass.now.view a.uploader.now.states a.uploader.now.states refl)

pub returns-in_err-answers-clause-outcome : goal.returns-in_err-answers-clause-outcome
returns-in_err-answers-clause-outcome g c =
    let a = c.args in
    no_memory a.book.now.first.shape a.book.now.first.room a.uploader.now.uploads (dues a.due.now) a.pass.now.view c.apply_each.new.pass.view
    a.uploader.now.states a.uploader.now.states c.from_residual.result c.in_err-answers.ensures.none c.from_residual.ensures.1 refl c.requires.steady.none

pub answers-init : goal.answers-init
answers-init g c =
    let a = c.args in
    record {
      same = record { host = refl; uploads = refl };
      steady = c.requires.steady;
      between = begins a.book.now.first.shape a.book.now.first.room a.uploader.now.uploads a.uploader.now.host a.due.now c.deref-answer-items.result.now
          a.pass.now.view c.apply_each.new.pass.view a.uploader.now.states
          (subst (λ l. ServesEach a.book.now.first.shape a.book.now.first.room a.due.now.uploads.items a.pass.now.view c.apply_each.new.pass.view l)
          (sym c.deref-answer-items.ensures.value)
          (subst (λ (l : List UploadData). ServesEach a.book.now.first.shape a.book.now.first.room l a.pass.now.view c.apply_each.new.pass.view
          c.in_ok-answers.answers.items) c.deref.ensures.value c.in_ok-answers.ensures.serves));
    }

pub returns-in_err-outcome-clause-outcome : goal.returns-in_err-outcome-clause-outcome
returns-in_err-outcome-clause-outcome g c =
    let a = c.args in
    let l = c.answers in
    fails a.book.now.first.shape a.book.now.first.room a.uploader.now.uploads a.uploader.now.host a.due.now c.deref-answer-items.result.now
    a.pass.now.view c.apply_each.new.pass.view a.uploader.now.states
    l.at l.uploader.host l.uploader.states c.hand_on.new.uploader.states c.index-coming.result.now c.index.result.now c.answer-item.result
    c.in_err-outcome.field-0.0 c.from_residual-in_err-outcome.result
    c.requires.due (l.invariant.steady.each ∙ ap length l.invariant.same.uploads) l.invariant.steady.none
    (record {
      short = c.answers-test.true;
      coming = c.index-coming.ensures;
      upload = c.index.ensures;
      answer = c.answer-item.is;
      host_is = l.invariant.same.host;
      states = ap (λ (u : UploaderState). u.states) c.hand_on.ensures;
    })
    c.in_err-outcome.ensures c.from_residual-in_err-outcome.ensures.1 l.invariant.between

pub answers-preserved : goal.answers-preserved
answers-preserved g c =
    let a = c.args in
    let l = c.answers in
    let uploads : c.hand_on.new.uploader.uploads ≡ a.uploader.now.uploads
    = ap (λ (u : UploaderState). u.uploads) c.hand_on.ensures ∙ l.invariant.same.uploads in
    let next = goes_on a.book.now.first.shape a.book.now.first.room a.uploader.now.uploads a.uploader.now.host a.due.now c.deref-answer-items.result.now
    a.pass.now.view c.apply_each.new.pass.view a.uploader.now.states
    l.at l.uploader.host l.uploader.states c.hand_on.new.uploader.states c.index-coming.result.now c.index.result.now c.answer-item.result
    c.requires.due (l.invariant.steady.each ∙ ap length l.invariant.same.uploads) l.invariant.steady.none
    (record {
      short = c.answers-test.true;
      coming = c.index-coming.ensures;
      upload = c.index.ensures;
      answer = c.answer-item.is;
      host_is = l.invariant.same.host;
      states = ap (λ (u : UploaderState). u.states) c.hand_on.ensures;
    })
    c.in_ok-outcome.ensures l.invariant.between in
    record {
      same = record { host = ap (λ (u : UploaderState). u.host) c.hand_on.ensures ∙ l.invariant.same.host; uploads = uploads };
      steady = steady_acknowledged a.uploader.now c.hand_on.new.uploader (take (l.at + 1) (dues a.due.now)) c.requires.steady uploads next.states;
      between = next;
    }

pub returns-clause-states : goal.returns-clause-states
returns-clause-states g c =
    let a = c.args in
    let l = c.answers in
    (answered_all a.book.now.first.shape a.book.now.first.room a.uploader.now.uploads a.uploader.now.host a.due.now c.deref-answer-items.result.now
    a.pass.now.view c.apply_each.new.pass.view a.uploader.now.states
    l.at l.uploader.states c.requires.due c.answers-test.false l.invariant.between).1

pub returns-clause-outcome : goal.returns-clause-outcome
returns-clause-outcome g c =
    let a = c.args in
    let l = c.answers in
    (answered_all a.book.now.first.shape a.book.now.first.room a.uploader.now.uploads a.uploader.now.host a.due.now c.deref-answer-items.result.now
    a.pass.now.view c.apply_each.new.pass.view a.uploader.now.states
    l.at l.uploader.states c.requires.due c.answers-test.false l.invariant.between).0
