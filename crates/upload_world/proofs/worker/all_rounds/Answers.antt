use Rattle.std.proofs.Common.{◌≡◌, ◌∙◌, refl, sym, ap, drop}
use Rattle.uploader_core.specs.Uploader.{UploaderState}
use Rattle.upload_world.proofs.Whole.{steady_ticked, starts, goes, fewer, fails}
use Rattle.upload_world.proofs.worker.all_rounds.Goals as goal

pub rounds-init : goal.rounds-init
rounds-init g c =
    let a = c.args in
    record {
      book = refl;
      same = record { host = refl; uploads = refl };
      steady = c.requires.steady;
      stands = starts a.book.now.first.shape a.book.now.first.room a.uploader.now.uploads a.uploader.now.states a.letters.now a.pass.now.view c.requires.left;
    }

pub returns-in_err-at-clause-outcome : goal.returns-in_err-at-clause-outcome
returns-in_err-at-clause-outcome g c =
    let a = c.args in
    let l = c.rounds in
    fails a.book.now.first.shape a.book.now.first.room a.uploader.now.uploads a.uploader.now.states a.letters.now a.pass.now.view
    l.uploader.uploads l.uploader.states c.round.new.uploader.states
    (drop l.at a.letters.now) l.pass.view c.round.new.pass.view c.in_err-at.field-0.0 c.from_residual.result
    (sym c.done.ensures ∙ c.rounds-test.true) l.invariant.steady.none l.invariant.same.uploads c.from_residual.ensures.1 l.invariant.stands
    c.in_err-at.ensures.outcome

pub rounds-smaller : goal.rounds-smaller
rounds-smaller g c =
    let a = c.args in
    let l = c.rounds in
    fewer a.book.now.first.shape a.book.now.first.room a.uploader.now.uploads a.uploader.now.states a.letters.now a.pass.now.view
    l.uploader.states c.round.new.uploader.states c.tick.new.self.states (drop l.at a.letters.now) (drop c.in_ok-at.at a.letters.now)
    (sym c.done.ensures ∙ c.rounds-test.true) l.invariant.steady.none (ap (λ (u : UploaderState). u.states) c.tick.ensures) c.in_ok-at.ensures.ends

pub rounds-preserved : goal.rounds-preserved
rounds-preserved g c =
    let a = c.args in
    let l = c.rounds in
    let e = c.in_ok-at.ensures in
    let uploads : c.tick.new.self.uploads ≡ c.round.new.uploader.uploads = ap (λ (u : UploaderState). u.uploads) c.tick.ensures in
    record {
      book = e.book ∙ l.invariant.book;
      same = record {
        host = ap (λ (u : UploaderState). u.host) c.tick.ensures ∙ (e.same.host ∙ l.invariant.same.host);
        uploads = uploads ∙ (e.same.uploads ∙ l.invariant.same.uploads);
      };
      steady = steady_ticked c.round.new.uploader c.round.new.uploader c.tick.new.self e.steady refl c.tick.ensures;
      stands = goes a.book.now.first.shape a.book.now.first.room a.uploader.now.uploads a.uploader.now.states a.letters.now a.pass.now.view
          l.uploader.uploads l.uploader.states c.round.new.uploader.states c.tick.new.self.states (drop l.at a.letters.now)
          (drop c.in_ok-at.at a.letters.now) l.pass.view c.round.new.pass.view
          (sym c.done.ensures ∙ c.rounds-test.true) l.invariant.steady.none l.invariant.same.uploads
          (ap (λ (u : UploaderState). u.states) c.tick.ensures) l.invariant.stands e.ends e.outcome e.left;
    }
