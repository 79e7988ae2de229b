use Rattle.std.proofs.Common.{◌≡◌, ◌∙◌, ◌<◌, refl, sym, ap, subst, drop, map, List, [], ◌++◌, length}
use Rattle.std.specs.Prelude.{All}
use Rattle.std.proofs.lemmas.List.Elements.{All-nil, All-same}
use Rattle.uploader_core.specs.declared.state.SeqState.{SeqState}
use Rattle.link_deliveries.specs.Deliveries.{Delivery, heard, acknowledge}
use Rattle.upload_world.specs.declared.deliver.Sent.{Sent}
use Rattle.upload_world.specs.declared.deliver.Due.{Due}
use Rattle.upload_world.specs.Pumping.{IsSent, IsDue, seqs, dues}
use Rattle.upload_world.proofs.Dues.{none_due, no_due, some_due, nothing_is_due, held_by, due_by}
use Rattle.upload_world.proofs.Sending.{sent_one, sent_none}
use Rattle.upload_world.proofs.Postponed.{fewer_settled}
use Rattle.upload_world.proofs.Rounding.{starts, sends, stays, settles, settle_fails, over, due_at_end, fails_at_end, ends, room_after, went_all}
use Rattle.upload_world.proofs.round.round.Goals as goal

pub sends-init : goal.sends-init
sends-init g c =
    let a = c.args in
    let u = a.uploader.now in
    record {
      book = refl;
      same = record { host = refl; uploads = refl };
      steady = c.requires.steady;
      held = All-same (IsSent u.host u.uploads) c.new-held.result.items [] c.new-held.ensures.items (All-nil (IsSent u.host u.uploads));
      due = nothing_is_due u.host u.uploads c.new-due.result c.new-due.ensures;
      stands = starts a.book.now.first.shape a.book.now.first.room u.uploads u.states (drop a.from a.letters.now) a.pass.now.view
          c.new-held.result.items (dues c.new-due.result) c.new-held.ensures.items (none_due c.new-due.result c.new-due.ensures) c.requires.left;
    }

pub sends-preserved-then-branch : goal.sends-preserved-then-branch
sends-preserved-then-branch g c =
    let a = c.args in
    let u = a.uploader.now in
    let l = c.sends in
    let n = c.send_next.new in
    let e = c.in_ok-send_next.ensures in
    let sent = sent_one l.uploader.host l.uploader.uploads c.letter_at-letter.result l.uploader.states n.uploader.states l.held.items n.held.items l.due n.due
    c.in_ok-send_next.field-0 c.if-branch.true e.sends in
    record {
      book = l.invariant.book;
      same = record { host = e.same.host ∙ l.invariant.same.host; uploads = e.same.uploads ∙ l.invariant.same.uploads };
      steady = e.steady;
      held = held_by l.uploader n.uploader n.held.items e.same sent.each;
      due = due_by l.uploader n.uploader n.due e.same sent.due;
      stands = sends a.book.now.first.shape a.book.now.first.room u.uploads u.states (drop a.from a.letters.now) a.pass.now.view
          l.uploader.host l.uploader.uploads l.uploader.states n.uploader.states l.held.items n.held.items l.due n.due (drop l.at a.letters.now)
          (drop c.place_after-at.result a.letters.now) l.pass.view c.letter_at-letter.result c.letter_at-letter.ensures c.place_after-at.ensures
          l.invariant.stands sent;
    }

pub sends-smaller : goal.sends-smaller
sends-smaller g c =
    let l = c.sends in
    let n = c.send_next.new in
    let none = sent_none l.uploader.host l.uploader.uploads c.letter_at-letter.result l.uploader.states n.uploader.states l.held.items n.held.items l.due n.due
    c.in_ok-send_next.field-0 c.if-branch.false c.in_ok-send_next.ensures.sends in
    let e = c.in_ok-settle.ensures in
    fewer_settled l.uploader.states c.settle.new.uploader.states (dues l.due) (dues c.settle.new.due)
    (subst (λ (d : Due). 0 < length (dues d)) none.due_is (some_due n.due c.is_empty.result c.is_empty.ensures c.if-is_empty.false))
    (none_due c.settle.new.due e.none)
    (e.states ∙ (ap (λ (x : List SeqState). acknowledge x (dues n.due)) none.states
    ∙ ap (λ (d : Due). acknowledge l.uploader.states (dues d)) none.due_is))

pub sends-preserved : goal.sends-preserved
sends-preserved g c =
    let a = c.args in
    let u = a.uploader.now in
    let l = c.sends in
    let n = c.send_next.new in
    let s = c.in_ok-send_next.ensures in
    let none = sent_none l.uploader.host l.uploader.uploads c.letter_at-letter.result l.uploader.states n.uploader.states l.held.items n.held.items l.due n.due
    c.in_ok-send_next.field-0 c.if-branch.false s.sends in
    let e = c.in_ok-settle.ensures in
    let t = c.settle.new in
    let uploads : n.uploader.uploads ≡ u.uploads = s.same.uploads ∙ l.invariant.same.uploads in
    record {
      book = e.book ∙ l.invariant.book;
      same = record { host = e.same.host ∙ (s.same.host ∙ l.invariant.same.host); uploads = e.same.uploads ∙ uploads };
      steady = e.steady;
      held = held_by n.uploader t.uploader n.held.items e.same (held_by l.uploader n.uploader n.held.items s.same
          (subst (All (IsSent l.uploader.host l.uploader.uploads)) (sym none.held_is) l.invariant.held));
      due = nothing_is_due t.uploader.host t.uploader.uploads t.due e.none;
      stands = settles a.book.now.first.shape a.book.now.first.room u.uploads u.states (drop a.from a.letters.now) a.pass.now.view
          n.uploader.uploads n.uploader.states t.uploader.states n.held.items (dues n.due) (dues t.due) (drop l.at a.letters.now) l.pass.view t.pass.view
          uploads (none_due t.due e.none) e.states e.outcome
          (stays a.book.now.first.shape a.book.now.first.room u.uploads u.states (drop a.from a.letters.now) a.pass.now.view
          l.uploader.states n.uploader.states l.held.items n.held.items l.due n.due (drop l.at a.letters.now) l.pass.view none l.invariant.stands);
    }

pub returns-in_err-settle-clause-outcome : goal.returns-in_err-settle-clause-outcome
returns-in_err-settle-clause-outcome g c =
    let a = c.args in
    let u = a.uploader.now in
    let l = c.sends in
    let n = c.send_next.new in
    let s = c.in_ok-send_next.ensures in
    let none = sent_none l.uploader.host l.uploader.uploads c.letter_at-letter.result l.uploader.states n.uploader.states l.held.items n.held.items l.due n.due
    c.in_ok-send_next.field-0 c.if-branch.false s.sends in
    settle_fails a.book.now.first.shape a.book.now.first.room u.uploads u.states (drop a.from a.letters.now) a.pass.now.view
    n.uploader.uploads n.uploader.states c.settle.new.uploader.states n.held.items (dues n.due) (drop l.at a.letters.now) l.pass.view c.settle.new.pass.view
    c.in_err-settle.field-0.0 c.from_residual-in_err-settle.result (s.same.uploads ∙ l.invariant.same.uploads) c.from_residual-in_err-settle.ensures.1
    c.in_err-settle.ensures.outcome
    (stays a.book.now.first.shape a.book.now.first.room u.uploads u.states (drop a.from a.letters.now) a.pass.now.view
    l.uploader.states n.uploader.states l.held.items n.held.items l.due n.due (drop l.at a.letters.now) l.pass.view none l.invariant.stands)

pub settle-requires-2-clause-due : goal.settle-requires-2-clause-due
settle-requires-2-clause-due g c =
    let a = c.args in
    let u = a.uploader.now in
    let l = c.sends in
    let n = c.send_next.new in
    let s = c.in_ok-send_next.ensures in
    let none = sent_none l.uploader.host l.uploader.uploads c.letter_at-letter.result l.uploader.states n.uploader.states l.held.items n.held.items l.due n.due
    c.in_ok-send_next.field-0 c.if-branch.false s.sends in
    let nothing = no_due n.due c.is_empty.result c.is_empty.ensures c.if-is_empty.true in
    let held = subst (All (IsSent l.uploader.host l.uploader.uploads)) (sym none.held_is) l.invariant.held in
    let due = subst (IsDue l.uploader.host l.uploader.uploads) (sym none.due_is) l.invariant.due in
    due_by l.uploader n.uploader c.release.new.due s.same (c.in_ok-release.ensures.due l.uploader.host l.uploader.uploads
    (subst (All (IsSent l.uploader.host l.uploader.uploads)) (sym c.deref.ensures.value) held) due)

pub returns-in_err-settle-2-clause-outcome : goal.returns-in_err-settle-2-clause-outcome
returns-in_err-settle-2-clause-outcome g c =
    let a = c.args in
    let u = a.uploader.now in
    let l = c.sends in
    let n = c.send_next.new in
    let s = c.in_ok-send_next.ensures in
    let none = sent_none l.uploader.host l.uploader.uploads c.letter_at-letter.result l.uploader.states n.uploader.states l.held.items n.held.items l.due n.due
    c.in_ok-send_next.field-0 c.if-branch.false s.sends in
    let nothing = no_due n.due c.is_empty.result c.is_empty.ensures c.if-is_empty.true in
    let last : dues c.release.new.due ≡ map heard (seqs n.held.items)
    = c.in_ok-release.ensures.dues ∙ (ap (λ (x : List Delivery). x ++ map heard (seqs c.deref.result.now)) nothing
    ∙ ap (λ (x : List Sent). map heard (seqs x)) c.deref.ensures.value) in
    let end = due_at_end a.book.now.first.shape a.book.now.first.room u.uploads u.states (drop a.from a.letters.now) a.pass.now.view
    n.uploader.states (map heard (seqs n.held.items)) (dues c.release.new.due) (drop l.at a.letters.now) l.pass.view last
    (over a.book.now.first.shape a.book.now.first.room u.uploads u.states (drop a.from a.letters.now) a.pass.now.view
    l.uploader.states n.uploader.states l.held.items n.held.items l.due n.due (drop l.at a.letters.now) l.pass.view none nothing l.invariant.stands) in
    fails_at_end a.book.now.first.shape a.book.now.first.room u.uploads u.states (drop a.from a.letters.now) a.pass.now.view
    n.uploader.uploads n.uploader.states c.settle-2.new.uploader.states (dues c.release.new.due) (drop l.at a.letters.now) l.pass.view
    c.settle-2.new.pass.view c.in_err-settle-2.field-0.0 c.from_residual-in_err-settle-2.result (s.same.uploads ∙ l.invariant.same.uploads)
    c.from_residual-in_err-settle-2.ensures.1 c.in_err-settle-2.ensures.outcome end

pub returns-clause-left : goal.returns-clause-left
returns-clause-left g c =
    let a = c.args in
    let u = a.uploader.now in
    let l = c.sends in
    let n = c.send_next.new in
    let s = c.in_ok-send_next.ensures in
    let none = sent_none l.uploader.host l.uploader.uploads c.letter_at-letter.result l.uploader.states n.uploader.states l.held.items n.held.items l.due n.due
    c.in_ok-send_next.field-0 c.if-branch.false s.sends in
    let nothing = no_due n.due c.is_empty.result c.is_empty.ensures c.if-is_empty.true in
    let last : dues c.release.new.due ≡ map heard (seqs n.held.items)
    = c.in_ok-release.ensures.dues ∙ (ap (λ (x : List Delivery). x ++ map heard (seqs c.deref.result.now)) nothing
    ∙ ap (λ (x : List Sent). map heard (seqs x)) c.deref.ensures.value) in
    let end = due_at_end a.book.now.first.shape a.book.now.first.room u.uploads u.states (drop a.from a.letters.now) a.pass.now.view
    n.uploader.states (map heard (seqs n.held.items)) (dues c.release.new.due) (drop l.at a.letters.now) l.pass.view last
    (over a.book.now.first.shape a.book.now.first.room u.uploads u.states (drop a.from a.letters.now) a.pass.now.view
    l.uploader.states n.uploader.states l.held.items n.held.items l.due n.due (drop l.at a.letters.now) l.pass.view none nothing l.invariant.stands) in
    room_after a.book.now.first.shape a.book.now.first.room u.uploads u.states (drop a.from a.letters.now) a.pass.now.view
    n.uploader.uploads n.uploader.states c.settle-2.new.uploader.states (dues c.release.new.due) (drop l.at a.letters.now) l.pass.view
    c.settle-2.new.pass.view c.in_ok-settle-2.ensures.states c.in_ok-settle-2.ensures.outcome end

pub returns-clause-ends : goal.returns-clause-ends
returns-clause-ends g c =
    let a = c.args in
    let u = a.uploader.now in
    let l = c.sends in
    let n = c.send_next.new in
    let s = c.in_ok-send_next.ensures in
    let none = sent_none l.uploader.host l.uploader.uploads c.letter_at-letter.result l.uploader.states n.uploader.states l.held.items n.held.items l.due n.due
    c.in_ok-send_next.field-0 c.if-branch.false s.sends in
    let nothing = no_due n.due c.is_empty.result c.is_empty.ensures c.if-is_empty.true in
    let last : dues c.release.new.due ≡ map heard (seqs n.held.items)
    = c.in_ok-release.ensures.dues ∙ (ap (λ (x : List Delivery). x ++ map heard (seqs c.deref.result.now)) nothing
    ∙ ap (λ (x : List Sent). map heard (seqs x)) c.deref.ensures.value) in
    let end = due_at_end a.book.now.first.shape a.book.now.first.room u.uploads u.states (drop a.from a.letters.now) a.pass.now.view
    n.uploader.states (map heard (seqs n.held.items)) (dues c.release.new.due) (drop l.at a.letters.now) l.pass.view last
    (over a.book.now.first.shape a.book.now.first.room u.uploads u.states (drop a.from a.letters.now) a.pass.now.view
    l.uploader.states n.uploader.states l.held.items n.held.items l.due n.due (drop l.at a.letters.now) l.pass.view none nothing l.invariant.stands) in
    ends a.book.now.first.shape a.book.now.first.room u.uploads u.states (drop a.from a.letters.now) a.pass.now.view
    n.uploader.states c.settle-2.new.uploader.states (dues c.release.new.due) (drop l.at a.letters.now) l.pass.view c.in_ok-settle-2.ensures.states end

pub returns-clause-outcome : goal.returns-clause-outcome
returns-clause-outcome g c =
    let a = c.args in
    let u = a.uploader.now in
    let l = c.sends in
    let n = c.send_next.new in
    let s = c.in_ok-send_next.ensures in
    let none = sent_none l.uploader.host l.uploader.uploads c.letter_at-letter.result l.uploader.states n.uploader.states l.held.items n.held.items l.due n.due
    c.in_ok-send_next.field-0 c.if-branch.false s.sends in
    let nothing = no_due n.due c.is_empty.result c.is_empty.ensures c.if-is_empty.true in
    let last : dues c.release.new.due ≡ map heard (seqs n.held.items)
    = c.in_ok-release.ensures.dues ∙ (ap (λ (x : List Delivery). x ++ map heard (seqs c.deref.result.now)) nothing
    ∙ ap (λ (x : List Sent). map heard (seqs x)) c.deref.ensures.value) in
    let end = due_at_end a.book.now.first.shape a.book.now.first.room u.uploads u.states (drop a.from a.letters.now) a.pass.now.view
    n.uploader.states (map heard (seqs n.held.items)) (dues c.release.new.due) (drop l.at a.letters.now) l.pass.view last
    (over a.book.now.first.shape a.book.now.first.room u.uploads u.states (drop a.from a.letters.now) a.pass.now.view
    l.uploader.states n.uploader.states l.held.items n.held.items l.due n.due (drop l.at a.letters.now) l.pass.view none nothing l.invariant.stands) in
    went_all a.book.now.first.shape a.book.now.first.room u.uploads u.states (drop a.from a.letters.now) a.pass.now.view
    n.uploader.uploads n.uploader.states c.settle-2.new.uploader.states (dues c.release.new.due) (drop l.at a.letters.now) l.pass.view
    c.settle-2.new.pass.view (s.same.uploads ∙ l.invariant.same.uploads) c.in_ok-settle-2.ensures.outcome end
