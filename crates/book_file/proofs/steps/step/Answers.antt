use Rattle.std.proofs.Common.{◌≡◌, ◌++◌, ℕ, List, length, sym, subst}
use Rattle.column_book.specs.Entries.{records}
use Rattle.book_file.specs.declared.stage.Stage.{Stage}
use Rattle.book_file.specs.File.{front}
use Rattle.book_file.specs.Walk.{Waits, Steps, needed}
use Rattle.book_file.proofs.Stepping.{one_byte}
use Rattle.book_file.proofs.steps.step.Goals as goal

pub returns-in-Head : goal.returns-in-Head
returns-in-Head c = λ read waits.
    let a = c.args in
    let rest = c.args.rest.now in
    let e = subst (λ (s : Stage). Waits c.args.terms.asked c.args.terms.room c.args.terms.len c.args.gate s rest read) c.in-Head.is waits in
    subst (λ (l : List ℕ). Steps c.args.terms.asked c.args.terms.room c.args.terms.len c.args.gate c.after_head.result rest l) (sym e)
    (c.after_head.ensures c.args.gate)

pub returns-in-Gate : goal.returns-in-Gate
returns-in-Gate c = λ read waits.
    let rest = c.args.rest.now in
    let b = c.in-Gate.book in
    let w = subst (λ (s : Stage). Waits c.args.terms.asked c.args.terms.room c.args.terms.len c.args.gate s rest read) c.in-Gate.is waits in
    let size = subst (λ (s : Stage). length rest ≡ needed s rest) c.in-Gate.is c.requires.whole in
    let one = one_byte rest size in
    subst (λ (l : List ℕ). Steps c.args.terms.asked c.args.terms.room c.args.terms.len c.args.gate c.after_gate.result rest l) (sym w.1)
    (subst (λ (l : List ℕ). Steps c.args.terms.asked c.args.terms.room c.args.terms.len c.args.gate c.after_gate.result l
    (front b.shape (records b.entries) ++ l)) (sym one)
    (c.after_gate.ensures c.args.terms.asked c.args.terms.room c.args.terms.len w.0))

pub returns-in-Lead : goal.returns-in-Lead
returns-in-Lead c = λ read waits.
    let rest = c.args.rest.now in
    let w = subst (λ (s : Stage). Waits c.args.terms.asked c.args.terms.room c.args.terms.len c.args.gate s rest read) c.in-Lead.is waits in
    subst (λ (l : List ℕ). Steps c.args.terms.asked c.args.terms.room c.args.terms.len c.args.gate c.after_lead.result rest l) (sym w.1)
    (c.after_lead.ensures c.args.terms.asked c.args.terms.room c.args.terms.len w.0)

pub returns-in-Body : goal.returns-in-Body
returns-in-Body c = λ read waits.
    let rest = c.args.rest.now in
    let w = subst (λ (s : Stage). Waits c.args.terms.asked c.args.terms.room c.args.terms.len c.args.gate s rest read) c.in-Body.is waits in
    subst (λ (l : List ℕ). Steps c.args.terms.asked c.args.terms.room c.args.terms.len c.args.gate c.after_body.result rest l) (sym w.1)
    (c.after_body.ensures c.args.terms.asked c.args.terms.room c.args.terms.len w.0)
