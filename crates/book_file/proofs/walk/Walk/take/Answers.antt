use Rattle.std.proofs.Common.{◌≡◌, ◌+◌, ◌≤◌, ◌<◌, ◌++◌, ◌∙◌, [], ℕ, List, true, false, not, length, refl, sym, ap, subst, arith}
use Rattle.std.specs.Result.{is_ok}
use Rattle.book_file.specs.declared.stage.Stage.{Stage}
use Rattle.book_file.specs.Walk.{WalkState, is_ended, needed, kept_after, gate_after}
use Rattle.book_file.proofs.Feeding.{from_view, walk_on, fed_ended, fed_starved, fed_waiting, fed_stepped, not_ended, kept_none, gate_stays}
use Rattle.book_file.proofs.Feeding.{kept_ok, kept_err}
use Rattle.book_file.proofs.walk.Walk.take.Goals as goal

pub invariant_of-self : goal.invariant_of-self
invariant_of-self c =
    let s = c.self.inside in
    let bytes = c.args.bytes.now in
    let inside : s.fed + length bytes ≤ s.terms.len =
    subst (λ (w : WalkState). w.fed + length bytes ≤ w.len) (sym c.self.view_is) c.requires.inside in
    let ended : is_ended s.stage ≡ true = ap is_ended c.in-Ended.is in
    walk_on _ _ bytes c.self.invariant
    (fed_ended s.terms.asked s.terms.room s.terms.len s.fed s.rest.items s.gate s.stage bytes inside ended)

pub invariant_of-self-then-is_err : goal.invariant_of-self-then-is_err
invariant_of-self-then-is_err c =
    let s = c.self.inside in
    let bytes = c.args.bytes.now in
    let inside : s.fed + length bytes ≤ s.terms.len =
    subst (λ (w : WalkState). w.fed + length bytes ≤ w.len) (sym c.self.view_is) c.requires.inside in
    let going : is_ended s.stage ≡ false = not_ended s.stage c.in_default.not-Ended in
    let new = c.extend_from_slice.new.self.items in
    let failed : is_ok c.extend_from_slice.result ≡ false = c.is_err.ensures.negation ∙ ap not c.if-is_err.true in
    let rest2 : new ≡ s.rest.items = kept_err c.extend_from_slice.result s.rest.items bytes new c.extend_from_slice.ensures.items failed in
    let few : length new ≤ 903 = omega (arith, ap length rest2, c.self.invariant.read.1.stands.few) in
    walk_on _ _ bytes c.self.invariant
    (fed_starved s.terms.asked s.terms.room s.terms.len s.fed s.rest.items s.gate s.stage bytes inside going new c.given_up.result few
    c.given_up.ensures)

pub invariant_of-self-then-len-needed_by : goal.invariant_of-self-then-len-needed_by
invariant_of-self-then-len-needed_by c =
    let s = c.self.inside in
    let bytes = c.args.bytes.now in
    let inside : s.fed + length bytes ≤ s.terms.len =
    subst (λ (w : WalkState). w.fed + length bytes ≤ w.len) (sym c.self.view_is) c.requires.inside in
    let going : is_ended s.stage ≡ false = not_ended s.stage c.in_default.not-Ended in
    let new = c.extend_from_slice.new.self.items in
    let ok : is_ok c.extend_from_slice.result ≡ true = c.is_err.ensures.negation ∙ ap not c.if-is_err.false in
    let rest2 : new ≡ s.rest.items ++ bytes =
    kept_ok c.extend_from_slice.result s.rest.items bytes new c.extend_from_slice.ensures.items ok in
    let lt : length new < needed s.stage new =
    subst (λ (l : List ℕ). length l < needed s.stage l) c.deref.ensures.value
    (omega (arith, c.if-len-needed_by.true, c.needed_by.ensures, c.len.ensures, c.deref.ensures.len)) in
    walk_on _ _ bytes c.self.invariant
    (fed_waiting s.terms.asked s.terms.room s.terms.len s.fed s.rest.items s.gate s.stage bytes inside going new rest2 lt)

pub invariant_of-self-in-Body : goal.invariant_of-self-in-Body
invariant_of-self-in-Body c =
    let s = c.self.inside in
    let bytes = c.args.bytes.now in
    let inside : s.fed + length bytes ≤ s.terms.len =
    subst (λ (w : WalkState). w.fed + length bytes ≤ w.len) (sym c.self.view_is) c.requires.inside in
    let going : is_ended s.stage ≡ false = not_ended s.stage c.in_default.not-Ended in
    let new = c.extend_from_slice.new.self.items in
    let ok : is_ok c.extend_from_slice.result ≡ true = c.is_err.ensures.negation ∙ ap not c.if-is_err.false in
    let rest2 : new ≡ s.rest.items ++ bytes =
    kept_ok c.extend_from_slice.result s.rest.items bytes new c.extend_from_slice.ensures.items ok in
    walk_on _ _ bytes c.self.invariant
    (fed_stepped s.terms.asked s.terms.room s.terms.len s.fed s.rest.items s.gate s.stage bytes inside going new new
    c.deref-2.result.now s.gate c.replace-stage.result c.step.result rest2 c.replace-stage.ensures.value c.deref-2.ensures.value
    c.step.ensures
    (subst (λ (x : Stage). new ≡ kept_after x new) (sym c.in-Body.is) refl)
    (subst (λ (x : Stage). s.gate ≡ gate_after x s.gate (s.fed + length bytes)) (sym c.in-Body.is) refl))

pub invariant_of-self-in-Gate : goal.invariant_of-self-in-Gate
invariant_of-self-in-Gate c =
    let s = c.self.inside in
    let bytes = c.args.bytes.now in
    let inside : s.fed + length bytes ≤ s.terms.len =
    subst (λ (w : WalkState). w.fed + length bytes ≤ w.len) (sym c.self.view_is) c.requires.inside in
    let going : is_ended s.stage ≡ false = not_ended s.stage c.in_default.not-Ended in
    let new = c.extend_from_slice.new.self.items in
    let ok : is_ok c.extend_from_slice.result ≡ true = c.is_err.ensures.negation ∙ ap not c.if-is_err.false in
    let rest2 : new ≡ s.rest.items ++ bytes =
    kept_ok c.extend_from_slice.result s.rest.items bytes new c.extend_from_slice.ensures.items ok in
    walk_on _ _ bytes c.self.invariant
    (fed_stepped s.terms.asked s.terms.room s.terms.len s.fed s.rest.items s.gate s.stage bytes inside going new c.clear.new.self.items
    c.deref-2.result.now (s.fed + length bytes) c.replace-stage.result c.step.result rest2 c.replace-stage.ensures.value
    c.deref-2.ensures.value c.step.ensures
    (c.clear.ensures.items ∙ subst (λ (x : Stage). [] ≡ kept_after x new) (sym c.in-Gate.is) refl)
    (subst (λ (x : Stage). s.fed + length bytes ≡ gate_after x s.gate (s.fed + length bytes)) (sym c.in-Gate.is) refl))

pub invariant_of-self-in_default-stage : goal.invariant_of-self-in_default-stage
invariant_of-self-in_default-stage c =
    let s = c.self.inside in
    let bytes = c.args.bytes.now in
    let inside : s.fed + length bytes ≤ s.terms.len =
    subst (λ (w : WalkState). w.fed + length bytes ≤ w.len) (sym c.self.view_is) c.requires.inside in
    let going : is_ended s.stage ≡ false = not_ended s.stage c.in_default.not-Ended in
    let new = c.extend_from_slice.new.self.items in
    let ok : is_ok c.extend_from_slice.result ≡ true = c.is_err.ensures.negation ∙ ap not c.if-is_err.false in
    let rest2 : new ≡ s.rest.items ++ bytes =
    kept_ok c.extend_from_slice.result s.rest.items bytes new c.extend_from_slice.ensures.items ok in
    walk_on _ _ bytes c.self.invariant
    (fed_stepped s.terms.asked s.terms.room s.terms.len s.fed s.rest.items s.gate s.stage bytes inside going new
    c.clear-in_default-stage.new.self.items c.deref-2.result.now s.gate c.replace-stage.result c.step.result rest2
    c.replace-stage.ensures.value c.deref-2.ensures.value c.step.ensures
    (c.clear-in_default-stage.ensures.items ∙ kept_none c.step.result new c.in_default-stage.not-Body)
    (gate_stays c.step.result s.gate (s.fed + length bytes) c.in_default-stage.not-Gate))

pub returns-in-Body : goal.returns-in-Body
returns-in-Body c =
    let s = c.self.inside in
    let bytes = c.args.bytes.now in
    let inside : s.fed + length bytes ≤ s.terms.len =
    subst (λ (w : WalkState). w.fed + length bytes ≤ w.len) (sym c.self.view_is) c.requires.inside in
    let going : is_ended s.stage ≡ false = not_ended s.stage c.in_default.not-Ended in
    let new = c.extend_from_slice.new.self.items in
    let ok : is_ok c.extend_from_slice.result ≡ true = c.is_err.ensures.negation ∙ ap not c.if-is_err.false in
    let rest2 : new ≡ s.rest.items ++ bytes =
    kept_ok c.extend_from_slice.result s.rest.items bytes new c.extend_from_slice.ensures.items ok in
    from_view _ _ _ bytes c.self.view_is
    (fed_stepped s.terms.asked s.terms.room s.terms.len s.fed s.rest.items s.gate s.stage bytes inside going new new
    c.deref-2.result.now s.gate c.replace-stage.result c.step.result rest2 c.replace-stage.ensures.value c.deref-2.ensures.value
    c.step.ensures
    (subst (λ (x : Stage). new ≡ kept_after x new) (sym c.in-Body.is) refl)
    (subst (λ (x : Stage). s.gate ≡ gate_after x s.gate (s.fed + length bytes)) (sym c.in-Body.is) refl))

pub returns-in-Gate : goal.returns-in-Gate
returns-in-Gate c =
    let s = c.self.inside in
    let bytes = c.args.bytes.now in
    let inside : s.fed + length bytes ≤ s.terms.len =
    subst (λ (w : WalkState). w.fed + length bytes ≤ w.len) (sym c.self.view_is) c.requires.inside in
    let going : is_ended s.stage ≡ false = not_ended s.stage c.in_default.not-Ended in
    let new = c.extend_from_slice.new.self.items in
    let ok : is_ok c.extend_from_slice.result ≡ true = c.is_err.ensures.negation ∙ ap not c.if-is_err.false in
    let rest2 : new ≡ s.rest.items ++ bytes =
    kept_ok c.extend_from_slice.result s.rest.items bytes new c.extend_from_slice.ensures.items ok in
    from_view _ _ _ bytes c.self.view_is
    (fed_stepped s.terms.asked s.terms.room s.terms.len s.fed s.rest.items s.gate s.stage bytes inside going new c.clear.new.self.items
    c.deref-2.result.now (s.fed + length bytes) c.replace-stage.result c.step.result rest2 c.replace-stage.ensures.value
    c.deref-2.ensures.value c.step.ensures
    (c.clear.ensures.items ∙ subst (λ (x : Stage). [] ≡ kept_after x new) (sym c.in-Gate.is) refl)
    (subst (λ (x : Stage). s.fed + length bytes ≡ gate_after x s.gate (s.fed + length bytes)) (sym c.in-Gate.is) refl))

pub returns-in_default-stage : goal.returns-in_default-stage
returns-in_default-stage c =
    let s = c.self.inside in
    let bytes = c.args.bytes.now in
    let inside : s.fed + length bytes ≤ s.terms.len =
    subst (λ (w : WalkState). w.fed + length bytes ≤ w.len) (sym c.self.view_is) c.requires.inside in
    let going : is_ended s.stage ≡ false = not_ended s.stage c.in_default.not-Ended in
    let new = c.extend_from_slice.new.self.items in
    let ok : is_ok c.extend_from_slice.result ≡ true = c.is_err.ensures.negation ∙ ap not c.if-is_err.false in
    let rest2 : new ≡ s.rest.items ++ bytes =
    kept_ok c.extend_from_slice.result s.rest.items bytes new c.extend_from_slice.ensures.items ok in
    from_view _ _ _ bytes c.self.view_is
    (fed_stepped s.terms.asked s.terms.room s.terms.len s.fed s.rest.items s.gate s.stage bytes inside going new
    c.clear-in_default-stage.new.self.items c.deref-2.result.now s.gate c.replace-stage.result c.step.result rest2
    c.replace-stage.ensures.value c.deref-2.ensures.value c.step.ensures
    (c.clear-in_default-stage.ensures.items ∙ kept_none c.step.result new c.in_default-stage.not-Body)
    (gate_stays c.step.result s.gate (s.fed + length bytes) c.in_default-stage.not-Gate))
