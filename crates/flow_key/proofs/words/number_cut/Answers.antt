use Rattle.std.proofs.Common.{◌≡◌, ◌∷◌, ◌≤◌, ℕ, List, [], Some, get_or, take, arith, ap, ◌∙◌}
use Rattle.std.proofs.lemmas.List.{drop-drop}
use Rattle.flow_key.specs.Words.{words_at, first_word, number_to}
use Rattle.flow_key.proofs.KeyLemmas.{number_is}
use Rattle.flow_key.proofs.FrontLemmas.{worthless, empty_front, zero_front, front_number, split_here, split_end, front_some, no_front}
use Rattle.flow_key.proofs.words.number_cut.Goals.{else-text-eq48-via-then-text-eq48+else-count-gt1, else-text-eq48-via-else-text-eq48}
use Rattle.flow_key.proofs.words.number_cut.Goals as goal

pub returns-in_default-clause-value : goal.returns-in_default-clause-value
returns-in_default-clause-value c =
    no_front c.args.at c.args.most c.args.text.now (worthless c.args.most (first_word c.args.at c.args.text.now) c.in_default.ensures.value)

pub returns-then-count-eq0-clause-value : goal.returns-then-count-eq0-clause-value
returns-then-count-eq0-clause-value c = empty_front c.args.at c.args.most c.args.text.now c.in-Some.count c.in-Some.ensures.ends c.if-count-eq0.true

pub returns-then-count-gt1-clause-value : goal.returns-then-count-gt1-clause-value
returns-then-count-gt1-clause-value c =
    zero_front c.args.at c.args.most c.args.text.now c.in-Some.count c.in-Some.ensures.ends c.if-text-eq48.true c.if-count-gt1.true

the_number_at_the_end : (c : goal.Then-count-text) → number_to c.args.most (take c.in-Some.count c.args.text.now) ≡ Some c.in-Some.n
the_number_at_the_end c =
    let one : get_or c.args.text.now 0 0 ≡ 48 → c.in-Some.count ≤ 1 = λ z. elim c.else-text-eq48.branch [
      | else-text-eq48-via-then-text-eq48+else-count-gt1 w ↦ omega (arith, w.if-count-gt1.false)
      | else-text-eq48-via-else-text-eq48 w ↦ absurd (w.if-text-eq48.false z)
    ] in
    front_number c.args.at c.args.most c.args.text.now c.in-Some.count c.in-Some.n c.in-Some.ensures.ends (grind arith) one c.in-Some.ensures.value

the_end : (c : goal.Then-count-text) → words_at c.args.at c.args.text.now ≡ take c.in-Some.count c.args.text.now ∷ []
the_end c = split_end c.args.at c.args.text.now c.in-Some.count c.in-Some.ensures.ends (omega (arith, c.if-count-text.true))

pub returns-then-count-text-clause-value : goal.returns-then-count-text-clause-value
returns-then-count-text-clause-value c =
    front_some c.args.most (take c.in-Some.count c.args.text.now) c.in-Some.n (words_at c.args.at c.args.text.now) [] (the_end c) (the_number_at_the_end c)

pub returns-then-count-text-clause-spelled : goal.returns-then-count-text-clause-spelled
returns-then-count-text-clause-spelled c =
    let is = number_is c.args.most (take c.in-Some.count c.args.text.now) c.in-Some.n (omega arith) (the_number_at_the_end c) in
    the_end c ∙ ap (λ (w : List ℕ). w ∷ []) is.0

the_number : (c : goal.After-rest-2-1) → number_to c.args.most (take c.in-Some.count c.args.text.now) ≡ Some c.in-Some.n
the_number c =
    let one : get_or c.args.text.now 0 0 ≡ 48 → c.in-Some.count ≤ 1 = λ z. elim c.else-text-eq48.branch [
      | else-text-eq48-via-then-text-eq48+else-count-gt1 w ↦ omega (arith, w.if-count-gt1.false)
      | else-text-eq48-via-else-text-eq48 w ↦ absurd (w.if-text-eq48.false z)
    ] in
    front_number c.args.at c.args.most c.args.text.now c.in-Some.count c.in-Some.n c.in-Some.ensures.ends (grind arith) one c.in-Some.ensures.value

the_rest : (c : goal.After-rest-2-1) → words_at c.args.at c.args.text.now ≡ take c.in-Some.count c.args.text.now ∷ words_at c.args.at c.split_at-2.result.1.now
the_rest c =
    let e = split_here c.args.at c.args.text.now c.in-Some.count c.in-Some.ensures.ends (grind arith) in
    rw (c.split_at-2.ensures.back, c.split_at.ensures.back, drop-drop 1 c.in-Some.count c.args.text.now) e

pub returns-clause-value : goal.returns-clause-value
returns-clause-value c =
    front_some c.args.most (take c.in-Some.count c.args.text.now)
    c.in-Some.n (words_at c.args.at c.args.text.now) (words_at c.args.at c.split_at-2.result.1.now) (the_rest c) (the_number c)

pub returns-clause-spelled : goal.returns-clause-spelled
returns-clause-spelled c =
    let is = number_is c.args.most (take c.in-Some.count c.args.text.now) c.in-Some.n (omega arith) (the_number c) in
    the_rest c ∙ ap (λ (w : List ℕ). w ∷ words_at c.args.at c.split_at-2.result.1.now) is.0
