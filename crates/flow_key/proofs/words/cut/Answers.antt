use Rattle.std.proofs.Common.{eqb, sym}
use Rattle.std.proofs.lemmas.List.{drop-drop}
use Rattle.flow_key.proofs.WordLemmas.{split_some, split_none}
use Rattle.flow_key.proofs.words.cut.Goals as goal

pub returns-in-None : goal.returns-in-None
returns-in-None c = split_none (λ b. eqb b c.args.at) c.args.text.now (sym c.in-None.ensures)

pub returns-in-Some : goal.returns-in-Some
returns-in-Some c =
    let e = split_some (λ b. eqb b c.args.at) c.args.text.now c.in-Some.i (sym c.in-Some.ensures) in
    let d = drop-drop 1 c.in-Some.i c.args.text.now in
    rw (c.split_at.ensures.front, c.split_at-in-Some.ensures.back, c.split_at.ensures.back, d) e
