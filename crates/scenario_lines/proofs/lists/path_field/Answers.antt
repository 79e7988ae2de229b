use Rattle.std.proofs.Common.{arith, length, length-append, ℕ, List, ◌<◌, ◌∷◌, [], ap, ◌∙◌}
use Rattle.std.specs.Option.{option_copied}
use Rattle.std.proofs.lemmas.List.Elements.{All-push}
use Rattle.std.proofs.lemmas.Result.{err_from_is_err_and}
use Rattle.flow_key.specs.Words.{words_left}
use Rattle.scenario_lines.specs.Spelling.{size, path_words}
use Rattle.scenario_lines.specs.Fields.{path}
use Rattle.scenario_lines.proofs.NameLemmas.{apart_push}
use Rattle.scenario_lines.proofs.PathLemmas.{path_more, path_bad}
use Rattle.scenario_lines.proofs.SizeLemmas.{hop_more}
use Rattle.scenario_lines.proofs.lists.path_field.Goals as goal

pub returns-in_err-at-clause-gives : goal.returns-in_err-at-clause-gives
returns-in_err-at-clause-gives c =
    let p = err_from_is_err_and c.from_residual.result c.from_residual.ensures.1 in
    rw (p.1, p.2) (path_bad c.in_err-at.field-0.0 c.args.switches.now c.loop-left.hops.items c.cut.result.0.now
    (words_left 32 (option_copied c.cut.result.1)) (words_left 32 (option_copied c.loop-left.left))
    (path c.args.switches.now [] (words_left 32 (option_copied c.args.text))) (ap (λ o. words_left 32 (option_copied o)) c.in-Some.is ∙ c.cut.ensures)
    (rw c.deref.ensures.value at c.in_err-at.ensures.gives) c.loop-left.invariant.same)

pub loop-left-preserved : goal.loop-left-preserved
loop-left-preserved c = record {
  same = rw c.in_ok-push.ensures.items
      (path_more c.args.switches.now c.loop-left.hops.items c.cut.result.0.now (words_left 32 (option_copied c.cut.result.1))
      (words_left 32 (option_copied c.loop-left.left)) c.in_ok-at.at (path c.args.switches.now [] (words_left 32 (option_copied c.args.text)))
      (ap (λ o. words_left 32 (option_copied o)) c.in-Some.is ∙ c.cut.ensures)
      (rw c.deref.ensures.value at c.in_ok-at.ensures.gives) c.loop-left.invariant.same);
  short = omega (
    arith,
    ap length c.in_ok-push.ensures.items,
    length-append c.loop-left.hops.items (c.in_ok-at.at ∷ []),
    rw c.deref.ensures.value at c.in_ok-at.ensures.fits,
  );
  bound = rw c.in_ok-push.ensures.items
      (All-push (λ at. at < length c.args.switches.now) c.loop-left.hops.items c.in_ok-at.at c.loop-left.invariant.bound c.in_ok-at.ensures.bound);
  once = rw c.in_ok-push.ensures.items
      (apart_push c.loop-left.hops.items c.in_ok-at.at c.loop-left.invariant.once (rw c.deref.ensures.value at c.in_ok-at.ensures.fresh));
  taken =
      let hops = ap (λ (at : List ℕ). size (path_words c.args.switches.now at)) c.in_ok-push.ensures.items in
      let words = ap (λ o. size (words_left 32 (option_copied o))) c.in-Some.is ∙ ap size c.cut.ensures in
      omega (
        arith,
        hops,
        hop_more c.args.switches.now c.loop-left.hops.items c.in_ok-at.at,
        words,
        ap length c.in_ok-at.ensures.spelled,
        c.loop-left.invariant.taken,
      );
}
