use Rattle.std.proofs.Common.{◌<◌, ℕ, List, ◌∷◌, [], arith, length, length-append, map, ap}
use Rattle.std.specs.Fmt.{decimal}
use Rattle.std.specs.Option.{option_copied}
use Rattle.std.proofs.lemmas.List.Elements.{All-push}
use Rattle.std.proofs.lemmas.Result.{err_from_is_err_and}
use Rattle.flow_key.specs.Words.{words_left}
use Rattle.scenario_lines.specs.Spelling.{size}
use Rattle.scenario_lines.specs.Fields.{delays}
use Rattle.scenario_lines.proofs.PathLemmas.{delays_more, delays_bad}
use Rattle.scenario_lines.proofs.SizeLemmas.{size_push}
use Rattle.scenario_lines.proofs.lists.delays_field.Goals as goal

pub returns-in_err-delay-clause-gives : goal.returns-in_err-delay-clause-gives
returns-in_err-delay-clause-gives c =
    let p = err_from_is_err_and c.from_residual-in_err-delay.result c.from_residual-in_err-delay.ensures.1 in
    rw (p.1, p.2) (delays_bad c.in_err-delay.field-0.0 c.args.path.now c.loop.index c.loop.delays.items (words_left 32 (option_copied c.loop.left))
    (delays c.args.path.now [] (words_left 32 (option_copied c.args.text))) c.loop-test.true c.in_err-delay.ensures.gives c.loop.invariant.same)

pub loop-preserved : goal.loop-preserved
loop-preserved c = record {
  same = rw c.push_reserved.ensures.items
      (delays_more c.args.path.now c.loop.index c.loop.delays.items (words_left 32 (option_copied c.loop.left))
      (c.in_ok-delay.delay, words_left 32 (option_copied c.in_ok-delay.rest))
      (delays c.args.path.now [] (words_left 32 (option_copied c.args.text))) c.loop-test.true c.in_ok-delay.ensures.gives c.loop.invariant.same);
  taken = omega (
    arith,
    ap (λ (ds : List ℕ). size (map decimal ds)) c.push_reserved.ensures.items,
    size_push c.loop.delays.items c.in_ok-delay.delay,
    c.in_ok-delay.ensures.taken,
  );
  count = omega (arith, ap length c.push_reserved.ensures.items, length-append c.loop.delays.items (c.in_ok-delay.delay ∷ []));
  room = omega arith;
  small = rw c.push_reserved.ensures.items
      (All-push (λ d. d < 4294967296) c.loop.delays.items c.in_ok-delay.delay c.loop.invariant.small (omega (arith, c.in_ok-delay.ensures.bound)));
}
