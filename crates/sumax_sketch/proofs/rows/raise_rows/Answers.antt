use Rattle.std.proofs.Common.{◌≡◌, ◌≢◌, ◌<◌, ◌≤◌, ◌∙◌, [], length, arith, le_refl, length-set, get_or-set_other, get_or-set_same, below_more, slice_index_or}
use Rattle.std.specs.Prelude.{slice_index}
use Rattle.std.proofs.lemmas.List.{get_or_default}
use Rattle.lg_model.proofs.Raising.{row_of, step_at, raise_by_rows}
use Rattle.sumax_sketch.proofs.rows.raise_rows.Goals as goal

pub loop-i-preserved : goal.loop-i-preserved
loop-i-preserved c =
    let i = c.loop-i.i in
    let old = c.args.rows.now in
    let now = c.loop-i.rows in
    let held = c.loop-i.invariant in
    let inside : i < length old = omega arith in
    let within : i < length now = omega (arith, held.same_length) in
    let row = slice_index_or now i c.index-rows-i.result in
    let row_is : row ≡ row_of old i = get_or_default now i c.index-rows-i.result [] within ∙ held.rest i (le_refl i) in
    let step = step_at (slice_index c.args.places.now) c.args.size c.args.delay old i c.row-place.result c.loop-i.running c.raise-running.result
    row c.raise-running.new.self inside c.row-place.ensures row_is held.running c.raise-running.ensures.least c.raise-running.ensures.row in
    record {
      same_length = length-set now i _ ∙ held.same_length;
      running = step.0;
      done = below_more _ _
          (λ k h. let other : k ≢ i = omega arith in rw get_or-set_other (held.done k h))
          (rw get_or-set_same step.1);
      rest = λ k h. let other : k ≢ i = omega arith in let later : i ≤ k = omega arith in rw get_or-set_other (held.rest k later);
    }

pub returns : goal.returns
returns c =
    let held = c.loop-i.invariant in
    raise_by_rows (slice_index c.args.places.now) c.args.size c.args.delay c.args.rows.now c.loop-i.rows held.same_length
    (λ k h. let in_loop : k < c.loop-i.i = omega arith in held.done k in_loop)
