use Rattle.std.specs.Prelude.{◌≡◌, ◌+◌, ◌∷◌, [], true, cond, filter, take, length, None}
use Rattle.std.proofs.Common.{sym, ap, ◌∙◌, subst, arith}
use Rattle.lg_model.specs.Columns.{Column}
use Rattle.column_book.specs.Blocks.{kept_at, spot, IsMade}
use Rattle.column_book.specs.Kept.{is_free, IsGrown}
use Rattle.column_book.proofs.Grown.{grown_more, grown_again, free_still, passes_more, passes_not, passes_room, one_longer, grown_count}
use Rattle.column_book.proofs.Shelves.{made_here}
use Rattle.column_book.proofs.adding.put_new.Goals as goal
use Rattle.column_book.proofs.adding.put_new.Goals.{then-put_one, else-put_one}

pub put_one-requires-clause-made : goal.put_one-requires-clause-made
put_one-requires-clause-made c =
    let old = c.args.blocks.now.map.entries in
    let x = c.column-item.result in
    c.loop-column.invariant.grown.made (spot x.key) (made_here old x.key (subst (λ (y : Column). kept_at old y.key ≡ None → IsMade old (spot y.key)) (sym c.column-item.is) (c.requires.made c.loop-column.column-index x c.loop-column-test.true)))

pub put_one-requires-clause-room : goal.put_one-requires-clause-room
put_one-requires-clause-room c = λ now.
    let old = c.args.blocks.now.map.entries in
    let x = c.column-item.result in
    let i = c.loop-column.column-index in
    let cs = c.args.columns.now in
    let still = free_still old c.args.keys.now.items c.loop-column.blocks.map.entries c.loop-column.keys.items cs i x c.requires.known c.loop-column.invariant.grown c.loop-column-test.true c.column-item.is (c.requires.upload.apart i c.loop-column-test.true) in
    let free : is_free old x ≡ true = sym still ∙ now in
    let more = ap length (passes_more (is_free old) cs i x c.loop-column-test.true c.column-item.is free) in
    let longer = one_longer (filter (is_free old) (take i cs)) x in
    let few = passes_room (is_free old) cs (i + 1) in
    let count = grown_count old c.args.keys.now.items c.loop-column.blocks.map.entries c.loop-column.keys.items (filter (is_free old) (take i cs)) c.loop-column.invariant.grown in
    omega (arith, more, longer, few, count, c.requires.room, c.loop-column.invariant.room)

pub loop-column-preserved : goal.loop-column-preserved
loop-column-preserved c =
    let old = c.args.blocks.now.map.entries in
    let keys = c.args.keys.now.items in
    let x = c.column-item.result in
    let i = c.loop-column.column-index in
    let cs = c.args.columns.now in
    let h = c.loop-column.invariant in
    let es = c.loop-column.blocks.map.entries in
    let es' = c.put_one.new.blocks.map.entries in
    let keys' = c.put_one.new.keys.items in
    let still = free_still old keys es c.loop-column.keys.items cs i x c.requires.known h.grown c.loop-column-test.true c.column-item.is (c.requires.upload.apart i c.loop-column-test.true) in
    let told = sym still ∙ sym c.put_one.ensures.told in
    let room = c.put_one.ensures.capacity ∙ h.room in
    elim c.if-put_one.branch [
      | then-put_one w ↦
          let more = passes_more (is_free old) cs i x c.loop-column-test.true c.column-item.is (told ∙ w.if-put_one.true) in
          let longer = one_longer (filter (is_free old) (take i cs)) x in
          let count = ap length more in
          let one = subst (λ b. IsGrown es c.loop-column.keys.items es' keys' (cond b (x ∷ []) [])) w.if-put_one.true c.put_one.ensures.grown in
          record {
            grown = rw more (grown_more old keys es c.loop-column.keys.items es' keys' (filter (is_free old) (take i cs)) x h.grown one);
            room = room;
            count = omega (arith, count, longer, w.count-is, h.count);
            few = omega (arith, w.count-is, h.few);
          }
      | else-put_one w ↦
          let same = passes_not (is_free old) cs i x c.loop-column-test.true c.column-item.is (told ∙ w.if-put_one.false) in
          let none = subst (λ b. IsGrown es c.loop-column.keys.items es' keys' (cond b (x ∷ []) [])) w.if-put_one.false c.put_one.ensures.grown in
          record {
            grown = rw same (grown_again old keys es c.loop-column.keys.items es' keys' (filter (is_free old) (take i cs)) h.grown none);
            room = room;
            count = rw (w.count-is, same) h.count;
            few = omega (arith, w.count-is, h.few);
          }
    ]
