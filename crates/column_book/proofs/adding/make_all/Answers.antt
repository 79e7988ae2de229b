use Rattle.std.specs.Prelude.{◌++◌, ◌∷◌, [], take}
use Rattle.std.specs.List.{AllByRecursion}
use Rattle.std.proofs.Common.{sym, ap, ◌∙◌, subst}
use Rattle.lg_model.specs.declared.column.Key.{Key}
use Rattle.column_book.specs.declared.block.Spot.{Spot}
use Rattle.column_book.specs.Blocks.{spot, IsMade}
use Rattle.column_book.specs.Kept.{keys_of}
use Rattle.column_book.proofs.Grown.{all_made, made_push, keys_more}
use Rattle.column_book.proofs.adding.make_all.Goals as goal

pub returns-in_err-make_next-clause-made : goal.returns-in_err-make_next-clause-made
returns-in_err-make_next-clause-made c = all_made c.loop-column.blocks.map.entries c.make_next.new.blocks.map.entries c.loop-column.ready.items c.in_err-make_next.ensures.stays c.loop-column.invariant.made

pub loop-column-preserved : goal.loop-column-preserved
loop-column-preserved c =
    let h = c.loop-column.invariant in
    let es = c.make_next.new.blocks.map.entries in
    let k = c.key-key.result in
    let items = c.push_reserved.ensures.items in
    record {
      last = c.in_ok-make_next.ensures.made;
      kept = λ q. c.in_ok-make_next.ensures.kept q ∙ h.kept q;
      made = subst (λ ks. AllByRecursion (λ (q : Key). IsMade es (spot q)) ks) (sym items)
          (made_push es c.loop-column.ready.items k (all_made c.loop-column.blocks.map.entries es c.loop-column.ready.items c.in_ok-make_next.ensures.stays h.made) (subst (λ (s : Spot). IsMade es s) c.spot_of-spot.ensures c.in_ok-make_next.ensures.made));
      all = items ∙ ap (λ ks. ks ++ k ∷ []) h.all ∙ ap (λ (q : Key). keys_of (take c.loop-column.column-index c.args.columns.now) ++ q ∷ []) c.key-key.ensures.value ∙ sym (keys_more c.args.columns.now c.loop-column.column-index c.column-item.result c.loop-column-test.true c.column-item.is);
      room = c.push_reserved.ensures.capacity ∙ h.room;
    }
