use Rattle.std.specs.Prelude.{◌≡◌, Some, is_some, Box}
use Rattle.std.specs.Global.{Global}
use Rattle.std.proofs.Common.{sym, ap, subst}
use Rattle.std.specs.Box.{with_value}
use Rattle.column_book.specs.declared.block.Block.{Block}
use Rattle.column_book.specs.declared.block.Spot.{Spot}
use Rattle.column_book.proofs.Shelves.{IsUpdated, made_stays, kept_put, at_spot}
use Rattle.column_book.proofs.blocks.Blocks.put.Goals as goal

pub returns-clause-put : goal.returns-clause-put
returns-clause-put c =
    let old = c.args.self.now.map.entries in
    let b : Box Block Global = c.in-Some.block.now in
    let w : Box Block Global = with_value b c.put.new.self in
    let new = (c.get_mut.follows.lender w).entries in
    let had : Some b ≡ at_spot old c.spot_of.result = c.in-Some.ensures.value in
    let up : IsUpdated old new c.spot_of.result w = record { at = ((c.get_mut.follows.holds w).3 (ap is_some (sym had))).0 } in
    kept_put old new c.args.key.now b w c.args.buckets.now c.put.result (subst (λ (s : Spot). IsUpdated old new s w) c.spot_of.ensures up)
    (subst (λ (s : Spot). at_spot old s ≡ Some b) c.spot_of.ensures (sym had)) (rw (← c.deref_mut-block.ensures.value) c.put.ensures.put)

pub returns-clause-stays : goal.returns-clause-stays
returns-clause-stays c =
    let old = c.args.self.now.map.entries in
    let b : Box Block Global = c.in-Some.block.now in
    let w : Box Block Global = with_value b c.put.new.self in
    let new = (c.get_mut.follows.lender w).entries in
    let had : Some b ≡ at_spot old c.spot_of.result = c.in-Some.ensures.value in
    made_stays old new c.spot_of.result w (record { at = ((c.get_mut.follows.holds w).3 (ap is_some (sym had))).0 })
