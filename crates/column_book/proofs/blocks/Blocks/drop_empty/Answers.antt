use Rattle.std.specs.Prelude.{◌≡◌, Some}
use Rattle.std.proofs.Common.{sym, ◌∙◌, subst}
use Rattle.std.proofs.lemmas.Bool.Decides.{Decides-eqb}
use Rattle.column_book.specs.declared.block.Block.{Block}
use Rattle.column_book.proofs.Shelves.{Boxed, at_spot, kept_remove}
use Rattle.column_book.proofs.blocks.Blocks.drop_empty.Goals as goal

pub returns-then-is_empty : goal.returns-then-is_empty
returns-then-is_empty c =
    let old = c.args.self.now.map.entries in
    let b : Boxed = c.in-Some.block.now in
    let had : at_spot old c.args.spot ≡ Some b = sym c.in-Some.ensures.value in
    let zero_here : b.value.mask ≡ 0 = subst (λ (x : Block). x.mask ≡ 0) c.deref-block.ensures ((Decides-eqb c.deref-block.result.now.mask 0).0 (sym c.is_empty.ensures ∙ c.if-is_empty.true)) in
    kept_remove old c.remove.new.self.entries c.args.spot b c.remove.ensures.updates.0 had zero_here
