use Rattle.std.specs.Prelude.{◌+◌, ◌^◌, ◌%◌, ◌<◌, is_none, option_copied, option_and_then, if◌then◌else◌}
use Rattle.std.proofs.Common.{sym, ap, ◌∙◌, subst, arith}
use Rattle.column_book.specs.declared.block.Block.{Block}
use Rattle.column_book.specs.declared.block.Spot.{Spot}
use Rattle.column_book.specs.Blocks.{block_at, kept_in, kept_at}
use Rattle.column_book.specs.Kept.{is_free, IsAsKept}
use Rattle.column_book.proofs.Alike.{mask_below, count_more, one_most, all_more}
use Rattle.column_book.proofs.Faults.{mask_more}
use Rattle.column_book.proofs.Shelves.{kept_in_block}
use Rattle.column_book.proofs.comparing.compare_all.Goals as goal

pub with-found-requires-clause-mask : goal.with-found-requires-clause-mask
with-found-requires-clause-mask c =
    let low = c.loop-n-test.true in
    subst (λ m. m < 2 ^ c.loop-n.n) (sym c.loop-n.invariant.mask) (mask_below (is_free c.args.blocks.now.map.entries) c.args.columns.now c.loop-n.n (omega (arith, low)))

pub loop-n-preserved : goal.loop-n-preserved
loop-n-preserved c =
    let es = c.args.blocks.now.map.entries in
    let cs = c.args.columns.now in
    let n = c.loop-n.n in
    let x = c.index-columns-n.result in
    let low = c.loop-n-test.true in
    let at = c.index-columns-n.is in
    let h = c.loop-n.invariant in
    let k = c.key-key.result in
    let is = c.kept_of.ensures ∙ ap (option_and_then (λ (b : Block). kept_in b (k.index % 16))) c.block_next-block.ensures
    ∙ ap (λ (s : Spot). option_and_then (λ (b : Block). kept_in b (k.index % 16)) (block_at es s)) c.spot_of-at.ensures ∙ kept_in_block es k ∙ ap (kept_at es) c.key-key.ensures.value in
    let free = ap is_none is in
    let count = c.with-found.ensures.count in
    let most = one_most (is_none (option_copied c.kept_of.result)) in
    record {
      block = c.block_next-block.ensures;
      mask = c.with-found.ensures.mask ∙ ap (λ b. c.loop-n.found.mask + (if b then 2 ^ n else 0)) free ∙ ap (λ m. m + (if is_free es x then 2 ^ n else 0)) h.mask ∙ sym (mask_more (is_free es) cs n x low at);
      count = count ∙ ap (λ b. c.loop-n.found.count + (if b then 1 else 0)) free ∙ ap (λ m. m + (if is_free es x then 1 else 0)) h.count ∙ sym (count_more (is_free es) cs n x low at);
      few = omega (arith, count, most, h.few);
      same = λ e. let told = c.with-found.ensures.same e in all_more (IsAsKept es) cs n x low at (h.same told.0) (λ bs kept. told.1 bs (is ∙ kept));
    }
