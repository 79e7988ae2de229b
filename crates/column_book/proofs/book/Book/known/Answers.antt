use Rattle.std.specs.Prelude.{◌≡◌, IsSome, is_some}
use Rattle.std.proofs.Common.{sym, ap, ◌∙◌, subst, arith}
use Rattle.lg_model.specs.Answer.{look_in}
use Rattle.lg_model.specs.Columns.{dims_of}
use Rattle.column_book.specs.Entries.{BookState, known_of, content}
use Rattle.column_book.specs.Tally.{tally, key_at}
use Rattle.column_book.proofs.Cuts.{on_shelf}
use Rattle.column_book.proofs.Finding.{found_in_book}
use Rattle.column_book.proofs.Counting.{tally_known, tally_full}
use Rattle.column_book.proofs.book.Book.known.Goals as goal

pub returns : goal.returns
returns c =
    let b = c.self.inside in
    let s = c.args.switch in
    let e = c.args.epoch in
    let es = b.blocks.map.entries in
    let at_end : c.loop-index.index ≡ c.width-index-end.result = omega arith in
    let count = c.loop-index.invariant.count ∙ ap (tally es s e) (at_end ∙ c.width-index-end.ensures.value) in
    let width = ap (λ (t : BookState). t.shape.width) c.self.view_is in
    let size = c.width-index-end.ensures.value in
    record {
      value = count ∙ tally_known s e b.shape.width (dims_of b.shape) es b.keys.items b.rows.items c.self.invariant ∙ ap (λ (t : BookState). known_of s e t.entries) c.self.view_is;
      few = let few = c.loop-index.invariant.few in omega (arith, few, at_end, size, width);
      each = λ is j low.
          let full : tally es s e b.shape.width ≡ b.shape.width = sym count ∙ is ∙ sym width in
          let some = tally_full es s e b.shape.width full j (omega (arith, low, width)) in
          subst (λ (t : BookState). IsSome (look_in (content t.entries) s e j)) c.self.view_is
          (ap is_some (found_in_book (dims_of b.shape) es b.keys.items b.rows.items c.self.invariant (key_at s e j)) ∙ on_shelf b.shape.rows es (key_at s e j) ∙ some);
    }
