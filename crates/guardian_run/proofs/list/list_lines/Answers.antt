use Rattle.std.proofs.Common.{◌≡◌, ◌<◌, length, sym, ◌∙◌, subst, arith}
use Rattle.std.specs.Prelude.{Option}
use Rattle.lg_model.specs.declared.column.Key.{Key}
use Rattle.lg_model.specs.Columns.{dims_of}
use Rattle.lg_model.specs.Answer.{found}
use Rattle.column_book.specs.Entries.{content}
use Rattle.column_book.specs.Order.{IsNext}
use Rattle.guardian_run.proofs.Listing.{pair_at, ordered, next_at, key_is, column_is, key_more, line_more}
use Rattle.guardian_run.proofs.list.list_lines.Goals as goal

pub unreachable-requires : goal.unreachable-requires
unreachable-requires c =
    let m = content c.args.book.now.entries in
    let i = c.loop.counter in
    let inside : i < length m = omega (arith, c.loop-test.true, c.count-end.ensures.content) in
    let next = subst (λ (o : Option Key). IsNext (found m) o c.next_key.result) (c.as_ref.ensures.value ∙ c.loop.invariant.last) c.next_key.ensures in
    let is = next_at m i c.next_key.result (ordered c.args.book.now.entries) inside next in
    absurd (cc (sym is ∙ c.in_default.is))

pub loop-preserved : goal.loop-preserved
loop-preserved c =
    let m = content c.args.book.now.entries in
    let i = c.loop.counter in
    let dims = dims_of c.args.book.now.shape in
    let o = ordered c.args.book.now.entries in
    let inside : i < length m = omega (arith, c.loop-test.true, c.count-end.ensures.content) in
    let next = subst (λ (x : Option Key). IsNext (found m) x c.next_key.result) (c.as_ref.ensures.value ∙ c.loop.invariant.last) c.next_key.ensures in
    let key = c.in-Some.key in
    let here : key ≡ (pair_at m i).0 = key_is m i c.next_key.result key (next_at m i c.next_key.result o inside next) c.in-Some.is in
    let column = column_is dims m i key c.find.result c.in-Some-find.column o inside here c.find.ensures.value c.in-Some-find.is in
    record {
      text = line_more dims m i c.in-Some-find.column c.loop.text.items c.put_column_line.new.out.items inside c.loop.invariant.text column
          c.in_ok-put_column_line.ensures;
      last = key_more m i key here;
    }
