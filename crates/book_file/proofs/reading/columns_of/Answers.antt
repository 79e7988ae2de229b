use Rattle.std.proofs.Common.{◌∷◌, [], List, length, length-append, ap, sym, subst, arith}
use Rattle.std.specs.List.{AllByRecursion}
use Rattle.lg_model.specs.Columns.{Column}
use Rattle.book_file.specs.File.{IsColumnOf}
use Rattle.book_file.proofs.Apart.{all_push}
use Rattle.book_file.proofs.Columns.{column_found, none_there, column_more, no_columns}
use Rattle.book_file.proofs.reading.columns_of.Goals as goal

pub returns-in_default : goal.returns-in_default
returns-in_default c =
    let i = c.loop.invariant in
    no_columns c.args.dims c.loop.columns.items c.args.bytes.now c.loop.left.now c.args.count i.each i.parts
    (omega (arith, i.count, c.loop-test.true))
    (none_there c.args.dims c.loop.left.now _ c.in_default.ensures)

pub loop-preserved : goal.loop-preserved
loop-preserved c =
    let i = c.loop.invariant in
    let items = c.loop.columns.items in
    let column = c.in-Ok.found.0 in
    let f = column_found c.args.dims c.loop.left.now _ c.requires i.fits c.in-Ok.ensures in
    let adds = c.in_ok-push.ensures.items in
    record {
      count = omega (arith, ap length adds, length-append items (column ∷ []), i.count);
      each = subst (λ (l : List Column). AllByRecursion (IsColumnOf c.args.dims) l) (sym adds)
          (all_push (IsColumnOf c.args.dims) items column i.each f.0);
      parts = column_more items c.push.new.self.items column c.args.bytes.now c.loop.left.now c.in-Ok.found.1.now adds i.parts f.1.parts;
      fits = f.1.rest_fits;
    }
