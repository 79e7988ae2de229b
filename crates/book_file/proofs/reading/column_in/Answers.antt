use Rattle.book_file.proofs.Columns.{column_made}
use Rattle.book_file.proofs.reading.column_in.Goals as goal

pub returns : goal.returns
returns c = column_made c.args.key c.args.dims c.args.cells c.new.result c.requires c.new.ensures
