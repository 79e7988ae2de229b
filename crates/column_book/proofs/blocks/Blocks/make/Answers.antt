use Rattle.std.proofs.Common.{rules}
use Rattle.column_book.proofs.Shelves.{made_stays, kept_make}
use Rattle.column_book.proofs.blocks.Blocks.make.Goals as goal

pub returns-clause-kept : goal.returns-clause-kept
returns-clause-kept c =
    kept_make c.args.self.now.map.entries c.insert.new.self.entries c.args.spot c.in_ok-new.field-0 (record { at = c.in_ok-insert.ensures.updates.0 }) (search rules) (search rules)

pub returns-clause-stays : goal.returns-clause-stays
returns-clause-stays c =
    made_stays c.args.self.now.map.entries c.insert.new.self.entries c.args.spot c.in_ok-new.field-0 (record { at = c.in_ok-insert.ensures.updates.0 })
