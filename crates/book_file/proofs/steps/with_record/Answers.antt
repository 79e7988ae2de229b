use Rattle.std.proofs.Common.{◌++◌, ◌∷◌, [], ◌∙◌, sym, ap, subst, arith}
use Rattle.column_book.specs.Entries.{BookState, records}
use Rattle.column_book.specs.Applying.{stored_entry, IsAddable}
use Rattle.book_file.proofs.Stepping.{goes_on, may_add}
use Rattle.book_file.proofs.steps.with_record.Goals as goal

pub add-requires-clause-fits : goal.add-requires-clause-fits
add-requires-clause-fits c =
    let u = c.args.upload.now in
    subst (λ (x : BookState). IsAddable x.shape x.room (records x.entries) u) (sym c.in-Ok.ensures.others)
    (may_add u c.args.book c.requires.full c.requires.record c.requires.new c.requires.room)

pub returns-in-Ok : goal.returns-in-Ok
returns-in-Ok c = λ asked room len at rest going.
    let u = c.args.upload.now in
    let room_is = ap (λ (x : BookState). x.room) going.book in
    let put : BookState → BookState = λ (x : BookState). record {
      shape = x.shape;
      room = x.room;
      entries = x.entries ++ stored_entry 0 x.entries u ∷ [];
      ready = [];
    } in
    goes_on u c.args.book c.requires.full c.requires.record c.requires.new asked room len at rest c.add.new.self going
    (omega (arith, c.requires.room, room_is)) (c.add.ensures.added ∙ ap {B = BookState} put c.in-Ok.ensures.others)
