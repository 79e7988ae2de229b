use Rattle.std.specs.Prelude.{◌≡◌, Result, Ok, Err, OnOk}
use Rattle.std.proofs.Common.{ap, ◌∙◌}
use Rattle.lg_model.specs.Answer.{Content}
use Rattle.column_book.specs.Applying.{IsReady}
use Rattle.column_book.specs.Kept.{keys_of}
use Rattle.column_book.proofs.Stored.{all_ready_of}
use Rattle.column_book.proofs.book.Book.reserve.Goals as goal

then : {A E : Type 0} (r : Result A E) (P Q : Type 0) → OnOk r P → (P → Q) → OnOk r Q
then (Ok x) P Q h f = f h
then (Err x) P Q h f = h

pub returns-clause-listed : goal.returns-clause-listed
returns-clause-listed c =
    let cs = c.args.upload.now.columns in
    let ready = c.make_all.new.ready.items in
    then c.make_all.result (ready ≡ keys_of c.columns-columns.result.now) ((m : Content) → IsReady ready m cs) c.make_all.ensures.all
    (λ is. all_ready_of ready cs (is ∙ ap keys_of c.columns-columns.ensures.value))
