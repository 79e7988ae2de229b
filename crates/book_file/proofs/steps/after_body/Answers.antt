use Rattle.std.proofs.Common.{◌≡◌, ◌++◌, ◌∷◌, ◌∙◌, ℕ, List, sym, subst, ap}
use Rattle.std.specs.List.{IsDistinct}
use Rattle.lg_model.specs.declared.column.Dims.{Dims}
use Rattle.lg_model.specs.Columns.{dims_of}
use Rattle.sketchlet_wire.specs.Uploads.{UploadData, same_column_key}
use Rattle.column_book.specs.Entries.{records}
use Rattle.column_book.specs.Kept.{keys_of}
use Rattle.book_file.specs.declared.stage.Stage.{Stage}
use Rattle.book_file.specs.File.{IsRecord, front, body}
use Rattle.book_file.specs.Walk.{Steps}
use Rattle.book_file.proofs.Stepping.{known, breaks, no_upload}
use Rattle.book_file.proofs.steps.after_body.Goals as goal

pub returns-in-Ok-Some : goal.returns-in-Ok-Some
returns-in-Ok-Some c = λ asked room len going.
    let b = c.args.book in
    let bytes = c.args.bytes.now in
    let found = rw c.in-Ok-Some.field-0-is at c.in-Ok-Some.ensures in
    subst (λ (l : List ℕ). Steps asked room len c.args.at c.after_record.result bytes (front b.shape (records b.entries) ++ 1 ∷ l))
    (sym found.2) (c.after_record.ensures asked room len bytes going)

pub returns-in-Ok-None : goal.returns-in-Ok-None
returns-in-Ok-None c = λ asked room len going.
    let b = c.args.book in
    let bytes = c.args.bytes.now in
    let none = rw c.in-Ok-None.field-0-is at c.in-Ok-None.ensures in
    let dims : c.dims_of.result ≡ dims_of b.shape = c.dims_of.ensures.value ∙ ap dims_of c.shape.ensures in
    let here = subst (λ (d : Dims). (r : UploadData) → IsRecord d r → IsDistinct same_column_key (keys_of r.columns) → bytes ≡ body r → ⊥)
    dims none in
    subst (λ (s : Stage). Steps asked room len c.args.at s bytes (front b.shape (records b.entries) ++ 1 ∷ bytes)) (sym c.damaged.ensures)
    (known asked room len c.args.at _ bytes _
    (breaks asked room c.args.at b going len bytes (no_upload b.shape (records b.entries) bytes c.requires.count c.requires.size here)))
