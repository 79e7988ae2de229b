use Rattle.std.proofs.Common.{◌++◌, ◌∷◌, ◌∙◌, [], ℕ, List, length, map, ap, sym}
use Rattle.std.specs.Prelude.{filter}
use Rattle.std.specs.List.{flat_map}
use Rattle.lg_model.specs.Columns.{Column}
use Rattle.sketchlet_wire.specs.Uploads.{upload_of}
use Rattle.column_book.specs.Applying.{mask_of}
use Rattle.book_file.specs.File.{column_bytes}
use Rattle.book_file.proofs.Masks.{body_parts}
use Rattle.book_file.proofs.writing.body_of.Goals as goal

pub returns-clause-bytes : goal.returns-clause-bytes
returns-clause-bytes c = λ p is.
    let u = c.args.upload.now in
    let cs = c.columns-columns.result.now in
    let same = c.columns-columns.ensures.value in
    let here = is ∙ ap (λ (l : List Column). mask_of (map p l)) (sym same) in
    let r = upload_of u.host u.seq (filter p u.columns) in
    let count = c.count_of-count.ensures p here ∙ ap (λ (l : List Column). length (filter p l)) same in
    let lead = c.in_ok-extend_from_slice.ensures.items ∙ ap (λ (l : List ℕ). l ++ c.lead_of.result) c.in_ok-out.ensures.items in
    let cols = c.in_ok-put_columns.ensures p here ∙ ap (λ (l : List ℕ). l ++ flat_map column_bytes (filter p cs)) lead in
    c.in_ok-push.ensures.items
    ∙ ap (λ (l : List ℕ). l ++ 0 ∷ [])
    (cols ∙ body_parts r c.lead_of.result
    (flat_map column_bytes (filter p cs)) c.host.result c.seq.result c.count_of-count.result c.lead_of.ensures c.host.ensures
    c.seq.ensures count
    (ap (λ (l : List Column). flat_map column_bytes (filter p l)) same))
