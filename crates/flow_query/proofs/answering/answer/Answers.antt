use Rattle.std.specs.Prelude.{◌≡◌, ℕ, ◌<◌, List, [], ◌++◌, Option, slice_index}
use Rattle.std.specs.List.{cons_option}
use Rattle.std.specs.Option.{option_map}
use Rattle.std.proofs.Common.{sym, ap, ◌∙◌, arith, append-nil}
use Rattle.lg_model.specs.declared.column.Bucket.{Bucket}
use Rattle.lg_model.specs.Placing.{Shape, place, places_of}
use Rattle.lg_model.specs.Columns.{Cells}
use Rattle.lg_model.specs.Sketch.{bucket_in}
use Rattle.lg_model.specs.Answer.{look_in}
use Rattle.column_book.specs.Entries.{content}
use Rattle.flow_query.specs.declared.least.Known.{Known}
use Rattle.flow_query.specs.Least.{known_of, known_to}
use Rattle.flow_query.proofs.Folding.{known_to-more, place_in_row}
use Rattle.flow_query.proofs.answering.answer.Goals as goal
use Rattle.flow_query.proofs.answering.answer.Goals.{in-Some, in_default}

pub loop-row-preserved : goal.loop-row-preserved
loop-row-preserved c =
    let look = look_in (content c.args.book.now.entries) in
    let shape = c.args.book.now.shape in
    let f = c.args.key.now in
    let row = c.loop-row.row in
    let before = known_to look shape c.args.switch c.args.epoch f row in
    let same_rows : c.rows-row-end.result ≡ shape.rows = c.rows-row-end.ensures.value ∙ ap (λ (sh : Shape). sh.rows) c.shape-shape.ensures in
    let inside : row < shape.rows = omega arith in
    let its_place : c.row.result ≡ place shape f row
    = c.row.ensures ∙ ap (λ (ps : List ℕ). slice_index ps row) (c.places-places.ensures.value ∙ ap (λ (sh : Shape). places_of sh f) c.shape-shape.ensures) ∙ place_in_row shape f row inside in
    let its_bucket = ap (λ (j : ℕ). option_map (λ (x : Cells). bucket_in x.buckets row) (look c.args.switch c.args.epoch j)) its_place in
    let more = known_to-more look shape c.args.switch c.args.epoch f row in
    elim c.match-bucket_of.branch [
      | in-Some w ↦ (
        w.known-is ∙ w.add.ensures.least before c.loop-row.invariant.0
            ∙ ap known_of (ap (λ (o : Option Bucket). before ++ cons_option o []) (sym w.in-Some.is ∙ c.bucket_of.ensures ∙ its_bucket) ∙ sym more),
        let rows = ap (λ (k : Known). k.rows) w.known-is ∙ w.add.ensures.rows in omega arith,
      )
      | in_default w ↦ (
        w.known-is ∙ c.loop-row.invariant.0
            ∙ ap known_of (sym (append-nil before) ∙ ap (λ (o : Option Bucket). before ++ cons_option o []) (sym w.in_default.is ∙ c.bucket_of.ensures ∙ its_bucket) ∙ sym more),
        let rows = ap (λ (k : Known). k.rows) w.known-is in omega arith,
      )
    ]
