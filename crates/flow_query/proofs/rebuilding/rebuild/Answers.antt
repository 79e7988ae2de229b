use Rattle.std.specs.Prelude.{◌≡◌, ◌<◌, List, Option, Some, IsSomeAnd}
use Rattle.std.specs.Option.{option_map}
use Rattle.std.proofs.Common.{sym, ap, ◌∙◌, subst, arith, inl, inr}
use Rattle.std.proofs.lemmas.Bool.Decides.{eqb_tells}
use Rattle.lg_model.specs.declared.column.Bucket.{Bucket}
use Rattle.lg_model.specs.Columns.{Cells, Column}
use Rattle.lg_model.specs.Placing.{Shape}
use Rattle.lg_model.specs.Sketch.{Table, IsTable, bucket_in, bucket_at}
use Rattle.lg_model.specs.Answer.{look_in}
use Rattle.sumax_sketch.specs.SketchState.{SketchState, with_column}
use Rattle.sumax_sketch.proofs.Columns.{IsTable-with_column}
use Rattle.column_book.specs.Entries.{content}
use Rattle.flow_query.proofs.Setting.{set_here, set_there, bucket_filled, some_and, same_or_less}
use Rattle.flow_query.proofs.rebuilding.rebuild.Goals as goal

pub loop-index-preserved : goal.loop-index-preserved
loop-index-preserved c =
    let h = c.loop-index.invariant in
    let shape = c.args.book.now.shape in
    let look = look_in (content c.args.book.now.entries) c.args.switch c.args.epoch in
    let n = c.loop-index.index in
    let column = c.in-Some.column in
    let bs = c.filled.result.now in
    let old = c.loop-index.sketch.table in
    let new = c.set_column.new.self in
    let table : new.table ≡ with_column n bs old = ap (λ (s : SketchState). s.table) c.set_column.ensures in
    let same : new.shape ≡ shape = ap (λ (s : SketchState). s.shape) c.set_column.ensures ∙ h.same in
    let known : look n ≡ Some column.cells = sym c.find.ensures.cells ∙ ap (option_map (λ (x : Column). x.cells)) c.in-Some.is in
    let width = c.width-index-end.ensures.value ∙ ap (λ (s : Shape). s.width) c.shape-shape.ensures in
    let in_width : n < shape.width = omega (arith, width) in
    record {
      same = same;
      table = subst (IsTable shape) (sym table) (IsTable-with_column shape n bs old h.table);
      done = λ i j low at. elim (eqb_tells j n) [
        | inl here ↦ subst (λ k. IsSomeAnd (look k) (λ (x : Cells). bucket_at new.table i k ≡ bucket_in x.buckets i)) (sym here.1)
            (subst (λ (o : Option Cells). IsSomeAnd o (λ (x : Cells). bucket_at new.table i n ≡ bucket_in x.buckets i)) (sym known)
            (ap (λ (t : Table). bucket_at t i n) table ∙ set_here shape n bs old i h.table low in_width
            ∙ ap (λ (x : List Bucket). bucket_in x i) c.filled.ensures ∙ bucket_filled column.dims column.cells i))
        | inr other ↦ some_and (look j) (λ (x : Cells). bucket_at old i j ≡ bucket_in x.buckets i) (λ (x : Cells). bucket_at new.table i j ≡ bucket_in x.buckets i)
            (h.done i j low (same_or_less j n at other.1))
            (λ x is. ap (λ (t : Table). bucket_at t i j) table ∙ set_there shape n bs old i j h.table low other.1 ∙ is)
      ];
    }
