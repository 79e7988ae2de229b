use Rattle.std.proofs.Common.{◌≡◌, ◌+◌, ◌<◌, ◌++◌, ◌∷◌, [], ◌∙◌, List, ℕ, true, false, length, slice_index_or, arith, sym, ap, subst, refl, rules}
use Rattle.std.specs.Global.{Vec}
use Rattle.lg_model.specs.declared.column.Key.{Key}
use Rattle.lg_model.specs.Columns.{Column}
use Rattle.sketchlet_wire.specs.Uploads.{no_column}
use Rattle.host_collect.specs.Cutting.{can_join, numbered, cut}
use Rattle.host_collect.specs.PackedUploads.{columns_at, pieces, AreEnds}
use Rattle.host_collect.proofs.PackedCuts.{waiting, nothing, joined, begun, finished, empty, columns_len, packs}
use Rattle.host_collect.proofs.packed_uploads.ends_of.Goals.{then-not-joins+in_ok-push, else-not-joins, then-taken-gt0+in_ok-push-3, else-taken-gt0}
use Rattle.host_collect.proofs.packed_uploads.ends_of.Goals as goal

pub loop-place-init : goal.loop-place-init
loop-place-init c =
    let cs = columns_at c.args.pool.now c.args.places.now in
    (rw (c.new-ends.ensures.items, c.in_ok-held.ensures.items) (nothing cs), refl)

pub key_at-key-requires-clause-packed : goal.key_at-key-requires-clause-packed
key_at-key-requires-clause-packed c = (_, packs c.args.pool.now c.args.places.now c.loop-place.place-index c.requires.columns c.loop-place-test.true)

pub overflow_add-taken : goal.overflow_add-taken
overflow_add-taken c = omega (arith, c.loop-place.invariant.1, c.loop-place-test.true, c.requires.count)

pub loop-place-preserved : goal.loop-place-preserved
loop-place-preserved c =
    let pool = c.args.pool.now in
    let places = c.args.places.now in
    let i = c.loop-place.place-index in
    let cs : List Column = columns_at pool places in
    let col : Column = slice_index_or cs i no_column in
    let has = c.loop-place.invariant.0 in
    let low : i < length cs = omega (arith, columns_len pool places, c.loop-place-test.true) in
    let key : c.key_at-key.result ≡ col.key = c.key_at-key.ensures col (packs pool places i c.requires.columns c.loop-place-test.true) in
    let can : c.joins.result ≡ can_join (waiting cs i c.loop-place.ends.items) col =
    c.joins.ensures (waiting cs i c.loop-place.ends.items) col (c.deref.ensures.value ∙ has.keys) key in
    let count = ap (λ (n : ℕ). n + 1) c.loop-place.invariant.1 in
    let ends = c.loop-place.ends.items in
    let held = c.loop-place.held.items in
    let k = c.key_at-key.result in
    elim c.if-not-joins.branch [
      | then-not-joins+in_ok-push w ↦
          let no : c.joins.result ≡ false = search rules in
          let ended : c.if-not-joins.ends.items ≡ ends ++ i ∷ [] =
          ap (λ (v : Vec ℕ). v.items) w.ends-is ∙ w.in_ok-push.ensures.items ∙ ap (λ (n : ℕ). ends ++ n ∷ []) c.loop-place.invariant.1 in
          let holds : c.push-in-loop-place.new.self.items ≡ col.key ∷ [] =
          c.in_ok-push-2.ensures.items ∙ ap (λ (v : Vec Key). v.items ++ k ∷ []) w.held-is ∙ ap (λ (t : List Key). t ++ k ∷ []) w.clear.ensures.items
          ∙ ap (λ (x : Key). x ∷ []) key in
          (rw (ended, holds) (begun cs i ends held has low (sym can ∙ no)), count)
      | else-not-joins w ↦
          let yes : c.joins.result ≡ true = search rules in
          let ended : c.if-not-joins.ends.items ≡ ends = ap (λ (v : Vec ℕ). v.items) w.ends-is in
          let holds : c.push-in-loop-place.new.self.items ≡ held ++ col.key ∷ [] =
          c.in_ok-push-2.ensures.items ∙ ap (λ (v : Vec Key). v.items ++ k ∷ []) w.held-is ∙ ap (λ (x : Key). held ++ x ∷ []) key in
          (rw (ended, holds) (joined cs i ends held has low (sym can ∙ yes)), count)
    ]

abbrev Whole : List ℕ → List Column → Type 0
Whole ends cs = AreEnds 0 ends (length cs) × ((host : ℕ) → numbered host (pieces 0 ends cs) ≡ numbered host (cut cs))

whole : (c : goal.After-drop-held-2) → Whole c.if-taken-gt0.ends.items (columns_at c.args.pool.now c.args.places.now)
whole c =
    let cs : List Column = columns_at c.args.pool.now c.args.places.now in
    let i = c.loop-place.place-index in
    let ends = c.loop-place.ends.items in
    let has = c.loop-place.invariant.0 in
    let all : i ≡ length cs = omega (arith, columns_len c.args.pool.now c.args.places.now, c.loop-place-test.false, has.inside) in
    elim c.if-taken-gt0.branch [
      | then-taken-gt0+in_ok-push-3 w ↦
          let ended : c.if-taken-gt0.ends.items ≡ ends ++ i ∷ [] =
          ap (λ (v : Vec ℕ). v.items) w.ends-is ∙ w.in_ok-push-3.ensures.items ∙ ap (λ (n : ℕ). ends ++ n ∷ []) c.loop-place.invariant.1 in
          subst (λ es. Whole es cs) (sym ended) (finished cs i ends c.loop-place.held.items has all
          (omega (arith, c.loop-place.invariant.1, w.if-taken-gt0.true)))
      | else-taken-gt0 w ↦
          subst (λ es. Whole es cs) (sym (ap (λ (v : Vec ℕ). v.items) w.ends-is))
          (empty cs i ends c.loop-place.held.items has all (omega (arith, c.loop-place.invariant.1, w.if-taken-gt0.false)))
    ]

pub returns-clause-ends : goal.returns-clause-ends
returns-clause-ends c =
    subst (AreEnds 0 c.if-taken-gt0.ends.items) (columns_len c.args.pool.now c.args.places.now) (whole c).0

pub returns-clause-cut : goal.returns-clause-cut
returns-clause-cut c = λ host. (whole c).1 host
