-- A content that agrees with a scenario is true of it.
use Rattle.std.specs.Prelude.{◌≡◌, ℕ, ◌<◌, List, [], true, ◌==◌, Option, Some, None, IfSome, IsSomeAnd, slice_index, slice_index_or, length}
use Rattle.std.specs.List.{list_any}
use Rattle.std.proofs.Common.{sym, ap, ◌∙◌, arith, inl, inr}
use Rattle.std.proofs.lemmas.Grind.{get_or_default_zero}
use Rattle.std.proofs.lemmas.Bool.{cases_lt, eqb-true}
use Rattle.std.proofs.lemmas.List.{ext_get_or, get_or-map}
use Rattle.std.proofs.lemmas.List.Folds.{Any-from_list_any}
use Rattle.lg_model.specs.declared.column.Bucket.{Bucket}
use Rattle.lg_model.specs.declared.column.Key.{Key}
use Rattle.lg_model.specs.declared.scenario.Ask.{Ask}
use Rattle.lg_model.specs.Placing.{Shape}
use Rattle.lg_model.specs.Scenario.{Scenario}
use Rattle.lg_model.specs.Trace.{seen}
use Rattle.lg_model.specs.Sketch.{Table, IsTable, zero_bucket, bucket_in, bucket_at, frozen, frozen_cells}
use Rattle.lg_model.specs.Columns.{Cells}
use Rattle.lg_model.specs.Answer.{Content, found, look_in}
use Rattle.lg_model.specs.Bound.{Agrees}
use Rattle.lg_model.specs.Joining.{IsSwitch, IsFrozen, AgreesWith}
use Rattle.lg_model.proofs.Answering.{true_answer, table_is}
use Rattle.sumax_sketch.specs.SketchState.{SketchState}
use Rattle.flow_query.specs.Rebuilt.{IsRebuilt}
use Rattle.flow_query.proofs.Telling.{law}
use Rattle.lg_model.specs.Keeping.{AreApart, IsAsk}
use Rattle.scenario_parts.specs.Whole.{IsWhole}
use Rattle.run_laws.specs.Truth.{IsTrueIn, IsFrozenSketch, LawOfTrueBooks, asked_key}

-- ---- names of switches

-- a name is at one position
apart : (xs : List ℕ) (i j : ℕ) → AreApart xs → i < length xs → j < length xs → slice_index xs i ≡ slice_index xs j → i ≡ j
apart xs i j all low high same = elim (cases_lt i j) as (λ _. i ≡ j) [
  | inl lt ↦ absurd (all i j 0 lt high same)
  | inr le ↦ elim (cases_lt j i) as (λ _. i ≡ j) [
    | inl lt ↦ absurd (all j i 0 lt low (sym same))
    | inr ge ↦ omega (arith, le, ge)
  ]
]

pub one_switch : (w : Scenario) (name s t : ℕ) → AreApart w.switches → IsSwitch w name s → IsSwitch w name t → s ≡ t
one_switch w name s t own a b = apart w.switches s t own a.declared b.declared (a.named ∙ sym b.named)

-- the position of a name that is there
record Place (xs : List ℕ) (name : ℕ) : Type 0 where
  at : ℕ
  inside : at < length xs
  is : slice_index xs at ≡ name

place_of : (xs : List ℕ) (name : ℕ) → list_any (λ m. m == name) xs ≡ true → Place xs name
place_of xs name h =
    let any = Any-from_list_any (λ m. m == name) xs h in
    let x : ℕ = any.1 in
    record {
      at = any.0;
      inside = any.2;
      is = sym (get_or_default_zero xs any.0 x any.2) ∙ any.3 ∙ eqb-true x name any.4;
    }

-- ---- what is kept under a switch's name

-- it is that switch's
pub cells_at : (w : Scenario) (k : Key) (v : Cells) (s : ℕ) → AreApart w.switches → IsFrozen w k v → IsSwitch w k.switch s
    → v ≡ frozen_cells w s k.epoch k.index
cells_at w k v s own is here = is.same ∙ ap (λ n. frozen_cells w n k.epoch k.index) (one_switch w k.switch is.switch_at s own is.switch here)

agrees_at : (w : Scenario) (m : Content) (name s e : ℕ) → AreApart w.switches → AgreesWith w m → IsSwitch w name s → Agrees (look_in m) w name s e
agrees_at w m name s e own all here j = its (found m k) (all k)
  where
    k : Key
    k = record { switch = name; epoch = e; index = j }

    its : (o : Option Cells) → IfSome o (IsFrozen w k) → IfSome o (λ cells. cells ≡ frozen_cells w s e j)
    its None is = tt
    its (Some v) is = cells_at w k v s own is here

true_in : (w : Scenario) (m : Content) (q : Ask) → IsWhole w → AgreesWith w m → IsAsk w.switches w.flows q → IsTrueIn w m q
true_in w m q whole all asked =
    let p = place_of w.switches q.switch asked.declared in
    let here : IsSwitch w q.switch p.at = record { declared = p.inside; named = p.is } in
    record {
      switch_at = p.at;
      switch = here;
      bound = true_answer (look_in m) w q.switch p.at q.epoch (asked_key w q) whole.scenario.shape.some_width
          (agrees_at w m q.switch p.at q.epoch whole.scenario.switches.own all here);
      exact = law (look_in m) w.shape q.switch q.epoch (asked_key w q);
    }

-- ---- rebuilt sketches

-- tables of one shape with the same buckets are one
pub one_table : (shape : Shape) (a b : Table) → IsTable shape a → IsTable shape b →
    ((i j : ℕ) → i < shape.rows → j < shape.width → bucket_at a i j ≡ bucket_at b i j) → a ≡ b
one_table shape a b this that same = ext_get_or [] a b (this.rows ∙ sym that.rows) (λ i inside.
    let low : i < shape.rows = omega (arith, inside, this.rows) in
    ext_get_or zero_bucket (slice_index_or a i []) (slice_index_or b i []) (this.width i low ∙ sym (that.width i low))
    (λ j under. same i j low (omega (arith, under, this.width i low))))

-- row i of a frozen column
in_column : (w : Scenario) (s e i j : ℕ) → i < w.shape.rows → bucket_in (frozen_cells w s e j).buckets i ≡ bucket_at (frozen w s e) i j
in_column w s e i j low =
    get_or-map (λ (row : List Bucket). bucket_in row j) (frozen w s e) i [] zero_bucket (omega (arith, low, (table_is w.shape (seen w s e)).rows))

abbrev IsBucket : Table → (i j : ℕ) → Cells → Type 0
IsBucket table i j cells = bucket_at table i j ≡ bucket_in cells.buckets i

frozen_bucket : (w : Scenario) (s e i j : ℕ) (table : Table) (o : Option Cells) → i < w.shape.rows → IfSome o (λ cells. cells ≡ frozen_cells w s e j) →
    IsSomeAnd o (IsBucket table i j) → bucket_at table i j ≡ bucket_at (frozen w s e) i j
frozen_bucket w s e i j table None low agrees is = absurd is
frozen_bucket w s e i j table (Some v) low agrees is = is ∙ ap (λ (x : Cells). bucket_in x.buckets i) agrees ∙ in_column w s e i j low

-- the column at index 0 names the switch
first_column : (w : Scenario) (k : Key) (table : Table) (o : Option Cells) → IsSomeAnd o (IsBucket table 0 0) → IfSome o (IsFrozen w k) →
    (v : Cells) × IsFrozen w k v
first_column w k table None is all = absurd is
first_column w k table (Some v) is all = (v, all)

frozen_sketch : (w : Scenario) (m : Content) (name e : ℕ) (sketch : SketchState) → IsWhole w → AgreesWith w m → IsRebuilt (look_in m) w.shape name e sketch →
    IsFrozenSketch w name e sketch
frozen_sketch w m name e sketch whole all is =
    let k : Key = record { switch = name; epoch = e; index = 0 } in
    let first = first_column w k sketch.table (found m k) (is.buckets 0 0 whole.scenario.shape.some_rows whole.scenario.shape.some_width) (all k) in
    let s : ℕ = first.1.switch_at in
    let agrees = agrees_at w m name s e whole.scenario.switches.own all first.1.switch in
    record {
      switch_at = s;
      switch = first.1.switch;
      over = first.1.ended;
      same = one_table w.shape sketch.table (frozen w s e) is.table (table_is w.shape (seen w s e))
          (λ i j low under. frozen_bucket w s e i j sketch.table (look_in m name e j) low (agrees j) (is.buckets i j low under));
    }

pub true_book : LawOfTrueBooks
true_book w m whole all = record {
  answers = λ k d inside. true_in w m (slice_index_or w.asks k d) whole all (whole.scenario.asks.each k d inside);
  sketches = λ name e sketch is. frozen_sketch w m name e sketch whole all is;
}
