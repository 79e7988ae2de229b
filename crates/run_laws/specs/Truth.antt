-- What a run and a book say of what happened in the network.
use Rattle.std.specs.Prelude.{◌≡◌, ◌≢◌, ℕ, ◌<◌, ◌↔◌, List, length, All, AllPairs}
use Rattle.flow_key.specs.declared.key.FlowKey.{FlowKey}
use Rattle.lg_model.specs.declared.column.Key.{Key}
use Rattle.lg_model.specs.declared.scenario.Ask.{Ask}
use Rattle.lg_model.specs.Placing.{place}
use Rattle.lg_model.specs.Scenario.{Scenario, flow_at, ended}
use Rattle.lg_model.specs.Sketch.{frozen}
use Rattle.lg_model.specs.Carrying.{picked, IsAllowed}
use Rattle.lg_model.specs.Arriving.{brought_to_all}
use Rattle.lg_model.specs.Columns.{Column, dims_of}
use Rattle.lg_model.specs.Answer.{Content, content_of, look_in, answered}
use Rattle.lg_model.specs.Bound.{IsTrueAnswer}
use Rattle.lg_model.specs.Joining.{IsSwitch, IsFrozen, AgreesWith}
use Rattle.sumax_sketch.specs.SketchState.{SketchState}
use Rattle.flow_query.specs.Told.{IsExact}
use Rattle.flow_query.specs.Rebuilt.{IsRebuilt}
use Rattle.scenario_parts.specs.Whole.{IsWhole}

-- The flow that is asked about.
abbrev pub asked_key : Scenario → Ask → FlowKey
asked_key w q = (flow_at w.flows q.flow_at).key

-- ---- of a book

-- What a content tells of an ask: no number in it is below the true sum of bytes and the true greatest delay of what the
-- asked switch saw of the flow in that epoch; and each value is `unknown`, `saturated` or a number exactly as the least
-- known counter says.
pub record IsTrueIn (w : Scenario) (m : Content) (q : Ask) : Type 0 where
  pub switch_at : ℕ
  pub switch : IsSwitch w q.switch switch_at
  pub bound : IsTrueAnswer (look_in m) w q.switch switch_at q.epoch (asked_key w q)
  pub exact : IsExact (look_in m) w.shape q.switch q.epoch (asked_key w q) (answered m w q)

-- A sketch is the one that the switch of that name froze at the end of that epoch, which ended in the scenario.
pub record IsFrozenSketch (w : Scenario) (name e : ℕ) (sketch : SketchState) : Type 0 where
  pub switch_at : ℕ
  pub switch : IsSwitch w name switch_at
  pub over : e < ended w switch_at (length w.steps)
  pub same : sketch.table ≡ frozen w switch_at e

-- A content is true of a scenario: so is its answer to each ask, and each sketch that is rebuilt of it is a frozen one.
pub record IsTrueBook (w : Scenario) (m : Content) : Type 0 where
  pub answers : All (IsTrueIn w m) w.asks
  pub sketches : (name e : ℕ) (sketch : SketchState) → IsRebuilt (look_in m) w.shape name e sketch → IsFrozenSketch w name e sketch

-- The law of true books: each content that agrees with a scenario is true of it.
abbrev pub LawOfTrueBooks : Type 0
LawOfTrueBooks = (w : Scenario) (m : Content) → IsWhole w → AgreesWith w m → IsTrueBook w m

-- ---- of a run

-- The content of the book after the run: all brought columns of the picked list.
abbrev pub book_of : Scenario → Content
book_of w = content_of (brought_to_all w (picked w))

-- A column of the scenario's size that its switch froze, at an index below the width and the end of an epoch that ended.
pub record IsFrozenColumn (w : Scenario) (c : Column) : Type 0 where
  pub dims : c.dims ≡ dims_of w.shape
  pub is : IsFrozen w c.key c.cells

-- Columns of one key are equal: which of them a book keeps makes no difference.
abbrev pub IsOneEach : List Column → Type 0
IsOneEach cs = AllPairs (λ (a b : Column). a.key ≡ b.key → a ≡ b) cs

-- The key of the column where row i of the asked sketch has the bucket of the flow.
abbrev pub place_key : Scenario → Ask → ℕ → Key
place_key w q i = record { switch = q.switch; epoch = q.epoch; index = place w.shape (asked_key w q) i }

-- Of no row of the flow did a column come to a host.
abbrev pub NoneArrived : Scenario → Ask → Type 0
NoneArrived w q = (i : ℕ) → i < w.shape.rows → All (λ (c : Column). c.key ≢ place_key w q i) (brought_to_all w (picked w))

-- The answer of a run's book to an ask is true, and no row is known exactly where none arrived.
pub record IsTrueOf (w : Scenario) (q : Ask) : Type 0 where
  pub is : IsTrueIn w (book_of w) q
  pub unknown : (answered (book_of w) w q).rows_known ≡ 0 ↔ NoneArrived w q

-- What packets carry is allowed; each column that came to a host is its switch's frozen one, and those of one key are
-- equal; the book agrees with what each switch froze; and each answer is true.
pub record IsTrueRun (w : Scenario) : Type 0 where
  pub allowed : IsAllowed w (picked w)
  pub frozen : All (IsFrozenColumn w) (brought_to_all w (picked w))
  pub one_each : IsOneEach (brought_to_all w (picked w))
  pub agrees : AgreesWith w (book_of w)
  pub answers : All (IsTrueOf w) w.asks

-- The law of true runs: so it is for every scenario.
abbrev pub LawOfTrueRuns : Type 0
LawOfTrueRuns = (w : Scenario) → IsWhole w → IsTrueRun w
