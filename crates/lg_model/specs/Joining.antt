-- Contents that are joined, and contents that agree with a scenario.
use Rattle.std.specs.Prelude.{◌≡◌, ℕ, ◌<◌, length, fold, slice_index, IfSome}
use Rattle.std.specs.BTreeMap.{insert_entry}
use Rattle.lg_model.specs.declared.column.Key.{Key}
use Rattle.lg_model.specs.Scenario.{Scenario, ended}
use Rattle.lg_model.specs.Sketch.{frozen_cells}
use Rattle.lg_model.specs.Columns.{Cells}
use Rattle.lg_model.specs.Answer.{Content, key_cmp, found}

-- No key has different counters in the two.
abbrev pub AreJoinable : Content → Content → Type 0
AreJoinable m n = (k : Key) → IfSome (found m k) (λ v. IfSome (found n k) (λ u. u ≡ v))

abbrev pub with_pair : Content → Key × Cells → Content
with_pair content p = insert_entry key_cmp content p.0 p.1

-- The pairs of both. (Under a key of both stand the counters of the second; they are joined only where these are the same.)
abbrev pub join : Content → Content → Content
join m n = fold with_pair m n

-- The switch of that name stands at position s.
pub record IsSwitch (w : Scenario) (name s : ℕ) : Type 0 where
  pub declared : s < length w.switches
  pub named : slice_index w.switches s ≡ name

-- The counters under a key are those that its switch froze there, at the end of an epoch that ended in the scenario.
pub record IsFrozen (w : Scenario) (key : Key) (cells : Cells) : Type 0 where
  pub switch_at : ℕ
  pub switch : IsSwitch w key.switch switch_at
  pub ended : key.epoch < ended w switch_at (length w.steps)
  pub index : key.index < w.shape.width
  pub same : cells ≡ frozen_cells w switch_at key.epoch key.index

-- A content agrees with a scenario: all its counters are frozen ones of it.
abbrev pub AgreesWith : Scenario → Content → Type 0
AgreesWith w content = (k : Key) → IfSome (found content k) (IsFrozen w k)
