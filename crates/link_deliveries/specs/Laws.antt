-- What the deliveries of a link come to, however the letters fall.
use Rattle.std.specs.Prelude.{◌≡◌, ℕ, ◌+◌, ◌*◌, ◌<◌, ◌≤◌, true, false, List, [], length, All, Contains}
use Rattle.lg_model.specs.declared.scenario.Letter.{Letter}
use Rattle.uploader_core.specs.declared.state.SeqState.{SeqState}
use Rattle.uploader_core.specs.States.{is_acknowledged, outstanding, state_at, ticked}
use Rattle.link_deliveries.specs.Waiting.{all_acknowledged, idle_from, refusals, unacknowledged}
use Rattle.link_deliveries.specs.Deliveries.{deliveries, brought_in_all, acknowledge}

-- An upload that is not acknowledged.
pub record Waits (ss : List SeqState) (q : ℕ) : Type 0 where
  pub short : q < length ss
  pub waits : is_acknowledged (state_at ss q) ≡ false

-- The deliveries bring each upload that waits, and no other; all are acknowledged by them.
pub record BringsAll (ss : List SeqState) (ls : List Letter) : Type 0 where
  pub all : (q : ℕ) → Waits ss q → Contains (deliveries ss ls) q
  pub only : All (Waits ss) (deliveries ss ls)
  pub ends : all_acknowledged (acknowledge (ticked ss) (brought_in_all ss ls)) ≡ true

-- So it is wherever the analyser refused none.
abbrev pub LawOfDeliveries : Type 0
LawOfDeliveries = (ss : List SeqState) (ls : List Letter) → refusals ss ≡ 0 → BringsAll ss ls

-- Without letters, and with none outstanding, each upload that is to be sent comes once, in order.
abbrev pub LawOfNoLetters : Type 0
LawOfNoLetters = (ss : List SeqState) → outstanding ss ≡ 0 → refusals ss ≡ 0 → deliveries ss [] ≡ idle_from 0 ss

-- There are at most two deliveries a letter, and one an upload that waits.
abbrev pub LawOfFewness : Type 0
LawOfFewness = (ss : List SeqState) (ls : List Letter) → length (deliveries ss ls) ≤ 2 * length ls + unacknowledged ss
