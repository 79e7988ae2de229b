-- Which uploads of a host are to be sent, and which wait. The number of an upload is its position in the list of states.
use Rattle.std.specs.Prelude.{◌≡◌, ℕ, ◌+◌, ◌<◌, Bool, true, false, not, List, [], ◌∷◌, count_by, length, if◌then◌else◌}
use Rattle.std.specs.List.{list_all}
use Rattle.lg_model.specs.declared.limits.TheConstants.{MOST_OUTSTANDING}
use Rattle.uploader_core.specs.declared.state.SeqState.{SeqState}
use Rattle.uploader_core.specs.declared.state.SeqState.TheVariants.{Idle, Outstanding, Acknowledged, Refused}
use Rattle.uploader_core.specs.States.{is_idle, is_acknowledged, outstanding, state_at}

abbrev pub is_refused : SeqState → Bool
is_refused Idle = false
is_refused Outstanding = false
is_refused Acknowledged = false
is_refused Refused = true

-- How many the analyser refused.
abbrev pub refusals : List SeqState → ℕ
refusals ss = count_by is_refused ss

-- The numbers of the uploads that are to be sent, the least first; the first state of the list is that of number n.
abbrev pub idle_from : ℕ → List SeqState → List ℕ
idle_from n [] = []
idle_from n (s ∷ ss) = if is_idle s then n ∷ idle_from (n + 1) ss else idle_from (n + 1) ss

-- How many are not acknowledged.
abbrev pub is_waiting : SeqState → Bool
is_waiting s = not (is_acknowledged s)

abbrev pub unacknowledged : List SeqState → ℕ
unacknowledged ss = count_by is_waiting ss

abbrev pub all_acknowledged : List SeqState → Bool
all_acknowledged ss = list_all is_acknowledged ss

-- The upload of that number is the next to be sent: fewer than 8 are outstanding, and it is the least idle one.
pub record IsNext (ss : List SeqState) (q : ℕ) : Type 0 where
  pub room : outstanding ss < MOST_OUTSTANDING
  pub short : q < length ss
  pub idle : state_at ss q ≡ Idle
  pub least : (k : ℕ) → k < q → is_idle (state_at ss k) ≡ false
