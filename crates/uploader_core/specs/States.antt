-- How far each upload of a host is. The number of an upload is its position in the list of states.
use Rattle.std.specs.Prelude.{◌≡◌, ℕ, ◌<◌, ◌≤◌, Bool, true, false, List, length, map, count_by, position, nat_lt, slice_index_or, slice_set, Option, None, if◌then◌else◌}
use Rattle.lg_model.specs.declared.limits.TheConstants.{MOST_OUTSTANDING}
use Rattle.uploader_core.specs.declared.state.SeqState.{SeqState}
use Rattle.uploader_core.specs.declared.state.SeqState.TheVariants.{Idle, Outstanding, Acknowledged, Refused}

abbrev pub is_idle : SeqState → Bool
is_idle Idle = true
is_idle Outstanding = false
is_idle Acknowledged = false
is_idle Refused = false

abbrev pub is_outstanding : SeqState → Bool
is_outstanding Idle = false
is_outstanding Outstanding = true
is_outstanding Acknowledged = false
is_outstanding Refused = false

abbrev pub is_acknowledged : SeqState → Bool
is_acknowledged Idle = false
is_acknowledged Outstanding = false
is_acknowledged Acknowledged = true
is_acknowledged Refused = false

-- The state of an upload; past the last one, a state that nothing changes.
abbrev pub state_at : List SeqState → ℕ → SeqState
state_at states seq = slice_index_or states seq Refused

-- How many are outstanding.
abbrev pub outstanding : List SeqState → ℕ
outstanding states = count_by is_outstanding states

-- The upload to be sent next: the least idle one, where fewer than 8 are outstanding.
abbrev pub next_of : List SeqState → Option ℕ
next_of states = if nat_lt (outstanding states) MOST_OUTSTANDING then position is_idle states else None

-- The states after that one is sent.
abbrev pub sent : List SeqState → ℕ → List SeqState
sent states seq = slice_set states seq Outstanding

-- Waiting for replies is given up.
abbrev pub idle_again : SeqState → SeqState
idle_again Idle = Idle
idle_again Outstanding = Idle
idle_again Acknowledged = Acknowledged
idle_again Refused = Refused

abbrev pub ticked : List SeqState → List SeqState
ticked states = map idle_again states

-- The state after an acknowledgement, and after a refusal. What was refused stays so, and so does what was acknowledged.
abbrev pub acknowledged : SeqState → SeqState
acknowledged Idle = Acknowledged
acknowledged Outstanding = Acknowledged
acknowledged Acknowledged = Acknowledged
acknowledged Refused = Refused

abbrev pub refused : SeqState → SeqState
refused Idle = Refused
refused Outstanding = Refused
refused Acknowledged = Acknowledged
refused Refused = Refused

-- What the code keeps beside the states: none below `low` is idle, and how many are outstanding and acknowledged.
pub record IsTallied (states : List SeqState) (low out done : ℕ) : Type 0 where
  pub passed : (k : ℕ) → k < low → is_idle (state_at states k) ≡ false
  pub within : low ≤ length states
  pub counted : out ≡ outstanding states
  pub few : out ≤ MOST_OUTSTANDING
  pub closed : done ≡ count_by is_acknowledged states
