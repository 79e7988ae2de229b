-- What a sketch notes of the places that it counted at since it was all zeros.
use Rattle.std.specs.Prelude.{◌≡◌, ◌≢◌, ◌<◌, ℕ, List, [], Bool, false, length, slice_index_or, slice_set}
use Rattle.lg_model.specs.Sketch.{Table, bucket_at, zero_bucket}

-- A note: the places of the packets, the first `count` of the list, or `many` where there was no room for them all.
pub record Noted : Type 0 where
  pub many : Bool
  pub count : ℕ
  pub list : List (List ℕ)

-- The place in row i of the packet that was noted n-th, from 0.
abbrev pub noted_place : List (List ℕ) → ℕ → ℕ → ℕ
noted_place list n i = slice_index_or (slice_index_or list n []) i 0

-- By the note, no packet was counted in row i at index j.
pub record Untouched (note : Noted) (i j : ℕ) : Type 0 where
  pub few : note.many ≡ false
  pub none : (n : ℕ) → n < note.count → noted_place note.list n i ≢ j

-- All buckets of the table are zeros but those that the note tells of.
abbrev pub IsNoted : Noted → Table → Type 0
IsNoted note table = (i j : ℕ) → i < length table → Untouched note i j → bucket_at table i j ≡ zero_bucket

-- The new note tells of all that the old one tells of, and of these places.
abbrev pub IsNotedToo : List ℕ → Noted → Noted → Type 0
IsNotedToo places old new = (i j : ℕ) → Untouched new i j → Untouched old i j × (slice_index_or places i 0 ≢ j)

-- The new table has a zero in each row at its place, and is the old one elsewhere.
pub record AreZeroedAt (places : List ℕ) (old new : Table) : Type 0 where
  pub rows : length new ≡ length old
  pub each : (i : ℕ) → i < length old → slice_index_or new i [] ≡ slice_set (slice_index_or old i []) (slice_index_or places i 0) zero_bucket

-- The first places of an array are those of a packet.
abbrev pub ArePlaces : List ℕ → List ℕ → Type 0
ArePlaces array places = (i : ℕ) → i < length places → slice_index_or array i 0 ≡ slice_index_or places i 0
