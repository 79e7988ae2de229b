-- A disk: what a read gives after some calls, and what a crash may leave, by computation and by cases.
use Rattle.std.specs.Prelude.{◌≡◌, [], ◌∷◌}
use Rattle.lg_disk.specs.declared.call.Call.TheVariants.{Nothing, Write, Cut, Sync}
use Rattle.lg_disk.specs.Disk.{with_bytes, Torn, Shorter}
use Rattle.lg_disk.specs.Model.{State, start, run, IsImage}

-- Two bytes are written over the third one and past the end, the file is cut to two, and one byte is written past that.
abbrev pub changed : State
changed = run (start (1 ∷ 2 ∷ 3 ∷ [])) (Write 2 (7 ∷ 8 ∷ []) ∷ Cut 2 ∷ Write 2 (9 ∷ []) ∷ [])

-- The first byte of three is written over.
abbrev pub first_changed : State
first_changed = run (start (1 ∷ 2 ∷ 3 ∷ [])) (Write 0 (7 ∷ []) ∷ [])

pub record WorkedDisks : Type 0 where
  pub over : with_bytes (1 ∷ 2 ∷ 3 ∷ 4 ∷ []) 1 (8 ∷ 9 ∷ []) ≡ 1 ∷ 8 ∷ 9 ∷ 4 ∷ []
  pub past : with_bytes (1 ∷ 2 ∷ []) 1 (8 ∷ 9 ∷ []) ≡ 1 ∷ 8 ∷ 9 ∷ []
  pub after : changed ≡ record {
    seen = 1 ∷ 2 ∷ 9 ∷ [];
    synced = 1 ∷ 2 ∷ 3 ∷ [];
    written = (2, 2) ∷ (2, 1) ∷ [];
    least = 2;
    greatest = 4;
  }
  -- a write past the end changes nothing, nor does a cut past it; a sync makes all certain
  pub no_hole : run (start (1 ∷ [])) (Write 2 (7 ∷ []) ∷ Cut 5 ∷ Nothing ∷ []) ≡ start (1 ∷ [])
  pub synced : run changed (Sync ∷ []) ≡ start (1 ∷ 2 ∷ 9 ∷ [])
  -- what a crash may leave: the cut without the writes; the writes torn, at their full length
  pub cut_alone : IsImage changed (1 ∷ 2 ∷ [])
  pub torn : IsImage changed (1 ∷ 2 ∷ 77 ∷ 78 ∷ [])
  -- and what not: fewer bytes than the least length, more than the greatest, another byte outside the ranges
  pub not_shorter : IsImage changed (1 ∷ []) → ⊥
  pub not_longer : IsImage changed (1 ∷ 2 ∷ 7 ∷ 8 ∷ 9 ∷ []) → ⊥
  pub not_outside : IsImage changed (1 ∷ 5 ∷ 7 ∷ []) → ⊥
  pub not_next : IsImage first_changed (7 ∷ 5 ∷ 3 ∷ []) → ⊥
  -- right after a sync there is one
  pub one_synced : IsImage (start (1 ∷ [])) (2 ∷ []) → ⊥
  -- a crash within a call: a write leaves no shorter a file, and nothing past its range; a cut no other bytes
  pub torn_shorter : Torn 1 1 (1 ∷ 2 ∷ 3 ∷ []) (1 ∷ 2 ∷ []) → ⊥
  pub torn_longer : Torn 1 1 (1 ∷ 2 ∷ 3 ∷ []) (1 ∷ 7 ∷ 7 ∷ 3 ∷ []) → ⊥
  pub torn_in_range : Torn 1 1 (1 ∷ 2 ∷ 3 ∷ []) (1 ∷ 7 ∷ 3 ∷ [])
  pub too_short : Shorter 2 (1 ∷ 2 ∷ 3 ∷ []) (1 ∷ []) → ⊥
  pub other_bytes : Shorter 2 (1 ∷ 2 ∷ 3 ∷ []) (1 ∷ 7 ∷ []) → ⊥
