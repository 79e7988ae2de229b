-- What a call does to a thing of the outside.
use Rattle.std.specs.Prelude.{◌≡◌, ◌⊎◌, ℕ, List, Option}
use Rattle.std.specs.Io.KnownBytes.{Appends}
use Rattle.lg_base.specs.Causes.{Rose, AppendsFront}

-- A source or a sink before and after a call: its bytes, where it tells them (those that a source has left, those that
-- a sink holds), and its counts of faults.
pub record Change : Type 0 where
  pub old : Option (List ℕ)
  pub new : Option (List ℕ)
  pub faults_old : ℕ
  pub faults_new : ℕ

-- The change of a thing, by what it tells of its bytes and how it counts its faults.
abbrev pub change : {T : Type 0} → (bytes : T → Option (List ℕ)) → (faults : T → ℕ) → (old new : T) → Change
change bytes faults old new = record { old = bytes old; new = bytes new; faults_old = faults old; faults_new = faults new }

-- It failed in this call, or its count stands at the last value.
abbrev pub HasFailed : Change → Type 0
HasFailed c = Rose c.faults_old c.faults_new

-- It was left alone: the bytes are as before, and it did not fail.
pub record IsUntouched (c : Change) : Type 0 where
  pub bytes : c.new ≡ c.old
  pub faults : c.faults_new ≡ c.faults_old

-- A text was written whole.
abbrev pub WritesAll : Change → List ℕ → Type 0
WritesAll sink text = Appends sink.old sink.new text

-- A front of it was written, and the sink failed.
abbrev pub WritesFront : Change → List ℕ → Type 0
WritesFront sink text = AppendsFront sink.old sink.new text × HasFailed sink

-- Either.
abbrev pub WritesSome : Change → List ℕ → Type 0
WritesSome sink text = WritesAll sink text ⊎ WritesFront sink text

-- ---- a disk

-- A disk before and after a call that only reads: whether it is honest, what a read gives, and its counts of faults.
pub record DiskChange : Type 1 where
  pub honest : Type 0
  pub seen : List ℕ
  pub faults_old : ℕ
  pub faults_new : ℕ

abbrev pub disk_change : {D : Type 0} → (honest : D → Type 0) → (seen : D → List ℕ) → (faults : D → ℕ) →
    (old new : D) → DiskChange
disk_change honest seen faults old new = record { honest = honest old; seen = seen old; faults_old = faults old; faults_new = faults new }

abbrev pub DiskHasFailed : DiskChange → Type 0
DiskHasFailed d = Rose d.faults_old d.faults_new
