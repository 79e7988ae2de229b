-- Frames taken off a source, one after the other.
use Rattle.std.specs.Prelude.{◌≡◌, ℕ, ◌+◌, ◌≤◌, List, ◌++◌, length, drop, Option, None, Some, Result, Ok, Err}
use Rattle.std.specs.Io.KnownBytes.{Consumes, IsAtEnd}
use Rattle.upload_frame.specs.declared.frame.Frame.{Frame}
use Rattle.upload_frame.specs.Front.{front_at}
use Rattle.upload_frame.specs.Frames.{frames}
use Rattle.upload_frame.specs.Machine.{ReaderData, reader_of}
use Rattle.analyser_session.specs.declared.fault.SessionFault.{SessionFault}
use Rattle.analyser_session.specs.declared.fault.SessionFault.TheVariants as faults

-- A reader that met no fault and holds little: a piece, and less than a frame.
pub record IsOpen (r : ReaderData) : Type 0 where
  pub clear : r.fault ≡ None
  pub small : length r.rest ≤ 5097
  pub few : r.taken ≤ 1002000000

-- What the bytes at hand say: a frame at their front, its first fault, or too few bytes with nothing left.
abbrev pub Gets : Option (List ℕ) → List ℕ → (before taken : ℕ) → ReaderData → Result Frame SessionFault → Type 0
Gets end bytes before taken r (Ok f) =
    (k : ℕ) × (front_at frames bytes ≡ Ok (Some (f, k))) × (r ≡ reader_of (drop k bytes) (before + k) None)
    × (length (drop k bytes) ≤ 5097)
Gets end bytes before taken r (Err (faults.Frame at fault)) = (front_at frames bytes ≡ Err fault) × (at ≡ before)
Gets end bytes before taken r (Err (faults.Early at)) = (front_at frames bytes ≡ Ok None) × (at ≡ taken) × IsAtEnd end
Gets end bytes before taken r (Err faults.TooMany) = ⊥
Gets end bytes before taken r (Err faults.ReadFault) = Unit {0}
Gets end bytes before taken r (Err faults.WriteFault) = ⊥
Gets end bytes before taken r (Err faults.Memory) = Unit {0}

-- The next frame was asked for: these bytes more were taken off the source.
pub record Next (old new : Option (List ℕ)) (before after : ReaderData) (count_before count_after : ℕ)
    (result : Result Frame SessionFault) : Type 0 where
  pub piece : List ℕ
  pub consumed : Consumes old new piece
  pub near : length (before.rest ++ piece) ≤ 5097
  pub count : count_after ≡ count_before + length piece
  pub gets : Gets new (before.rest ++ piece) before.taken count_after after result
