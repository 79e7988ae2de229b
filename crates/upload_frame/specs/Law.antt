-- Laws of frames and replies on a stream, each side by its format, its spellings and what has one.
use Rattle.std.specs.Prelude.{◌≡◌, ℕ, ◌<◌, ◌≤◌, List, [], ◌∷◌, ◌++◌, length, Option, None, Some, Ok, Err}
use Rattle.std.specs.List.{flat_map, AllByRecursion}
use Rattle.byte_fields.specs.Law.{IsBytes}
use Rattle.lg_model.specs.Columns.{Column}
use Rattle.sketchlet_wire.specs.Spelling.{IsColumn, spelling}
use Rattle.sketchlet_wire.specs.Uploads.{IsUpload}
use Rattle.upload_frame.specs.declared.fault.FrameFault.{FrameFault}
use Rattle.upload_frame.specs.declared.fault.NextFault.TheVariants as next
use Rattle.upload_frame.specs.Front.{Format, Front, front_at, IsUnfinished}
use Rattle.upload_frame.specs.Frames.{columns_at}
use Rattle.upload_frame.specs.Machine.{ReaderData, reader_of, fed, Stepped, Ends, Streams, Follows}

abbrev pub IsSettled : {F : Type 0} → Front F → Type 0
IsSettled (Ok None) = ⊥
IsSettled (Ok (Some x)) = Unit {0}
IsSettled (Err f) = Unit {0}

-- The front of a stream: a frame or a fault that is there stays, whatever comes after it; a frame is some of the bytes; and
-- nothing is there exactly where the bytes are unfinished.
pub record LawOfFronts {F : Type 0} (format : Format F) : Type 0 where
  pub more : (bytes more : List ℕ) → IsSettled (front_at format bytes) → front_at format (bytes ++ more) ≡ front_at format bytes
  pub inside : (bytes : List ℕ) (f : F) (len : ℕ) → front_at format bytes ≡ Ok (Some (f, len)) → (0 < len) × (len ≤ length bytes)
  pub unfinished : (bytes : List ℕ) → front_at format bytes ≡ Ok None → IsUnfinished format.lens bytes
  pub none : (bytes : List ℕ) → IsUnfinished format.lens bytes → front_at format bytes ≡ Ok None

-- The stream is the spellings of these frames, one after the other, up to a rest that ends so.
pub record Parts {F : Type 0} (format : Format F) (Is : F → Type 0) (spelled : F
    → List ℕ) (stream : List ℕ) (fs : List F) (end : Option FrameFault) : Type 0 where
  pub rest : List ℕ
  pub whole : stream ≡ flat_map spelled fs ++ rest
  pub each : AllByRecursion Is fs
  pub ends : Ends format rest end

-- Spellings: none is a proper prefix of another, and each is of one frame; what a stream gives are the frames whose
-- spellings it is, one after the other.
pub record LawOfFrames {F : Type 0} (format : Format F) (Is : F → Type 0) (spelled : F → List ℕ) : Type 0 where
  pub apart : (f g : F) (x y : List ℕ) → Is f → Is g → spelled f ++ x ≡ spelled g ++ y → (f ≡ g) × (x ≡ y)
  pub again : (f : F) (rest : List ℕ) → Is f → front_at format (spelled f ++ rest) ≡ Ok (Some (f, length (spelled f)))
  pub taken : (stream : List ℕ) (fs : List F) (end : Option FrameFault) → IsBytes stream → Streams format stream fs end → Parts format Is spelled stream fs end
  pub given : (stream : List ℕ) (fs : List F) (end : Option FrameFault) → Parts format Is spelled stream fs end → Streams format stream fs end

-- A reader follows the stream that it is fed, whatever the pieces: it gives the frames of the stream in order, and its
-- fault is the stream's.
pub record LawOfReaders {F : Type 0} (format : Format F) : Type 0 where
  pub start : Follows format [] [] (reader_of [] 0 None)
  pub fed : (stream : List ℕ) (fs : List F) (r : ReaderData) (piece : List ℕ) → Follows format stream fs r → Follows format (stream ++ piece) fs (fed r piece)
  pub gave : (stream : List ℕ) (fs : List F) (f : F) (r new : ReaderData) → Follows format stream fs r → Stepped format r (Ok (Some f)) new
      → Follows format stream (fs ++ f ∷ []) new
  pub none : (stream : List ℕ) (fs : List F) (r new : ReaderData) → Follows format stream fs r → Stepped format r (Ok None) new → (r ≡ new)
      × Streams format stream fs None
  pub failed : (stream : List ℕ) (fs : List F) (f : FrameFault) (r new : ReaderData) → Follows format stream fs r → Stepped format r (Err (next.Frame f)) new
      → Follows format stream fs new × (new.fault ≡ Some f) × Streams format stream fs (Some f)

-- The columns of an upload are read as they are spelled, and are spelled as they are read.
pub record LawOfColumns : Type 0 where
  pub again : (len : ℕ) (cs : List Column) → IsUpload cs → AllByRecursion IsColumn cs → columns_at len (length cs) [] (flat_map spelling cs) ≡ Ok cs
  pub taken : (len n : ℕ) (bytes : List ℕ) (cs : List Column) → IsBytes bytes → columns_at len n [] bytes ≡ Ok cs
      → (bytes ≡ flat_map spelling cs) × AllByRecursion IsColumn cs × (length cs ≡ n)
