-- The frame at the front of a stream, or the first check that fails there. It holds for frames and for replies: each has a
-- table of kinds, and a reading of the fields of a whole one.
use Rattle.std.specs.Prelude.{◌≡◌, ℕ, ◌+◌, ◌<◌, ◌≤◌, ◌⊎◌, Bool, true, not, ◌||◌, ◌&&◌, ◌==◌, nat_lt, nat_le, List}
use Rattle.std.specs.Prelude.{◌∷◌, ◌++◌, length, take, slice_index, slice_range, Option, None, Some, Result, Ok, Err, if◌then◌else◌}
use Rattle.std.specs.Int.{w16, from_be_bytes, to_be_bytes}
use Rattle.byte_fields.specs.Reading.{◌>>=◌}
use Rattle.lg_model.specs.declared.limits.TheConstants.{MOST_FRAME_BYTES}
use Rattle.upload_frame.specs.declared.fault.FrameFault.{FrameFault}
use Rattle.upload_frame.specs.declared.fault.FrameFault.TheVariants.{Length, Kind}

-- The least and the most length of each kind, which counts the kind and the fields; none for a kind that isn't admitted.
abbrev pub Lens : Type 0
Lens = ℕ → Option (ℕ × ℕ)

abbrev pub fits_lens : ℕ × ℕ → ℕ → Bool
fits_lens r len = nat_le r.0 len && nat_le len r.1

-- The kind, the length and the fields of a whole frame.
pub record Head : Type 0 where
  pub kind : ℕ
  pub len : ℕ
  pub body : List ℕ

abbrev pub head_of_parts : (kind len : ℕ) → List ℕ → Head
head_of_parts kind len body = record { kind = kind; len = len; body = body }

abbrev pub HeadFront : Type 0
HeadFront = Result (Option Head) FrameFault

-- The length field, of which two bytes are there.
abbrev pub length_of : List ℕ → ℕ
length_of bytes = from_be_bytes w16 (take 2 bytes)

-- What the checks after the kind give: first the length for that kind, then whether all is there.
abbrev pub with_lens : (len kind : ℕ) → List ℕ → Option (ℕ × ℕ) → HeadFront
with_lens len kind bytes None = Err (Kind kind)
with_lens len kind bytes (Some r) =
    if not (fits_lens r len) then Err (Length len)
    else (if nat_lt (length bytes) (len + 2) then Ok None
    else Ok (Some (head_of_parts kind len (slice_range bytes 3 (len + 2)))))

abbrev pub is_bad_length : ℕ → Bool
is_bad_length len = len == 0 || nat_lt MOST_FRAME_BYTES len

abbrev pub with_length : Lens → ℕ → List ℕ → HeadFront
with_length lens len bytes =
    if is_bad_length len then Err (Length len)
    else (if nat_lt (length bytes) 3 then Ok None else with_lens len (slice_index bytes 2) bytes (lens (slice_index bytes 2)))

-- Nothing where the frame isn't whole yet; else its kind, its length and its fields.
unfoldable pub head_at : Lens → List ℕ → HeadFront
head_at lens bytes = if nat_lt (length bytes) 2 then Ok None else with_length lens (length_of bytes) bytes

-- Frames of one side: its kinds, and what the fields of a whole one are read as.
pub record Format (F : Type 0) : Type 0 where
  pub lens : Lens
  pub fields_at : (len kind : ℕ) → List ℕ → Result F FrameFault

-- A frame and its length on the stream, or nothing, or a fault.
abbrev pub Front : Type 0 → Type 0
Front F = Result (Option (F × ℕ)) FrameFault

abbrev pub front_with : {F : Type 0} → Format F → Option Head → Front F
front_with format None = Ok None
front_with format (Some h) = format.fields_at h.len h.kind h.body >>= λ f. Ok (Some (f, h.len + 2))

abbrev pub front_at : {F : Type 0} → Format F → List ℕ → Front F
front_at format bytes = head_at format.lens bytes >>= front_with format

-- The spelling of a frame of that kind with these fields: the length in 2 bytes, the kind, the fields.
unfoldable pub framed : (kind : ℕ) → List ℕ → List ℕ
framed kind fields = to_be_bytes w16 (length fields + 1) ++ kind ∷ fields

-- ---- a rest that is no whole frame yet, in words

abbrev pub IsLength : ℕ → Type 0
IsLength len = (0 < len) × (len ≤ MOST_FRAME_BYTES)

-- Three bytes or more that pass the checks, and fewer than the length and two.
pub record IsPart (lens : Lens) (s : List ℕ) : Type 0 where
  pub some : 3 ≤ length s
  pub first : IsLength (length_of s)
  pub range : ℕ × ℕ
  pub kind : lens (slice_index s 2) ≡ Some range
  pub fits : fits_lens range (length_of s) ≡ true
  pub fewer : length s < length_of s + 2

-- Nothing, one byte, two bytes with a good length, or such a part.
abbrev pub IsUnfinished : Lens → List ℕ → Type 0
IsUnfinished lens s = (length s < 2) ⊎ (((length s ≡ 2) × IsLength (length_of s)) ⊎ IsPart lens s)
