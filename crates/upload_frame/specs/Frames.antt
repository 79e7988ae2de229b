-- Frames, which hosts send: their kinds, their fields and their one spelling.
use Rattle.std.specs.Prelude.{ℕ, zero, suc, ◌<◌, ◌^◌, ◌||◌, ◌==◌, nat_lt, List, []}
use Rattle.std.specs.Prelude.{◌∷◌, ◌++◌, length, drop, None, Some, Result, Ok, Err, if◌then◌else◌}
use Rattle.std.specs.List.{flat_map}
use Rattle.std.specs.Int.{w16, w32, to_be_bytes}
use Rattle.byte_fields.specs.Reading.{◌>>=◌, byte_at, number_at}
use Rattle.lg_model.specs.declared.limits.TheConstants.{MOST_FRAME_BYTES, MOST_UPLOAD_COLUMNS}
use Rattle.lg_model.specs.Columns.{Column}
use Rattle.sketchlet_wire.specs.declared.fault.WireFault.{WireFault}
use Rattle.sketchlet_wire.specs.Spelling.{spelling}
use Rattle.sketchlet_wire.specs.Reading.{column_reading}
use Rattle.sketchlet_wire.specs.ShapeFields.{FitsShape, shape_bytes, shape_at}
use Rattle.sketchlet_wire.specs.Uploads.{UploadData, IsFull, holds_key, upload_of}
use Rattle.upload_frame.specs.declared.fault.FrameFault.{FrameFault}
use Rattle.upload_frame.specs.declared.fault.FrameFault.TheVariants.{Length, BadShape, Count, Wire, Twice}
use Rattle.upload_frame.specs.declared.frame.Frame.{Frame}
use Rattle.upload_frame.specs.declared.frame.Frame.TheVariants.{Hello, Upload, Bye}
use Rattle.upload_frame.specs.Front.{Lens, Format, framed}

-- A hello has the length 15, an upload 28 to 1000, a bye 3.
abbrev pub frame_lens : Lens
frame_lens kind =
    if kind == 1 then Some (15, 15)
    else (if kind == 2 then Some (28, MOST_FRAME_BYTES)
    else (if kind == 3 then Some (3, 3) else None))

abbrev pub frame_kind : Frame → ℕ
frame_kind (Hello host shape) = 1
frame_kind (Upload u) = 2
frame_kind (Bye host) = 3

-- The fields: of an upload the host, its number, how many columns, and their spellings.
abbrev pub frame_fields : Frame → List ℕ
frame_fields (Hello host shape) = to_be_bytes w16 host ++ shape_bytes shape
frame_fields (Upload u) = to_be_bytes w16 u.host ++ (to_be_bytes w32 u.seq ++ length u.columns ∷ flat_map spelling u.columns)
frame_fields (Bye host) = to_be_bytes w16 host

abbrev pub frame_bytes : Frame → List ℕ
frame_bytes f = framed (frame_kind f) (frame_fields f)

-- The frame of an upload.
abbrev pub frame_of : UploadData → List ℕ
frame_of u = frame_bytes (Upload u)

-- What has a spelling: numbers that their fields hold.
abbrev pub IsFrame : Frame → Type 0
IsFrame (Hello host shape) = (host < 2 ^ 16) × FitsShape shape
IsFrame (Upload u) = IsFull u
IsFrame (Bye host) = host < 2 ^ 16

-- ---- reading the fields of a whole frame

unfoldable pub hello_at : (len : ℕ) → List ℕ → Result Frame FrameFault
hello_at len body = do
  host ← number_at (Length len) w16 body
  shape ← shape_at (Length len) BadShape host.1
  Ok (Hello host.0 shape.0)

-- A column that is read, with the columns before it.
abbrev pub next_column : List Column → Result (Column × ℕ) WireFault → Result (Column × ℕ) FrameFault
next_column cs (Err f) = Err (Wire (length cs) f)
next_column cs (Ok x) = if holds_key x.0.key cs then Err (Twice (length cs)) else Ok x

-- That many columns more, which are all of the bytes.
unfoldable pub columns_at : (len left : ℕ) → List Column → List ℕ → Result (List Column) FrameFault
columns_at len zero cs bytes = if length bytes == 0 then Ok cs else Err (Length len)
columns_at len (suc n) cs bytes = next_column cs (column_reading bytes) >>= λ x. columns_at len n (cs ++ x.0 ∷ []) (drop x.1 bytes)

-- The host, the number and the count of columns, and the bytes after them.
pub record UploadHead : Type 0 where
  pub host : ℕ
  pub seq : ℕ
  pub count : ℕ

abbrev pub upload_head : (host seq count : ℕ) → UploadHead
upload_head host seq count = record { host = host; seq = seq; count = count }

unfoldable pub upload_head_at : (len : ℕ) → List ℕ → Result (UploadHead × List ℕ) FrameFault
upload_head_at len body = do
  host ← number_at (Length len) w16 body
  seq ← number_at (Length len) w32 host.1
  count ← byte_at (Length len) seq.1
  if nat_lt count.0 1 || nat_lt MOST_UPLOAD_COLUMNS count.0 then Err (Count count.0)
      else Ok (upload_head host.0 seq.0 count.0, count.1)

unfoldable pub upload_at : (len : ℕ) → List ℕ → Result Frame FrameFault
upload_at len body = do
  head ← upload_head_at len body
  columns ← columns_at len head.0.count [] head.1
  Ok (Upload (upload_of head.0.host head.0.seq columns))

unfoldable pub bye_at : (len : ℕ) → List ℕ → Result Frame FrameFault
bye_at len body = do
  host ← number_at (Length len) w16 body
  Ok (Bye host.0)

unfoldable pub frame_fields_at : (len kind : ℕ) → List ℕ → Result Frame FrameFault
frame_fields_at len kind body =
    if kind == 1 then hello_at len body else (if kind == 2 then upload_at len body else bye_at len body)

abbrev pub frames : Format Frame
frames = record { lens = frame_lens; fields_at = frame_fields_at }
