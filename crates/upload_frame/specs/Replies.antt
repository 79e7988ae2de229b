-- Replies, which the analyser sends: their kinds, their fields and their one spelling.
use Rattle.std.specs.Prelude.{ℕ, ◌<◌, ◌^◌, Bool, true, false, ◌||◌, ◌==◌, nat_lt}
use Rattle.std.specs.Prelude.{List, [], ◌∷◌, ◌++◌, None, Some, Result, Ok, Err, if◌then◌else◌}
use Rattle.std.specs.Int.{w16, w32, to_be_bytes}
use Rattle.byte_fields.specs.Reading.{◌>>=◌, byte_at, number_at}
use Rattle.lg_model.specs.declared.column.Key.{Key}
use Rattle.sketchlet_wire.specs.Spelling.{FitsKey, column_key_bytes}
use Rattle.sketchlet_wire.specs.Reading.{key_at}
use Rattle.sketchlet_wire.specs.Uploads.{same_column_key}
use Rattle.upload_frame.specs.declared.fault.FrameFault.{FrameFault}
use Rattle.upload_frame.specs.declared.fault.FrameFault.TheVariants.{Length, Code, KeyNotZero}
use Rattle.upload_frame.specs.declared.reply.RefusedWhy.{RefusedWhy}
use Rattle.upload_frame.specs.declared.reply.RefusedWhy.TheVariants as why
use Rattle.upload_frame.specs.declared.reply.Reply.{Reply}
use Rattle.upload_frame.specs.declared.reply.Reply.TheVariants.{Welcome, Acknowledged, Refused, Goodbye}
use Rattle.upload_frame.specs.Front.{Lens, Format, framed}

-- A welcome and a goodbye have the length 3, an acknowledgement 8, a refusal 16.
abbrev pub reply_lens : Lens
reply_lens kind =
    if kind == 0x81 then Some (3, 3)
    else (if kind == 0x82 then Some (8, 8)
    else (if kind == 0x83 then Some (16, 16)
    else (if kind == 0x84 then Some (3, 3) else None)))

abbrev pub reply_kind : Reply → ℕ
reply_kind (Welcome host) = 0x81
reply_kind (Acknowledged host seq known) = 0x82
reply_kind (Refused host seq why) = 0x83
reply_kind (Goodbye host) = 0x84

-- The code of an acknowledgement: 0 for stored, 1 for known.
abbrev pub known_code : Bool → ℕ
known_code false = 0
known_code true = 1

-- The code of a refusal.
abbrev pub why_code : RefusedWhy → ℕ
why_code (why.Conflict key) = 1
why_code why.Full = 2
why_code why.Shape = 3
why_code why.Closed = 4

abbrev pub zero_key : Key
zero_key = record { switch = 0; epoch = 0; index = 0 }

-- The key of a refusal: zeros but at a conflict.
abbrev pub why_key : RefusedWhy → Key
why_key (why.Conflict key) = key
why_key why.Full = zero_key
why_key why.Shape = zero_key
why_key why.Closed = zero_key

abbrev pub reply_fields : Reply → List ℕ
reply_fields (Welcome host) = to_be_bytes w16 host
reply_fields (Acknowledged host seq known) = to_be_bytes w16 host ++ (to_be_bytes w32 seq ++ known_code known ∷ [])
reply_fields (Refused host seq why) = to_be_bytes w16 host ++ (to_be_bytes w32 seq ++ why_code why ∷ column_key_bytes (why_key why))
reply_fields (Goodbye host) = to_be_bytes w16 host

abbrev pub reply_bytes : Reply → List ℕ
reply_bytes r = framed (reply_kind r) (reply_fields r)

-- What has a spelling: numbers that their fields hold.
abbrev pub IsReply : Reply → Type 0
IsReply (Welcome host) = host < 2 ^ 16
IsReply (Acknowledged host seq known) = (host < 2 ^ 16) × (seq < 2 ^ 32)
IsReply (Refused host seq why) = (host < 2 ^ 16) × (seq < 2 ^ 32) × FitsKey (why_key why)
IsReply (Goodbye host) = host < 2 ^ 16

-- ---- reading the fields of a whole reply

abbrev pub is_zero_key : Key → Bool
is_zero_key key = same_column_key key zero_key

-- The reason with that code, 2 to 4, of which the key is zeros.
abbrev pub why_by : ℕ → RefusedWhy
why_by code = if code == 2 then why.Full else (if code == 3 then why.Shape else why.Closed)

unfoldable pub why_of : (code : ℕ) → Key → Result RefusedWhy FrameFault
why_of code key =
    if nat_lt code 1 || nat_lt 4 code then Err (Code code)
    else (if code == 1 then Ok (why.Conflict key)
    else (if is_zero_key key then Ok (why_by code) else Err KeyNotZero))

unfoldable pub welcome_at : (len : ℕ) → List ℕ → Result Reply FrameFault
welcome_at len body = do
  host ← number_at (Length len) w16 body
  Ok (Welcome host.0)

unfoldable pub acknowledged_at : (len : ℕ) → List ℕ → Result Reply FrameFault
acknowledged_at len body = do
  host ← number_at (Length len) w16 body
  seq ← number_at (Length len) w32 host.1
  code ← byte_at (Length len) seq.1
  if nat_lt 1 code.0 then Err (Code code.0) else Ok (Acknowledged host.0 seq.0 (code.0 == 1))

unfoldable pub refused_at : (len : ℕ) → List ℕ → Result Reply FrameFault
refused_at len body = do
  host ← number_at (Length len) w16 body
  seq ← number_at (Length len) w32 host.1
  code ← byte_at (Length len) seq.1
  key ← key_at (Length len) code.1
  reason ← why_of code.0 key.0
  Ok (Refused host.0 seq.0 reason)

unfoldable pub goodbye_at : (len : ℕ) → List ℕ → Result Reply FrameFault
goodbye_at len body = do
  host ← number_at (Length len) w16 body
  Ok (Goodbye host.0)

unfoldable pub reply_fields_at : (len kind : ℕ) → List ℕ → Result Reply FrameFault
reply_fields_at len kind body =
    if kind == 0x81 then welcome_at len body
    else (if kind == 0x82 then acknowledged_at len body
    else (if kind == 0x83 then refused_at len body else goodbye_at len body))

abbrev pub replies : Format Reply
replies = record { lens = reply_lens; fields_at = reply_fields_at }
