-- Worked frames and replies, by computation.
use Rattle.std.specs.Prelude.{◌≡◌, ℕ, List, [], ◌∷◌, ◌++◌, map, take, replicate, true, false, None, Some, Ok, Err}
use Rattle.std.specs.List.{range_with_len}
use Rattle.lg_model.specs.declared.scenario.Hash.TheVariants.{Ports}
use Rattle.sketchlet_wire.specs.Uploads.{UploadData, upload_of}
use Rattle.sketchlet_wire.specs.Worked.{worked, worked_spelling}
use Rattle.upload_frame.specs.declared.fault.FrameFault.{FrameFault}
use Rattle.upload_frame.specs.declared.fault.FrameFault.TheVariants.{Length, Kind, Count, Twice, Code, KeyNotZero}
use Rattle.upload_frame.specs.declared.frame.Frame.{Frame}
use Rattle.upload_frame.specs.declared.frame.Frame.TheVariants.{Hello, Upload, Bye}
use Rattle.upload_frame.specs.declared.reply.RefusedWhy.TheVariants as why
use Rattle.upload_frame.specs.declared.reply.Reply.{Reply}
use Rattle.upload_frame.specs.declared.reply.Reply.TheVariants.{Acknowledged, Refused}
use Rattle.upload_frame.specs.Front.{Front, front_at}
use Rattle.upload_frame.specs.Frames.{frames, frame_bytes}
use Rattle.upload_frame.specs.Replies.{replies, reply_bytes}

-- The upload of the worked column as number 0 of host 1.
abbrev pub one_upload : UploadData
one_upload = upload_of 1 0 (worked ∷ [])

-- Its frame, with that length and count, and these sketchlets.
abbrev pub upload_bytes : (length count : ℕ) → List ℕ → List ℕ
upload_bytes length count columns = 0 ∷ length ∷ 2 ∷ 0 ∷ 1 ∷ 0 ∷ 0 ∷ 0 ∷ 0 ∷ count ∷ columns

abbrev pub one_frame : List ℕ
one_frame = upload_bytes 34 1 worked_spelling

abbrev pub hello_two_rows : List ℕ
hello_two_rows = 0 ∷ 15 ∷ 1 ∷ 0 ∷ 1 ∷ 2 ∷ 0 ∷ 1 ∷ 0 ∷ 0 ∷ 0 ∷ 0 ∷ 0 ∷ 0 ∷ 0 ∷ 0 ∷ 0 ∷ []

abbrev pub bye_one : List ℕ
bye_one = 0 ∷ 3 ∷ 3 ∷ 0 ∷ 1 ∷ []

-- An acknowledgement to upload 0 of host 1 with that code, and a refusal with that code and a key whose index ends so.
abbrev pub acknowledged : (code : ℕ) → List ℕ
acknowledged code = 0 ∷ 8 ∷ 0x82 ∷ 0 ∷ 1 ∷ 0 ∷ 0 ∷ 0 ∷ 0 ∷ code ∷ []

abbrev pub refused : (code index : ℕ) → List ℕ
refused code index = 0 ∷ 16 ∷ 0x83 ∷ 0 ∷ 1 ∷ 0 ∷ 0 ∷ 0 ∷ 0 ∷ code ∷ 0 ∷ 0 ∷ 0 ∷ 0 ∷ 0 ∷ 0 ∷ 0 ∷ index ∷ []

abbrev pub nothing : Front Frame
nothing = Ok None

abbrev pub fault : FrameFault → Front Frame
fault f = Err f

abbrev pub reply_fault : FrameFault → Front Reply
reply_fault f = Err f

pub record WorkedFrames : Type 0 where
  pub upload_spelled : frame_bytes (Upload one_upload) ≡ one_frame
  pub upload_read : front_at frames one_frame ≡ Ok (Some (Upload one_upload, 36))
  pub prefixes : map (λ n. front_at frames (take n one_frame)) (range_with_len 0 36) ≡ replicate 36 nothing
  pub hello_spelled : frame_bytes (Hello 1 (record { rows = 2; width = 1; hash = Ports })) ≡ hello_two_rows
  pub hello_read : front_at frames hello_two_rows ≡ Ok (Some (Hello 1 (record { rows = 2; width = 1; hash = Ports }), 17))
  pub bye_read : front_at frames (bye_one ++ 9 ∷ []) ≡ Ok (Some (Bye 1, 5))
  pub no_length : front_at frames (0 ∷ 0 ∷ []) ≡ fault (Length 0)
  pub long : front_at frames (3 ∷ 233 ∷ []) ≡ fault (Length 1001)
  pub kind : front_at frames (0 ∷ 3 ∷ 7 ∷ []) ≡ fault (Kind 7)
  pub kind_before_length : front_at frames (0 ∷ 4 ∷ 7 ∷ []) ≡ fault (Kind 7)
  pub bye_length : front_at frames (0 ∷ 4 ∷ 3 ∷ []) ≡ fault (Length 4)
  pub reply_kind : front_at frames (0 ∷ 3 ∷ 0x81 ∷ []) ≡ fault (Kind 0x81)
  pub count : front_at frames (upload_bytes 34 17 worked_spelling) ≡ fault (Count 17)
  pub twice : front_at frames (upload_bytes 60 2 (worked_spelling ++ worked_spelling)) ≡ fault (Twice 1)
  pub longer : front_at frames (upload_bytes 35 1 (worked_spelling ++ 0 ∷ [])) ≡ fault (Length 35)
  pub stored_spelled : reply_bytes (Acknowledged 1 0 false) ≡ acknowledged 0
  pub known_read : front_at replies (acknowledged 1) ≡ Ok (Some (Acknowledged 1 0 true, 10))
  pub code : front_at replies (acknowledged 2) ≡ reply_fault (Code 2)
  pub full_read : front_at replies (refused 2 0) ≡ Ok (Some (Refused 1 0 why.Full, 18))
  pub conflict_read : front_at replies (refused 1 1) ≡ Ok (Some (Refused 1 0 (why.Conflict (record { switch = 0; epoch = 0; index = 1 })), 18))
  pub key_not_zero : front_at replies (refused 2 1) ≡ reply_fault KeyNotZero
  pub code_before_key : front_at replies (refused 5 1) ≡ reply_fault (Code 5)
