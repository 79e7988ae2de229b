-- The states of a host's uploads, replies, and what a link brings, by computation.
use Rattle.std.specs.Prelude.{◌≡◌, ℕ, List, [], ◌∷◌, ◌++◌, map, replicate, true, false, None, Some, Ok, Err}
use Rattle.lg_model.specs.declared.scenario.Letter.TheVariants.{Deliver, Lose, LoseReply, Twice, Hold}
use Rattle.sketchlet_wire.specs.Uploads.{UploadData, upload_of}
use Rattle.upload_frame.specs.declared.reply.Reply.TheVariants as reply
use Rattle.upload_frame.specs.declared.reply.RefusedWhy.TheVariants as why
use Rattle.uploader_core.specs.declared.state.SeqState.{SeqState}
use Rattle.uploader_core.specs.declared.state.SeqState.TheVariants.{Idle, Outstanding, Acknowledged, Refused}
use Rattle.uploader_core.specs.States.{next_of, sent, ticked, acknowledged, refused, state_at}
use Rattle.uploader_core.specs.Uploader.{UploaderState, states_after, counts}
use Rattle.link_deliveries.specs.Waiting.{idle_from, unacknowledged, all_acknowledged}
use Rattle.link_deliveries.specs.Deliveries.{send, heard, unheard, sends, round, after_round, letters_after, delivered}
use Rattle.column_book.specs.declared.fault.BookFault.TheVariants as book
use Rattle.shared_book.specs.Replying.{reply_to}
use Rattle.worked_examples.specs.Networks.{key_of}
use Rattle.worked_examples.specs.Applying.{col}

abbrev pub one_each : List SeqState
one_each = Acknowledged ∷ Refused ∷ Outstanding ∷ Idle ∷ Idle ∷ []

abbrev pub up : UploadData
up = upload_of 21 7 []

-- Host 21, with these states.
abbrev pub uploader : UploaderState
uploader = record { host = 21; uploads = []; states = one_each }

-- That many that were sent, and one that was not.
abbrev pub after_sent : ℕ → List SeqState
after_sent n = replicate n Outstanding ++ Idle ∷ []

pub record WorkedLinks : Type 0 where
  -- the least idle one, while fewer than 8 are outstanding
  pub next : map next_of (one_each ∷ [] ∷ after_sent 7 ∷ after_sent 8 ∷ []) ≡ Some 3 ∷ None ∷ Some 7 ∷ None ∷ []
  pub sent_one : sent one_each 3 ≡ Acknowledged ∷ Refused ∷ Outstanding ∷ Outstanding ∷ Idle ∷ []
  pub given_up : ticked one_each ≡ Acknowledged ∷ Refused ∷ Idle ∷ Idle ∷ Idle ∷ []
  -- the first answer stays
  pub acks : map acknowledged one_each ≡ Acknowledged ∷ Refused ∷ Acknowledged ∷ Acknowledged ∷ Acknowledged ∷ []
  pub refusals : map refused one_each ≡ Acknowledged ∷ Refused ∷ Refused ∷ Refused ∷ Refused ∷ []
  pub past_last : state_at one_each 5 ≡ Refused
  -- a reply changes the upload of its number, of its own host alone
  pub own_reply : map (states_after 21 one_each) (reply.Acknowledged 21 2 true ∷ reply.Acknowledged 22 2 true
      ∷ reply.Refused 21 3 why.Full ∷ reply.Goodbye 21 ∷ [])
      ≡ (Acknowledged ∷ Refused ∷ Acknowledged ∷ Idle ∷ Idle ∷ []) ∷ one_each
      ∷ (Acknowledged ∷ Refused ∷ Outstanding ∷ Refused ∷ Idle ∷ []) ∷ one_each ∷ []
  pub counted : map (counts uploader 21) (0 ∷ 1 ∷ 4 ∷ 5 ∷ []) ≡ false ∷ true ∷ true ∷ false ∷ []
  pub other_host : counts uploader 22 3 ≡ false
  -- known where nothing was new, and a refusal by its cause
  pub replies : map (reply_to up) (Ok [] ∷ Ok (col 1 1 ∷ []) ∷ Err (book.Full 3 2)
      ∷ Err (book.Conflict (key_of 5 6 1) (col 1 1) (col 1 2))
      ∷ Err (book.WrongShape (record { rows = 1; width = 4 }) (record { rows = 1; width = 5 })) ∷ [])
      ≡ reply.Acknowledged 21 7 true ∷ reply.Acknowledged 21 7 false ∷ reply.Refused 21 7 why.Full
      ∷ reply.Refused 21 7 (why.Conflict (key_of 5 6 1)) ∷ reply.Refused 21 7 why.Shape ∷ []
  -- the idle ones, by number, each with the next letter; past the last letter each is delivered
  pub idle_ones : idle_from 0 one_each ≡ 3 ∷ 4 ∷ []
  pub a_round : sends (Idle ∷ Acknowledged ∷ Idle ∷ Idle ∷ []) (Lose ∷ Hold ∷ [])
      ≡ send 0 Lose ∷ send 2 Hold ∷ send 3 Deliver ∷ []
  pub still : map unacknowledged (one_each ∷ []) ≡ 4 ∷ []
  pub alls : map all_acknowledged (one_each ∷ (Acknowledged ∷ Acknowledged ∷ []) ∷ []) ≡ false ∷ true ∷ []
  -- what a round brings and whether it is heard: a lost reply, a repeat, one that is held until the next that comes
  pub brought : round (replicate 5 Idle) (Hold ∷ LoseReply ∷ Lose ∷ Twice ∷ Hold ∷ [])
      ≡ unheard 1 ∷ heard 0 ∷ heard 3 ∷ heard 3 ∷ heard 4 ∷ []
  pub states : after_round (replicate 5 Idle) (Hold ∷ LoseReply ∷ Lose ∷ Twice ∷ Hold ∷ [])
      ≡ Acknowledged ∷ Idle ∷ Idle ∷ Acknowledged ∷ Acknowledged ∷ []
  pub letters_left : letters_after (Idle ∷ Acknowledged ∷ []) (Lose ∷ Hold ∷ []) ≡ Hold ∷ []
  -- each round takes the letters on from the last one
  pub in_all : delivered 2 (Lose ∷ Lose ∷ Hold ∷ LoseReply ∷ []) ≡ 1 ∷ 0 ∷ 1 ∷ []
