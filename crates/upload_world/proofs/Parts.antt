-- What a step of the program leaves, and what it does to the parts in hand.
use Rattle.std.specs.Prelude.{◌≡◌, ℕ, zero, suc, ◌+◌, ◌<◌, ◌≤◌, ◌^◌, Bool, true, false, List, [], ◌∷◌, ◌++◌, length, slice_get, slice_set, slice_index_or, Option, None, Some, Result, Ok, Err, is_some, unwrap_or, IfOk, OnOk, MatchResult}
use Rattle.std.specs.Option.{option_map, option_and_then, option_map_or}
use Rattle.std.proofs.Common.{refl, sym, ap, subst, ◌∙◌, arith, append-nil, length-append}
use Rattle.std.proofs.lemmas.Option.{get_or_from_slice_get, slice_get_read}
use Rattle.lg_model.specs.Placing.{Shape}
use Rattle.sketchlet_wire.specs.Uploads.{UploadData}
use Rattle.upload_frame.specs.declared.reply.Reply.{Reply}
use Rattle.uploader_core.specs.declared.state.SeqState.{SeqState}
use Rattle.uploader_core.specs.States.{is_acknowledged, state_at, next_of, sent}
use Rattle.uploader_core.specs.Uploader.{UploaderState, IsUploader}
use Rattle.column_book.specs.declared.entry.Entry.{Entry}
use Rattle.column_book.specs.Entries.{records}
use Rattle.column_book.specs.Applying.{checked, decide, after}
use Rattle.column_book.proofs.Applying.{law as applying}
use Rattle.book_journal.specs.declared.applied.Applied.TheVariants.{Known}
use Rattle.shared_book.specs.Replying.{acknowledgement, reply_to, reply_for}
use Rattle.upload_world.specs.declared.event.Event.{Event}
use Rattle.upload_world.specs.declared.event.Event.TheVariants.{Send}
use Rattle.upload_world.specs.World.{WorldState, no_upload, send, decision, happens, after_event, Steps}
use Rattle.upload_world.specs.Kept.{IsSound, IsWorld}
use Rattle.upload_world.specs.Law.{is_acked}
use Rattle.upload_world.proofs.Running.{by_event, sound_after, Grows, grows_after, Stays, stays_after}

-- ---- how many frames and replies there are after an event

more_frames : (w : WorldState) (e : Event) → length (after_event w e).frames ≤ length w.frames + 1
more_frames w e = by_event (λ (v : WorldState). length v.frames ≤ length w.frames + 1) w (record {
  stands = omega arith;
  sends = λ at seq u is next. let n = length-append w.frames (slice_index_or u.uploads seq no_upload ∷ []) in omega (arith, n);
  ticks = λ at u is. omega arith;
  applies = λ k f is. omega arith;
  delivers = λ k f is. omega arith;
  comes_back = λ k r is. omega arith;
}) e

more_replies : (w : WorldState) (e : Event) → length (after_event w e).replies ≤ length w.replies + 1
more_replies w e = by_event (λ (v : WorldState). length v.replies ≤ length w.replies + 1) w (record {
  stands = omega arith;
  sends = λ at seq u is next. omega arith;
  ticks = λ at u is. omega arith;
  applies = λ k f is. omega arith;
  delivers = λ k f is. let n = length-append w.replies (reply_to f (decision w f) ∷ []) in omega (arith, n);
  comes_back = λ k r is. omega arith;
}) e

-- ---- what a step of the program leaves

module _ {E : Type 0} where
  by_steps : (P : WorldState → Type 0) (w v : WorldState) (e : Event) (r : Result Bool E) → Steps w e r v → P w → P (after_event w e) → P v
  by_steps P w v e (Ok b) steps old new = subst P (sym steps.1) new
  by_steps P w v e (Err m) steps old new = subst P (sym steps) old

  pub world_by : (w v : WorldState) (e : Event) (r : Result Bool E) → IsWorld w → Steps w e r v → length v.frames < 2 ^ 32 → length v.replies < 2 ^ 32 →
      IsWorld v
  world_by w v e r is steps frames replies = record {
    sound = by_steps IsSound w v e r steps is.sound (sound_after w e is.sound);
    few_frames = frames;
    few_replies = replies;
  }

  pub frames_by : (w v : WorldState) (e : Event) (r : Result Bool E) → Steps w e r v → length v.frames ≤ length w.frames + 1
  frames_by w v e r steps = by_steps (λ (x : WorldState). length x.frames ≤ length w.frames + 1) w v e r steps (omega arith) (more_frames w e)

  pub replies_by : (w v : WorldState) (e : Event) (r : Result Bool E) → Steps w e r v → length v.replies ≤ length w.replies + 1
  replies_by w v e r steps = by_steps (λ (x : WorldState). length x.replies ≤ length w.replies + 1) w v e r steps (omega arith) (more_replies w e)

  pub grows_by : (w v : WorldState) (e : Event) (r : Result Bool E) → Steps w e r v → Grows w v
  grows_by w v e r steps = by_steps (Grows w) w v e r steps ([], sym (append-nil w.entries)) (grows_after w e)

  pub stays_by : (w v : WorldState) (e : Event) (r : Result Bool E) → Steps w e r v → Stays w v
  stays_by w v e r steps = by_steps (Stays w) w v e r steps (λ at seq had. had) (stays_after w e)

-- ---- a step by the parts that the code has in hand

-- An event that happened, and one that couldn't.
pub did : (w v x : WorldState) (e : Event) → happens w e ≡ Some v → x ≡ v → (true ≡ is_some (happens w e)) × (x ≡ after_event w e)
did w v x e some is = (sym (ap (λ (o : Option WorldState). is_some o) some), is ∙ sym (ap (λ (o : Option WorldState). unwrap_or o w) some))

pub did_not : (w x : WorldState) (e : Event) → happens w e ≡ None → x ≡ w → (false ≡ is_some (happens w e)) × (x ≡ after_event w e)
did_not w x e none is = (sym (ap (λ (o : Option WorldState). is_some o) none), is ∙ sym (ap (λ (o : Option WorldState). unwrap_or o w) none))

abbrev next_sent : WorldState → ℕ → UploaderState → Option WorldState
next_sent w at u = option_map (send w at u) (next_of u.states)

pub send_none : (w : WorldState) (at : ℕ) (u : UploaderState) → at < length w.uploaders → u ≡ slice_index_or w.uploaders at u → next_of u.states ≡ None →
    happens w (Send at) ≡ None
send_none w at u lt is none = ap (option_and_then (next_sent w at)) (slice_get_read w.uploaders (length w.uploaders) at u refl lt is)
    ∙ ap (option_map (send w at u)) none

pub send_some : (w : WorldState) (at : ℕ) (u : UploaderState) (seq : ℕ) (f : UploadData) → at < length w.uploaders → u ≡ slice_index_or w.uploaders at u →
    next_of u.states ≡ Some seq → slice_get u.uploads seq ≡ Some f
    → happens w (Send at) ≡ Some (record w { uploaders = slice_set w.uploaders at (record u { states = sent u.states seq }); frames = w.frames ++ f ∷ [] })
send_some w at u seq f lt is next there =
    ap (option_and_then (next_sent w at)) (slice_get_read w.uploaders (length w.uploaders) at u refl lt is) ∙ ap (option_map (send w at u)) next
    ∙ ap (λ (x : UploadData). Some (record w {
      uploaders = slice_set w.uploaders at (record u { states = sent u.states seq });
      frames = w.frames ++ x ∷
          [];
    })) (get_or_from_slice_get u.uploads seq f no_upload there)

-- ---- what the book answers where nothing is new

module _ {E : Type 0} (shape : Shape) (room : ℕ) (es : List Entry) (u : UploadData) (known : checked shape room (records es) u ≡ Ok 0) where
  pub known_reply : (Q : E → Type 0) (result : Result Reply E) → MatchResult result (λ r. reply_for u (Ok Known) ≡ Some r) Q →
      IfOk result (λ r. r ≡ reply_to u (decide shape room (records es) u))
  known_reply Q (Ok r) is = sym (some_of (acknowledgement u true) r is) ∙ ap (reply_to u) (sym ((applying shape room es 0 u).known known).0)
    where
      some_of : (a b : Reply) → Some a ≡ Some b → a ≡ b
      some_of a b e = cc e
  known_reply Q (Err e) is = tt

  pub known_entries : (result : Result Reply E) → OnOk result (es ≡ after shape room es 0 u)
  known_entries (Ok r) = sym ((applying shape room es 0 u).known known).1
  known_entries (Err e) = tt

-- ---- whether an upload is acknowledged

past : (ss : List SeqState) (seq : ℕ) → length ss ≤ seq → is_acknowledged (state_at ss seq) ≡ false
past [] seq le = refl
past (s ∷ ss) zero le = absurd (omega arith)
past (s ∷ ss) (suc seq) le = past ss seq (omega arith)

pub acked_past : (w : WorldState) (at seq : ℕ) (u : UploaderState) → slice_get w.uploaders at ≡ Some u → IsUploader u → length u.uploads ≤ seq →
    is_acked w at seq ≡ false
acked_past w at seq u there is le = ap (λ (o : Option UploaderState). option_map_or
    (λ (x : UploaderState). is_acknowledged (state_at x.states seq)) o false) there ∙ past u.states seq (omega (arith, is.paired))

pub acked_none : (w : WorldState) (at seq : ℕ) → slice_get w.uploaders at ≡ None → is_acked w at seq ≡ false
acked_none w at seq none = ap (λ (o : Option UploaderState). option_map_or (λ (x : UploaderState). is_acknowledged (state_at x.states seq)) o false) none
