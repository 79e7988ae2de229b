-- Whole runs: each event keeps a sound world sound, and what it leaves of uploads, entries and acknowledged uploads.
use Rattle.std.specs.Prelude.{◌≡◌, ℕ, zero, suc, ◌<◌, ◌≢◌, Bool, true, false, List, [], ◌∷◌, ◌++◌, length, slice_get, slice_set, slice_index_or, Option, None, Some, unwrap_or}
use Rattle.std.specs.List.{AllByRecursion}
use Rattle.std.specs.Option.{option_map, option_and_then, option_map_or}
use Rattle.std.proofs.Common.{refl, sym, subst, ◌∙◌, arith, true≢false, append-nil, length-set}
use Rattle.std.proofs.lemmas.Option.{slice_get-get_or}
use Rattle.lg_model.specs.Answer.{Content}
use Rattle.sketchlet_wire.specs.Uploads.{UploadData, IsFull}
use Rattle.upload_frame.specs.declared.reply.Reply.{Reply}
use Rattle.uploader_core.specs.declared.state.SeqState.{SeqState}
use Rattle.uploader_core.specs.declared.state.SeqState.TheVariants as states
use Rattle.uploader_core.specs.States.{is_acknowledged, state_at, next_of, sent, ticked}
use Rattle.uploader_core.specs.Uploader.{UploaderState, IsUploader, replied, NoneAcked}
use Rattle.uploader_core.proofs.Tallies.{length_ticked}
use Rattle.column_book.specs.declared.entry.Entry.{Entry}
use Rattle.column_book.specs.Entries.{content}
use Rattle.column_book.specs.Applying.{after}
use Rattle.shared_book.specs.Replying.{reply_to}
use Rattle.upload_world.specs.declared.event.Event.{Event}
use Rattle.upload_world.specs.declared.event.Event.TheVariants.{Send, Tick, Deliver, Back, Crash, CrashIn}
use Rattle.upload_world.specs.World.{WorldState, no_upload, send, tick, decision, apply, deliver, hand_back, crash_in, after_event, after_events}
use Rattle.upload_world.specs.Law.{AreKept, HostsDiffer, IsStart, LawOfTheWorld, upload_in, is_acked}
use Rattle.upload_world.specs.Kept.{IsKeptFor, roster, IsOwnFrame, Backed, RosterDiffers, IsOwner, IsSound}
use Rattle.upload_world.proofs.Everywhere.{all_set, all_push, all_get, all_weaker, all_from, map_set, map_map, found_set, found_map, passes_set, passes_map}
use Rattle.upload_world.proofs.Applied.{taken_is_kept, content_extends, entries_grow, keys_differ_after}
use Rattle.upload_world.proofs.Keeping.{acked_sent, acked_ticked, sent_idle, stays_sent, stays_replied, kept_back, owners_back, more_kept, more_backed, reply_backed, owned_at}

-- ---- what an event can do

-- A property of the world as it is, and after each change that an event can make.
pub record Changes (P : WorldState → Type 0) (w : WorldState) : Type 0 where
  pub stands : P w
  pub sends : (at seq : ℕ) (u : UploaderState) → slice_get w.uploaders at ≡ Some u → next_of u.states ≡ Some seq → P (send w at u seq)
  pub ticks : (at : ℕ) (u : UploaderState) → slice_get w.uploaders at ≡ Some u → P (tick w at u)
  pub applies : (k : ℕ) (f : UploadData) → slice_get w.frames k ≡ Some f → P (apply w f)
  pub delivers : (k : ℕ) (f : UploadData) → slice_get w.frames k ≡ Some f → P (deliver w f)
  pub comes_back : (k : ℕ) (r : Reply) → slice_get w.replies k ≡ Some r → P (hand_back w r)

by_send : (P : WorldState → Type 0) (w : WorldState) → Changes P w → (at : ℕ) (o : Option UploaderState) → slice_get w.uploaders at ≡ o →
    P (unwrap_or (option_and_then (λ (u : UploaderState). option_map (send w at u) (next_of u.states)) o) w)
by_send P w c at None is = c.stands
by_send P w c at (Some u) is = by (next_of u.states) refl
  where
    by : (n : Option ℕ) → next_of u.states ≡ n → P (unwrap_or (option_map (send w at u) n) w)
    by None next = c.stands
    by (Some seq) next = c.sends at seq u is next

by_found : {X : Type 0} (P : WorldState → Type 0) (w : WorldState) (f : X → WorldState) (xs : List X) (k : ℕ) → P w →
    ((x : X) → slice_get xs k ≡ Some x → P (f x)) → P (unwrap_or (option_map f (slice_get xs k)) w)
by_found {X} P w f xs k stands there = by (slice_get xs k) refl
  where
    by : (o : Option X) → slice_get xs k ≡ o → P (unwrap_or (option_map f o) w)
    by None is = stands
    by (Some x) is = there x is

pub by_event : (P : WorldState → Type 0) (w : WorldState) → Changes P w → (e : Event) → P (after_event w e)
by_event P w c (Send at) = by_send P w c at (slice_get w.uploaders at) refl
by_event P w c (Tick at) = by_found P w (tick w at) w.uploaders at c.stands (c.ticks at)
by_event P w c (Deliver k) = by_found P w (deliver w) w.frames k c.stands (c.delivers k)
by_event P w c (Back k) = by_found P w (hand_back w) w.replies k c.stands (c.comes_back k)
by_event P w c Crash = c.stands
by_event P w c (CrashIn k true) = by_found P w (crash_in w true) w.frames k c.stands (c.applies k)
by_event P w c (CrashIn k false) = by_found P w (crash_in w false) w.frames k c.stands (λ f is. c.stands)

-- ---- each event keeps a sound world sound

abbrev hosted : UploaderState → ℕ × List UploadData
hosted u = (u.host, u.uploads)

-- One uploader is changed in its states alone.
sound_change : (w : WorldState) (at : ℕ) (u : UploaderState) (ss : List SeqState) → IsSound w → slice_get w.uploaders at ≡ Some u →
    length ss ≡ length u.states →
    ((q : ℕ) → is_acknowledged (state_at ss q) ≡ true → is_acknowledged (state_at u.states q) ≡ true) →
    IsSound (record w { uploaders = slice_set w.uploaders at (record u { states = ss }) })
sound_change w at u ss s is long was =
    let us = w.uploaders in
    let m = content w.entries in
    let v : UploaderState = record u { states = ss } in
    let same = map_set hosted us at u v is refl in
    let owner = all_get IsOwner us at u s.uploaders is in
    let before = all_get (IsKeptFor m) us at u s.kept is in
    record {
      uploaders = all_set IsOwner us at v s.uploaders (record { own = owner.own; full = owner.full; paired = long ∙ owner.paired });
      hosts = subst RosterDiffers (sym same) s.hosts;
      frames = subst (λ rs. AllByRecursion (IsOwnFrame rs) w.frames) (sym same) s.frames;
      replies = subst (λ rs. AllByRecursion (Backed rs m) w.replies) (sym same) s.replies;
      kept = all_set (IsKeptFor m) us at v s.kept (λ q f e there. before q f (was q e) there);
      once = s.once;
    }

sound_push : (w : WorldState) (f : UploadData) → IsSound w → IsOwnFrame (roster w.uploaders) f → IsSound (record w { frames = w.frames ++ f ∷ [] })
sound_push w f s frame = record {
  uploaders = s.uploaders;
  hosts = s.hosts;
  frames = all_push (IsOwnFrame (roster w.uploaders)) w.frames f s.frames frame;
  replies = s.replies;
  kept = s.kept;
  once = s.once;
}

own_frame : (w : WorldState) (at : ℕ) (u : UploaderState) (seq : ℕ) → IsSound w → slice_get w.uploaders at ≡ Some u → seq < length u.states →
    IsOwnFrame (roster w.uploaders) (slice_index_or u.uploads seq no_upload)
own_frame w at u seq s is lt =
    let owner = all_get IsOwner w.uploaders at u s.uploaders is in
    let within : seq < length u.uploads = omega (arith, owner.paired) in
    let f = slice_index_or u.uploads seq no_upload in
    let there : slice_get u.uploads seq ≡ Some f = slice_get-get_or u.uploads seq no_upload within in
    let own = owner.own.each seq f there in
    record {
      owned = owned_at w.uploaders at u f is (sym own.0) (subst (λ (n : ℕ). slice_get u.uploads n ≡ Some f) (sym own.1) there);
      columns = (all_get IsFull u.uploads seq f owner.full there).columns;
    }

sound_send : (w : WorldState) (at seq : ℕ) (u : UploaderState) → IsSound w → slice_get w.uploaders at ≡ Some u → next_of u.states ≡ Some seq →
    IsSound (send w at u seq)
sound_send w at seq u s is next =
    let idle = sent_idle u.states seq next in
    let f = slice_index_or u.uploads seq no_upload in
    let with_frame = sound_push w f s (own_frame w at u seq s is idle.0) in
    sound_change (record w { frames = w.frames ++ f ∷ [] }) at u (sent u.states seq) with_frame is (length-set u.states seq states.Outstanding)
    (acked_sent u.states seq)

sound_tick : (w : WorldState) (at : ℕ) (u : UploaderState) → IsSound w → slice_get w.uploaders at ≡ Some u → IsSound (tick w at u)
sound_tick w at u s is = sound_change w at u (ticked u.states) s is (length_ticked u.states) (λ q e. sym (acked_ticked u.states q) ∙ e)

sound_apply : (w : WorldState) (f : UploadData) → IsSound w → IsOwnFrame (roster w.uploaders) f → IsSound (apply w f)
sound_apply w f s frame =
    let m = content w.entries in
    let n = content (after w.shape w.room w.entries 0 f) in
    let more = content_extends w.shape w.room w.entries 0 f in
    record {
      uploaders = s.uploaders;
      hosts = s.hosts;
      frames = s.frames;
      replies = more_backed (roster w.uploaders) m n more w.replies s.replies;
      kept = more_kept m n more w.uploaders s.kept;
      once = keys_differ_after w.shape w.room w.entries 0 f frame.columns s.once;
    }

sound_deliver : (w : WorldState) (f : UploadData) → IsSound w → IsOwnFrame (roster w.uploaders) f → IsSound (deliver w f)
sound_deliver w f s frame =
    let t = sound_apply w f s frame in
    let n = content (after w.shape w.room w.entries 0 f) in
    let rs = roster w.uploaders in
    record {
      uploaders = t.uploaders;
      hosts = t.hosts;
      frames = t.frames;
      replies = all_push (Backed rs n) w.replies (reply_to f (decision w f)) t.replies
          (reply_backed rs n f (decision w f) s.hosts frame.owned (λ new e. taken_is_kept w.shape w.room w.entries 0 f frame.columns new e));
      kept = t.kept;
      once = t.once;
    }

sound_back : (w : WorldState) (r : Reply) → IsSound w → Backed (roster w.uploaders) (content w.entries) r → IsSound (hand_back w r)
sound_back w r s back =
    let us = w.uploaders in
    let m = content w.entries in
    let same = map_map hosted (λ (u : UploaderState). replied u r) us (λ u. refl) in
    record {
      uploaders = owners_back r us s.uploaders;
      hosts = subst RosterDiffers (sym same) s.hosts;
      frames = subst (λ rs. AllByRecursion (IsOwnFrame rs) w.frames) (sym same) s.frames;
      replies = subst (λ rs. AllByRecursion (Backed rs m) w.replies) (sym same) s.replies;
      kept = kept_back m r us back s.kept;
      once = s.once;
    }

sound_changes : (w : WorldState) → IsSound w → Changes IsSound w
sound_changes w s =
    let frame = λ (k : ℕ) (f : UploadData). all_get (IsOwnFrame (roster w.uploaders)) w.frames k f s.frames in
    record {
      stands = s;
      sends = λ at seq u is next. sound_send w at seq u s is next;
      ticks = λ at u is. sound_tick w at u s is;
      applies = λ k f is. sound_apply w f s (frame k f is);
      delivers = λ k f is. sound_deliver w f s (frame k f is);
      comes_back = λ k r is. sound_back w r s (all_get (Backed (roster w.uploaders) (content w.entries)) w.replies k r s.replies is);
    }

pub sound_after : (w : WorldState) (e : Event) → IsSound w → IsSound (after_event w e)
sound_after w e s = by_event IsSound w (sound_changes w s) e

sound_run : (es : List Event) (w : WorldState) → IsSound w → IsSound (after_events es w)
sound_run [] w s = s
sound_run (e ∷ es) w s = sound_run es (after_event w e) (sound_after w e s)

-- ---- a start is sound

hosts_of : (n : ℕ) (us : List UploaderState) → AllByRecursion (λ (v : UploaderState). v.host ≢ n) us →
    AllByRecursion (λ (s : ℕ × List UploadData). s.0 ≢ n) (roster us)
hosts_of n [] all = tt
hosts_of n (u ∷ us) all = (all.0, hosts_of n us all.1)

differ : (us : List UploaderState) → HostsDiffer us → RosterDiffers (roster us)
differ [] h = tt
differ (u ∷ us) h = (
  hosts_of u.host us (all_from (λ (v : UploaderState). v.host ≢ u.host) us (λ k d lt e. h 0 (suc k) d (omega arith) (omega arith) (sym e))),
  differ us (λ i j d lt le. h (suc i) (suc j) d (omega arith) (omega arith)),
)

pub sound_start : (w : WorldState) → IsStart w → IsSound w
sound_start w s = record {
  uploaders = all_weaker IsUploader IsOwner w.uploaders (λ u i. record { own = i.own; full = i.full; paired = i.paired }) s.uploaders;
  hosts = differ w.uploaders s.hosts;
  frames = subst (AllByRecursion (IsOwnFrame (roster w.uploaders))) (sym s.frames) tt;
  replies = subst (AllByRecursion (Backed (roster w.uploaders) (content w.entries))) (sym s.replies) tt;
  kept = all_weaker NoneAcked (IsKeptFor (content w.entries)) w.uploaders (λ u none q f e there. absurd (true≢false (sym e ∙ none q))) s.none;
  once = s.once;
}

-- ---- what an event leaves

same_after : (w : WorldState) (e : Event) (by seq : ℕ) → upload_in (after_event w e) by seq ≡ upload_in w by seq
same_after w e by seq = by_event (λ (v : WorldState). upload_in v by seq ≡ upload_in w by seq) w (record {
  stands = refl;
  sends = λ at n u is next. found_set upload w.uploaders at by u (record u { states = sent u.states n }) is refl;
  ticks = λ at u is. found_set upload w.uploaders at by u (record u { states = ticked u.states }) is refl;
  applies = λ k f is. refl;
  delivers = λ k f is. refl;
  comes_back = λ k r is. found_map upload (λ (u : UploaderState). replied u r) w.uploaders by (λ u. refl);
}) e
  where
    upload : UploaderState → Option UploadData
    upload u = slice_get u.uploads seq

same_run : (es : List Event) (w : WorldState) (by seq : ℕ) → upload_in (after_events es w) by seq ≡ upload_in w by seq
same_run [] w by seq = refl
same_run (e ∷ es) w by seq = same_run es (after_event w e) by seq ∙ same_after w e by seq

abbrev pub Grows : WorldState → WorldState → Type 0
Grows w v = (more : List Entry) × (v.entries ≡ w.entries ++ more)

pub grows_after : (w : WorldState) (e : Event) → Grows w (after_event w e)
grows_after w e = by_event (Grows w) w (record {
  stands = none;
  sends = λ at n u is next. none;
  ticks = λ at u is. none;
  applies = λ k f is. entries_grow w.shape w.room w.entries 0 f;
  delivers = λ k f is. entries_grow w.shape w.room w.entries 0 f;
  comes_back = λ k r is. none;
}) e
  where
    none : Grows w w
    none = ([], sym (append-nil w.entries))

abbrev pub Stays : WorldState → WorldState → Type 0
Stays w v = (at seq : ℕ) → is_acked w at seq ≡ true → is_acked v at seq ≡ true

pub stays_after : (w : WorldState) (e : Event) → Stays w (after_event w e)
stays_after w e by seq had = by_event (λ (v : WorldState). is_acked v by seq ≡ true) w (record {
  stands = had;
  sends = λ at n u is next. passes_set acked w.uploaders at by u (record u { states = sent u.states n }) is
      (stays_sent u.states n seq (sent_idle u.states n next).1) had;
  ticks = λ at u is. passes_set acked w.uploaders at by u (record u { states = ticked u.states }) is (λ e. acked_ticked u.states seq ∙ e) had;
  applies = λ k f is. had;
  delivers = λ k f is. had;
  comes_back = λ k r is. passes_map acked (λ (u : UploaderState). replied u r) w.uploaders by (λ u e. stays_replied u r seq e) had;
}) e
  where
    acked : UploaderState → Bool
    acked u = is_acknowledged (state_at u.states seq)

-- ---- the law

-- An acknowledged upload of uploaders whose acknowledged uploads are kept is kept.
pub kept_at : (m : Content) (us : List UploaderState) (at seq : ℕ) (f : UploadData) → AllByRecursion (IsKeptFor m) us →
    option_and_then (λ (u : UploaderState). slice_get u.uploads seq) (slice_get us at) ≡ Some f →
    option_map_or (λ (u : UploaderState). is_acknowledged (state_at u.states seq)) (slice_get us at) false ≡ true → AreKept m f.columns
kept_at m [] at seq f all there acked = absurd (true≢false (sym acked))
kept_at m (u ∷ us) zero seq f all there acked = all.0 seq f acked there
kept_at m (u ∷ us) (suc at) seq f all there acked = kept_at m us at seq f all.1 there acked

pub law : LawOfTheWorld
law = record {
  kept = λ w es at seq f start there acked.
      kept_at (content (after_events es w).entries) (after_events es w).uploaders at seq f (sound_run es w (sound_start w start)).kept
      (same_run es w at seq ∙ there) acked;
  once = λ w es start. (sound_run es w (sound_start w start)).once;
  same = same_after;
  grows = grows_after;
  stays = stays_after;
}
