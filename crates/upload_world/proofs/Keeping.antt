-- Each event keeps what is sound.
use Rattle.std.specs.Prelude.{◌≡◌, ℕ, zero, suc, ◌<◌, ◌⊎◌, ◌≢◌, Bool, true, false, ◌==◌, List, [], ◌∷◌, map, length, position, nat_lt, slice_get, slice_set, None, Some, Result, Ok, Err, if◌then◌else◌}
use Rattle.std.specs.List.{AllByRecursion}
use Rattle.std.proofs.Common.{refl, sym, ap, subst, ◌∙◌, inl, inr, true≢false, length-set, eqb-true}
use Rattle.std.proofs.lemmas.List.Quantifiers.{position-Some}
use Rattle.lg_model.specs.Columns.{Column}
use Rattle.lg_model.specs.Answer.{Content}
use Rattle.sketchlet_wire.specs.Uploads.{UploadData}
use Rattle.upload_frame.specs.declared.reply.Reply.{Reply}
use Rattle.upload_frame.specs.declared.reply.Reply.TheVariants as reply
use Rattle.uploader_core.specs.declared.state.SeqState.{SeqState}
use Rattle.uploader_core.specs.declared.state.SeqState.TheVariants as states
use Rattle.uploader_core.specs.States.{is_idle, is_acknowledged, state_at, outstanding, next_of, sent, idle_again, ticked, acknowledged, refused}
use Rattle.uploader_core.specs.Uploader.{UploaderState, states_after, replied}
use Rattle.uploader_core.proofs.Tallies.{state_ticked}
use Rattle.column_book.specs.declared.fault.BookFault.{BookFault}
use Rattle.shared_book.specs.Replying.{reply_to}
use Rattle.upload_world.specs.Law.{AreKept}
use Rattle.upload_world.specs.Kept.{IsKeptFor, Roster, roster, Owned, BackedFor, Backed, RosterDiffers, IsOwner}
use Rattle.upload_world.proofs.Applied.{Extends, stays_kept}
use Rattle.upload_world.proofs.Everywhere.{all_weaker}

pub no : {A : Type 0} → false ≡ true → A
no e = absurd (true≢false (sym e))

-- States: what each change does to one of them.
pub acked_sent : (ss : List SeqState) (seq q : ℕ) → is_acknowledged (state_at (sent ss seq) q) ≡ true → is_acknowledged (state_at ss q) ≡ true
acked_sent [] seq q e = e
acked_sent (s ∷ ss) zero zero e = no e
acked_sent (s ∷ ss) zero (suc q) e = e
acked_sent (s ∷ ss) (suc seq) zero e = e
acked_sent (s ∷ ss) (suc seq) (suc q) e = acked_sent ss seq q e

pub acked_idle_again : (s : SeqState) → is_acknowledged (idle_again s) ≡ is_acknowledged s
acked_idle_again states.Idle = refl
acked_idle_again states.Outstanding = refl
acked_idle_again states.Acknowledged = refl
acked_idle_again states.Refused = refl

pub acked_ticked : (ss : List SeqState) (q : ℕ) → is_acknowledged (state_at (ticked ss) q) ≡ is_acknowledged (state_at ss q)
acked_ticked ss q = ap is_acknowledged (state_ticked ss q) ∙ acked_idle_again (state_at ss q)

pub acked_refused : (s : SeqState) → is_acknowledged (refused s) ≡ is_acknowledged s
acked_refused states.Idle = refl
acked_refused states.Outstanding = refl
acked_refused states.Acknowledged = refl
acked_refused states.Refused = refl

pub still_acked : (s : SeqState) → is_acknowledged s ≡ true → is_acknowledged (acknowledged s) ≡ true
still_acked states.Idle e = no e
still_acked states.Outstanding e = no e
still_acked states.Acknowledged e = refl
still_acked states.Refused e = no e

pub refused_set : (ss : List SeqState) (seq q : ℕ) → is_acknowledged (state_at (slice_set ss seq (refused (state_at ss seq))) q) ≡ is_acknowledged
    (state_at ss q)
refused_set [] seq q = refl
refused_set (s ∷ ss) zero zero = acked_refused s
refused_set (s ∷ ss) zero (suc q) = refl
refused_set (s ∷ ss) (suc seq) zero = refl
refused_set (s ∷ ss) (suc seq) (suc q) = refused_set ss seq q

-- after an acknowledgement a seq is acknowledged that was before, or that is the one of the reply
pub acked_set : (ss : List SeqState) (seq q : ℕ) → is_acknowledged (state_at (slice_set ss seq (acknowledged (state_at ss seq))) q) ≡ true →
    (q ≡ seq) ⊎ (is_acknowledged (state_at ss q) ≡ true)
acked_set [] seq q e = inr e
acked_set (s ∷ ss) zero zero e = inl refl
acked_set (s ∷ ss) zero (suc q) e = inr e
acked_set (s ∷ ss) (suc seq) zero e = inr e
acked_set (s ∷ ss) (suc seq) (suc q) e = up (acked_set ss seq q e)
  where
    up : (q ≡ seq) ⊎ (is_acknowledged (state_at ss q) ≡ true) → (suc q ≡ suc seq) ⊎ (is_acknowledged (state_at ss q) ≡ true)
    up (inl is) = inl (ap suc is)
    up (inr was) = inr was

pub stays_set : (ss : List SeqState) (seq q : ℕ) → is_acknowledged (state_at ss q) ≡ true →
    is_acknowledged (state_at (slice_set ss seq (acknowledged (state_at ss seq))) q) ≡ true
stays_set [] seq q e = e
stays_set (s ∷ ss) zero zero e = still_acked s e
stays_set (s ∷ ss) zero (suc q) e = e
stays_set (s ∷ ss) (suc seq) zero e = e
stays_set (s ∷ ss) (suc seq) (suc q) e = stays_set ss seq q e

-- What is sent was idle.
pub sent_idle : (ss : List SeqState) (seq : ℕ) → next_of ss ≡ Some seq → (seq < length ss) × (is_idle (state_at ss seq) ≡ true)
sent_idle ss seq = by (nat_lt (outstanding ss) 8)
  where
    by : (b : Bool) → (if b then position is_idle ss else None) ≡ Some seq → (seq < length ss) × (is_idle (state_at ss seq) ≡ true)
    by true e = let p = position-Some is_idle ss seq states.Refused e in (p.0, p.1)
    by false e = absurd (cc)

pub not_both : (s : SeqState) → is_idle s ≡ true → is_acknowledged s ≡ true → ⊥
not_both states.Idle a b = no b
not_both states.Outstanding a b = no a
not_both states.Acknowledged a b = no a
not_both states.Refused a b = no a

pub stays_sent : (ss : List SeqState) (seq q : ℕ) → is_idle (state_at ss seq) ≡ true → is_acknowledged (state_at ss q) ≡ true →
    is_acknowledged (state_at (sent ss seq) q) ≡ true
stays_sent [] seq q idle e = e
stays_sent (s ∷ ss) zero zero idle e = absurd (not_both s idle e)
stays_sent (s ∷ ss) zero (suc q) idle e = e
stays_sent (s ∷ ss) (suc seq) zero idle e = e
stays_sent (s ∷ ss) (suc seq) (suc q) idle e = stays_sent ss seq q idle e

-- Replies.
pub stays_replied : (u : UploaderState) (r : Reply) (q : ℕ) → is_acknowledged (state_at u.states q) ≡ true →
    is_acknowledged (state_at (states_after u.host u.states r) q) ≡ true
stays_replied u (reply.Welcome h) q e = e
stays_replied u (reply.Acknowledged h seq known) q e = elim (h == u.host) as
    (λ b. is_acknowledged (state_at (if b then slice_set u.states seq (acknowledged (state_at u.states seq)) else u.states) q) ≡ true) [
      | true ↦ stays_set u.states seq q e
      | false ↦ e
    ]
stays_replied u (reply.Refused h seq why) q e = elim (h == u.host) as
    (λ b. is_acknowledged (state_at (if b then slice_set u.states seq (refused (state_at u.states seq)) else u.states) q) ≡ true) [
      | true ↦ refused_set u.states seq q ∙ e
      | false ↦ e
    ]
stays_replied u (reply.Goodbye h) q e = e

pub length_replied : (u : UploaderState) (r : Reply) → length (states_after u.host u.states r) ≡ length u.states
length_replied u (reply.Welcome h) = refl
length_replied u (reply.Acknowledged h seq known) = elim (h == u.host) as
    (λ b. length (if b then slice_set u.states seq (acknowledged (state_at u.states seq)) else u.states) ≡ length u.states) [
      | true ↦ length-set u.states seq (acknowledged (state_at u.states seq))
      | false ↦ refl
    ]
length_replied u (reply.Refused h seq why) = elim (h == u.host) as
    (λ b. length (if b then slice_set u.states seq (refused (state_at u.states seq)) else u.states) ≡ length u.states) [
      | true ↦ length-set u.states seq (refused (state_at u.states seq))
      | false ↦ refl
    ]
length_replied u (reply.Goodbye h) = refl

pub kept_replied : (m : Content) (r : Reply) (u : UploaderState) → BackedFor m r (u.host, u.uploads) → IsKeptFor m u → IsKeptFor m (replied u r)
kept_replied m (reply.Welcome h) u back b = b
kept_replied m (reply.Acknowledged h seq known) u back b = (elim (h == u.host) as
    (λ t. (h == u.host) ≡ t → (q : ℕ) (f : UploadData) → is_acknowledged
    (state_at (if t then slice_set u.states seq (acknowledged (state_at u.states seq)) else u.states) q) ≡ true → slice_get u.uploads q ≡ Some f →
    AreKept m f.columns) [
      | true ↦ λ is q f e there. own (eqb-true h u.host is) q f there (acked_set u.states seq q e)
      | false ↦ λ is. b
    ]) refl
  where
    own : h ≡ u.host → (q : ℕ) (f : UploadData) → slice_get u.uploads q ≡ Some f → (q ≡ seq) ⊎ (is_acknowledged (state_at u.states q) ≡ true) →
        AreKept m f.columns
    own host q f there (inl is) = back (sym host) f (subst (λ n. slice_get u.uploads n ≡ Some f) is there)
    own host q f there (inr was) = b q f was there
kept_replied m (reply.Refused h seq why) u back b = elim (h == u.host) as
    (λ t. (q : ℕ) (f : UploadData) → is_acknowledged (state_at
    (if t then slice_set u.states seq (refused (state_at u.states seq)) else u.states) q) ≡ true → slice_get u.uploads q ≡ Some f → AreKept m f.columns) [
      | true ↦ λ q f e there. b q f (sym (refused_set u.states seq q) ∙ e) there
      | false ↦ b
    ]
kept_replied m (reply.Goodbye h) u back b = b

pub kept_back : (m : Content) (r : Reply) (us : List UploaderState) → Backed (roster us) m r → AllByRecursion (IsKeptFor m) us →
    AllByRecursion (IsKeptFor m) (map (λ (u : UploaderState). replied u r) us)
kept_back m r [] back all = tt
kept_back m r (u ∷ us) back all = (kept_replied m r u back.0 all.0, kept_back m r us back.1 all.1)

pub owners_back : (r : Reply) (us : List UploaderState) → AllByRecursion IsOwner us → AllByRecursion IsOwner (map (λ (u : UploaderState). replied u r) us)
owners_back r [] all = tt
owners_back r (u ∷ us) all = (record { own = all.0.own; full = all.0.full; paired = length_replied u r ∙ all.0.paired }, owners_back r us all.1)

-- More in the content.
pub more_for : (m n : Content) → Extends m n → (reply : Reply) (r : ℕ × List UploadData) → BackedFor m reply r → BackedFor n reply r
more_for m n more (reply.Welcome h) r b = b
more_for m n more (reply.Acknowledged h seq known) r b = λ host f there. stays_kept m n more f.columns (b host f there)
more_for m n more (reply.Refused h seq why) r b = b
more_for m n more (reply.Goodbye h) r b = b

pub more_kept : (m n : Content) → Extends m n → (us : List UploaderState) → AllByRecursion (IsKeptFor m) us → AllByRecursion (IsKeptFor n) us
more_kept m n more us = all_weaker (IsKeptFor m) (IsKeptFor n) us (λ u b q f e there. stays_kept m n more f.columns (b q f e there))

pub more_backed : (rs : Roster) (m n : Content) → Extends m n → (all : List Reply) → AllByRecursion (Backed rs m) all → AllByRecursion (Backed rs n) all
more_backed rs m n more all = all_weaker (Backed rs m) (Backed rs n) all
    (λ one b. all_weaker (BackedFor m one) (BackedFor n one) rs (λ r. more_for m n more one r) b)

-- The owner of a frame is the one uploader of its host.
pub one_owner : (rs : Roster) (f : UploadData) → RosterDiffers rs → Owned rs f →
    AllByRecursion (λ (r : ℕ × List UploadData). r.0 ≡ f.host → (g : UploadData) → slice_get r.1 f.seq ≡ Some g → g ≡ f) rs
one_owner [] f apart owned = tt
one_owner (r ∷ rs) f apart (inl own) = (
  (λ host g there. cc (own.1, there)),
  all_weaker (λ (s : ℕ × List UploadData). s.0 ≢ r.0)
      (λ (s : ℕ × List UploadData). s.0 ≡ f.host → (g : UploadData) → slice_get s.1 f.seq ≡ Some g → g ≡ f) rs
      (λ s other host g there. absurd (other (host ∙ sym own.0))) apart.0,
)
one_owner (r ∷ rs) f apart (inr rest) =
    ((λ host g there. absurd (elsewhere rs apart.0 rest (sym host))), one_owner rs f apart.1 rest)
  where
    elsewhere : (ss : Roster) → AllByRecursion (λ (s : ℕ × List UploadData). s.0 ≢ r.0) ss → Owned ss f → f.host ≡ r.0 → ⊥
    elsewhere [] all o e = o
    elsewhere (s ∷ ss) all (inl own) e = all.0 (own.0 ∙ e)
    elsewhere (s ∷ ss) all (inr o) e = elsewhere ss all.1 o e

-- The reply to a frame is backed.
pub reply_backed : (rs : Roster) (m : Content) (f : UploadData) (d : Result (List Column) BookFault) → RosterDiffers rs → Owned rs f →
    ((new : List Column) → d ≡ Ok new → AreKept m f.columns) → Backed rs m (reply_to f d)
reply_backed rs m f d apart owned has = by d has
  where
    acked : (known : Bool) → AreKept m f.columns → Backed rs m (reply.Acknowledged f.host f.seq known)
    acked known all = all_weaker (λ (r : ℕ × List UploadData). r.0 ≡ f.host → (g : UploadData) → slice_get r.1 f.seq ≡ Some g → g ≡ f)
        (BackedFor m (reply.Acknowledged f.host f.seq known)) rs
        (λ r same host g there. subst (λ (x : UploadData). AreKept m x.columns) (sym (same host g there)) all) (one_owner rs f apart owned)

    nothing : (ss : Roster) (r : Reply) → ((x : ℕ × List UploadData) → BackedFor m r x) → Backed ss m r
    nothing [] r each = tt
    nothing (s ∷ ss) r each = (each s, nothing ss r each)

    by : (e : Result (List Column) BookFault) → ((new : List Column) → e ≡ Ok new → AreKept m f.columns) → Backed rs m (reply_to f e)
    by (Ok []) h = acked true (h [] refl)
    by (Ok (c ∷ new)) h = acked false (h (c ∷ new) refl)
    by (Err fault) h = nothing rs (reply_to f (Err fault)) (λ x. tt)

-- A new frame is of the uploader that sends it.
pub owned_at : (us : List UploaderState) (at : ℕ) (u : UploaderState) (f : UploadData) → slice_get us at ≡ Some u → u.host ≡ f.host →
    slice_get u.uploads f.seq ≡ Some f → Owned (roster us) f
owned_at [] at u f is host there = absurd (cc)
owned_at (v ∷ us) zero u f is host there = let e : v ≡ u = cc in inl
    (ap (λ (x : UploaderState). x.host) e ∙ host, ap (λ (x : UploaderState). slice_get x.uploads f.seq) e ∙ there)
owned_at (v ∷ us) (suc at) u f is host there = inr (owned_at us at u f is host there)
