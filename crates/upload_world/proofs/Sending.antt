-- One send of a round.
use Rattle.std.proofs.Common.{◌≡◌, ◌⊎◌, inl, inr, ℕ, ◌<◌, ◌≤◌, Bool, true, false, cond, Some, None, arith, ltb, ltb-true, ltb-false, List, ◌∷◌, length, length-set, set, refl, sym, ap, subst, Result, Ok, Err, ◌∙◌, ◌++◌}
use Rattle.std.specs.Prelude.{All, IsErrAnd, nat_lt, position}
use Rattle.std.specs.List.{position_or_len}
use Rattle.std.proofs.lemmas.List.Sums.{fails_before_first}
use Rattle.std.proofs.lemmas.List.Quantifiers.{position-Some}
use Rattle.std.proofs.lemmas.List.Elements.{All-cons}
use Rattle.lg_model.specs.declared.limits.TheConstants.{MOST_OUTSTANDING}
use Rattle.lg_model.specs.declared.scenario.Letter.{Letter}
use Rattle.sketchlet_wire.specs.Uploads.{UploadData}
use Rattle.uploader_core.specs.declared.state.SeqState.{SeqState}
use Rattle.uploader_core.specs.declared.state.SeqState.TheVariants as states
use Rattle.uploader_core.specs.States.{outstanding, is_idle, state_at, next_of, sent}
use Rattle.uploader_core.specs.Uploader.{UploaderState}
use Rattle.link_deliveries.specs.Waiting.{IsNext, refusals}
use Rattle.link_deliveries.specs.Deliveries.{send, brings, held_after}
use Rattle.link_deliveries.proofs.Room.{sent_acks, sent_refused}
use Rattle.lg_base.specs.declared.faults.Memory.{Memory as Starved}
use Rattle.upload_world.specs.declared.deliver.Sent.{Sent}
use Rattle.upload_world.specs.declared.deliver.Due.{Due}
use Rattle.upload_world.specs.Pumping.{acks, IsSteady, IsSent, IsDue, MakesDue, dues, seqs, still_held, held_with, SentNext, SentNone, SendsNext}
use Rattle.upload_world.proofs.Chained.{held_sent}
use Rattle.upload_world.proofs.Dues.{seqs_held}

-- the upload that is next, by its definition
pub next_is : (ss : List SeqState) (q : ℕ) → Some q ≡ next_of ss → IsNext ss q
next_is ss q is = by (nat_lt (outstanding ss) MOST_OUTSTANDING) refl (sym is)
  where
    idle_is : (s : SeqState) → is_idle s ≡ true → s ≡ states.Idle
    idle_is states.Idle h = refl
    idle_is states.Outstanding h = absurd (cc h)
    idle_is states.Acknowledged h = absurd (cc h)
    idle_is states.Refused h = absurd (cc h)

    by : (b : Bool) → nat_lt (outstanding ss) MOST_OUTSTANDING ≡ b → cond b (position is_idle ss) None ≡ Some q → IsNext ss q
    by true low found =
        let p = position-Some is_idle ss q states.Refused found in
        record { room = ltb-true (outstanding ss) MOST_OUTSTANDING low; short = p.0; idle = idle_is (state_at ss q) p.1; least = p.2 }
    by false low found = absurd (cc found)

-- none is next: the window is full, or none is idle
pub none_next : (ss : List SeqState) → None ≡ next_of ss → (MOST_OUTSTANDING ≤ outstanding ss) ⊎ ((k : ℕ) → k < length ss → is_idle (state_at ss k) ≡ false)
none_next ss is = by (nat_lt (outstanding ss) MOST_OUTSTANDING) refl (sym is)
  where
    none_idle : position is_idle ss ≡ None → (k : ℕ) → k < length ss → is_idle (state_at ss k) ≡ false
    none_idle none k short = fails_before_first is_idle ss k states.Refused (at (ltb (position_or_len is_idle ss) (length ss)) refl none)
      where
        at : (b : Bool) → ltb (position_or_len is_idle ss) (length ss) ≡ b → cond b (Some (position_or_len is_idle ss)) None ≡ None
            → k < position_or_len is_idle ss
        at true inside found = absurd (cc found)
        at false past found = let far = ltb-false (position_or_len is_idle ss) (length ss) past in omega (arith, far, short)

    by : (b : Bool) → nat_lt (outstanding ss) MOST_OUTSTANDING ≡ b → cond b (position is_idle ss) None ≡ None
        → (MOST_OUTSTANDING ≤ outstanding ss) ⊎ ((k : ℕ) → k < length ss → is_idle (state_at ss k) ≡ false)
    by true low found = inr (none_idle found)
    by false full found = inl (ltb-false (outstanding ss) MOST_OUTSTANDING full)

-- none is refused after the next one is sent
pub steady_sent : (u w : UploaderState) (q : ℕ) → IsNext u.states q → w ≡ record u { states = sent u.states q } → IsSteady u → IsSteady w
steady_sent u w q next is s =
    let same : w.states ≡ set u.states q states.Outstanding = ap (λ (x : UploaderState). x.states) is in
    record {
      each = ap length same ∙ length-set u.states q states.Outstanding ∙ s.each ∙ ap (λ (x : UploaderState). length x.uploads) (sym is);
      none = ap refusals same ∙ sent_refused u.states q next ∙ s.none;
    }

module _ (host : ℕ) (ups : List UploadData) (letter : Letter) (ss : List SeqState) (held kept : List Sent) (old new : Due) (q : ℕ) (next : IsNext ss q) where
  -- want of memory for what was sent
  pub send_failed : (P : Starved → Type 0) (ts : List SeqState) (r : Result Bool Starved) → ts ≡ set ss q states.Outstanding → IsErrAnd r P
      → SendsNext host ups letter ss ts held kept old new r
  send_failed P ts (Ok b) is err = absurd err
  send_failed P ts (Err e) is err = ap acks is ∙ sent_acks ss q next

  -- what was sent is held or due
  pub send_went : (ups' : List UploadData) (host' : ℕ) (s : Sent) (ts : List SeqState) → s.seq ≡ q → ups' ≡ ups → host' ≡ host
      → ts ≡ set ss q states.Outstanding → IsSent host' ups' s → All (IsSent host ups) held → IsDue host ups old
      → kept ≡ held_with letter s (still_held letter held) → dues new ≡ dues old ++ brings (send s.seq letter) (seqs held)
      → MakesDue (s ∷ held) old new → SentNext host ups letter ss ts held kept old new
  send_went ups' host' s ts number same same_host is sent_is each due held_are more makes =
      let own : IsSent host ups s = subst (λ u. IsSent host u s) same (subst (λ h. IsSent h ups' s) same_host sent_is) in
      record {
        q = q;
        next = next;
        states = is;
        held_is = seqs_held letter s held kept held_are ∙ ap (λ (n : ℕ). held_after letter n (seqs held)) number;
        each = held_sent (IsSent host ups) letter s held (still_held letter held) kept refl held_are own each;
        brought = more ∙ ap (λ (n : ℕ). dues old ++ brings (send n letter) (seqs held)) number;
        due = makes host ups (All-cons (IsSent host ups) s held own each) due;
      }

-- a send by its answer
pub sent_one : (host : ℕ) (ups : List UploadData) (letter : Letter) (ss ts : List SeqState) (held kept : List Sent) (old new : Due)
    (b : Bool) → b ≡ true → SendsNext host ups letter ss ts held kept old new (Ok b) → SentNext host ups letter ss ts held kept old new
sent_one host ups letter ss ts held kept old new true is s = s
sent_one host ups letter ss ts held kept old new false is s = absurd cc

pub sent_none : (host : ℕ) (ups : List UploadData) (letter : Letter) (ss ts : List SeqState) (held kept : List Sent) (old new : Due)
    (b : Bool) → b ≡ false → SendsNext host ups letter ss ts held kept old new (Ok b) → SentNone ss ts held kept old new
sent_none host ups letter ss ts held kept old new true is s = absurd cc
sent_none host ups letter ss ts held kept old new false is s = s
