-- Where the code of a round stands.
use Rattle.std.proofs.Common.{◌≡◌, ◌⊎◌, inl, inr, ℕ, ◌+◌, ◌*◌, ◌<◌, ◌≤◌, false, List, [], ◌++◌, map, length, drop, get_or, refl, sym, ap, subst, Result, ◌∙◌, arith, append-nil, append_assoc, length-append}
use Rattle.std.specs.Prelude.{IsErrAnd}
use Rattle.std.proofs.lemmas.List.Elements.{All-nil}
use Rattle.lg_model.specs.declared.limits.TheConstants.{MOST_OUTSTANDING}
use Rattle.lg_model.specs.declared.scenario.Letter.{Letter}
use Rattle.sketchlet_wire.specs.Uploads.{UploadData}
use Rattle.uploader_core.specs.declared.state.SeqState.{SeqState}
use Rattle.uploader_core.specs.declared.state.SeqState.TheVariants as states
use Rattle.uploader_core.specs.States.{outstanding, is_idle}
use Rattle.link_deliveries.specs.Waiting.{refusals, unacknowledged, is_waiting}
use Rattle.link_deliveries.specs.Deliveries.{Delivery, heard, send, letter_of, brings, brought, held_after, after_send, round, acknowledge, EndsRound}
use Rattle.link_deliveries.proofs.Idle.{none_idle}
use Rattle.link_deliveries.proofs.Steps.{sends_on, sends_none_full, sends_none_idle, IsInRound, round_starts, round_sends, round_ends}
use Rattle.link_deliveries.proofs.Room.{has_room, sent_acks}
use Rattle.link_deliveries.proofs.Progress.{acknowledged_down}
use Rattle.std.proofs.lemmas.List.{length-map}
use Rattle.lg_model.specs.Placing.{Shape}
use Rattle.lock_rule.specs.declared.view.View.{View}
use Rattle.lock_rule.specs.Views.{most_calls}
use Rattle.upload_world.specs.declared.deliver.Sent.{Sent}
use Rattle.upload_world.specs.declared.deliver.Due.{Due}
use Rattle.upload_world.specs.declared.fault.WorkFault.{WorkFault}
use Rattle.upload_world.specs.declared.fault.WorkFault.TheVariants.{Memory}
use Rattle.upload_world.specs.Pumping.{acks, Went, Stopped, Outcome, seqs, dues, SentNext, SentNone}
use Rattle.upload_world.proofs.Chains.{went_none}
use Rattle.upload_world.proofs.Chained.{err_late, both_went, left_for_memory}
use Rattle.upload_world.proofs.Postponed.{AreOut, later_next, later_after, sent_out}

-- where a round stands, by other names of the same
moved : (ss0 : List SeqState) (ls0 : List Letter) (ds es : List Delivery) (ss ts : List SeqState) (hs ks : List ℕ) (ls ms : List Letter)
    → ds ≡ es → ss ≡ ts → hs ≡ ks → ls ≡ ms → IsInRound ss0 ls0 es ts ks ms → IsInRound ss0 ls0 ds ss hs ls
moved ss0 ls0 ds es ss ts hs ks ls ms a b c d r =
    subst (λ (x : List Delivery). IsInRound ss0 ls0 x ss hs ls) (sym a)
    (subst (λ (x : List SeqState). IsInRound ss0 ls0 es x hs ls) (sym b)
    (subst (λ (x : List ℕ). IsInRound ss0 ls0 es ts x ls) (sym c)
    (subst (λ (x : List Letter). IsInRound ss0 ls0 es ts ks x) (sym d) r)))

module _ (shape : Shape) (room : ℕ) (ups : List UploadData) (ss0 : List SeqState) (ls0 : List Letter) (v0 : View) where
  -- from the round's start the code came to these states, held uploads, deliveries that are due and letters, and the pass to this view
  pub record Stands (ss : List SeqState) (held : List Sent) (ds : List Delivery) (ls : List Letter) (v : View) : Type 0 where
    pub made : List Delivery
    pub place : IsInRound ss0 ls0 (made ++ ds) (acknowledge ss ds) (seqs held) ls
    pub went : Went shape room ups made v0 v ss0 ss
    pub out : AreOut ss ds
    pub fits : v.begun + length ds + 2 * length ls + unacknowledged (acknowledge ss ds) + length (seqs held) ≤ most_calls

  pub starts : (held : List Sent) (ds : List Delivery) → held ≡ [] → ds ≡ [] → v0.begun + 2 * length ls0 + unacknowledged ss0 ≤ most_calls
      → Stands ss0 held ds ls0 v0
  starts held ds none_held none_due low =
      let here : Stands ss0 [] [] ls0 v0 = record {
        made = [];
        place = round_starts ss0 ls0;
        went = went_none shape room ups v0 ss0 ss0 refl;
        out = All-nil _;
        fits = omega arith;
      } in
      subst (λ (x : List Sent). Stands ss0 x ds ls0 v0) (sym none_held) (subst (λ (x : List Delivery). Stands ss0 [] x ls0 v0) (sym none_due) here)

  -- there is room for what is due
  pub room_now : (ss : List SeqState) (held : List Sent) (ds : List Delivery) (ls : List Letter) (v : View) → Stands ss held ds ls v
      → v.begun + length ds ≤ most_calls
  room_now ss held ds ls v s = let fits = s.fits in omega arith

  -- after a send
  pub sends : (host : ℕ) (ups' : List UploadData) (ss ts : List SeqState) (held kept : List Sent) (old new : Due) (ls ms : List Letter) (v : View)
      (letter : Letter) → letter ≡ letter_of ls → ms ≡ drop 1 ls
      → Stands ss held (dues old) ls v → SentNext host ups' letter ss ts held kept old new → Stands ts kept (dues new) ms v
  sends host ups' ss ts held kept old new ls ms v letter is next s t =
      let ds = dues old in
      let es = dues new in
      let hs = seqs held in
      let l = letter_of ls in
      let bs = brings (send t.q l) hs in
      let more : es ≡ ds ++ bs = t.brought ∙ ap (λ (x : Letter). ds ++ brings (send t.q x) hs) is in
      let n = later_next ss ds t.q s.out t.next in
      let after : acknowledge ts es ≡ after_send (acknowledge ss ds) t.q l hs = later_after ss ts ds es t.q l hs s.out t.next t.states more in
      let kept_is : seqs kept ≡ held_after l t.q hs = t.held_is ∙ ap (λ (x : Letter). held_after x t.q hs) is in
      let left = has_room (v.begun + length ds) most_calls (acknowledge ss ds) t.q hs ls n s.fits in
      let later = left.then in
      let a = ap unacknowledged after in
      let b = ap length kept_is in
      let c = ap length more in
      let d = length-append ds bs in
      let e = ap length next in
      record {
        made = s.made;
        place = moved ss0 ls0 (s.made ++ es) ((s.made ++ ds) ++ bs) (acknowledge ts es) (after_send (acknowledge ss ds) t.q l hs) (seqs kept)
            (held_after l t.q hs) ms (drop 1 ls)
            (ap (λ (x : List Delivery). s.made ++ x) more ∙ sym (append_assoc s.made ds bs)) after kept_is next
            (round_sends ss0 ls0 (s.made ++ ds) (acknowledge ss ds) hs ls t.q s.place n);
        went = record { ran = s.went.ran; acked = ap acks t.states ∙ (sent_acks ss t.q t.next ∙ s.went.acked) };
        out = sent_out ss ts ds es t.q l hs s.out t.next s.place.kept t.states more;
        fits = omega arith;
      }

  -- want of memory before anything is applied of what is due
  pub starves : {A : Type 0} (ss ts : List SeqState) (held : List Sent) (ds : List Delivery) (ls : List Letter) (v : View) (r : Result A WorkFault)
      → IsErrAnd r (λ e. e ≡ Memory) → acks ts ≡ acks ss → refusals ts ≡ 0 → Stands ss held ds ls v → Outcome shape room ups (round ss0 ls0) v0 v ss0 ts r
  starves ss ts held ds ls v r err same none s =
      let rest = brought (seqs held) (sends_on (acknowledge ss ds) (seqs held) ls) in
      left_for_memory shape room ups s.made (ds ++ rest) (round ss0 ls0) v0 v ss0 ss ts r (sym s.place.rest ∙ append_assoc s.made ds rest) err same none s.went

  -- nothing was sent
  pub stays : (ss ts : List SeqState) (held kept : List Sent) (old new : Due) (ls : List Letter) (v : View) → SentNone ss ts held kept old new
      → Stands ss held (dues old) ls v → Stands ts kept (dues new) ls v
  stays ss ts held kept old new ls v n s =
      subst (λ x. Stands x kept (dues new) ls v) (sym n.states)
      (subst (λ x. Stands ss x (dues new) ls v) (sym n.held_is) (subst (λ x. Stands ss held (dues x) ls v) (sym n.due_is) s))

  -- after the turn
  pub settles : (ups' : List UploadData) (ss ts : List SeqState) (held : List Sent) (ds es : List Delivery) (ls : List Letter) (v w : View) → ups' ≡ ups
      → es ≡ [] → ts ≡ acknowledge ss ds → Went shape room ups' ds v w ss ts → Stands ss held ds ls v → Stands ts held es ls w
  settles ups' ss ts held ds es ls v w same none is went s =
      let begun : w.begun ≡ v.begun + length ds = ap (λ (x : View). x.begun) went.ran.view in
      let waits = ap unacknowledged is in
      let fits = s.fits in
      let here : Stands ts held [] ls w = record {
        made = s.made ++ ds;
        place = moved ss0 ls0 ((s.made ++ ds) ++ []) (s.made ++ ds) ts (acknowledge ss ds) (seqs held) (seqs held) ls ls
            (append-nil (s.made ++ ds)) is refl refl s.place;
        went = both_went shape room ups ups' s.made ds v0 v w ss0 ss ts same s.went went;
        out = All-nil _;
        fits = omega arith;
      } in
      subst (λ (x : List Delivery). Stands ts held x ls w) (sym none) here

  -- a turn in which an upload was refused
  pub settle_fails : {A : Type 0} (ups' : List UploadData) (ss ts : List SeqState) (held : List Sent) (ds : List Delivery) (ls : List Letter) (v w : View)
      (f : WorkFault) (r : Result A WorkFault) → ups' ≡ ups → IsErrAnd r (λ e. e ≡ f) → Stopped shape room ups' ds v w ss ts f → Stands ss held ds ls v
      → Outcome shape room ups (round ss0 ls0) v0 w ss0 ts r
  settle_fails ups' ss ts held ds ls v w f r same err t s =
      err_late shape room ups ups' s.made ds (brought (seqs held) (sends_on (acknowledge ss ds) (seqs held) ls)) (round ss0 ls0) v0 v w ss0 ss ts f r
      (sym s.place.rest) same err s.went t

  -- no more sends
  over_is : (ss : List SeqState) (held : List Sent) (ls : List Letter)
      → (MOST_OUTSTANDING ≤ outstanding ss) ⊎ ((k : ℕ) → k < length ss → is_idle (get_or ss k states.Refused) ≡ false) → sends_on ss (seqs held) ls ≡ []
  over_is ss held ls (inl full) = sends_none_full ss (seqs held) ls full
  over_is ss held ls (inr none) = sends_none_idle ss (seqs held) ls (none_idle ss 0 none)

  -- only these deliveries are left of the round
  pub record Over (ss : List SeqState) (es : List Delivery) (ls : List Letter) (v : View) : Type 0 where
    pub made : List Delivery
    pub whole : round ss0 ls0 ≡ made ++ es
    pub ends : EndsRound ss0 ls0 (acknowledge ss es) ls
    pub went : Went shape room ups made v0 v ss0 ss
    pub fits : v.begun + length es + 2 * length ls + unacknowledged ss ≤ most_calls

  pub over : (ss ts : List SeqState) (held kept : List Sent) (old new : Due) (ls : List Letter) (v : View)
      → SentNone ss ts held kept old new → dues new ≡ [] → Stands ss held (dues old) ls v → Over ts (map heard (seqs kept)) ls v
  over ss ts held kept old new ls v n none s =
      let here : Stands ts kept [] ls v = subst (λ (x : List Delivery). Stands ts kept x ls v) none (stays ss ts held kept old new ls v n s) in
      let shut : (MOST_OUTSTANDING ≤ outstanding ts) ⊎ ((k : ℕ) → k < length ts → is_idle (get_or ts k states.Refused) ≡ false)
      = subst (λ (x : List SeqState). (MOST_OUTSTANDING ≤ outstanding x) ⊎ ((k : ℕ) → k < length x → is_idle (get_or x k states.Refused) ≡ false))
      (sym n.states) n.over in
      let e = round_ends ss0 ls0 (here.made ++ []) ts (seqs kept) ls here.place (over_is ts kept ls shut) in
      let count = length-map (seqs kept) heard in
      let fits = here.fits in
      record {
        made = here.made;
        whole = sym e.0 ∙ ap (λ (l : List Delivery). l ++ map heard (seqs kept)) (append-nil here.made);
        ends = e.1;
        went = here.went;
        fits = omega arith;
      }

  -- what was held is due
  pub due_at_end : (ss : List SeqState) (ds es : List Delivery) (ls : List Letter) (v : View) → es ≡ ds → Over ss ds ls v → Over ss es ls v
  due_at_end ss ds es ls v is o = subst (λ (x : List Delivery). Over ss x ls v) (sym is) o

  -- want of memory before that
  pub starves_at_end : {A : Type 0} (ss : List SeqState) (es : List Delivery) (ls : List Letter) (v : View) (r : Result A WorkFault)
      → IsErrAnd r (λ e. e ≡ Memory) → refusals ss ≡ 0 → Over ss es ls v → Outcome shape room ups (round ss0 ls0) v0 v ss0 ss r
  starves_at_end ss es ls v r err none o = left_for_memory shape room ups o.made es (round ss0 ls0) v0 v ss0 ss ss r o.whole err refl none o.went

  pub room_at_end : (ss : List SeqState) (es : List Delivery) (ls : List Letter) (v : View) → Over ss es ls v → v.begun + length es ≤ most_calls
  room_at_end ss es ls v o = let fits = o.fits in omega arith

  -- the round's end, after what was held is applied
  pub ends : (ss ts : List SeqState) (es : List Delivery) (ls : List Letter) (v : View) → ts ≡ acknowledge ss es → Over ss es ls v → EndsRound ss0 ls0 ts ls
  ends ss ts es ls v is o = subst (λ x. EndsRound ss0 ls0 x ls) (sym is) o.ends

  pub room_after : (ups' : List UploadData) (ss ts : List SeqState) (es : List Delivery) (ls : List Letter) (v w : View)
      → ts ≡ acknowledge ss es → Went shape room ups' es v w ss ts → Over ss es ls v → w.begun + 2 * length ls + unacknowledged ts ≤ most_calls
  room_after ups' ss ts es ls v w is went o =
      let begun : w.begun ≡ v.begun + length es = ap (λ (x : View). x.begun) went.ran.view in
      let down = acknowledged_down is_waiting ss es refl in
      let same = ap unacknowledged is in
      let left = o.fits in
      omega arith

  pub went_all : (ups' : List UploadData) (ss ts : List SeqState) (es : List Delivery) (ls : List Letter) (v w : View) → ups' ≡ ups
      → Went shape room ups' es v w ss ts → Over ss es ls v → Went shape room ups (round ss0 ls0) v0 w ss0 ts
  went_all ups' ss ts es ls v w same went o =
      subst (λ l. Went shape room ups l v0 w ss0 ts) (sym o.whole) (both_went shape room ups ups' o.made es v0 v w ss0 ss ts same o.went went)

  pub fails_at_end : {A : Type 0} (ups' : List UploadData) (ss ts : List SeqState) (es : List Delivery) (ls : List Letter) (v w : View) (f : WorkFault)
      (r : Result A WorkFault) → ups' ≡ ups → IsErrAnd r (λ e. e ≡ f)
      → Stopped shape room ups' es v w ss ts f → Over ss es ls v → Outcome shape room ups (round ss0 ls0) v0 w ss0 ts r
  fails_at_end ups' ss ts es ls v w f r same err s o =
      err_late shape room ups ups' o.made es [] (round ss0 ls0) v0 v w ss0 ss ts f r (o.whole ∙ sym (append-nil (o.made ++ es))) same err o.went s
