-- One delivery, by what the book answers.
use Rattle.std.proofs.Common.{◌≡◌, inl, inr, ℕ, zero, suc, ◌+◌, ◌<◌, ◌≤◌, ◌==◌, Bool, true, false, cond, List, [], ◌∷◌, ◌++◌, length, set, get_or, refl, sym, ap, subst, Result, Ok, Err, OnOk, ◌∙◌, arith, append-nil, append_assoc, eq-eqb}
use Rattle.std.specs.Prelude.{IsErrAnd}
use Rattle.std.specs.List.{count_by}
use Rattle.std.proofs.lemmas.List.{map-set, set-get_or, append_cancel_left}
use Rattle.std.proofs.lemmas.List.Sums.{get_or-le-sum_by}
use Rattle.std.proofs.lemmas.List.Elements.{All-nil, All-cons, filter-append}
use Rattle.sketchlet_wire.specs.Uploads.{UploadData}
use Rattle.uploader_core.specs.declared.state.SeqState.{SeqState}
use Rattle.uploader_core.specs.declared.state.SeqState.TheVariants as states
use Rattle.uploader_core.specs.States.{is_acknowledged, state_at, acknowledged, refused}
use Rattle.link_deliveries.specs.Waiting.{is_refused, refusals}
use Rattle.link_deliveries.specs.Deliveries.{Delivery, delivery, acknowledge}
use Rattle.column_book.specs.declared.entry.Entry.{Entry}
use Rattle.book_journal.specs.declared.applied.Applied.{Applied}
use Rattle.book_journal.specs.declared.applied.Applied.TheVariants.{Stored, Known}
use Rattle.book_journal.specs.declared.applied.ApplyFault.{ApplyFault}
use Rattle.book_journal.specs.declared.applied.ApplyFault.TheVariants as faults
use Rattle.upload_frame.specs.declared.reply.RefusedWhy.{RefusedWhy}
use Rattle.upload_frame.specs.declared.reply.RefusedWhy.TheVariants as why
use Rattle.upload_frame.specs.declared.reply.Reply.TheVariants.{Acknowledged, Refused}
use Rattle.lg_model.specs.Placing.{Shape}
use Rattle.column_book.specs.Applying.{stored_entry}
use Rattle.shared_book.specs.Passes.{HasNewBy, Serves}
use Rattle.upload_world.specs.Pumps.{acked_at, upload_at, StandsIn}
use Rattle.uploader_core.specs.Uploader.{states_after}
use Rattle.lock_rule.specs.declared.view.View.{View}
use Rattle.lock_rule.specs.Views.{of}
use Rattle.upload_world.proofs.Contents.{stored_stands, known_stands}
use Rattle.upload_world.specs.declared.fault.WorkFault.{WorkFault}
use Rattle.upload_world.specs.declared.fault.WorkFault.TheVariants as work
use Rattle.upload_world.specs.Pumping.{Along, acks, answered, outcome_of, IsMine, Ran, IsRefusing, Stopped, Outcome}
use Rattle.upload_world.proofs.Chains.{along_append, ran_none}
use Rattle.upload_world.proofs.Keeping.{acked_refused}

-- of a count that is 0 no element passes
pub none_passes : (p : SeqState → Bool) (ss : List SeqState) (q : ℕ) (d : SeqState) → count_by p ss ≡ 0 → q < length ss → p (get_or ss q d) ≡ false
none_passes p ss q d none short =
    let least = get_or-le-sum_by (λ (s : SeqState). cond {A = ℕ} (p s) 1 0) ss q d short in
    is_false (p (get_or ss q d)) (omega (arith, none, least))
  where
    is_false : (b : Bool) → cond {A = ℕ} b 1 0 ≤ 0 → b ≡ false
    is_false true h = absurd (omega arith)
    is_false false h = refl

-- whether an upload is acknowledged, by its number
pub get_acks : (ss : List SeqState) (q : ℕ) → get_or (acks ss) q false ≡ acked_at ss q
get_acks [] q = refl
get_acks (s ∷ ss) zero = refl
get_acks (s ∷ ss) (suc q) = get_acks ss q

-- an acknowledgement of an upload that the book did not refuse
pub acknowledges : (host : ℕ) (ss : List SeqState) (h seq q : ℕ) (known : Bool) → refusals ss ≡ 0 → h ≡ host → seq ≡ q → q < length ss
    → states_after host ss (Acknowledged h seq known) ≡ set ss q states.Acknowledged
acknowledges host ss h seq q known none host_is seq_is short =
    ap (λ (b : Bool). cond b (set ss seq (acknowledged (state_at ss seq))) ss) (eq-eqb h host host_is)
    ∙ ap (λ (n : ℕ). set ss n (acknowledged (state_at ss n))) seq_is
    ∙ ap (set ss q) (taken (state_at ss q) (none_passes is_refused ss q states.Refused none short))
  where
    taken : (s : SeqState) → is_refused s ≡ false → acknowledged s ≡ states.Acknowledged
    taken states.Idle h = refl
    taken states.Outstanding h = refl
    taken states.Acknowledged h = refl
    taken states.Refused h = absurd cc

-- a refusal changes nothing of what is acknowledged
pub refusal_acks : (host : ℕ) (ss : List SeqState) (h seq : ℕ) (reason : RefusedWhy) → acks (states_after host ss (Refused h seq reason)) ≡ acks ss
refusal_acks host ss h seq reason = elim (h == host) as (λ b. acks (cond b (set ss seq (refused (state_at ss seq))) ss) ≡ acks ss) [
  | true ↦
      map-set is_acknowledged ss seq (refused (state_at ss seq))
      ∙ (ap (set (acks ss) seq) (acked_refused (state_at ss seq) ∙ sym (get_acks ss seq)) ∙ set-get_or (acks ss) seq false)
  | false ↦ refl
]

-- entries of other passes are none of ours
pub others : (n : ℕ) (P : List Entry → Entry → Type 0) (start es : List Entry) → of n es ≡ [] → Along (λ before e. e.pass ≡ n → P before e) start es
others n P start [] none = tt
others n P start (e ∷ es) none =
    (elim (e.pass == n) as (λ b. e.pass == n ≡ b → cond b (e ∷ of n es) (of n es) ≡ [] → Along (λ before x. x.pass ≡ n → P before x) start (e ∷ es)) [
      | true ↦ λ is same. absurd cc
      | false ↦ λ is same. (λ own. let t = eq-eqb e.pass n own in absurd cc, others n P (start ++ e ∷ []) es same)
    ]) refl none

pub none_between : (n : ℕ) (seen more list : List Entry) → seen ++ more ≡ list → of n list ≡ of n seen → of n more ≡ []
none_between n seen more list is same =
    append_cancel_left (of n seen) (of n more) []
    (sym (filter-append (λ (e : Entry). e.pass == n) seen more) ∙ (ap (of n) is ∙ (same ∙ sym (append-nil (of n seen)))))

module _ (shape : Shape) (room : ℕ) (ups : List UploadData) (own : ℕ) (ss : List SeqState) (q : ℕ) (heard : Bool) (v w : View) where
  -- what is known of the upload and the states
  pub record Ready : Type 0 where
    pub short : q < length ups
    pub each : length ss ≡ length ups
    pub host : (upload_at ups q).host ≡ own
    pub seq : (upload_at ups q).seq ≡ q
    pub none : refusals ss ≡ 0

  abbrev pub states_then : Result Applied ApplyFault → List SeqState
  states_then answer = cond heard (answered own ss (upload_at ups q) answer) ss

  abbrev d : Delivery
  d = delivery q heard

  ok_states : (known : Bool) → Ready → cond heard (states_after own ss (Acknowledged (upload_at ups q).host (upload_at ups q).seq known)) ss
      ≡ acknowledge ss (d ∷ [])
  ok_states known r = ap (λ (l : List SeqState). cond heard l ss)
      (acknowledges own ss (upload_at ups q).host (upload_at ups q).seq q known r.none r.host r.seq (let e = r.each in let s = r.short in omega arith))

  pub delivered_states : (answer : Result Applied ApplyFault) → Ready → OnOk (outcome_of q answer) (states_then answer ≡ acknowledge ss (d ∷ []))
  delivered_states (Ok (Stored p)) r = ok_states false r
  delivered_states (Ok Known) r = ok_states true r
  delivered_states (Err (faults.Broken n)) r = tt
  delivered_states (Err (faults.WrongShape kept came)) r = tt
  delivered_states (Err (faults.Conflict key kept came)) r = tt
  delivered_states (Err (faults.Full held more)) r = tt
  delivered_states (Err faults.Memory) r = tt
  delivered_states (Err faults.DiskFault) r = tt

  stored : (p : ℕ) → Ready → Serves shape room (upload_at ups q) v w (Ok (Stored p)) → Ran shape room ups (d ∷ []) v w
  stored p r s =
      let u = upload_at ups q in
      let front = s.begins in
      let more = front.0 in
      let e = stored_entry v.number s.list u in
      let all : s.list ++ e ∷ [] ≡ v.seen ++ (more ++ e ∷ []) = ap (λ (l : List Entry). l ++ e ∷ []) (sym front.1) ∙ append_assoc v.seen more (e ∷ []) in
      let right : HasNewBy shape room v.number u s.list = s.right.0 in
      let mine : IsMine shape room ups (d ∷ []) v.number s.list e = record {
        earlier = [];
        own = d;
        later = [];
        place = refl;
        short = r.short;
        seq = r.seq;
        is = refl;
        right = right;
        known = All-nil (λ (x : Delivery). StandsIn (upload_at ups x.seq) s.list);
      } in
      record {
        more = more ++ e ∷ [];
        view = s.after ∙ ap (λ (l : List Entry). record v { seen = l; begun = v.begun + 1 }) all;
        short = All-cons (λ (x : Delivery). x.seq < length ups) d [] r.short (All-nil (λ (x : Delivery). x.seq < length ups));
        kept = All-cons (λ (x : Delivery). StandsIn (upload_at ups x.seq) (v.seen ++ (more ++ e ∷ []))) d []
            (subst (StandsIn u) all (stored_stands shape room v.number u s.list right))
            (All-nil (λ (x : Delivery). StandsIn (upload_at ups x.seq) (v.seen ++ (more ++ e ∷ []))));
        mine = along_append (λ before x. x.pass ≡ v.number → IsMine shape room ups (d ∷ []) v.number before x) v.seen more (e ∷ [])
            (others v.number (IsMine shape room ups (d ∷ []) v.number) v.seen more (none_between v.number v.seen more s.list front.1 s.mine))
            (λ is. subst (λ l. IsMine shape room ups (d ∷ []) v.number l e) (sym front.1) mine, tt);
        still = λ m. absurd (cc (s.marked m).1);
      }

  known : Ready → Serves shape room (upload_at ups q) v w (Ok Known) → Ran shape room ups (d ∷ []) v w
  known r s =
      let u = upload_at ups q in
      let front = s.begins in
      let more = front.0 in
      record {
        more = more;
        view = s.after ∙ ap (λ (l : List Entry). record v { seen = l; begun = v.begun + 1 }) (sym front.1);
        short = All-cons (λ (x : Delivery). x.seq < length ups) d [] r.short (All-nil (λ (x : Delivery). x.seq < length ups));
        kept = All-cons (λ (x : Delivery). StandsIn (upload_at ups x.seq) (v.seen ++ more)) d []
            (subst (StandsIn u) (sym front.1) (known_stands shape room u s.list s.right))
            (All-nil (λ (x : Delivery). StandsIn (upload_at ups x.seq) (v.seen ++ more)));
        mine = others v.number (IsMine shape room ups (d ∷ []) v.number) v.seen more (none_between v.number v.seen more s.list front.1 s.mine);
        still = λ m. absurd (cc (s.marked m).1);
      }

  acks_if : (ts : List SeqState) → acks ts ≡ acks ss → acks (cond heard ts ss) ≡ acks ss
  acks_if ts same = elim heard as (λ b. acks (cond b ts ss) ≡ acks ss) [ true ↦ same | false ↦ refl ]

  same_if : (ts : List SeqState) → cond heard ts ts ≡ ts
  same_if ts = elim heard as (λ b. cond b ts ts ≡ ts) [ true ↦ refl | false ↦ refl ]

  refuses : (f : ApplyFault) (ts : List SeqState) → Ready → IsRefusing f → Serves shape room (upload_at ups q) v w (Err f) → acks ts ≡ acks ss
      → Stopped shape room ups (d ∷ []) v w ss ts (work.Refused q f)
  refuses f ts r is s same = record {
    made = [];
    left = d ∷ [];
    split = refl;
    between = v;
    ran = ran_none shape room ups v;
    last = record { call = record { first = d; later = []; place = refl; short = r.short; seq = r.seq; serves = s }; seq_is = refl; refusing = is };
    acked = same;
    none = λ m. absurd m;
  }

  pub delivered : (answer : Result Applied ApplyFault) → Ready → Serves shape room (upload_at ups q) v w answer
      → Outcome shape room ups (d ∷ []) v w ss (states_then answer) (outcome_of q answer)
  delivered (Ok (Stored p)) r s = record { ran = stored p r s; acked = ap acks (ok_states false r) }
  delivered (Ok Known) r s = record { ran = known r s; acked = ap acks (ok_states true r) }
  delivered (Err (faults.Broken n)) r s =
      refuses (faults.Broken n) _ r tt s (acks_if _ (refusal_acks own ss (upload_at ups q).host (upload_at ups q).seq why.Closed))
  delivered (Err (faults.WrongShape kept came)) r s =
      refuses (faults.WrongShape kept came) _ r tt s (acks_if _ (refusal_acks own ss (upload_at ups q).host (upload_at ups q).seq why.Shape))
  delivered (Err (faults.Conflict key kept came)) r s =
      refuses (faults.Conflict key kept came) _ r tt s (acks_if _ (refusal_acks own ss (upload_at ups q).host (upload_at ups q).seq (why.Conflict key)))
  delivered (Err (faults.Full held more)) r s =
      refuses (faults.Full held more) _ r tt s (acks_if _ (refusal_acks own ss (upload_at ups q).host (upload_at ups q).seq why.Full))
  delivered (Err faults.DiskFault) r s =
      refuses faults.DiskFault _ r tt s (acks_if _ (refusal_acks own ss (upload_at ups q).host (upload_at ups q).seq why.Closed))
  delivered (Err faults.Memory) r s = record {
    made = [];
    left = d ∷ [];
    split = refl;
    between = v;
    ran = ran_none shape room ups v;
    last = inr (record { first = d; later = []; place = refl; short = r.short; seq = r.seq; serves = s });
    acked = acks_if ss refl;
    none = λ m. ap refusals (same_if ss) ∙ r.none;
  }

  -- the same, of what a call has in hand
  pub finish : (u : UploadData) (ts : List SeqState) (answer : Result Applied ApplyFault) (result : Result (Unit {0}) WorkFault) → Ready → u ≡ upload_at ups q
      → Serves shape room u v w answer
      → ts ≡ cond heard (answered own ss u answer) ss → result ≡ outcome_of q answer → Outcome shape room ups (d ∷ []) v w ss ts result
  finish u ts answer result r is s states_are result_is =
      let serves = subst (λ x. Serves shape room x v w answer) is s in
      let after : ts ≡ states_then answer = states_are ∙ ap (λ (x : UploadData). cond heard (answered own ss x answer) ss) is in
      subst (λ x. Outcome shape room ups (d ∷ []) v w ss ts x) (sym result_is)
      (subst (λ x. Outcome shape room ups (d ∷ []) v w ss x (outcome_of q answer)) (sym after) (delivered answer r serves))

  pub finish_states : (u : UploadData) (ts : List SeqState) (answer : Result Applied ApplyFault) (result : Result (Unit {0}) WorkFault) → Ready
      → u ≡ upload_at ups q
      → ts ≡ cond heard (answered own ss u answer) ss → result ≡ outcome_of q answer → OnOk result (ts ≡ acknowledge ss (d ∷ []))
  finish_states u ts answer result r is states_are result_is =
      let after : ts ≡ states_then answer = states_are ∙ ap (λ (x : UploadData). cond heard (answered own ss x answer) ss) is in
      subst (λ x. OnOk x (ts ≡ acknowledge ss (d ∷ []))) (sym result_is)
      (subst (λ x. OnOk (outcome_of q answer) (x ≡ acknowledge ss (d ∷ []))) (sym after) (delivered_states answer r))

-- want of memory before any call
pub no_memory : {A : Type 0} (shape : Shape) (room : ℕ) (ups : List UploadData) (ds : List Delivery) (v w : View) (ss ts : List SeqState)
    (result : Result A WorkFault) → w ≡ v → IsErrAnd result (λ e. e ≡ work.Memory) → acks ts ≡ acks ss → refusals ts ≡ 0
    → Outcome shape room ups ds v w ss ts result
no_memory shape room ups ds v w ss ts (Ok a) still is same none = absurd is
no_memory shape room ups ds v w ss ts (Err (work.Refused q f)) still is same none = absurd cc
no_memory shape room ups ds v w ss ts (Err work.Memory) still is same none =
    record { made = []; left = ds; split = refl; between = v; ran = ran_none shape room ups v; last = inl still; acked = same; none = λ m. none }
