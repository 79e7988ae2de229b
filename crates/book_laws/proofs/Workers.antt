-- What holds once a worker per host is done and the book is closed.
use Rattle.std.specs.Prelude.{◌≡◌, ◌⊎◌, ℕ, zero, suc, ◌+◌, ◌-◌, ◌<◌, ◌≤◌, true, false, List, [], ◌∷◌, ◌++◌, length, map, replicate, take, All, Contains}
use Rattle.std.specs.Prelude.{Option, None, Some, Result, Ok, Err, IsOk, OnOk, slice_get, slice_index_or}
use Rattle.std.proofs.Common.{refl, sym, ap, ◌∙◌, subst, arith, inl, inr, true≢false, append_assoc, length-append}
use Rattle.std.proofs.lemmas.Bool.{cases_lt}
use Rattle.std.proofs.lemmas.List.{append-nil, length-map, get_or-map, get_or_default, nil_from_length}
use Rattle.std.proofs.lemmas.List.Elements.{All-weaker, All-from_get_or, All-contains, Contains-append_right}
use Rattle.std.proofs.lemmas.List.Sums.{AllPass-from_list_all}
use mathlib.Core.Option.{some}
use lib.ListN.{get_elem?, length-replicate}
use Rattle.lg_model.specs.Scenario.{Scenario}
use Rattle.lg_model.specs.declared.column.Key.{Key}
use Rattle.lg_model.specs.Columns.{Cells, Column}
use Rattle.lg_model.specs.Answer.{found}
use Rattle.sketchlet_wire.specs.Uploads.{UploadData}
use Rattle.column_book.specs.declared.book.TheConstants.{ROOM}
use Rattle.column_book.specs.declared.entry.Entry.{Entry}
use Rattle.column_book.specs.Entries.{records, columns_of, content}
use Rattle.book_journal.specs.declared.applied.ApplyFault.{ApplyFault}
use Rattle.book_journal.specs.declared.applied.ApplyFault.TheVariants as apply
use Rattle.column_book.specs.declared.fault.BookFault.{BookFault}
use Rattle.column_book.specs.declared.fault.BookFault.TheVariants as book
use Rattle.column_book.specs.Applying.{decide}
use Rattle.book_journal.specs.Applied.{fault_of}
use Rattle.book_journal.specs.Runs.{with_fault}
use Rattle.lock_rule.specs.declared.view.Joined.{Joined}
use Rattle.lock_rule.specs.declared.view.Mark.TheVariants.{Clear, Carries}
use Rattle.lock_rule.specs.declared.view.View.{View}
use Rattle.lock_rule.specs.declared.view.Doing.TheVariants as doing
use Rattle.lock_rule.specs.Views.{of, Marked, new_pass, joined_of, spent}
use Rattle.lock_rule.specs.Closing.{Closes, IsOver}
use Rattle.uploader_core.specs.declared.state.SeqState.{SeqState}
use Rattle.uploader_core.specs.declared.state.SeqState.TheVariants.{Idle}
use Rattle.uploader_core.specs.declared.state.SeqState.TheVariants as state
use Rattle.uploader_core.specs.States.{is_acknowledged}
use Rattle.lg_model.specs.declared.scenario.Letter.{Letter}
use Rattle.link_deliveries.specs.Deliveries.{delivered}
use Rattle.link_deliveries.specs.Laws.{Waits}
use Rattle.link_deliveries.specs.Waiting.{is_refused, refusals as refused_by}
use Rattle.link_deliveries.proofs.Idle.{count-cons}
use Rattle.link_deliveries.proofs.Coming as deliveries
use Rattle.upload_world.specs.declared.fault.WorkFault.{WorkFault}
use Rattle.upload_world.specs.declared.fault.WorkFault.TheVariants.{Refused, Memory}
use Rattle.upload_world.specs.Pumps.{Has, StandsIn, IsOfCall, IsFirstRefused, Stops, IsCause, acked_at, no_upload}
use Rattle.run_laws.specs.Booking.{uploads_of}
use Rattle.scenario_parts.specs.Whole.{IsWhole}
use Rattle.book_laws.specs.Legal.{IsLegalNext, AreLegalNext, IsLegal, host_at, uploads_at, upload_at, order_at}
use Rattle.book_laws.specs.Keeping.{IsHeld, AllHeld, HasKeysOnce, IsJoined, IsCaused, AreAcked, IsAnswered, IsRefusedAt}
use Rattle.book_laws.specs.Workers.{Worker, IsWork, AreJoined, acks_of, AllDone, IsExplained}
use Rattle.book_laws.specs.Laws.{LawOfWorkers}
use Rattle.book_laws.proofs.Lists.{all_flat, get_right}
use Rattle.book_laws.proofs.Contents.{once_found}
use Rattle.book_laws.proofs.Uploads.{numbered_at, sent_at, columns_are}
use Rattle.book_laws.proofs.Legal.{legal_at, legal_append, legal_once}
use Rattle.book_laws.proofs.Growing as growing
use Rattle.book_laws.proofs.Refusals as refusals
use Rattle.book_laws.proofs.Places.{in_reverse, of_reverse, get_map, take_map, take_right, none_past, StoodThere, stood_there}
use Rattle.book_laws.proofs.Places.{records-append, records_front, columns_front}

-- the worker of no host
abbrev idle : Worker
idle = record { view = spent; states = []; result = Err Memory }

abbrev Joins : Worker → Joined
Joins p = joined_of p.view

abbrev States : Worker → List SeqState
States p = p.states

-- a new worker has nothing acknowledged, and none of its uploads is refused
none_acked : (n q : ℕ) → acked_at (replicate n Idle) q ≡ false
none_acked zero q = refl
none_acked (suc n) zero = refl
none_acked (suc n) (suc q) = none_acked n q

none_refused : (n : ℕ) → refused_by (replicate n Idle) ≡ 0
none_refused zero = refl
none_refused (suc n) = let one = count-cons is_refused Idle (replicate n Idle) in let rest = none_refused n in omega (arith, one, rest)

-- each number that a link brings is that of an upload
brought_low : (n : ℕ) (letters : List Letter) → All (λ q. q < n) (delivered n letters)
brought_low n letters =
    let size = length-replicate n Idle in
    All-weaker (Waits (replicate n Idle)) (λ q. q < n) (λ q waits. let low = waits.short in omega (arith, low, size))
    (delivered n letters) (deliveries.law (replicate n Idle) letters (none_refused n)).only

on_ok : {A E : Type 0} (r : Result A E) (P : Type 0) → IsOk r → OnOk r P → P
on_ok (Ok a) P is p = p
on_ok (Err e) P is p = absurd (true≢false (sym is))

unmarked : (e : Entry) → Clear ≡ Carries e → ⊥
unmarked e h = absurd (cc h)

module _ (w : Scenario) (first entries : List Entry) (fault : Option Entry) (v : View) (ps : List Worker) (many : length ps ≡ length w.hosts)
    (closes : Closes first v entries fault) (joined : AreJoined first v ps)
    (each : (h : ℕ) (d : Worker) → h < length ps → IsWork w h first (slice_index_or ps h d)) where
  abbrev worker : ℕ → Worker
  worker h = slice_index_or ps h idle

  mine : (h : ℕ) → h < length ps → IsWork w h first (worker h)
  mine h low = each h idle low

  host : (h : ℕ) → h < length ps → h < length w.hosts
  host h low = omega (arith, low, many)

  -- ---- what closing says of each pass

  joined_at : (h : ℕ) → h < length ps → get_elem? v.joined (length (map Joins ps) - 1 - h) ≡ some (Joins (worker h))
  joined_at h low =
      let size = length-map ps Joins in
      ap (λ (l : List Joined). get_elem? l (length (map Joins ps) - 1 - h)) joined.joined
      ∙ in_reverse (map Joins ps) h (Joins idle) (omega (arith, low, size))
      ∙ ap (λ (p : Joined). some p) (get_or-map Joins ps h idle (Joins idle) low)

  over : (h : ℕ) → h < length ps → IsOver first entries fault closes.carrier (h + 2) (worker h).view.seen (worker h).view.mark
  over h low =
      subst (λ n. IsOver first entries fault closes.carrier n (worker h).view.seen (worker h).view.mark)
      (ap (λ (x : View). x.number) (mine h low).pumps.same)
      (closes.joined (length (map Joins ps) - 1 - h) (Joins (worker h)) (joined_at h low))

  -- entries of no worker's number are none but those that the book began with
  strangers : (n : ℕ) → (n < 2) ⊎ (length ps + 1 < n) → of n entries ≡ of n first
  strangers n (inr far) = let all = joined.made in closes.strangers n (inr (omega (arith, far, all)))
  strangers zero (inl low) = closes.strangers 0 (inl refl)
  strangers (suc zero) (inl low) = subst (λ n. of n entries ≡ of n v.seen) joined.number closes.own.mine ∙ joined.own
  strangers (suc (suc n)) (inl low) = absurd (omega (arith, low))

  -- ---- the worker of an entry

  record Owner (i : ℕ) (e : Entry) : Type 0 where
    at : ℕ
    low : at < length ps
    number : e.pass ≡ at + 2
    stood : StoodThere (worker at).view.seen entries i e

  owner : (i : ℕ) (e : Entry) → length first ≤ i → slice_get entries i ≡ Some e → Owner i e
  owner i e far is = elim (cases_lt e.pass 2) as (λ _. Owner i e) [
    | inl few ↦ absurd (none_past first entries i e closes.begins (strangers e.pass (inl few)) far is)
    | inr some_ ↦ elim (cases_lt (length ps + 1) e.pass) as (λ _. Owner i e) [
      | inl more ↦ absurd (none_past first entries i e closes.begins (strangers e.pass (inr more)) far is)
      | inr within ↦
          let at : ℕ = e.pass - 2 in
          let low : at < length ps = omega (arith, some_, within) in
          let number : e.pass ≡ at + 2 = omega (arith, some_) in
          let o = over at low in
          record { at = at; low = low; number = number; stood = stood_there (at + 2) (worker at).view.seen entries i e o.begins o.mine is number }
    ]
  ]

  -- ---- the list is legal

  abbrev IsCall : (h : ℕ) → List Entry → Entry → Type 0
  IsCall h before e = IsOfCall w.shape ROOM (uploads_at w h) (order_at delivered w h) (h + 2) before e

  own_host : (h : ℕ) (before : List Entry) (e : Entry) → IsCall h before e → e.stored.host ≡ (host_at w h).name
  own_host h before e call = ap (λ (x : Entry). x.stored.host) call.own.is ∙ (numbered_at w h e.stored.seq call.own.sent).host

  own_legal : (h : ℕ) (before : List Entry) (e : Entry) → h < length ps → IsCall h before e → IsLegalNext delivered w (records before) e.stored
  own_legal h before e low call =
      let own = call.own in
      record {
        at = h;
        declared = host h low;
        sent = own.sent;
        host = own_host h before e call;
        stored = own.right.decides ∙ ap (λ (x : Entry). Ok x.stored.columns) (sym own.is);
        some = subst (λ (x : Entry). 1 ≤ length x.stored.columns) (sym own.is) own.right.some;
        first = call.first;
      }

  next_legal : (more : List Entry) → first ++ more ≡ entries → (i : ℕ) (e : Entry) → slice_get more i ≡ Some e →
      IsLegalNext delivered w (records first ++ take i (records more)) e.stored
  next_legal more is i e h =
      let there : slice_get entries (length first + i) ≡ Some e =
      ap (λ (es : List Entry). slice_get es (length first + i)) (sym is) ∙ get_right first more i ∙ h in
      let o = owner (length first + i) e (omega arith) there in
      let call = (mine o.at o.low).pumps.added (length first + i) e (omega arith) o.stood.there o.number in
      let same : take (length first + i) (worker o.at).view.seen ≡ first ++ take i more =
      o.stood.before ∙ ap (λ (es : List Entry). take (length first + i) es) (sym is) ∙ take_right first more i in
      let flat : records (first ++ take i more) ≡ records first ++ take i (records more) =
      records-append first (take i more) ∙ ap (λ (rs : List UploadData). records first ++ rs) (sym (take_map (λ (x : Entry). x.stored) more i)) in
      subst (λ (rs : List UploadData). IsLegalNext delivered w rs e.stored) (ap records same ∙ flat)
      (own_legal o.at (take (length first + i) (worker o.at).view.seen) e o.low call)

  abbrev added : List Entry
  added = closes.begins.0

  added_legal : AreLegalNext delivered w (records first) (records added)
  added_legal = legal_at delivered w (records first) (records added) (λ i r h.
      let m = get_map (λ (x : Entry). x.stored) added i r h in
      subst (λ (x : UploadData). IsLegalNext delivered w (records first ++ take i (records added)) x) m.gives (next_legal added closes.begins.1 i m.item m.is))

  split : records entries ≡ records first ++ records added
  split = ap records (sym closes.begins.1) ∙ records-append first added

  entries_legal : IsLegal delivered w (records first) (records entries)
  entries_legal = record { more = records added; begins = split; each = added_legal }

  -- the worker whose mark carries the entry that may be on the disk
  record Carrier (e : Entry) : Type 0 where
    at : ℕ
    low : at < length ps
    mark : (worker at).view.mark ≡ Carries e

  carrier : (e : Entry) → fault ≡ Some e → Carrier e
  carrier e is = elim (closes.marks e is) as (λ _. Carrier e) [
    | inl own ↦ absurd (unmarked e (sym joined.clear ∙ own))
    | inr other ↦
        let p : Joined = other.1 in
        let a = of_reverse (map Joins ps) other.0 p (ap (λ (l : List Joined). get_elem? l other.0) (sym joined.joined) ∙ other.2) in
        let inside = a.low in
        let size = length-map ps Joins in
        let low : a.place < length ps = omega (arith, inside, size) in
        record {
          at = a.place;
          low = low;
          mark = ap (λ (x : Joined). x.mark) (sym (get_or-map Joins ps a.place idle p low) ∙ a.is) ∙ other.3;
        }
  ]

  fault_legal : (e : Entry) → fault ≡ Some e → IsLegalNext delivered w (records entries) e.stored
  fault_legal e is =
      let c = carrier e is in
      let all : (worker c.at).view.seen ≡ entries = (over c.at c.low).all (subst Marked (sym c.mark) tt) in
      subst (λ (es : List Entry). IsLegalNext delivered w (records es) e.stored) all
      (own_legal c.at (worker c.at).view.seen e c.low ((mine c.at c.low).pumps.set (λ none. none) e c.mark))

  legal : IsLegal delivered w (records first) (records (with_fault entries fault))
  legal = by fault refl
    where
      by : (f : Option Entry) → fault ≡ f → IsLegal delivered w (records first) (records (with_fault entries f))
      by None is = entries_legal
      by (Some e) is = record {
        more = records added ++ e.stored ∷ [];
        begins = records-append entries (e ∷ []) ∙ ap (λ (rs : List UploadData). rs ++ e.stored ∷ []) split
            ∙ append_assoc (records first) (records added) (e.stored ∷ []);
        each = legal_append delivered w (records first) (records added) (e.stored ∷ []) added_legal
            (subst (λ (rs : List UploadData). IsLegalNext delivered w rs e.stored) split (fault_legal e is), tt);
      }

  -- ---- what is acknowledged

  -- all uploads of a worker that ended well
  all_acked : (h q : ℕ) → h < length ps → IsOk (worker h).result → q < length (uploads_at w h) → acked_at (worker h).states q ≡ true
  all_acked h q low ok sent =
      let did = on_ok (worker h).result _ ok (mine h low).pumps.done in
      let size = (mine h low).paired in
      AllPass-from_list_all is_acknowledged (worker h).states did.0 q state.Refused (omega (arith, sent, size))

  acks_at : (h q : ℕ) → h < length ps → acks_of ps h q ≡ acked_at (worker h).states q
  acks_at h q low = ap (λ (ss : List SeqState). acked_at ss q) (get_or-map States ps h idle [] low)

  fine : (h q : ℕ) (d : Worker) → h < length ps → IsOk (slice_index_or ps h d).result → q < length (uploads_at w h) → acks_of ps h q ≡ true
  fine h q d low ok sent =
      acks_at h q low ∙ all_acked h q low (subst (λ (p : Worker). IsOk p.result) (sym (get_or_default ps h idle d low)) ok) sent

  -- an upload that stands in what a pass had seen is kept, where no key stands twice
  module _ (once : HasKeysOnce (records first)) where
    keys_once : HasKeysOnce (records entries)
    keys_once = subst HasKeysOnce (sym split) (legal_once delivered w (records first) (records added) added_legal once)

    kept : (h : ℕ) → h < length ps → (u : UploadData) → StandsIn u (worker h).view.seen → All (IsHeld (content entries)) u.columns
    kept h low u stands = All-weaker (λ (c : Column). Has (columns_of (worker h).view.seen) c.key c.cells) (IsHeld (content entries)) (λ c has.
        ap (λ (k : Key). found (content entries) k) (sym has.key)
        ∙ once_found (columns_of entries) keys_once has.column (columns_front (worker h).view.seen entries (over h low).begins has.column has.inside)
        ∙ ap (λ (x : Cells). Some x) has.cells) u.columns stands

    acked_kept : (h q : ℕ) → h < length ps → q < length (uploads_at w h) → acked_at (worker h).states q ≡ true →
        All (IsHeld (content entries)) (upload_at w h q).columns
    acked_kept h q low sent is = kept h low (upload_at w h q)
        ((mine h low).pumps.acked (λ k short yes_. absurd (true≢false (sym yes_ ∙ none_acked (length (uploads_at w h)) k))) q sent is)

    answered : (i : ℕ) (r : UploadData) → length (records first) ≤ i → slice_get (records entries) i ≡ Some r → IsAnswered w (acks_of ps) r
    answered i r far h =
        let m = get_map (λ (x : Entry). x.stored) entries i r h in
        let size = length-map first (λ (x : Entry). x.stored) in
        let past : length first ≤ i = omega (arith, far, size) in
        let o = owner i m.item past m.is in
        let call = (mine o.at o.low).pumps.added i m.item past o.stood.there o.number in
        subst (IsAnswered w (acks_of ps)) m.gives (record {
          at = o.at;
          declared = host o.at o.low;
          sent = call.own.sent;
          host = own_host o.at (take i (worker o.at).view.seen) m.item call;
          told = λ keeps. acks_at o.at m.item.stored.seq o.low ∙ (mine o.at o.low).pumps.answered keeps i m.item past o.stood.there o.number;
        })

    acks : AreAcked w (records first) (records entries) (acks_of ps)
    acks = record {
      held = λ h q declared sent is. let low : h < length ps = omega (arith, declared, many) in acked_kept h q low sent (sym (acks_at h q low) ∙ is);
      answered = answered;
    }

    -- ---- where every worker ended well

    all_held : AllDone ps → AllHeld w (records entries)
    all_held ok =
        subst (All (IsHeld (content entries))) (columns_are w)
        (all_flat (IsHeld (content entries)) (λ (u : UploadData). u.columns) (uploads_of w)
        (All-from_get_or (λ (u : UploadData). All (IsHeld (content entries)) u.columns) (uploads_of w) no_upload (λ p below.
        let s = sent_at w p below in
        let declared = s.declared in
        let low : s.at < length ps = omega (arith, declared, many) in
        subst (λ (u : UploadData). All (IsHeld (content entries)) u.columns) (sym s.is) (acked_kept s.at s.seq low s.sent (all_acked s.at s.seq low (ok s.at idle low) s.sent)))))

    done : AllDone ps → AllHeld w (records entries) × IsJoined w (records first) (records entries)
    done ok = (all_held ok, (growing.law delivered w (records first) (records entries) entries_legal).joined (all_held ok))

  sound : AllDone ps → fault ≡ None
  sound ok = by fault refl
    where
      by : (f : Option Entry) → fault ≡ f → f ≡ None
      by None is = refl
      by (Some e) is =
          let c = carrier e is in
          let did = on_ok (worker c.at).result _ (ok c.at idle c.low) (mine c.at c.low).pumps.done in
          absurd (unmarked e (sym did.2 ∙ c.mark))

  -- ---- where the book refused an upload

  broken : (h : ℕ) → h < length ps → Marked (worker h).view.mark → (e : Entry) × (fault ≡ Some e)
  broken h low marked = (over h low).broken marked

  -- the list that a worker's pass had seen
  seen_legal : (h : ℕ) → h < length ps → IsLegal delivered w (records first) (records (worker h).view.seen)
  seen_legal h low =
      growing.legal_between delivered w (records first) (records (worker h).view.seen) (records entries) entries_legal
      (records_front first (worker h).view.seen (over h low).from) (records_front (worker h).view.seen entries (over h low).begins)

  -- where a worker's pump stopped
  record StoppedAt (h q : ℕ) (why : ApplyFault) : Type 0 where
    sent : q < length (uploads_at w h)
    cause : IsCause w.shape ROOM (uploads_at w h) q (new_pass (h + 2) doing.Idle first 0) (worker h).view why

  stopped_at : (h q : ℕ) (d : Worker) (why : ApplyFault) → h < length ps → (slice_index_or ps h d).result ≡ Err (Refused q why) → StoppedAt h q why
  stopped_at h q d why low is =
      let ended : (worker h).result ≡ Err (Refused q why) = ap (λ (p : Worker). p.result) (get_or_default ps h idle d low) ∙ is in
      let stopped : IsFirstRefused w.shape ROOM (uploads_at w h) (order_at delivered w h) (new_pass (h + 2) doing.Idle first 0) (worker h).view q why =
      subst (λ (r : Result (Unit {0}) WorkFault).
      Stops w.shape ROOM (uploads_at w h) (order_at delivered w h) (new_pass (h + 2) doing.Idle first 0) (worker h).view (worker h).states r)
      ended (mine h low).pumps.stops in
      let inside : Contains (order_at delivered w h) q =
      subst (λ (ds : List ℕ). Contains ds q) (sym stopped.place) (Contains-append_right stopped.earlier (q ∷ stopped.later) q (0, omega arith, refl)) in
      record {
        sent = All-contains (λ n. n < length (uploads_at w h)) (order_at delivered w h) q (brought_low (length (uploads_at w h)) (host_at w h).letters) inside;
        cause = stopped.cause;
      }

  module _ (whole : IsWhole w) (once : HasKeysOnce (records first)) (h : ℕ) (low : h < length ps) (q : ℕ) (sent : q < length (uploads_at w h)) where
    seen_caused : (why : BookFault) → decide w.shape ROOM (records (worker h).view.seen) (upload_at w h q) ≡ Err why → IsCaused w (records first) why
    seen_caused why is =
        refusals.law delivered w (records first) (records (worker h).view.seen) whole once (seen_legal h low) h q why (host h low) sent is

    explained : (why : ApplyFault) → IsCause w.shape ROOM (uploads_at w h) q (new_pass (h + 2) doing.Idle first 0) (worker h).view why →
        IsExplained w (records first) fault why
    explained (apply.Broken n) cause = broken h low cause.0
    explained (apply.WrongShape kept came) cause = seen_caused (book.WrongShape kept came) cause
    explained (apply.Conflict key kept came) cause = seen_caused (book.Conflict key kept came) cause
    explained (apply.Full held more) cause = seen_caused (book.Full held more) cause
    explained apply.Memory cause = cause
    explained apply.DiskFault cause = broken h low (subst Marked (sym cause.1) tt)

  refused : IsWhole w → HasKeysOnce (records first) → (h : ℕ) (d : Worker) (q : ℕ) (why : ApplyFault) → h < length ps →
      (slice_index_or ps h d).result ≡ Err (Refused q why) → IsExplained w (records first) fault why
  refused whole once h d q why low is =
      let stopped = stopped_at h q d why low is in
      explained whole once h low q stopped.sent why stopped.cause

  refusal : (h q : ℕ) (d : Worker) (why : BookFault) → h < length ps →
      (slice_index_or ps h d).result ≡ Err (Refused q (fault_of why)) → IsRefusedAt delivered w (records first) h q why
  refusal h q d why low is = let stopped = stopped_at h q d (fault_of why) low is in record {
    sent = stopped.sent;
    list = records (worker h).view.seen;
    legal = seen_legal h low;
    says = by why stopped.cause;
  }
    where
      by : (f : BookFault) → IsCause w.shape ROOM (uploads_at w h) q (new_pass (h + 2) doing.Idle first 0) (worker h).view (fault_of f) →
          decide w.shape ROOM (records (worker h).view.seen) (upload_at w h q) ≡ Err f
      by (book.WrongShape kept came) cause = cause
      by (book.Conflict key kept came) cause = cause
      by (book.Full held more) cause = cause

  -- ---- where all that is brought was found

  repeats : AllHeld w (records first) → (entries ≡ first) × (fault ≡ None)
  repeats all = by fault refl
    where
      same : records (with_fault entries fault) ≡ records first
      same = (growing.law delivered w (records first) (records (with_fault entries fault)) legal).repeats all

      as_long : length (with_fault entries fault) ≡ length first
      as_long =
          let new = length-map (with_fault entries fault) (λ (x : Entry). x.stored) in
          let old = length-map first (λ (x : Entry). x.stored) in
          let size = ap length same in
          omega (arith, new, old, size)

      both : length entries ≡ length first + length added
      both = sym (ap length closes.begins.1) ∙ length-append first added

      by : (f : Option Entry) → fault ≡ f → (entries ≡ first) × (f ≡ None)
      by None is =
          let size : length entries ≡ length first = sym (ap (λ (f : Option Entry). length (with_fault entries f)) is) ∙ as_long in
          (sym closes.begins.1 ∙ ap (λ (l : List Entry). first ++ l) (nil_from_length added (omega (arith, size, both))) ∙ append-nil first, refl)
      by (Some e) is =
          let size : length (entries ++ e ∷ []) ≡ length first = sym (ap (λ (f : Option Entry). length (with_fault entries f)) is) ∙ as_long in
          let more = length-append entries (e ∷ []) in
          absurd (omega (arith, size, both, more))

pub law : LawOfWorkers
law w first entries fault v ps once many closes joined each = record {
  begins = closes.begins;
  legal = legal w first entries fault v ps many closes joined each;
  acks = acks w first entries fault v ps many closes joined each once;
  done = done w first entries fault v ps many closes joined each once;
  sound = sound w first entries fault v ps many closes joined each;
  refused = λ whole. refused w first entries fault v ps many closes joined each whole once;
  fine = fine w first entries fault v ps many closes joined each;
  refusal = refusal w first entries fault v ps many closes joined each;
  repeats = repeats w first entries fault v ps many closes joined each;
}
