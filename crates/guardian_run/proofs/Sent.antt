-- What the hosts send, and what follows once the workers are done.
use Rattle.std.specs.Prelude.{◌≡◌, ℕ, zero, suc, ◌+◌, ◌<◌, ◌≤◌, List, [], ◌∷◌, ◌++◌, length, map, replicate, All, Option, Some, slice_index_or, slice_get}
use Rattle.std.specs.List.{range_with_len, enumerate_from, flat_map, AllByRecursion}
use Rattle.std.proofs.Common.{refl, sym, ap, subst, ◌∙◌, arith, length-append}
use Rattle.std.proofs.lemmas.List.{length-map, get_or-map, map-append, get_or_default}
use Rattle.std.proofs.lemmas.List.FromFn.{length-range_with_len, get_or-range_with_len, length-enumerate_from}
use Rattle.lg_model.specs.declared.scenario.HostLine.{HostLine}
use Rattle.lg_model.specs.declared.scenario.Letter.{Letter}
use Rattle.lg_model.specs.Placing.{Shape}
use Rattle.lg_model.specs.Scenario.{Scenario, packet_count}
use Rattle.lg_model.specs.Carrying.{picked}
use Rattle.lg_model.specs.Arriving.{brought}
use Rattle.scenario_parts.specs.Whole.{IsWhole}
use Rattle.lg_model.proofs.Pairing.{matched_length}
use Rattle.sketchlet_wire.specs.declared.packed.Packed.{Packed}
use Rattle.sketchlet_wire.specs.Packing.{IsPacked}
use Rattle.sketchlet_wire.specs.Uploads.{IsUpload, upload_of}
use Rattle.path_sim.specs.Arrived.{HaveArrived}
use Rattle.host_collect.specs.Cutting.{Piece, cut}
use Rattle.host_collect.proofs.Cutting.{cut_law}
use Rattle.column_book.specs.declared.book.TheConstants.{ROOM}
use Rattle.column_book.specs.declared.entry.Entry.{Entry}
use Rattle.column_book.specs.Entries.{records}
use Rattle.uploader_core.specs.declared.state.SeqState.TheVariants as state
use Rattle.uploader_core.specs.Uploader.{UploaderState}
use Rattle.link_deliveries.specs.Waiting.{is_refused, refusals}
use Rattle.link_deliveries.specs.Deliveries.{deliveries}
use Rattle.lock_rule.specs.declared.view.Doing.TheVariants.{Idle}
use Rattle.lock_rule.specs.Views.{new_pass}
use Rattle.upload_world.specs.Pumps.{Pumps}
use Rattle.book_laws.specs.Keeping.{HasKeysOnce}
use Rattle.book_laws.specs.Legal.{host_at, no_host, uploads_at}
use Rattle.book_laws.specs.Workers.{Worker, IsWork}
use Rattle.book_laws.specs.Laws.{LawOfWorkers}
use Rattle.link_deliveries.proofs.Idle.{count-cons}
use Rattle.guardian_run.proofs.Keeping.{range_more}
use Rattle.host_workers.specs.declared.sender.Sender.{Sender}
use Rattle.host_workers.specs.Working.{HasCallsFor, HaveWorked}
use Rattle.guardian_run.specs.Sending.{sending_at, sending_of, AreSenders, HaveSent}

-- ---- lists

-- an item of a list that has one
pub some_item : {X : Type 0} (xs : List X) (i : ℕ) → i < length xs → X
some_item [] i low = absurd (omega (arith, low))
some_item (x ∷ xs) i low = x

get_low : {X : Type 0} (xs : List X) (i : ℕ) (x : X) → slice_get xs i ≡ Some x → i < length xs
get_low [] i x is = absurd (cc is)
get_low (y ∷ xs) zero x is = omega arith
get_low (y ∷ xs) (suc i) x is = let low = get_low xs i x is in omega (arith, low)

-- ---- what the hosts send

-- a piece has a column, so there are no more pieces than columns
few_pieces : (ps : List Piece) → AllByRecursion IsUpload ps → length ps ≤ length (flat_map (λ (p : Piece). p) ps)
few_pieces [] all = omega arith
few_pieces (p ∷ ps) all =
    let rest = few_pieces ps all.1 in
    let size = length-append p (flat_map (λ (q : Piece). q) ps) in
    let some = all.0.some in
    omega (arith, rest, size, some)

few_uploads : (w : Scenario) (h : ℕ) → length (uploads_at w h) ≤ length (brought w (picked w) h)
few_uploads w h =
    let cs = brought w (picked w) h in
    let law = cut_law cs in
    let few = few_pieces (cut cs) law.uploads in
    let whole = ap length law.whole in
    let made = length-map (enumerate_from 0 (cut cs)) (λ (p : ℕ × Piece). upload_of (host_at w h).name p.0 p.1) in
    let count = length-enumerate_from 0 (cut cs) in
    omega (arith, few, whole, made, count)

-- as many as one host of a run may have
pub few_at : (w : Scenario) (inboxes : List (List Packed)) (h : ℕ) → IsWhole w → HaveArrived w (picked w) inboxes → h < length w.hosts
    → length (uploads_at w h) ≤ 2000000
few_at w inboxes h fits arrived low =
    let inside : h < length inboxes = omega (arith, low, arrived.hosts) in
    let few = few_uploads w h in
    let same = matched_length IsPacked (slice_index_or inboxes h []) (brought w (picked w) h) (arrived.each h inside) in
    let most = arrived.few h inside in
    let packets : packet_count w.steps ≤ 1000000 = fits.scenario.steps.few_packets in
    omega (arith, few, same, most, packets)

pub senders_count : (w : Scenario) (n : ℕ) (ss : List Sender) → AreSenders w n ss → length ss ≡ n
senders_count w n ss are = sym (length-map ss sending_of) ∙ ap length are ∙ length-map (range_with_len 0 n) (sending_at w) ∙ length-range_with_len 0 n

-- the host that the code reads
pub host_read : (w : Scenario) (at : ℕ) (hosts : List HostLine) (host : HostLine) → hosts ≡ w.hosts → at < length hosts → host ≡ slice_index_or hosts at host →
    host_at w at ≡ host
host_read w at hosts host same low is =
    get_or_default w.hosts at no_host host (omega (arith, low, ap length same)) ∙ ap (λ (hs : List HostLine). slice_index_or hs at host) (sym same) ∙ sym is

-- the sender of a host
pub sender_is : (w : Scenario) (n : ℕ) (ss : List Sender) (h : ℕ) (s : Sender) → AreSenders w n ss → h < n → sending_of (slice_index_or ss h s) ≡ sending_at w h
sender_is w n ss h s are low =
    let e = sending_of s in
    let count = senders_count w n ss are in
    let here : h < length ss = omega (arith, low, count) in
    let there : h < length (range_with_len 0 n) = omega (arith, low, length-range_with_len 0 n) in
    let at : 0 + h ≡ h = omega arith in
    sym (get_or-map sending_of ss h s e here) ∙ ap (λ (xs : List (UploaderState × List Letter)). slice_index_or xs h e) are
    ∙ get_or-map (sending_at w) (range_with_len 0 n) h 0 e there ∙ ap (sending_at w) (get_or-range_with_len 0 n h 0 low ∙ at)

-- one sender more
pub senders_more : (w : Scenario) (n : ℕ) (ss : List Sender) (s : Sender) → AreSenders w n ss → sending_of s ≡ sending_at w n
    → AreSenders w (n + 1) (ss ++ s ∷ [])
senders_more w n ss s are is =
    map-append sending_of ss (s ∷ []) ∙ ap (λ (xs : List (UploaderState × List Letter)). xs ++ sending_of s ∷ []) are
    ∙ ap (λ (x : UploaderState × List Letter). map (sending_at w) (range_with_len 0 n) ++ x ∷ []) is
    ∙ sym (map-append (sending_at w) (range_with_len 0 n) (n ∷ [])) ∙ ap (map (sending_at w)) (sym (range_more n))

none_refused : (n : ℕ) → refusals (replicate n state.Idle) ≡ 0
none_refused zero = refl
none_refused (suc n) = let a = count-cons is_refused state.Idle (replicate n state.Idle) in let b = none_refused n in omega arith

-- a new pass has calls enough for each
pub calls : (w : Scenario) (inboxes : List (List Packed)) (ss : List Sender) → IsWhole w → HaveArrived w (picked w) inboxes
    → AreSenders w (length w.hosts) ss → All HasCallsFor ss
calls w inboxes ss fits arrived are = λ h s inside.
    let low : h < length w.hosts = omega (arith, inside, senders_count w (length w.hosts) ss are) in
    let is = sender_is w (length w.hosts) ss h s are low in
    let uploads = ap (λ (p : UploaderState × List Letter). length p.0.uploads) is in
    let letters = ap (λ (p : UploaderState × List Letter). length p.1) is in
    let most = few_at w inboxes h fits arrived low in
    let few_letters : length (host_at w h).letters ≤ 4096 = (fits.scenario.hosts.each h no_host low).few_letters in
    record {
      calls = omega (arith, uploads, letters, most, few_letters);
      none = ap (λ (p : UploaderState × List Letter). refusals p.0.states) is ∙ none_refused (length (uploads_at w h));
    }

-- ---- the workers

module _ (w : Scenario) (law : LawOfWorkers) (shape : Shape) (room : ℕ) (first entries : List Entry) (fault : Option Entry) (before after : List Sender)
    (shape_is : shape ≡ w.shape) (room_is : room ≡ ROOM) (once : HasKeysOnce (records first))
    (are : AreSenders w (length w.hosts) before) (have : HaveWorked shape room first before after entries fault) where
  count : length before ≡ length w.hosts
  count = senders_count w (length w.hosts) before are

  work : (h : ℕ) (d : Worker) → h < length have.workers → IsWork w h first (slice_index_or have.workers h d)
  work h d low =
      let here : h < length before = omega (arith, low, have.many) in
      let s = some_item before h here in
      let p = slice_index_or have.workers h d in
      let is = sender_is w (length w.hosts) before h s are (omega (arith, here, count)) in
      let k = have.each h s d here in
      let Pumped : Shape → ℕ → UploaderState × List Letter → Type 0
      = λ sh r x. Pumps sh r x.0.uploads (deliveries x.0.states x.1) x.1 (new_pass (h + 2) Idle first 0) p.view x.0.states p.states p.result in
      record {
        paired = k.paired ∙ ap (λ (x : UploaderState × List Letter). length x.0.uploads) is;
        pumps = subst (λ x. Pumped w.shape ROOM x) is
            (subst (λ r. Pumped w.shape r (sending_of (slice_index_or before h s))) room_is
            (subst (λ sh. Pumped sh room (sending_of (slice_index_or before h s))) shape_is k.pumps));
      }

  pub sent : HaveSent w first entries fault after
  sent = record {
    many = have.back ∙ count;
    named = λ h s low.
        (have.same h s (omega (arith, low, count))).host
        ∙ ap (λ (x : UploaderState × List Letter). x.0.host) (sender_is w (length w.hosts) before h s are low);
    uploads = λ h s low.
        (have.same h s (omega (arith, low, count))).uploads
        ∙ ap (λ (x : UploaderState × List Letter). x.0.uploads) (sender_is w (length w.hosts) before h s are low);
    workers = have.workers;
    ended = have.ended;
    worked = law w first entries fault have.view have.workers once (have.many ∙ count) have.closes have.joined work;
  }
