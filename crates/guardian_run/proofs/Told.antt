-- What the uploads of a run made of the journal, by what is told.
use Rattle.std.specs.Prelude.{◌≡◌, ◌⊎◌, ℕ, zero, suc, ◌<◌, ◌≤◌, false, List, [], ◌∷◌, ◌++◌, length, map, take, All, Any, Option, None, Some, Bool, is_some, Result, Ok, Err, IsOk, IfOk, IfErr, slice_index_or, slice_get}
use Rattle.std.specs.List.{flat_map}
use Rattle.std.proofs.Common.{refl, sym, ap, ◌∙◌, subst, inl, inr, arith, true≢false}
use Rattle.std.proofs.lemmas.List.{append-nil, length-map, length-take-le, get_or-map, get_or-take, map-append}
use mathlib.Core.List.{IsPrefix}
use Rattle.lg_model.specs.Scenario.{Scenario}
use Rattle.column_book.specs.declared.entry.Entry.{Entry}
use Rattle.column_book.specs.declared.fault.BookFault.{BookFault}
use Rattle.column_book.specs.declared.fault.BookFault.TheVariants as book
use Rattle.column_book.specs.Entries.{records}
use Rattle.scenario_parts.specs.Whole.{IsWhole}
use Rattle.uploader_core.specs.declared.state.SeqState.{SeqState}
use Rattle.book_journal.specs.declared.applied.ApplyFault.{ApplyFault}
use Rattle.book_journal.specs.declared.applied.ApplyFault.TheVariants as faults
use Rattle.book_journal.specs.Applied.{fault_of}
use Rattle.book_journal.specs.Runs.{JournalState, IsRun, start_of, with_fault}
use Rattle.link_deliveries.specs.Deliveries.{delivered}
use Rattle.upload_world.specs.declared.fault.WorkFault.{WorkFault}
use Rattle.upload_world.specs.declared.fault.WorkFault.TheVariants.{Refused}
use Rattle.upload_world.specs.Pumps.{acked_at}
use Rattle.book_laws.specs.Keeping.{AreAcked, IsFirstRefusal}
use Rattle.book_laws.specs.Workers.{Worker, AllDone, IsExplained}
use Rattle.shared_book.specs.Going.{GoesOn}
use Rattle.host_workers.specs.declared.sender.Sender.{Sender}
use Rattle.host_workers.specs.Working.{outcome_of}
use Rattle.report_text.specs.Faults.{no_memory_line, conflict_line, full_line, disk_fault_line}
use Rattle.guardian_run.specs.declared.status.Status.{Status}
use Rattle.guardian_run.specs.declared.status.Status.TheVariants as status
use Rattle.guardian_run.specs.declared.telling.Told.{Told}
use Rattle.guardian_run.specs.declared.telling.Told.TheVariants as told
use Rattle.guardian_run.specs.Sending.{acks_by, lines_of, IsFine, HasMet, IsFirstMet, CanBeMet, AllCanBeMet, HaveSent}
use Rattle.guardian_run.specs.Running.{acked_lines, RunSays}
use Rattle.lg_base.specs.declared.faults.Memory.{Memory}
use Rattle.guardian_run.specs.Telling.{status_told, text_told, CanBeTold, TellsStop, Concludes, HasRun}
use Rattle.guardian_run.proofs.Sent.{some_item}
use Rattle.guardian_run.proofs.AckedLines.{lines_are}

-- a journal that is whole has no entry beyond its own
no_more : (es : List Entry) (fault : Option Entry) → fault ≡ None → records es ≡ records (with_fault es fault)
no_more es fault whole = ap (λ (o : Option Entry). records (with_fault es o)) (sym whole)

records_begin : (xs ys : List Entry) → IsPrefix xs ys → IsPrefix (records xs) (records ys)
records_begin xs ys p = (records p.0, sym (map-append (λ (e : Entry). e.stored) xs p.0) ∙ ap records p.1)

first_of : {X Y Z : Type 0} → (f : X → Y × Z) (xs : List X) → map (λ (p : Y × Z). p.0) (map f xs) ≡ map (λ (x : X). (f x).0) xs
first_of f [] = refl
first_of {X} {Y} f (x ∷ xs) = ap (λ (ys : List Y). (f x).0 ∷ ys) (first_of f xs)

any_first : (f : WorkFault) (ss : List Sender) → IsFirstMet f ss → Any (HasMet f) ss
any_first f ss m = (m.at, m.sender, m.inside, m.here, m.met)

module _ {D : Type 0} (w : Scenario) (old new : JournalState D) (ss : List Sender) (shape : new.shape ≡ old.shape)
    (sent : HaveSent w old.entries new.entries new.fault ss) (rose : Type 0) (cause : (e : Entry) → new.fault ≡ Some e → rose) where
  abbrev told_by : Worker → List SeqState × Result (Unit {0}) WorkFault
  told_by p = (p.states, p.result)

  states_are : map (λ (p : Worker). p.states) sent.workers ≡ map (λ (s : Sender). s.uploader.states) ss
  states_are = sym (first_of told_by sent.workers) ∙ ap (map (λ (p : List SeqState × Result (Unit {0}) WorkFault). p.0)) sent.ended ∙ first_of outcome_of ss

  as_many : length sent.workers ≡ length ss
  as_many = sym (length-map sent.workers told_by) ∙ ap length sent.ended ∙ length-map ss outcome_of

  acks : AreAcked w (records old.entries) (records new.entries) (acks_by ss)
  acks = subst (λ (l : List (List SeqState)). AreAcked w (records old.entries) (records new.entries) (λ h q. acked_at (slice_index_or l h []) q)) states_are
      sent.worked.acks

  result_is : (h : ℕ) (d : Worker) (s : Sender) → h < length ss → (slice_index_or sent.workers h d).result ≡ (slice_index_or ss h s).result
  result_is h d s low =
      let e = outcome_of s in
      ap (λ (p : List SeqState × Result (Unit {0}) WorkFault). p.1)
      (sym (get_or-map told_by sent.workers h d e (omega (arith, low, as_many)))
      ∙ ap (λ (l : List (List SeqState × Result (Unit {0}) WorkFault)). slice_index_or l h e) sent.ended ∙ get_or-map outcome_of ss h s e low)

  ended_well : (h : ℕ) (d : Worker) (s : Sender) → h < length ss → IsFine (slice_index_or ss h s) → IsOk (slice_index_or sent.workers h d).result
  ended_well h d s low fine = is_ok (slice_index_or sent.workers h d).result (result_is h d s low ∙ fine)
    where
      is_ok : (r : Result (Unit {0}) WorkFault) → r ≡ Ok tt → IsOk r
      is_ok (Ok x) is = refl
      is_ok (Err f) is = absurd (cc is)

  all_done : All IsFine ss → AllDone sent.workers
  all_done fine = λ h d low.
      let here : h < length ss = omega (arith, low, as_many) in
      let s = some_item ss h here in
      ended_well h d s here (fine h s here)

  -- the first fault that a sender met is the one of which the first refusal is told
  first_refusal : (q : ℕ) (why : BookFault) → IsFirstMet (Refused q (fault_of why)) ss → IsFirstRefusal delivered w (records old.entries) (acks_by ss) why
  first_refusal q why first =
      let inside = first.inside in
      let here : first.at < length sent.workers = omega (arith, inside, as_many) in
      let hosts = sent.many in
      let d = some_item sent.workers first.at here in record {
        host = first.at;
        number = q;
        declared = omega (arith, inside, hosts);
        earlier = λ h n low there.
            let within : h < length ss = omega (arith, low, inside) in
            let counted : h < length (take first.at ss) = let size = length-take-le first.at ss (omega (arith, inside)) in omega (arith, low, size) in
            let fine : IsFine (slice_index_or ss h first.sender) =
            subst IsFine (get_or-take first.at ss h first.sender low) (first.before h first.sender counted) in
            ap (λ (l : List (List SeqState)). acked_at (slice_index_or l h []) n) (sym states_are)
            ∙ sent.worked.fine h n d (omega (arith, within, as_many)) (ended_well h d first.sender within fine) there;
        refused = sent.worked.refusal first.at q d why here
            (result_is first.at d first.sender inside ∙ ap (λ (s : Sender). s.result) first.here ∙ first.met);
      }

  explained : IsWhole w → (q : ℕ) (fault : ApplyFault) → Any (HasMet (Refused q fault)) ss → IsExplained w (records old.entries) new.fault fault
  explained fits q fault any =
      let low = any.2 in
      let here : any.0 < length sent.workers = omega (arith, low, as_many) in
      let d = some_item sent.workers any.0 here in
      sent.worked.refused fits any.0 d q fault here
      (result_is any.0 d any.1 low ∙ ap (λ (s : Sender). s.result) any.3 ∙ any.4)

  pub met : IsWhole w → AllCanBeMet new.fault ss
  met fits q fault any = by fault (explained fits q fault any)
    where
      by : (f : ApplyFault) → IsExplained w (records old.entries) new.fault f → CanBeMet new.fault f
      by (faults.Conflict key kept came) is = tt
      by (faults.Full held more) is = tt
      by faults.DiskFault is = is
      by (faults.Broken n) is = is
      by (faults.WrongShape kept came) is = is
      by faults.Memory is = is

  -- whatever is told
  ended : (s : Status) (text : List ℕ) → RunSays w (records old.entries) (records new.entries) (records (with_fault new.entries new.fault))
      (acks_by ss) rose s text →
      HasRun rose w old new s text
  ended s text says = record {
    acked = acks_by ss;
    shape = shape;
    legal = sent.worked.legal;
    begins = records_begin old.entries new.entries sent.worked.begins;
    acks = acks;
    says = says;
    repeats = λ found at. let r = sent.worked.repeats found in (r.1, r.0);
  }

  whole_or_rose : (o : Option Entry) → new.fault ≡ o → (records new.entries ≡ records (with_fault new.entries new.fault)) ⊎ rose
  whole_or_rose None is = inl (no_more new.entries new.fault is)
  whole_or_rose (Some e) is = inr (cause e is)

  pub starved : HasRun rose w old new status.NoMemory no_memory_line
  starved = ended status.NoMemory no_memory_line (whole_or_rose new.fault refl, refl)

  lines : (line : List ℕ) → flat_map lines_of ss ++ line ≡ acked_lines w (acks_by ss) ++ line
  lines line = ap (λ (xs : List ℕ). xs ++ line) (lines_are w old.entries new.entries new.fault ss sent)

  pub concluded : IsWhole w → (t : Told) → Concludes w new ss t → HasRun rose w old new (status_told t) (text_told t)
  concluded fits (told.Report text) is =
      ended status.Ok text.items (no_more new.entries new.fault is.0, (sent.worked.done (all_done is.1)).1, is.2)
  concluded fits (told.Conflict text) is =
      let c = is.1 in
      ended status.Conflict text.items (
        no_more new.entries new.fault is.0,
        record {
          key = c.1;
          kept = c.2;
          came = c.3;
          clash = explained fits c.0 (faults.Conflict c.1 c.2 c.3) (any_first (Refused c.0 (faults.Conflict c.1 c.2 c.3)) ss c.4);
          first = first_refusal c.0 (book.Conflict c.1 c.2 c.3) c.4;
          is = c.5 ∙ lines (conflict_line c.1 c.2 c.3);
        },
      )
  concluded fits (told.Full text) is =
      let c = is.1 in
      let why = explained fits c.0 (faults.Full c.1 c.2) (any_first (Refused c.0 (faults.Full c.1 c.2)) ss c.3) in
      ended status.Full text.items (
        no_more new.entries new.fault is.0,
        record {
          held = c.1;
          more = c.2;
          overfull = why.0;
          no_room = why.1;
          first = first_refusal c.0 (book.Full c.1 c.2) c.3;
          is = c.4 ∙ lines (full_line c.1 c.2);
        },
      )
  concluded fits (told.DiskFault text) is = ended status.DiskFault text.items (cause is.0.0 is.0.1, is.1 ∙ lines disk_fault_line)

-- ---- what is told of a fault

can_be_told : (o : Option Entry) (f : ApplyFault) → o ≡ None → CanBeMet o f → CanBeTold f
can_be_told o (faults.Conflict key kept came) none is = tt
can_be_told o (faults.Full held more) none is = tt
can_be_told o faults.DiskFault none is = tt
can_be_told o (faults.Broken n) none is = absurd (cc (sym none ∙ is.1))
can_be_told o (faults.WrongShape kept came) none is = absurd is
can_be_told o faults.Memory none is = tt

pub told_fault : {D : Type 0} → (j : JournalState D) (ss : List Sender) (q : ℕ) (f : ApplyFault) → j.fault ≡ None → AllCanBeMet j.fault ss →
    IsFirstMet (Refused q f) ss → CanBeTold f
told_fault j ss q f none all first = can_be_told j.fault f none (all q f (any_first (Refused q f) ss first))

pub told_stop : {D : Type 0} → (w : Scenario) (j : JournalState D) (ss : List Sender) (q : ℕ) (f : ApplyFault) (r : Result Told Memory) → j.fault ≡ None →
    AllCanBeMet j.fault ss → IsFirstMet (Refused q f) ss → IfOk r (TellsStop (flat_map lines_of ss) f) → IfOk r (Concludes w j ss)
told_stop w j ss q f (Err e) none all first tells = tt
told_stop w j ss q f (Ok t) none all first tells = by f first (all q f (any_first (Refused q f) ss first)) t tells
  where
    by : (g : ApplyFault) → IsFirstMet (Refused q g) ss → CanBeMet j.fault g → (t : Told) → TellsStop (flat_map lines_of ss) g t → Concludes w j ss t
    by (faults.Conflict key kept came) has can (told.Conflict text) is = (none, (q, key, kept, came, has, is.1))
    by (faults.Conflict key kept came) has can (told.Report text) is = absurd (cc is.0)
    by (faults.Conflict key kept came) has can (told.Full text) is = absurd (cc is.0)
    by (faults.Conflict key kept came) has can (told.DiskFault text) is = absurd (cc is.0)
    by (faults.Full held more) has can (told.Full text) is = (none, (q, held, more, has, is.1))
    by (faults.Full held more) has can (told.Report text) is = absurd (cc is.0)
    by (faults.Full held more) has can (told.Conflict text) is = absurd (cc is.0)
    by (faults.Full held more) has can (told.DiskFault text) is = absurd (cc is.0)
    by faults.DiskFault has can t is = absurd (cc (sym none ∙ can.1))
    by (faults.Broken n) has can t is = absurd is
    by (faults.WrongShape kept came) has can t is = absurd is
    by faults.Memory has can t is = absurd is

-- ---- what a call hands on

pub ok_so : {T F : Type 0} → (r : Result T F) (P Q : T → Type 0) → ((x : T) → P x → Q x) → IfOk r P → IfOk r Q
ok_so (Ok x) P Q move holds = move x holds
ok_so (Err f) P Q move holds = tt

pub err_any : {T F : Type 0} → (r : Result T F) (P : Type 0) → P → IfErr r (λ _. P)
err_any (Ok x) P holds = tt
err_any (Err f) P holds = holds

pub none_of : {X : Type 0} → (o : Option X) (b : Bool) → b ≡ is_some o → b ≡ false → o ≡ None
none_of None b is no_ = refl
none_of (Some x) b is no_ = absurd (true≢false (sym is ∙ no_))

-- ---- memory ran out before the first upload

past_end : {X : Type 0} → (xs : List X) (i : ℕ) (x : X) → length xs ≤ i → slice_get xs i ≡ Some x → ⊥
past_end [] i x far is = absurd (cc is)
past_end (y ∷ xs) zero x far is = absurd (omega (arith, far))
past_end (y ∷ xs) (suc i) x far is = past_end xs i x (omega (arith, far)) is

pub unbegun : {D : Type 0} → (w : Scenario) (j : JournalState D) (rose : Type 0) → j.fault ≡ None → HasRun rose w j j status.NoMemory no_memory_line
unbegun w j rose whole = record {
  acked = λ h q. false;
  shape = refl;
  legal = record {
    more = [];
    begins = sym (no_more j.entries j.fault whole) ∙ sym (append-nil (records j.entries));
    each = tt;
  };
  begins = ([], append-nil (records j.entries));
  acks = record {
    held = λ h q declared low is. absurd (cc is);
    answered = λ i r far there. absurd (past_end (records j.entries) i r far there);
  };
  says = (inl (no_more j.entries j.fault whole), refl);
  repeats = λ found at. absurd (cc at);
}

pub goes_nowhere : {D : Type 0} → (honest : D → Type 0) (seen : D → List ℕ) (images : D → List ℕ → Type 0) (moment : D → ℕ) (since : D → ℕ → List ℕ → Type 0)
    (faults_of : D → ℕ) (j : JournalState D) → j.fault ≡ None → (honest j.disk → IsRun honest seen images moment since (start_of seen moment j) j) →
    GoesOn honest seen images moment since faults_of j j
goes_nowhere honest seen images moment since faults_of j whole runs = record {
  shape = refl;
  room = refl;
  still = λ h. h;
  was = λ h. h;
  later = omega arith;
  rose = λ e is. absurd (cc (sym whole ∙ is));
  runs = runs;
}
