-- How a run ends, by what opening the book and the uploads came to.
use Rattle.std.specs.Prelude.{◌≡◌, ◌⊎◌, ℕ, ◌≤◌, List, length, Some, Contains, IfSome, IfOk, IfErr, Result, Ok, Err}
use Rattle.std.proofs.Common.{refl, sym, ap, ◌∙◌, subst, arith, inl, inr}
use Rattle.std.proofs.lemmas.List.Elements.{All-contains}
use Rattle.lg_base.specs.Causes.{Rose}
use Rattle.lg_base.specs.declared.faults.Memory.{Memory}
use Rattle.lg_model.specs.declared.column.Key.{Key}
use Rattle.lg_model.specs.Scenario.{Scenario}
use Rattle.lg_model.specs.Carrying.{picked}
use Rattle.lg_model.specs.Arriving.{brought_to_all}
use Rattle.lg_model.specs.Columns.{Cells, Column}
use Rattle.lg_model.specs.Answer.{found}
use Rattle.lg_model.specs.Joining.{AreJoinable, IsFrozen, join}
use Rattle.sketchlet_wire.specs.Uploads.{UploadData}
use Rattle.scenario_parts.specs.Whole.{IsWhole}
use Rattle.scenario_text.specs.Text.{Fault, reading, IsTaken, Answers, Took}
use Rattle.scenario_text.specs.declared.fault.ScenarioFault.{ScenarioFault}
use Rattle.scenario_text.specs.declared.fault.ScenarioFault.TheVariants as text
use Rattle.column_book.specs.declared.book.TheConstants.{ROOM}
use Rattle.column_book.specs.Entries.{records, content_in}
use Rattle.book_file.specs.declared.found.OpenFault.{OpenFault}
use Rattle.book_file.specs.declared.found.OpenFault.TheVariants as file
use Rattle.book_file.specs.File.{IsBlank, StandsFor}
use Rattle.book_file.specs.Found.{count_of}
use Rattle.book_journal.specs.Crashes.{OnlyReads}
use Rattle.book_journal.specs.Looking.{Reads}
use Rattle.book_journal.specs.Opening.{OpenLeaves, IsRefused}
use Rattle.book_journal.specs.Runs.{JournalState, IsRun, start_of, with_fault}
use Rattle.run_laws.specs.Truth.{IsFrozenColumn, book_of}
use Rattle.run_laws.proofs.Agreeing.{cells_at}
use Rattle.run_laws.proofs.TrueRuns.{true_run}
use Rattle.link_deliveries.specs.Deliveries.{delivered}
use Rattle.book_laws.proofs.Leaving.{law as files_left}
use Rattle.book_laws.specs.Keeping.{Acks, IsClash}
use Rattle.book_laws.specs.Laws.{LawOfStanding, LawOfTrueLists}
use Rattle.book_laws.proofs.Contents.{of_if, some_found}
use Rattle.report_text.specs.Faults.{read_fault_line, disk_fault_line, no_memory_line, scenario_line}
use Rattle.guardian_run.specs.declared.refusal.Refusal.{Refusal}
use Rattle.guardian_run.specs.declared.refusal.Refusal.TheVariants as refusals
use Rattle.guardian_run.specs.declared.status.Status.{Status}
use Rattle.guardian_run.specs.declared.status.Status.TheVariants as status
use Rattle.guardian_run.specs.declared.telling.Told.{Told}
use Rattle.guardian_run.specs.declared.telling.Told.TheVariants as told
use Rattle.guardian_run.specs.Changes.{Change, HasFailed}
use Rattle.guardian_run.specs.Refusals.{status_of, fault_line, refusal_of, file_refusal}
use Rattle.guardian_run.specs.Outcomes.{HasFault}
use Rattle.guardian_run.specs.Ends.{Puts}
use Rattle.guardian_run.specs.Ending.{EndsWith, EndsWithLine, EndsRefused}
use Rattle.shared_book.specs.Going.{GoesOn}
use Rattle.guardian_run.specs.Running.{RunSays, StartSays, ReadSays, IsStart, HasUploaded, CanRun, RunsFrom, RunEnds}
use Rattle.guardian_run.specs.Telling.{status_told, text_told, EndsTold, HasRun}
use Rattle.guardian_run.proofs.EndLemmas.{said_by, said_is}
use Rattle.guardian_run.proofs.OneOutcome.{no_fault}
use Rattle.guardian_run.proofs.Left as leaving

-- ---- a clash is with what was found

rose_later : (a b c : ℕ) → a ≤ b → Rose b c → Rose a c
rose_later a b c low rose = omega (arith, low, rose)

module _ (w : Scenario) (whole : IsWhole w) where
  -- under the key of a brought column its own counters are found
  own_cells : (c : Column) → Contains (brought_to_all w (picked w)) c → found (book_of w) c.key ≡ Some c.cells
  own_cells c has =
      let t = true_run w whole in
      let some = some_found (brought_to_all w (picked w)) c has in
      let mine : IsFrozen w c.key c.cells = (All-contains (IsFrozenColumn w) (brought_to_all w (picked w)) c t.frozen has).is in
      let there : IsFrozen w c.key some.0 = of_if (found (book_of w) c.key) (IsFrozen w c.key) some.0 (t.agrees c.key) some.1 in
      let same : c.cells ≡ some.0 = cells_at w c.key c.cells there.switch_at whole.scenario.switches.own mine there.switch ∙ sym there.same in
      some.1 ∙ ap (λ (v : Cells). Some v) (sym same)

  no_clash : (before : List UploadData) (key : Key) (kept came : Column) → AreJoinable (content_in before) (book_of w) → IsClash w before key kept came → ⊥
  no_clash before key kept came fits clash =
      let there : found (book_of w) key ≡ Some came.cells = ap (found (book_of w)) (sym clash.under) ∙ own_cells came clash.brought in
      let both = of_if (found (content_in before) key) (λ v. IfSome (found (book_of w) key) (λ u. u ≡ v)) kept.cells (fits key) clash.has in
      clash.other (sym (of_if (found (book_of w) key) (λ u. u ≡ kept.cells) came.cells both there))

-- ---- the book was not opened

not_write : (s at : Status) → s ≡ at → (at ≡ status.WriteFault → ⊥) → (sink : Change) → s ≡ status.WriteFault → HasFailed sink
not_write s at is far sink e = absurd (far (sym is ∙ e))

-- the file's fault, the disk's, or want of memory, and what was written of it
record IsTold (w : Scenario) (file_is : List ℕ) (rose : Type 0) (sink : Change) (s : Status) : Type 0 where
  text : List ℕ
  says : StartSays w file_is rose s text
  puts : Puts s sink text
  write : s ≡ status.WriteFault → HasFailed sink

-- a refusal that is the file's
told_file : (w : Scenario) (file_is : List ℕ) (rose : Type 0) (sink : Change) (s : Status) (r : Refusal) → HasFault (Some w.shape) file_is r →
    (status_of r ≡ status.WriteFault → ⊥) → EndsRefused r sink s → IsTold w file_is rose sink s
told_file w file_is rose sink s r has far (inl e) = record {
  text = fault_line r;
  says = inl (r, has, e.0, refl);
  puts = e.1;
  write = not_write s (status_of r) e.0 far sink;
}
told_file w file_is rose sink s r has far (inr e) = record {
  text = no_memory_line;
  says = inr (inr (e.1.0, refl));
  puts = e.1.1;
  write = not_write s status.NoMemory e.1.0 (λ h. cc) sink;
}

told_start : (w : Scenario) (file_is : List ℕ) (rose : Type 0) (sink : Change) (s : Status) (f : OpenFault) → IsRefused w.shape ROOM file_is f →
    (f ≡ file.DiskFault → rose) → EndsRefused (file_refusal f) sink s → IsTold w file_is rose sink s
told_start w file_is rose sink s file.NotAJournal has cause end = told_file w file_is rose sink s refusals.NotAJournal has (λ h. cc) end
told_start w file_is rose sink s (file.WrongShape kept asked) has cause end =
    told_file w file_is rose sink s (refusals.WrongShape kept asked) has (λ h. cc) end
told_start w file_is rose sink s (file.Damaged at) has cause end = told_file w file_is rose sink s (refusals.Damaged at) has (λ h. cc) end
told_start w file_is rose sink s (file.Full held more) has cause end = told_file w file_is rose sink s (refusals.Full held more) has (λ h. cc) end
told_start w file_is rose sink s file.DiskFault has cause (inl e) = record {
  text = disk_fault_line;
  says = inr (inl (e.0, cause refl, refl));
  puts = e.1;
  write = not_write s status.DiskFault e.0 (λ h. cc) sink;
}
told_start w file_is rose sink s file.DiskFault has cause (inr e) = absurd e.0
told_start w file_is rose sink s file.Memory has cause (inl e) = record {
  text = no_memory_line;
  says = inr (inr (e.0, refl));
  puts = e.1;
  write = not_write s status.NoMemory e.0 (λ h. cc) sink;
}
told_start w file_is rose sink s file.Memory has cause (inr e) = absurd e.0

module _ {D : Type 0} (honest : D → Type 0) (seen : D → List ℕ) (images : D → List ℕ → Type 0) (moment : D → ℕ) (since : D → ℕ → List ℕ → Type 0)
    (faults_of : D → ℕ) where
  pub start_ends : (w : Scenario) (sink : Change) (s : Status) (f : OpenFault) (old new : D) →
      Reads (honest old) (seen old) (λ file_is. IsRefused w.shape ROOM file_is f) → EndsRefused (file_refusal f) sink s →
      (f ≡ file.DiskFault → Rose (faults_of old) (faults_of new)) → (honest old → OpenLeaves honest seen images moment since w.shape old new) →
      (honest old → (IsBlank (seen old) → ⊥) → OnlyReads honest seen images moment since old new) → (honest new → honest old) → faults_of old ≤ faults_of new →
      RunsFrom honest seen images moment since faults_of w sink old new s
  start_ends w sink s f old new refused end cause leaves reads was calm =
      let t = told_start w refused.file (Rose (faults_of old) (faults_of new)) sink s f refused.told cause end in
      record {
        text = t.text;
        is = inl (record { file = refused.file; held = refused.held; says = t.says; leaves = leaves; reads = reads });
        puts = t.puts;
        write = t.write;
        still = λ h. (leaves h).still;
        was = was;
        never_falls = calm;
      }

  -- ---- uploads were made

  -- the disk failed at some later time too
  says_later : (w : Scenario) (before kept full : List UploadData) (acked : Acks) (P Q : Type 0) → (P → Q) → (s : Status) (line : List ℕ) →
      RunSays w before kept full acked P s line → RunSays w before kept full acked Q s line
  says_later w before kept full acked P Q move status.Ok line is = is
  says_later w before kept full acked P Q move status.WriteFault line is = is
  says_later w before kept full acked P Q move status.Conflict line is = is
  says_later w before kept full acked P Q move status.Full line is = is
  says_later w before kept full acked P Q move status.DiskFault line is = (move is.0, is.1)
  says_later w before kept full acked P Q move status.NoMemory line (inl same, is) = (inl same, is)
  says_later w before kept full acked P Q move status.NoMemory line (inr rose, is) = (inr (move rose), is)
  says_later w before kept full acked P Q move status.BadWords line is = is
  says_later w before kept full acked P Q move status.BadScenario line is = is
  says_later w before kept full acked P Q move status.ReadFault line is = is
  says_later w before kept full acked P Q move status.NotAJournal line is = is
  says_later w before kept full acked P Q move status.WrongShape line is = is
  says_later w before kept full acked P Q move status.Damaged line is = is
  says_later w before kept full acked P Q move status.Missing line is = is

  module _ (reads_image : (d : D) → honest d → images d (seen d)) (w : Scenario) (whole : IsWhole w) (true_law : LawOfTrueLists) (standing : LawOfStanding)
      (sink : Change) (start : D) (j0 j1 : JournalState D) (shape : j0.shape ≡ w.shape)
      (stands : honest start → StandsFor w.shape (records j0.entries) (seen start)) (few : count_of (records j0.entries) ≤ ROOM)
      (leaves : honest start → OpenLeaves honest seen images moment since w.shape start j0.disk) (was : honest j0.disk → honest start)
      (calm : faults_of start ≤ faults_of j0.disk)
      (goes : GoesOn honest seen images moment since faults_of j0 j1) where
    abbrev rose : Type 0
    rose = Rose (faults_of start) (faults_of j1.disk)

    abbrev rose_then : Type 0
    rose_then = Rose (faults_of j0.disk) (faults_of j1.disk)

    run_is : honest start → IsRun honest seen images moment since (start_of seen moment j0) j1
    run_is h = goes.runs (leaves h).still

    -- by what was told, at a status of it
    is_run : (s at : Status) (line : List ℕ) (ran : HasRun rose_then w j0 j1 at line) →
        RunSays w (records j0.entries) (records j1.entries) (records (with_fault j1.entries j1.fault)) ran.acked rose_then s line →
        (s ≡ status.Ok → at ≡ status.Ok) →
        HasUploaded honest seen images moment since rose w s line start j1.disk
    is_run s at line ran says ok = record {
      before = records j0.entries;
      kept = records j1.entries;
      full = records (with_fault j1.entries j1.fault);
      acked = ran.acked;
      stood = stands;
      few = few;
      left = λ h. leaving.left honest seen images moment since w standing start j0 j1 (ran.shape ∙ shape) (stands h) (leaves h) (run_is h) ran.legal;
      files = λ h. files_left (images start) (images j1.disk) (since j1.disk (moment start)) delivered w (records j0.entries) (records j1.entries)
          (records (with_fault j1.entries j1.fault))
          (leaving.left honest seen images moment since w standing start j0 j1 (ran.shape ∙ shape) (stands h) (leaves h) (run_is h) ran.legal);
      read = λ h. leaving.read honest seen images moment since w standing start j0 j1 (ran.shape ∙ shape) (stands h) (leaves h) (run_is h) reads_image;
      repeats = λ h written all is.
          let r = ran.repeats all (ok is) in
          leaving.repeats honest seen images moment since w standing start j0 j1 (ran.shape ∙ shape) (stands h) (leaves h) (run_is h) written r.0 r.1;
      acks = ran.acks;
      says = says_later w (records j0.entries) (records j1.entries) (records (with_fault j1.entries j1.fault)) ran.acked rose_then rose
          (rose_later (faults_of start) (faults_of j0.disk) (faults_of j1.disk) calm) s line says;
      truth = true_law delivered w (records j0.entries) whole;
    }

    -- with the records that the journal has
    pub is_run_kept : (s at : Status) (line : List ℕ) (ran : HasRun rose_then w j0 j1 at line) →
        RunSays w (records j0.entries) (records j1.entries) (records (with_fault j1.entries j1.fault)) ran.acked rose_then s line →
        (s ≡ status.Ok → at ≡ status.Ok) →
        (u : HasUploaded honest seen images moment since rose w s line start j1.disk) × (u.kept ≡ records j1.entries)
    unfolding is_run
    is_run_kept s at line ran says ok = (is_run s at line ran says ok, refl)

    run_end : (s : Status) (line : List ℕ) → HasUploaded honest seen images moment since rose w s line start j1.disk → Puts s sink line →
        (s ≡ status.WriteFault → HasFailed sink) → RunsFrom honest seen images moment since faults_of w sink start j1.disk s
    run_end s line is puts write = record {
      text = line;
      is = inr is;
      puts = puts;
      write = write;
      still = λ h. goes.still (leaves h).still;
      was = λ h. was (goes.was h);
      never_falls = omega (arith, calm, goes.later);
    }

    -- at the status that is told
    plain_end : (s at : Status) (line : List ℕ) → HasRun rose_then w j0 j1 at line → (at ≡ status.WriteFault → ⊥) → EndsWithLine at line sink s →
        RunsFrom honest seen images moment since faults_of w sink start j1.disk s
    plain_end s at line ran far end =
        run_end s line
        (is_run s at line ran
        (subst (λ x. RunSays w (records j0.entries) (records j1.entries) (records (with_fault j1.entries j1.fault)) ran.acked rose_then x line)
        (sym end.0) ran.says) (λ e. sym end.0 ∙ e)) end.1 (not_write s at end.0 far sink)

    report_end : (s : Status) (line : List ℕ) → HasRun rose_then w j0 j1 status.Ok line → EndsWith line sink s →
        RunsFrom honest seen images moment since faults_of w sink start j1.disk s
    report_end s line ran (inl is, puts) = plain_end s status.Ok line ran (λ e. cc) (is, puts)
    report_end s line ran (inr is, puts) =
        let wrote = subst (λ x. Puts x sink line) is puts in
        run_end s line
        (is_run s status.Ok line ran
        (subst (λ x. RunSays w (records j0.entries) (records j1.entries) (records (with_fault j1.entries j1.fault)) ran.acked rose_then x line)
        (sym is) ran.says) (λ e. refl)) puts (λ _. wrote.written.1)

    told_end : (s : Status) (t : Told) → HasRun rose_then w j0 j1 (status_told t) (text_told t) → EndsTold t sink s →
        RunsFrom honest seen images moment since faults_of w sink start j1.disk s
    told_end s (told.Report line) ran end = report_end s line.items ran end
    told_end s (told.Conflict line) ran end = plain_end s status.Conflict line.items ran (λ e. cc) end
    told_end s (told.Full line) ran end = plain_end s status.Full line.items ran (λ e. cc) end
    told_end s (told.DiskFault line) ran end = plain_end s status.DiskFault line.items ran (λ e. cc) end

    pub run_ends : (s : Status) (r : Result Told Memory) → IfOk r (λ t. HasRun rose_then w j0 j1 (status_told t) (text_told t)) →
        IfErr r (λ _. HasRun rose_then w j0 j1 status.NoMemory no_memory_line) → IfOk r (λ t. EndsTold t sink s) →
        IfErr r (λ _. EndsWithLine status.NoMemory no_memory_line sink s) → RunsFrom honest seen images moment since faults_of w sink start j1.disk s
    run_ends s (Ok t) ran _ end _ = told_end s t ran end
    run_ends s (Err f) _ ran _ end = plain_end s status.NoMemory no_memory_line ran (λ e. cc) end

  -- ---- the whole command

  -- nothing of the outside failed, and the book takes what is brought
  pub completes_by : (w : Scenario) (whole : IsWhole w) (standing : LawOfStanding) (sink : Change) (old new : D) (s : Status) (line : List ℕ) →
      IsStart honest seen images moment since (Rose (faults_of old) (faults_of new)) w s line old new
      ⊎ HasUploaded honest seen images moment since (Rose (faults_of old) (faults_of new)) w s line old new →
      (s ≡ status.WriteFault → HasFailed sink) → honest old → CanRun w (seen old) →
      (Rose (faults_of old) (faults_of new) → ⊥) → (HasFailed sink → ⊥) → (s ≡ status.Ok) ⊎ (s ≡ status.NoMemory)
  completes_by w whole standing sink old new s line is write h can calm fine = by is
    where
      begun : (x : IsStart honest seen images moment since (Rose (faults_of old) (faults_of new)) w s line old new) →
          StartSays w x.file (Rose (faults_of old) (faults_of new)) s line → (s ≡ status.Ok) ⊎ (s ≡ status.NoMemory)
      begun x (inl fault) =
          absurd (no_fault (Some w.shape) (seen old) w.shape can.rs fault.0 refl (record { stands = can.stands; few = can.few })
          (subst (λ f. HasFault (Some w.shape) f fault.0) (x.held h) fault.1))
      begun x (inr (inl device)) = absurd (calm device.1)
      begun x (inr (inr starved)) = inr starved.0

      ran : (x : HasUploaded honest seen images moment since (Rose (faults_of old) (faults_of new)) w s line old new) → (at : Status) → s ≡ at →
          RunSays w x.before x.kept x.full x.acked (Rose (faults_of old) (faults_of new)) at line → (s ≡ status.Ok) ⊎ (s ≡ status.NoMemory)
      ran x status.Ok is says = inl is
      ran x status.NoMemory is says = inr is
      ran x status.WriteFault is says = absurd (fine (write is))
      ran x status.Conflict is says =
          let same : x.before ≡ can.rs = standing.one w.shape (seen old) x.before can.rs (x.stood h) can.stands in
          let c = says.1 in
          absurd (no_clash w whole x.before c.key c.kept c.came
          (subst (λ (l : List UploadData). AreJoinable (content_in l) (book_of w)) (sym same) can.fits) c.clash)
      ran x status.Full is says =
          let same : x.before ≡ can.rs = standing.one w.shape (seen old) x.before can.rs (x.stood h) can.stands in
          let room = subst (λ (l : List UploadData). length (join (content_in l) (book_of w)) ≤ ROOM) (sym same) can.room in
          absurd (omega (arith, room, says.1.overfull))
      ran x status.DiskFault is says = absurd (calm says.0)
      ran x status.BadWords is says = absurd says
      ran x status.BadScenario is says = absurd says
      ran x status.ReadFault is says = absurd says
      ran x status.NotAJournal is says = absurd says
      ran x status.WrongShape is says = absurd says
      ran x status.Damaged is says = absurd says
      ran x status.Missing is says = absurd says

      by : IsStart honest seen images moment since (Rose (faults_of old) (faults_of new)) w s line old new
          ⊎ HasUploaded honest seen images moment since (Rose (faults_of old) (faults_of new)) w s line old new → (s ≡ status.Ok) ⊎ (s ≡ status.NoMemory)
      by (inl x) = begun x x.says
      by (inr x) = ran x s refl x.says

  completes : (w : Scenario) (whole : IsWhole w) (standing : LawOfStanding) (sink : Change) (old new : D) (s : Status) →
      RunsFrom honest seen images moment since faults_of w sink old new s → honest old → CanRun w (seen old) →
      (Rose (faults_of old) (faults_of new) → ⊥) → (HasFailed sink → ⊥) → (s ≡ status.Ok) ⊎ (s ≡ status.NoMemory)
  completes w whole standing sink old new s ends = completes_by w whole standing sink old new s ends.text ends.is ends.write

  one_scenario : (w v : Scenario) → ◌≡◌ {A = Result Scenario Fault} (Ok w) (Ok v) → w ≡ v
  one_scenario w v same = cc

  pub ends_run : (w : Scenario) (whole : IsWhole w) (standing : LawOfStanding) (source sink : Change) (old new : D) (s : Status) →
      IfSome source.old (λ input. reading input ≡ Ok w) → IfSome source.old (λ input. IsTaken input source.new) → source.faults_old ≤ source.faults_new →
      RunsFrom honest seen images moment since faults_of w sink old new s → RunEnds honest seen images moment since faults_of source sink old new s
  ends_run w whole standing source sink old new s says took same ends = record {
    said = Ok w;
    text = ends.text;
    input = says;
    is = inr (w, refl, whole, ends.is);
    draws = record { unread = λ e. cc; took = λ _. inr took; never_falls = same };
    puts = ends.puts;
    write = ends.write;
    still = ends.still;
    was = ends.was;
    disk_never_falls = ends.never_falls;
    complete = λ v is h can read calm fine.
        let back : v ≡ w = sym (one_scenario w v is) in
        completes w whole standing sink old new s ends h (subst (λ (x : Scenario). CanRun x (seen old)) back can) calm fine;
  }

  -- there was no scenario

  pub no_read : ((d : D) (c : List ℕ) → honest d → since d (moment d) c → images d c) → (d : D) → OnlyReads honest seen images moment since d d
  no_read only_now d = record {
    still = λ h. h;
    was = λ h. h;
    same = λ h. refl;
    leaves = λ h. record { later = omega arith; each = λ c s. only_now d c h s; before = λ t c le s. inl s };
  }

  pub ends_unread : (source sink : Change) (old new : D) (s : Status) (f : ScenarioFault) → new ≡ old →
      IfSome source.old (λ input. Answers (Err f) (reading input)) → IfSome source.old (λ input. Took (Err f) input source.new) →
      (f ≡ text.ReadFault → HasFailed source) → source.faults_old ≤ source.faults_new → EndsRefused (refusal_of f) sink s →
      (OnlyReads honest seen images moment since old new) → RunEnds honest seen images moment since faults_of source sink old new s
  ends_unread source sink old new s f left says took cause calm end reads = by f says took cause end
    where
      still_counts : faults_of old ≤ faults_of new
      still_counts = let same = ap faults_of left in omega (arith, same)

      ended : (said : Result Scenario Fault) (line : List ℕ) → IfSome source.old (λ input. reading input ≡ said) → ReadSays said source s line →
          Puts s sink line →
          (s ≡ status.WriteFault → HasFailed sink) →
          (((s ≡ status.ReadFault) ⊎ (s ≡ status.NoMemory)) ⊎ IfSome source.old (λ input. IsTaken input source.new)) →
          ((w : Scenario) → said ≡ Ok w → (HasFailed source → ⊥) → (s ≡ status.Ok) ⊎ (s ≡ status.NoMemory)) →
          RunEnds honest seen images moment since faults_of source sink old new s
      ended said line input is puts write draws complete = record {
        said = said;
        text = line;
        input = input;
        is = inl (record { says = is; reads = reads });
        draws = record { unread = λ e. cc; took = λ _. draws; never_falls = calm };
        puts = puts;
        write = write;
        still = reads.still;
        was = reads.was;
        disk_never_falls = still_counts;
        complete = λ w same h can fine calm none. complete w same fine;
      }

      starved : s ≡ status.NoMemory → Puts s sink no_memory_line → RunEnds honest seen images moment since faults_of source sink old new s
      starved at puts = ended (said_by source.old) no_memory_line (said_is source.old) (inr (inr (at, refl))) puts
          (not_write s status.NoMemory at (λ e. cc) sink)
          (inl (inr at)) (λ w same fine. inr at)

      by : (f : ScenarioFault) → IfSome source.old (λ input. Answers (Err f) (reading input)) → IfSome source.old (λ input. Took (Err f) input source.new) →
          (f ≡ text.ReadFault → HasFailed source) → EndsRefused (refusal_of f) sink s → RunEnds honest seen images moment since faults_of source sink old new s
      by (text.Bad n why) says took cause (inl e) =
          ended (Err (n, why)) (scenario_line (n, why)) says (inl ((n, why), refl, e.0, refl)) e.1 (not_write s status.BadScenario e.0 (λ h. cc) sink)
          (inr took) (λ w same fine. absurd (cc same))
      by (text.Bad n why) says took cause (inr e) = starved e.1.0 e.1.1
      by text.ReadFault says took cause (inl e) =
          ended (said_by source.old) read_fault_line (said_is source.old) (inr (inl (e.0, cause refl, refl))) e.1
          (not_write s status.ReadFault e.0 (λ h. cc) sink) (inl (inl e.0)) (λ w same fine. absurd (fine (cause refl)))
      by text.ReadFault says took cause (inr e) = absurd e.0
      by text.Memory says took cause (inl e) = starved e.0 e.1
      by text.Memory says took cause (inr e) = absurd e.0
