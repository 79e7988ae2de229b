-- How a demonstration ends, by how a run would.
use Rattle.std.specs.Prelude.{◌≡◌, ◌⊎◌, ℕ, ◌≤◌, List, IfOk, IfErr, Result, Ok, Err}
use Rattle.std.proofs.Common.{refl, sym, ap, ◌∙◌, subst, arith, inl, inr}
use Rattle.lg_base.specs.Causes.{Rose}
use Rattle.lg_base.specs.declared.faults.Memory.{Memory}
use Rattle.lg_model.specs.Scenario.{Scenario}
use Rattle.sketchlet_wire.specs.Uploads.{UploadData}
use Rattle.scenario_parts.specs.Whole.{IsWhole}
use Rattle.scenario_make.specs.Generator.{generated}
use Rattle.column_book.specs.declared.book.TheConstants.{ROOM}
use Rattle.column_book.specs.Entries.{records, content_in}
use Rattle.book_file.specs.declared.found.OpenFault.{OpenFault}
use Rattle.book_file.specs.declared.found.OpenFault.TheVariants as file
use Rattle.book_file.specs.File.{StandsFor}
use Rattle.book_file.specs.Found.{count_of}
use Rattle.book_journal.specs.Opening.{OpenLeaves}
use Rattle.book_journal.specs.Runs.{JournalState, with_fault}
use Rattle.book_laws.specs.Laws.{LawOfStanding, LawOfTrueLists}
use Rattle.report_text.specs.Faults.{no_memory_line}
use Rattle.guardian_run.specs.declared.refusal.Refusal.TheVariants as refusals
use Rattle.guardian_run.specs.declared.status.Status.{Status}
use Rattle.guardian_run.specs.declared.status.Status.TheVariants as status
use Rattle.guardian_run.specs.declared.telling.Told.{Told}
use Rattle.guardian_run.specs.declared.telling.Told.TheVariants as told
use Rattle.guardian_run.specs.Changes.{Change, HasFailed, IsUntouched}
use Rattle.guardian_run.specs.Refusals.{file_refusal}
use Rattle.guardian_run.specs.Ends.{IsOutputEnd, Puts}
use Rattle.guardian_run.specs.Ending.{EndsWith, EndsWithLine, EndsRefused}
use Rattle.shared_book.specs.Going.{GoesOn}
use Rattle.guardian_run.specs.Running.{RunSays, IsStart, RunsFrom}
use Rattle.guardian_run.specs.Telling.{EndsTold, HasRun}
use Rattle.guardian_run.specs.Showing.{summary, HasShown, ShowsFrom, DemoEnds, ShowsTold}
use Rattle.guardian_run.proofs.RunEnding.{is_run_kept, run_ends, completes_by, no_read}

-- ---- ends that are no output

plain : (s at : Status) → s ≡ at → (at ≡ status.Ok → ⊥) → (at ≡ status.WriteFault → ⊥) → IsOutputEnd s → ⊥
plain s at is far other (inl h) = far (sym is ∙ h)
plain s at is far other (inr h) = other (sym is ∙ h)

pub starved_end : (s : Status) → s ≡ status.NoMemory → IsOutputEnd s → ⊥
starved_end s is = plain s status.NoMemory is (λ h. cc) (λ h. cc)

pub fault_end : (f : OpenFault) (sink : Change) (s : Status) → EndsRefused (file_refusal f) sink s → IsOutputEnd s → ⊥
fault_end file.DiskFault sink s (inl e) = plain s status.DiskFault e.0 (λ h. cc) (λ h. cc)
fault_end file.NotAJournal sink s (inl e) = plain s status.NotAJournal e.0 (λ h. cc) (λ h. cc)
fault_end (file.WrongShape kept asked) sink s (inl e) = plain s status.WrongShape e.0 (λ h. cc) (λ h. cc)
fault_end (file.Damaged at) sink s (inl e) = plain s status.Damaged e.0 (λ h. cc) (λ h. cc)
fault_end (file.Full held more) sink s (inl e) = plain s status.Full e.0 (λ h. cc) (λ h. cc)
fault_end file.Memory sink s (inl e) = plain s status.NoMemory e.0 (λ h. cc) (λ h. cc)
fault_end file.DiskFault sink s (inr e) = starved_end s e.1.0
fault_end file.NotAJournal sink s (inr e) = starved_end s e.1.0
fault_end (file.WrongShape kept asked) sink s (inr e) = starved_end s e.1.0
fault_end (file.Damaged at) sink s (inr e) = starved_end s e.1.0
fault_end (file.Full held more) sink s (inr e) = starved_end s e.1.0
fault_end file.Memory sink s (inr e) = starved_end s e.1.0

-- ---- memory ran out for the summary

pub starved_run : {D : Type 0} → (rose : Type 0) (w : Scenario) (old new : JournalState D) (line : List ℕ) → HasRun rose w old new status.Ok line →
    HasRun rose w old new status.NoMemory no_memory_line
starved_run rose w old new line ran = record {
  acked = ran.acked;
  shape = ran.shape;
  legal = ran.legal;
  begins = ran.begins;
  acks = ran.acks;
  says = (inl ran.says.0, refl);
  repeats = λ found at. absurd (cc at);
}

module _ {D : Type 0} (honest : D → Type 0) (seen : D → List ℕ) (images : D → List ℕ → Type 0) (moment : D → ℕ) (since : D → ℕ → List ℕ → Type 0)
    (faults_of : D → ℕ) where
  -- what is no output is as of a run
  pub as_run : (rounds : ℕ) (w : Scenario) (sink : Change) (old new : D) (s : Status) → RunsFrom honest seen images moment since faults_of w sink old new s →
      (IsOutputEnd s → ⊥) → ShowsFrom honest seen images moment since faults_of rounds w sink old new s
  as_run rounds w sink old new s r far = record {
    text = r.text;
    is = elim r.is as (λ _. IsStart honest seen images moment since (Rose (faults_of old) (faults_of new)) w s r.text old new
        ⊎ HasShown honest seen images moment since (Rose (faults_of old) (faults_of new)) rounds w s r.text old new) [
          | inl x ↦ inl x
          | inr x ↦ inr (record { line = r.text; uploaded = x; output = λ o. absurd (far o); fault = λ _. refl })
        ];
    puts = r.puts;
    write = r.write;
    still = r.still;
    was = r.was;
    never_falls = r.never_falls;
  }

  module _ (reads_image : (d : D) → honest d → images d (seen d)) (w : Scenario) (whole : IsWhole w) (true_law : LawOfTrueLists) (standing : LawOfStanding)
      (sink : Change) (start : D) (j0 j1 : JournalState D) (shape : j0.shape ≡ w.shape)
      (stands : honest start → StandsFor w.shape (records j0.entries) (seen start)) (few : count_of (records j0.entries) ≤ ROOM)
      (leaves : honest start → OpenLeaves honest seen images moment since w.shape start j0.disk) (was : honest j0.disk → honest start)
      (calm : faults_of start ≤ faults_of j0.disk)
      (goes : GoesOn honest seen images moment since faults_of j0 j1) (rounds : ℕ) where
    abbrev rose_then : Type 0
    rose_then = Rose (faults_of j0.disk) (faults_of j1.disk)

    shown : (s : Status) (line text : List ℕ) (ran : HasRun rose_then w j0 j1 status.Ok line) →
        RunSays w (records j0.entries) (records j1.entries) (records (with_fault j1.entries j1.fault)) ran.acked rose_then s line →
        text ≡ summary rounds (content_in (records j1.entries)) w → IsOutputEnd s → Puts s sink text → (s ≡ status.WriteFault → HasFailed sink) →
        ShowsFrom honest seen images moment since faults_of rounds w sink start j1.disk s
    shown s line text ran says is output puts write =
        let u =
        is_run_kept honest seen images moment since faults_of reads_image w whole true_law standing sink start j0 j1 shape stands few leaves was calm goes
        s status.Ok line ran says (λ _. refl) in
        record {
          text = text;
          is = inr (record {
            line = line;
            uploaded = u.0;
            output = λ _. is ∙ ap (λ (rs : List UploadData). summary rounds (content_in rs) w) (sym u.1);
            fault = λ far. absurd (far output);
          });
          puts = puts;
          write = write;
          still = λ h. goes.still (leaves h).still;
          was = λ h. was (goes.was h);
          never_falls = omega (arith, calm, goes.later);
        }

    report_shown : (s : Status) (line text : List ℕ) → HasRun rose_then w j0 j1 status.Ok line → text ≡ summary rounds (content_in (records j1.entries)) w →
        EndsWith text sink s → ShowsFrom honest seen images moment since faults_of rounds w sink start j1.disk s
    report_shown s line text ran is (inl at, puts) =
        shown s line text ran
        (subst (λ x. RunSays w (records j0.entries) (records j1.entries) (records (with_fault j1.entries j1.fault)) ran.acked rose_then x line)
        (sym at) ran.says)
        is (inl at) puts (λ e. absurd (cc (sym at ∙ e)))
    report_shown s line text ran is (inr at, puts) =
        let wrote = subst (λ x. Puts x sink text) at puts in
        shown s line text ran
        (subst (λ x. RunSays w (records j0.entries) (records j1.entries) (records (with_fault j1.entries j1.fault)) ran.acked rose_then x line)
        (sym at) ran.says)
        is (inr at) puts (λ _. wrote.written.1)

    pub shows_ends : (s : Status) (r : Result Told Memory) → IfOk r (ShowsTold rose_then rounds w j0 j1) →
        IfErr r (λ _. HasRun rose_then w j0 j1 status.NoMemory no_memory_line) → IfOk r (λ t. EndsTold t sink s) →
        IfErr r (λ _. EndsWithLine status.NoMemory no_memory_line sink s) → ShowsFrom honest seen images moment since faults_of rounds w sink start j1.disk s
    shows_ends s (Ok (told.Report text)) ran _ end _ = report_shown s ran.0.0 text.items ran.0.1 ran.1 end
    shows_ends s (Ok (told.Conflict text)) ran _ end _ =
        as_run rounds w sink start j1.disk s
        (run_ends honest seen images moment since faults_of reads_image w whole true_law standing sink start j0 j1 shape stands few leaves was calm goes
        s (Ok (told.Conflict text)) ran tt end tt) (plain s status.Conflict end.0 (λ h. cc) (λ h. cc))
    shows_ends s (Ok (told.Full text)) ran _ end _ =
        as_run rounds w sink start j1.disk s
        (run_ends honest seen images moment since faults_of reads_image w whole true_law standing sink start j0 j1 shape stands few leaves was calm goes
        s (Ok (told.Full text)) ran tt end tt) (plain s status.Full end.0 (λ h. cc) (λ h. cc))
    shows_ends s (Ok (told.DiskFault text)) ran _ end _ =
        as_run rounds w sink start j1.disk s
        (run_ends honest seen images moment since faults_of reads_image w whole true_law standing sink start j0 j1 shape stands few leaves was calm goes
        s (Ok (told.DiskFault text)) ran tt end tt) (plain s status.DiskFault end.0 (λ h. cc) (λ h. cc))
    shows_ends s (Err f) _ ran _ end =
        as_run rounds w sink start j1.disk s
        (run_ends honest seen images moment since faults_of reads_image w whole true_law standing sink start j0 j1 shape stands few leaves was calm goes
        s (Err f) tt ran tt end) (starved_end s end.0)

  -- ---- the whole command

  pub demo_ends : (rounds : ℕ) (source sink : Change) (old new : D) (s : Status) → IsUntouched source → IsWhole (generated rounds) → LawOfStanding →
      ShowsFrom honest seen images moment since faults_of rounds (generated rounds) sink old new s →
      DemoEnds honest seen images moment since faults_of rounds source sink old new s
  demo_ends rounds source sink old new s left whole standing ends = record {
    text = ends.text;
    untouched = left;
    is = inr ends.is;
    puts = ends.puts;
    write = ends.write;
    still = ends.still;
    was = ends.was;
    disk_never_falls = ends.never_falls;
    complete = λ h can calm fine. elim ends.is as (λ _. (s ≡ status.Ok) ⊎ (s ≡ status.NoMemory)) [
      | inl x ↦ completes_by honest seen images moment since faults_of (generated rounds) whole standing sink old new s ends.text
          (inl x) ends.write h can calm fine
      | inr x ↦ completes_by honest seen images moment since faults_of (generated rounds) whole standing sink old new s x.line
          (inr x.uploaded) ends.write h can calm
          fine
    ];
  }

  pub demo_unmade : (rounds : ℕ) (source sink : Change) (old new : D) (s : Status) → IsUntouched source → new ≡ old →
      ((d : D) (c : List ℕ) → honest d → since d (moment d) c → images d c) → EndsRefused refusals.Memory sink s →
      DemoEnds honest seen images moment since faults_of rounds source sink old new s
  demo_unmade rounds source sink old new s left same only_now (inl e) =
      subst (λ d. DemoEnds honest seen images moment since faults_of rounds source sink old d s) (sym same) (record {
        text = no_memory_line;
        untouched = left;
        is = inl (record { starved = e.0; is = refl; reads = no_read honest seen images moment since faults_of only_now old });
        puts = e.1;
        write = λ w. absurd (cc (sym e.0 ∙ w));
        still = λ h. h;
        was = λ h. h;
        disk_never_falls = omega arith;
        complete = λ h can calm fine. inr e.0;
      })
  demo_unmade rounds source sink old new s left same only_now (inr e) = absurd e.0
