-- What a command gives at each of its exits.
use Rattle.std.specs.Prelude.{◌≡◌, ◌⊎◌, ℕ, ◌≤◌, List, [], Option, Some, None, IfSome, IfErr, IsOk, Result, Ok, Err}
use Rattle.std.proofs.Common.{refl, sym, ap, subst, arith, inl, inr}
use Rattle.lg_model.specs.declared.scenario.Hash.TheVariants as hashes
use Rattle.lg_model.specs.Placing.{Shape}
use Rattle.lg_model.specs.Scenario.{Scenario}
use Rattle.lg_model.specs.Columns.{dims_of}
use Rattle.lg_model.specs.Answer.{look_in}
use Rattle.sketchlet_wire.specs.Uploads.{UploadData}
use Rattle.sumax_sketch.specs.SketchState.{SketchState}
use Rattle.scenario_parts.specs.Whole.{IsWhole}
use Rattle.scenario_text.specs.Text.{reading, IsTaken, Answers, Took}
use Rattle.scenario_text.specs.declared.fault.ScenarioFault.{ScenarioFault}
use Rattle.scenario_text.specs.declared.fault.ScenarioFault.TheVariants as text
use Rattle.column_book.specs.declared.book.TheConstants.{ROOM}
use Rattle.column_book.specs.Entries.{BookState, records, content, content_in, known_of}
use Rattle.flow_query.specs.Rebuilt.{IsRebuilt}
use Rattle.book_file.specs.declared.found.OpenFault.{OpenFault}
use Rattle.book_file.specs.declared.found.OpenFault.TheVariants as file
use Rattle.book_file.specs.Found.{count_of}
use Rattle.book_journal.specs.Looking.{HasFound, Looks}
use Rattle.run_laws.specs.Truth.{IsTrueRun, LawOfTrueBooks}
use Rattle.report_text.specs.Report.{report, columns_line}
use Rattle.guardian_words.specs.declared.commands.Command.TheVariants as commands
use Rattle.guardian_run.specs.declared.refusal.Refusal.{Refusal}
use Rattle.guardian_run.specs.declared.refusal.Refusal.TheVariants as refusals
use Rattle.guardian_run.specs.Changes.{Change, HasFailed, DiskChange, DiskHasFailed}
use Rattle.guardian_run.specs.Refusals.{refusal_of, file_refusal}
use Rattle.guardian_run.specs.Outputs.{capture_of, list_of, sketch_of}
use Rattle.guardian_run.specs.Outcomes.{Outcome, Captures, HasRecords, HasFault, Asks, Lists, Rebuilds, IsUnbuilt, Comes}
use Rattle.guardian_run.specs.Looking.{IsHeld, IsBookOf, IsFileRefusal, IsUnbuiltOf}
use Rattle.guardian_run.specs.Giving.{IsFree, GivesOfText, IsUnlooked, GivesOfFile, IsTrueFile, Gives}
use Rattle.guardian_run.proofs.EndLemmas.{said_by, said_is}

-- what a `?` hands on
pub err_gives : {T : Type 0} → (r : Result T Refusal) (y refusal : Refusal) (P : Refusal → Type 0) → r ≡ Err y → y ≡ refusal → P refusal → IfErr r P
err_gives {T} r y refusal P is same holds = subst (λ (x : Result T Refusal). IfErr x P) (sym is) (subst P (sym same) holds)

-- ---- the source

-- a fault of the text, the source or memory
pub text_fault : (next : Scenario → Outcome → Type 0) (source : Change) (fault : ScenarioFault) →
    IfSome source.old (λ input. Answers (Err fault) (reading input)) → IfSome source.old (λ input. Took (Err fault) input source.new) →
    (fault ≡ text.ReadFault → HasFailed source) → source.faults_old ≤ source.faults_new → GivesOfText next source (Err (refusal_of fault))
text_fault next source (text.Bad n why) says took cause calm = record {
  said = Err (n, why);
  input = says;
  is = inr refl;
  took = inr took;
  never_falls = calm;
  truth = λ e. cc;
}
text_fault next source text.ReadFault says took cause calm = record {
  said = said_by source.old;
  input = said_is source.old;
  is = inl (inl (refl, cause refl));
  took = inl (inl (refl, cause refl));
  never_falls = calm;
  truth = λ e. cc;
}
text_fault next source text.Memory says took cause calm = record {
  said = said_by source.old;
  input = said_is source.old;
  is = inl (inr refl);
  took = inl (inr refl);
  never_falls = calm;
  truth = λ e. cc;
}

pub text_memory : (next : Scenario → Outcome → Type 0) (source : Change) → source.faults_old ≤ source.faults_new →
    GivesOfText next source (Err refusals.Memory)
text_memory next source calm = record {
  said = said_by source.old;
  input = said_is source.old;
  is = inl (inr refl);
  took = inl (inr refl);
  never_falls = calm;
  truth = λ e. cc;
}

pub text_comes : (next : Scenario → Outcome → Type 0) (source : Change) (w : Scenario) (o : Outcome) →
    IfSome source.old (λ input. reading input ≡ Ok w) → IfSome source.old (λ input. IsTaken input source.new) → IsWhole w → next w o →
    (IsOk o → IsTrueRun w) → source.faults_old ≤ source.faults_new → GivesOfText next source o
text_comes next source w o says took whole is truth calm = record {
  said = Ok w;
  input = says;
  is = inr (whole, is);
  took = inr took;
  never_falls = calm;
  truth = truth;
}

pub captured : (w : Scenario) (text : List ℕ) → text ≡ capture_of w → Captures w (Ok text)
captured w text is = ap (λ (t : List ℕ). Ok t) is

-- ---- the file

-- what a look finds, as a command takes it
pub book_held : (asked : Option Shape) (disk : DiskChange) (b : Option BookState) → Looks asked disk.honest disk.seen (Ok b) → IsHeld disk (IsBookOf b)
book_held asked disk None looks = record { file = looks.file; held = looks.held; is = looks.told }
book_held asked disk (Some b) looks = record {
  file = looks.file;
  held = looks.held;
  is = (looks.told.written, record { stands = looks.told.stands; few = looks.told.few });
}

pub refusal_held : (asked : Option Shape) (disk : DiskChange) (fault : OpenFault) → Looks asked disk.honest disk.seen (Err fault) →
    (fault ≡ file.DiskFault → DiskHasFailed disk) → IsHeld disk (IsFileRefusal asked disk (file_refusal fault))
refusal_held asked disk fault looks cause = record { file = looks.file; held = looks.held; is = by fault looks.told cause }
  where
    by : (f : OpenFault) → HasFound asked looks.file (Err f) → (f ≡ file.DiskFault → DiskHasFailed disk) → IsFileRefusal asked disk (file_refusal f) looks.file
    by file.DiskFault told cause = inl (refl, cause refl)
    by file.NotAJournal told cause = inr (inr told)
    by (file.WrongShape kept other) told cause = inr (inr told)
    by (file.Damaged at) told cause = inr (inr told)
    by (file.Full held more) told cause = inr (inr told)
    by file.Memory told cause = inr (inl refl)

-- the book under a shape
pub records_under : (disk : DiskChange) (shape : Shape) (b : BookState) → IsHeld disk (IsBookOf (Some b)) → b.shape ≡ shape →
    IsHeld disk (λ file. HasRecords file shape (records b.entries))
records_under disk shape b found suits = record {
  file = found.file;
  held = found.held;
  is = subst (λ (s : Shape). HasRecords found.file s (records b.entries)) suits found.is.1;
}

pub no_records_under : (disk : DiskChange) (shape : Shape) (b : BookState) → IsHeld disk (IsBookOf None) → records b.entries ≡ [] →
    IsHeld disk (λ file. HasRecords file shape (records b.entries))
no_records_under disk shape b found none = record {
  file = found.file;
  held = found.held;
  is = record {
    stands = inl (found.is, none);
    few = subst (λ (rs : List UploadData). count_of rs ≤ ROOM) (sym none) (omega arith);
  };
}

pub memory_held : (asked : Option Shape) (disk : DiskChange) → IsHeld disk (IsFileRefusal asked disk refusals.Memory)
memory_held asked disk = record { file = disk.seen; held = λ _. refl; is = inr (inl refl) }

-- a command that looks at the file alone is refused
pub file_memory : (next : List ℕ → Outcome → Type 0) (disk : DiskChange) → disk.faults_old ≤ disk.faults_new → GivesOfFile next disk (Err refusals.Memory)
file_memory next disk calm = record { file = disk.seen; held = λ _. refl; is = inl (inr refl); never_falls = calm }

pub file_comes : (next : List ℕ → Outcome → Type 0) (disk : DiskChange) (o : Outcome) → IsHeld disk (λ file. next file o) →
    disk.faults_old ≤ disk.faults_new → GivesOfFile next disk o
file_comes next disk o found calm = record { file = found.file; held = found.held; is = inr found.is; never_falls = calm }

pub file_refused : (next : List ℕ → Outcome → Type 0) (disk : DiskChange) (r : Refusal) →
    ((file : List ℕ) → HasFault None file r → next file (Err r)) → IsHeld disk (IsFileRefusal None disk r) →
    disk.faults_old ≤ disk.faults_new → GivesOfFile next disk (Err r)
file_refused next disk r move found calm = record {
  file = found.file;
  held = found.held;
  is = elim found.is as (λ _. IsUnlooked disk (Err r) ⊎ next found.file (Err r)) [
    | inl h ↦ inl (inl (ap (λ (x : Refusal). Err x) h.0, h.1))
    | inr h ↦ elim h as (λ _. IsUnlooked disk (Err r) ⊎ next found.file (Err r)) [
      | inl is ↦ inl (inr (ap (λ (x : Refusal). Err x) is))
      | inr has ↦ inr (move found.file has)
    ]
  ];
  never_falls = calm;
}

pub unbuilt_by : (s e : ℕ) (file : List ℕ) (r : Refusal) → HasFault None file r → IsUnbuilt s e file r
unbuilt_by s e file refusals.NotAJournal has = has
unbuilt_by s e file (refusals.WrongShape kept other) has = absurd (cc has.0)
unbuilt_by s e file (refusals.Damaged at) has = has
unbuilt_by s e file (refusals.Full held more) has = has
unbuilt_by s e file refusals.BadWords has = absurd has
unbuilt_by s e file (refusals.BadScenario n why) has = absurd has
unbuilt_by s e file refusals.ReadFault has = absurd has
unbuilt_by s e file refusals.DiskFault has = absurd has
unbuilt_by s e file refusals.Memory has = absurd has
unbuilt_by s e file (refusals.Missing switch epoch known width) has = absurd has
unbuilt_by s e file refusals.Blank has = absurd has

-- a sketch of a book that is not rebuilt
pub unbuilt_of : (s e : ℕ) (disk : DiskChange) (b : BookState) (r : Refusal) → IsHeld disk (IsBookOf (Some b)) → IsUnbuiltOf s e b r →
    disk.faults_old ≤ disk.faults_new → GivesOfFile (Rebuilds s e) disk (Err r)
unbuilt_of s e disk b (refusals.Missing switch epoch known width) found is calm = record {
  file = found.file;
  held = found.held;
  is = inr (
    is.0,
    is.1,
    record {
      shape = b.shape;
      rs = records b.entries;
      has = found.is.1;
      written = found.is.0;
      known_is = is.2.known_is;
      width_is = is.2.width_is;
      few = is.2.few;
    },
  );
  never_falls = calm;
}
unbuilt_of s e disk b refusals.Memory found is calm = file_memory (Rebuilds s e) disk calm
unbuilt_of s e disk b refusals.BadWords found is calm = absurd is
unbuilt_of s e disk b (refusals.BadScenario n why) found is calm = absurd is
unbuilt_of s e disk b refusals.ReadFault found is calm = absurd is
unbuilt_of s e disk b refusals.DiskFault found is calm = absurd is
unbuilt_of s e disk b refusals.NotAJournal found is calm = absurd is
unbuilt_of s e disk b (refusals.WrongShape kept other) found is calm = absurd is
unbuilt_of s e disk b (refusals.Damaged at) found is calm = absurd is
unbuilt_of s e disk b (refusals.Full held more) found is calm = absurd is
unbuilt_of s e disk b refusals.Blank found is calm = absurd is

pub rebuilding_of : (s e : ℕ) (disk : DiskChange) (b : BookState) (sketch : SketchState) (text : List ℕ) → IsHeld disk (IsBookOf (Some b)) →
    known_of s e b.entries ≡ b.shape.width → IsRebuilt (look_in (content b.entries)) b.shape s e sketch → text ≡ sketch_of s e sketch →
    disk.faults_old ≤ disk.faults_new → GivesOfFile (Rebuilds s e) disk (Ok text)
rebuilding_of s e disk b sketch text found all rebuilt is calm = record {
  file = found.file;
  held = found.held;
  is = inr (record {
    shape = b.shape;
    rs = records b.entries;
    has = found.is.1;
    written = found.is.0;
    all = all;
    sketch = sketch;
    rebuilt = rebuilt;
    is = is;
  });
  never_falls = calm;
}

-- ---- a listing

pub listing_of : (disk : DiskChange) (b : BookState) (text : List ℕ) → IsHeld disk (IsBookOf (Some b)) → text ≡ list_of (dims_of b.shape) (content b.entries) →
    disk.faults_old ≤ disk.faults_new → GivesOfFile Lists disk (Ok text)
listing_of disk b text found is calm = record {
  file = found.file;
  held = found.held;
  is = inr (record { shape = b.shape; rs = records b.entries; has = found.is.1; is = is });
  never_falls = calm;
}

some_shape : Shape
some_shape = record { rows = 1; width = 1; hash = hashes.Ports }

pub blank_listing : (disk : DiskChange) (text : List ℕ) → IsHeld disk (IsBookOf None) → text ≡ columns_line 0 →
    disk.faults_old ≤ disk.faults_new → GivesOfFile Lists disk (Ok text)
blank_listing disk text found is calm = record {
  file = found.file;
  held = found.held;
  is = inr (record { shape = some_shape; rs = []; has = record { stands = inl (found.is, refl); few = omega arith }; is = is });
  never_falls = calm;
}

-- ---- an answer

pub true_file : LawOfTrueBooks → (file : List ℕ) → IsTrueFile file
true_file law file w rs whole stands agrees = law w (content_in rs) whole agrees

-- the scenario cannot be had
pub ask_unread : (source : Change) (disk : DiskChange) (o : Outcome) → disk.faults_old ≤ disk.faults_new → GivesOfText (Asks disk.seen) source o →
    (IsOk o → ⊥) → Gives (Some commands.Ask) source disk o
ask_unread source disk o calm gives never = record {
  said = gives.said;
  file = disk.seen;
  input = gives.input;
  held = λ _. refl;
  is = elim gives.is as (λ _. IsFree (Some commands.Ask) source disk o ⊎ Comes (Some commands.Ask) gives.said disk.seen o) [
    | inl h ↦ inl (elim h as (λ _. IsFree (Some commands.Ask) source disk o) [ inl x ↦ inl (x.0, refl, x.1) | inr x ↦ inr (inr x) ])
    | inr h ↦ inr h
  ];
  draws = record {
    unread = λ e. cc;
    took = λ _. elim gives.took as (λ _. ((o ≡ Err refusals.ReadFault) ⊎ (o ≡ Err refusals.Memory)) ⊎ IfSome source.old (λ input. IsTaken input source.new)) [
      | inl h ↦ inl (elim h as (λ _. (o ≡ Err refusals.ReadFault) ⊎ (o ≡ Err refusals.Memory)) [ inl x ↦ inl x.0 | inr x ↦ inr x ])
      | inr h ↦ inr h
    ];
    never_falls = gives.never_falls;
  };
  disk_never_falls = calm;
  truth = λ output. absurd (never output);
}

-- the scenario is there, and the book
pub ask_answered : (source : Change) (disk : DiskChange) (w : Scenario) (shape : Shape) (rs : List UploadData) (text : List ℕ) → shape ≡ w.shape →
    LawOfTrueBooks →
    IfSome source.old (λ input. reading input ≡ Ok w) → IfSome source.old (λ input. IsTaken input source.new) → IsWhole w →
    IsHeld disk (λ file. HasRecords file shape rs) → text ≡ report (content_in rs) w →
    source.faults_old ≤ source.faults_new → disk.faults_old ≤ disk.faults_new → Gives (Some commands.Ask) source disk (Ok text)
ask_answered source disk w shape rs text same law says took whole found is calm still = record {
  said = Ok w;
  file = found.file;
  input = says;
  held = found.held;
  is = inr (whole, record { rs = rs; has = subst (λ (x : Shape). HasRecords found.file x rs) same found.is; is = is });
  draws = record { unread = λ e. cc; took = λ _. inr took; never_falls = calm };
  disk_never_falls = still;
  truth = λ _. true_file law found.file;
}

-- the scenario is there, and no book
pub ask_refused : (source : Change) (disk : DiskChange) (w : Scenario) (shape : Shape) (r : Refusal) → shape ≡ w.shape →
    IfSome source.old (λ input. reading input ≡ Ok w) → IfSome source.old (λ input. IsTaken input source.new) → IsWhole w →
    IsHeld disk (IsFileRefusal (Some shape) disk r) →
    source.faults_old ≤ source.faults_new → disk.faults_old ≤ disk.faults_new → Gives (Some commands.Ask) source disk (Err r)
ask_refused source disk w shape r same says took whole found calm still = record {
  said = Ok w;
  file = found.file;
  input = says;
  held = found.held;
  is = elim found.is as (λ _. IsFree (Some commands.Ask) source disk (Err r) ⊎ Comes (Some commands.Ask) (Ok w) found.file (Err r)) [
    | inl h ↦ inl (inr (inl (ap (λ (x : Refusal). Err x) h.0, refl, h.1)))
    | inr h ↦ elim h as (λ _. IsFree (Some commands.Ask) source disk (Err r) ⊎ Comes (Some commands.Ask) (Ok w) found.file (Err r)) [
      | inl x ↦ inl (inr (inr (ap (λ (y : Refusal). Err y) x)))
      | inr x ↦ inr (whole, subst (λ (y : Shape). HasFault (Some y) found.file r) same x)
    ]
  ];
  draws = record { unread = λ e. cc; took = λ _. inr took; never_falls = calm };
  disk_never_falls = still;
  truth = λ e. cc;
}

pub ask_memory : (source : Change) (disk : DiskChange) → source.faults_old ≤ source.faults_new → disk.faults_old ≤ disk.faults_new →
    Gives (Some commands.Ask) source disk (Err refusals.Memory)
ask_memory source disk calm still = ask_unread source disk (Err refusals.Memory) still (text_memory (Asks disk.seen) source calm) (λ e. cc)
