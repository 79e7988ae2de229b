-- How a call ends follows from what the command gave and what was done with it.
use Rattle.std.specs.Prelude.{◌≡◌, ◌⊎◌, ℕ, ◌≤◌, Bool, true, false, List, Option, Some, None, IfSome, IfOk, IfErr, Result, Ok, Err}
use Rattle.std.proofs.Common.{refl, sym, ap, ◌∙◌, subst, inl, inr}
use Rattle.scenario_lines.specs.declared.why.Why.TheVariants.{NoDone}
use Rattle.lg_model.specs.Scenario.{Scenario}
use Rattle.scenario_text.specs.Text.{Fault, reading, IsTaken}
use Rattle.guardian_words.specs.declared.commands.Command.{Command}
use Rattle.guardian_words.specs.declared.commands.Command.TheVariants as commands
use Rattle.guardian_run.specs.declared.refusal.Refusal.{Refusal}
use Rattle.guardian_run.specs.declared.refusal.Refusal.TheVariants as refusals
use Rattle.guardian_run.specs.declared.status.Status.{Status}
use Rattle.guardian_run.specs.declared.status.Status.TheVariants as status
use Rattle.guardian_run.specs.Changes.{Change, HasFailed, IsUntouched, DiskChange, DiskHasFailed}
use Rattle.guardian_run.specs.Refusals.{status_of, fault_line}
use Rattle.column_book.specs.Entries.{content_in}
use Rattle.run_laws.specs.Truth.{IsTrueRun}
use Rattle.run_laws.proofs.Agreeing.{true_book}
use Rattle.guardian_run.specs.Outcomes.{Outcome, Captures, Lists, Rebuilds, Comes, WithScenario, reads_text, looks_at_file}
use Rattle.guardian_run.specs.Giving.{IsUnread, GivesOfText, GivesMade, IsUnlooked, GivesOfFile, IsFree, IsTrueFile, IsTrueOutput, Draws, Gives}
use Rattle.report_text.specs.Faults.{usage_line, read_fault_line, disk_fault_line, no_memory_line}
use Rattle.guardian_run.specs.Ends.{IsOutputEnd, IsStatusOf, IsAnswered, Puts, Ends}
use Rattle.guardian_run.specs.Ending.{EndsWith, EndsWithLine, EndsRefused}
use Rattle.guardian_run.proofs.OneOutcome.{one_outcome}

-- ---- what an input says that is told, and anything else where it is not

abbrev pub said_by : Option (List ℕ) → Result Scenario Fault
said_by None = Err (0, NoDone)
said_by (Some input) = reading input

pub said_is : (left : Option (List ℕ)) → IfSome left (λ input. reading input ≡ said_by left)
said_is None = tt
said_is (Some input) = refl

-- ---- refusals that a command comes to

abbrev refused : Refusal → Outcome
refused r = Err r

one_refusal : (r q : Refusal) → refused r ≡ refused q → r ≡ q
one_refusal r q is = cc

-- the text or the file has a fault, or too little
abbrev IsProper : Refusal → Type 0
IsProper refusals.BadWords = ⊥
IsProper (refusals.BadScenario n why) = Unit {0}
IsProper refusals.ReadFault = ⊥
IsProper refusals.DiskFault = ⊥
IsProper refusals.NotAJournal = Unit {0}
IsProper (refusals.WrongShape kept asked) = Unit {0}
IsProper (refusals.Damaged at) = Unit {0}
IsProper (refusals.Full held more) = Unit {0}
IsProper refusals.Memory = ⊥
IsProper (refusals.Missing s e known width) = Unit {0}
IsProper refusals.Blank = Unit {0}

-- a command comes to no other refusal
proper : (command : Command) (said : Result Scenario Fault) (file : List ℕ) (r : Refusal) → Comes (Some command) said file (Err r) → IsProper r
proper commands.Run said file r is = absurd is
proper (commands.Demo n) said file r is = absurd is
proper (commands.Make n) said file r is = absurd (cc is)
proper commands.Capture (Ok w) file r is = absurd (cc is.1)
proper commands.Capture (Err (n, why)) file r is = subst IsProper (sym (one_refusal r (refusals.BadScenario n why) is)) tt
proper commands.Ask (Ok w) file refusals.NotAJournal is = tt
proper commands.Ask (Ok w) file (refusals.WrongShape kept other) is = tt
proper commands.Ask (Ok w) file (refusals.Damaged at) is = tt
proper commands.Ask (Ok w) file (refusals.Full held more) is = tt
proper commands.Ask (Ok w) file refusals.BadWords is = absurd is.1
proper commands.Ask (Ok w) file (refusals.BadScenario n why) is = tt
proper commands.Ask (Ok w) file refusals.ReadFault is = absurd is.1
proper commands.Ask (Ok w) file refusals.DiskFault is = absurd is.1
proper commands.Ask (Ok w) file refusals.Memory is = absurd is.1
proper commands.Ask (Ok w) file (refusals.Missing s e known width) is = tt
proper commands.Ask (Ok w) file refusals.Blank is = tt
proper commands.Ask (Err (n, why)) file r is = subst IsProper (sym (one_refusal r (refusals.BadScenario n why) is)) tt
proper commands.List said file refusals.NotAJournal is = tt
proper commands.List said file (refusals.WrongShape kept other) is = tt
proper commands.List said file (refusals.Damaged at) is = tt
proper commands.List said file (refusals.Full held more) is = tt
proper commands.List said file refusals.BadWords is = absurd is
proper commands.List said file (refusals.BadScenario n why) is = tt
proper commands.List said file refusals.ReadFault is = absurd is
proper commands.List said file refusals.DiskFault is = absurd is
proper commands.List said file refusals.Memory is = absurd is
proper commands.List said file (refusals.Missing s e known width) is = tt
proper commands.List said file refusals.Blank is = tt
proper (commands.Rebuild s e) said file refusals.NotAJournal is = tt
proper (commands.Rebuild s e) said file (refusals.WrongShape kept other) is = tt
proper (commands.Rebuild s e) said file (refusals.Damaged at) is = tt
proper (commands.Rebuild s e) said file (refusals.Full held more) is = tt
proper (commands.Rebuild s e) said file refusals.BadWords is = absurd is
proper (commands.Rebuild s e) said file (refusals.BadScenario n why) is = tt
proper (commands.Rebuild s e) said file refusals.ReadFault is = absurd is
proper (commands.Rebuild s e) said file refusals.DiskFault is = absurd is
proper (commands.Rebuild s e) said file refusals.Memory is = absurd is
proper (commands.Rebuild s e) said file (refusals.Missing switch epoch known width) is = tt
proper (commands.Rebuild s e) said file refusals.Blank is = tt

-- its status is none of those of the words and of the outside
record IsOther (s : Status) : Type 0 where
  words : s ≡ status.BadWords → ⊥
  read : s ≡ status.ReadFault → ⊥
  device : s ≡ status.DiskFault → ⊥
  output : IsOutputEnd s → ⊥
  memory : s ≡ status.NoMemory → ⊥

other : (r : Refusal) → IsProper r → IsOther (status_of r)
other refusals.BadWords is = absurd is
other (refusals.BadScenario n why) is = record {
  words = λ e. cc;
  read = λ e. cc;
  device = λ e. cc;
  output =
      λ e. elim e [ inl h ↦ cc | inr h ↦ cc ];
  memory = λ e. cc;
}
other refusals.ReadFault is = absurd is
other refusals.DiskFault is = absurd is
other refusals.NotAJournal is = record { words = λ e. cc; read = λ e. cc; device = λ e. cc; output = λ e. elim e [ inl h ↦ cc | inr h ↦ cc ]; memory = λ e. cc }
other (refusals.WrongShape kept asked) is = record {
  words = λ e. cc;
  read = λ e. cc;
  device = λ e. cc;
  output =
      λ e. elim e [ inl h ↦ cc | inr h ↦ cc ];
  memory = λ e. cc;
}
other (refusals.Damaged at) is = record {
  words = λ e. cc;
  read = λ e. cc;
  device = λ e. cc;
  output = λ e. elim e [ inl h ↦ cc | inr h ↦ cc ];
  memory =
      λ e. cc;
}
other (refusals.Full held more) is = record {
  words = λ e. cc;
  read = λ e. cc;
  device = λ e. cc;
  output =
      λ e. elim e [ inl h ↦ cc | inr h ↦ cc ];
  memory = λ e. cc;
}
other refusals.Memory is = absurd is
other (refusals.Missing s e known width) is = record {
  words = λ e. cc;
  read = λ e. cc;
  device = λ e. cc;
  output =
      λ e. elim e [ inl h ↦ cc | inr h ↦ cc ];
  memory = λ e. cc;
}
other refusals.Blank is = record { words = λ e. cc; read = λ e. cc; device = λ e. cc; output = λ e. elim e [ inl h ↦ cc | inr h ↦ cc ]; memory = λ e. cc }

-- ---- an output

never_free : (asked : Option Command) (source : Change) (disk : DiskChange) (text : List ℕ) → IsFree asked source disk (Ok text) → ⊥
never_free asked source disk text (inl h) = absurd (cc h.0)
never_free asked source disk text (inr (inl h)) = absurd (cc h.0)
never_free asked source disk text (inr (inr h)) = absurd (cc h)

output_comes : (asked : Option Command) (source : Change) (disk : DiskChange) (text : List ℕ) (said : Result Scenario Fault) (file : List ℕ) →
    IsFree asked source disk (Ok text) ⊎ Comes asked said file (Ok text) → Comes asked said file (Ok text)
output_comes asked source disk text said file (inl free) = absurd (never_free asked source disk text free)
output_comes asked source disk text said file (inr is) = is

-- the source, by what a command did and how the call ends
drawn : (asked : Option Command) (P Q : Type 0) (source : Change) → (P → Q) → Draws asked P source → Draws asked Q source
drawn asked P Q source move draws = record {
  unread = draws.unread;
  took = λ reads. elim (draws.took reads) as (λ _. Q ⊎ IfSome source.old (λ input. IsTaken input source.new)) [ inl h ↦ inl (move h) | inr h ↦ inr h ];
  never_falls = draws.never_falls;
}

abbrev ShortOf : Outcome → Type 0
ShortOf outcome = (outcome ≡ Err refusals.ReadFault) ⊎ (outcome ≡ Err refusals.Memory)

abbrev ShortAt : Status → Type 0
ShortAt s = (s ≡ status.ReadFault) ⊎ (s ≡ status.NoMemory)

output_short : (text : List ℕ) (s : Status) → ShortOf (Ok text) → ShortAt s
output_short text s (inl h) = absurd (cc h)
output_short text s (inr h) = absurd (cc h)

answered_output : (command : Command) (said : Result Scenario Fault) (file : List ℕ) (source sink : Change) (disk : DiskChange) (s : Status) (text : List ℕ) →
    Comes (Some command) said file (Ok text) → IsOutputEnd s → Puts s sink text → IsAnswered (Some command) said file source sink disk s text
answered_output command said file source sink disk s text comes (inl at) puts = record {
  words = ((λ e. cc), (λ e. cc));
  only = inr (record { outcome = Ok text; comes = comes; status = inl at; text_is = refl });
  exactly = inr (λ o that. subst (λ x. IsStatusOf x s) (one_outcome (Some command) said file (Ok text) o comes that) (inl at));
  read = λ e. cc;
  device = λ e. cc;
  write = λ e. cc;
  complete = λ o that f g h. inl at;
}
answered_output command said file source sink disk s text comes (inr at) puts =
    let wrote = subst (λ t. Puts t sink text) at puts in
    record {
      words = ((λ e. cc), (λ e. cc));
      only = inr (record { outcome = Ok text; comes = comes; status = inr at; text_is = refl });
      exactly = inr (λ o that. subst (λ x. IsStatusOf x s) (one_outcome (Some command) said file (Ok text) o comes that) (inr at));
      read = λ e. cc;
      device = λ e. cc;
      write = λ _. wrote.written.1;
      complete = λ o that f g h. absurd (h wrote.written.1);
    }

pub ends_output : (command : Command) (source sink : Change) (disk : DiskChange) (s : Status) (text : List ℕ) → Gives (Some command) source disk (Ok text) →
    EndsWith text sink s → Ends (Some command) source sink disk s
ends_output command source sink disk s text gives end = record {
  said = gives.said;
  file = gives.file;
  text = text;
  input = gives.input;
  held = gives.held;
  answers = answered_output command gives.said gives.file source sink disk s text
      (output_comes (Some command) source disk text gives.said gives.file gives.is) end.0 end.1;
  draws = drawn (Some command) (ShortOf (Ok text)) (ShortAt s) source (output_short text s) gives.draws;
  puts = end.1;
  disk_never_falls = gives.disk_never_falls;
  truth = λ _. gives.truth refl;
}

-- ---- a refusal

-- the call ends so where it was cut short
at_no_memory : (command : Command) (said : Result Scenario Fault) (file : List ℕ) (source sink : Change) (disk : DiskChange) (s : Status) →
    s ≡ status.NoMemory → IsAnswered (Some command) said file source sink disk s no_memory_line
at_no_memory command said file source sink disk s at = record {
  words = ((λ e. cc), (λ e. cc));
  only = inl (inr (inr (at, refl)));
  exactly = inl (inr (inr at));
  read = λ e. cc;
  device = λ e. cc;
  write = λ e. cc;
  complete = λ o that f g h. inr at;
}

at_read_fault : (command : Command) (said : Result Scenario Fault) (file : List ℕ) (source sink : Change) (disk : DiskChange) (s : Status) →
    s ≡ status.ReadFault → (reads_text (Some command) ≡ true) × HasFailed source →
    IsAnswered (Some command) said file source sink disk s read_fault_line
at_read_fault command said file source sink disk s at cause = record {
  words = ((λ e. cc), (λ e. cc));
  only = inl (inl (at, refl));
  exactly = inl (inl at);
  read = λ e. cause;
  device = λ e. cc;
  write = λ e. cc;
  complete = λ o that f g h. absurd (f cause.1);
}

at_disk_fault : (command : Command) (said : Result Scenario Fault) (file : List ℕ) (source sink : Change) (disk : DiskChange) (s : Status) →
    s ≡ status.DiskFault → (looks_at_file (Some command) ≡ true) × DiskHasFailed disk →
    IsAnswered (Some command) said file source sink disk s disk_fault_line
at_disk_fault command said file source sink disk s at cause = record {
  words = ((λ e. cc), (λ e. cc));
  only = inl (inr (inl (at, refl)));
  exactly = inl (inr (inl at));
  read = λ e. cc;
  device = λ e. cause;
  write = λ e. cc;
  complete = λ o that f g h. absurd (g cause.1);
}

at_refusal : (command : Command) (said : Result Scenario Fault) (file : List ℕ) (source sink : Change) (disk : DiskChange) (s : Status) (r : Refusal) →
    Comes (Some command) said file (Err r) → s ≡ status_of r → IsAnswered (Some command) said file source sink disk s (fault_line r)
at_refusal command said file source sink disk s r comes at =
    let far = other r (proper command said file r comes) in
    record {
      words = ((λ e. absurd (far.words (sym at ∙ e))), (λ e. cc));
      only = inr (record { outcome = Err r; comes = comes; status = at; text_is = refl });
      exactly = inr (λ o that. subst (λ x. IsStatusOf x s) (one_outcome (Some command) said file (Err r) o comes that) at);
      read = λ e. absurd (far.read (sym at ∙ e));
      device = λ e. absurd (far.device (sym at ∙ e));
      write = λ e. absurd (far.output (inr (sym at ∙ e)));
      complete = λ o that f g h. absurd (apart r o (one_outcome (Some command) said file (Err r) (Ok o) comes that));
    }
  where
    apart : (r : Refusal) (o : List ℕ) → refused r ≡ Ok o → ⊥
    apart r o is = absurd (cc is)

-- what a refusal says of the source
refusal_short : (r : Refusal) (s : Status) → (s ≡ status_of r) ⊎ (s ≡ status.NoMemory) → ShortOf (Err r) → ShortAt s
refusal_short r s (inr h) short = inr h
refusal_short r s (inl h) (inl is) = inl (h ∙ ap status_of (one_refusal r refusals.ReadFault is))
refusal_short r s (inl h) (inr is) = inr (h ∙ ap status_of (one_refusal r refusals.Memory is))

ended : (command : Command) (source sink : Change) (disk : DiskChange) (s : Status) (r : Refusal) (line : List ℕ)
    (gives : Gives (Some command) source disk (Err r)) →
    (s ≡ status_of r) ⊎ (s ≡ status.NoMemory) → (IsOutputEnd s → ⊥) → IsAnswered (Some command) gives.said gives.file source sink disk s line →
    Puts s sink line →
    Ends (Some command) source sink disk s
ended command source sink disk s r line gives at far answers puts = record {
  said = gives.said;
  file = gives.file;
  text = line;
  input = gives.input;
  held = gives.held;
  answers = answers;
  draws = drawn (Some command) (ShortOf (Err r)) (ShortAt s) source (refusal_short r s at) gives.draws;
  puts = puts;
  disk_never_falls = gives.disk_never_falls;
  truth = λ output. absurd (far output);
}

not_memory : (s : Status) → s ≡ status.NoMemory → IsOutputEnd s → ⊥
not_memory s at (inl h) = absurd (cc (sym at ∙ h))
not_memory s at (inr h) = absurd (cc (sym at ∙ h))

not_fault : (s : Status) → (s ≡ status.ReadFault) ⊎ (s ≡ status.DiskFault) → IsOutputEnd s → ⊥
not_fault s (inl at) (inl h) = absurd (cc (sym at ∙ h))
not_fault s (inl at) (inr h) = absurd (cc (sym at ∙ h))
not_fault s (inr at) (inl h) = absurd (cc (sym at ∙ h))
not_fault s (inr at) (inr h) = absurd (cc (sym at ∙ h))

starved : (command : Command) (source sink : Change) (disk : DiskChange) (s : Status) (r : Refusal) → Gives (Some command) source disk (Err r) →
    EndsWithLine status.NoMemory no_memory_line sink s → Ends (Some command) source sink disk s
starved command source sink disk s r gives end =
    ended command source sink disk s r no_memory_line gives (inr end.0) (not_memory s end.0)
    (at_no_memory command gives.said gives.file source sink disk s end.0) end.1

-- the same refusal under another name
renamed : (r q : Refusal) (sink : Change) (s : Status) → r ≡ q → EndsRefused r sink s → EndsRefused q sink s
renamed r q sink s same end = subst (λ x. EndsRefused x sink s) same end

pub ends_refused : (command : Command) (source sink : Change) (disk : DiskChange) (s : Status) (r : Refusal) → Gives (Some command) source disk (Err r) →
    EndsRefused r sink s → Ends (Some command) source sink disk s
ends_refused command source sink disk s r gives end = by gives.is
  where
    read : (reads_text (Some command) ≡ true) × HasFailed source → EndsRefused refusals.ReadFault sink s → r ≡ refusals.ReadFault →
        Ends (Some command) source sink disk s
    read cause (inl e) is =
        ended command source sink disk s r read_fault_line gives (inl (e.0 ∙ ap status_of (sym is))) (not_fault s (inl e.0))
        (at_read_fault command gives.said gives.file source sink disk s e.0 cause) e.1
    read cause (inr e) is = absurd e.0

    device : (looks_at_file (Some command) ≡ true) × DiskHasFailed disk → EndsRefused refusals.DiskFault sink s →
        r ≡ refusals.DiskFault → Ends (Some command) source sink disk s
    device cause (inl e) is =
        ended command source sink disk s r disk_fault_line gives (inl (e.0 ∙ ap status_of (sym is))) (not_fault s (inr e.0))
        (at_disk_fault command gives.said gives.file source sink disk s e.0 cause) e.1
    device cause (inr e) is = absurd e.0

    memory : EndsRefused refusals.Memory sink s → Ends (Some command) source sink disk s
    memory (inl e) = starved command source sink disk s r gives e
    memory (inr e) = absurd e.0

    proper_end : Comes (Some command) gives.said gives.file (Err r) → EndsRefused r sink s → Ends (Some command) source sink disk s
    proper_end comes (inl e) =
        let far = other r (proper command gives.said gives.file r comes) in
        ended command source sink disk s r (fault_line r) gives (inl e.0) (λ o. far.output (subst IsOutputEnd e.0 o))
        (at_refusal command gives.said gives.file source sink disk s r comes e.0) e.1
    proper_end comes (inr e) = starved command source sink disk s r gives e.1

    by : IsFree (Some command) source disk (Err r) ⊎ Comes (Some command) gives.said gives.file (Err r) → Ends (Some command) source sink disk s
    by (inl (inl h)) = let is = one_refusal r refusals.ReadFault h.0 in read (h.1, h.2) (renamed r refusals.ReadFault sink s is end) is
    by (inl (inr (inl h))) = let is = one_refusal r refusals.DiskFault h.0 in device (h.1, h.2) (renamed r refusals.DiskFault sink s is end) is
    by (inl (inr (inr h))) = memory (renamed r refusals.Memory sink s (one_refusal r refusals.Memory h) end)
    by (inr comes) = proper_end comes end

-- ---- no command

at_bad_words : (source sink : Change) (disk : DiskChange) → IsUntouched source → source.faults_old ≤ source.faults_new → disk.faults_old ≤ disk.faults_new →
    Puts status.BadWords sink usage_line → Ends None source sink disk status.BadWords
at_bad_words source sink disk left same calm puts = record {
  said = said_by source.old;
  file = disk.seen;
  text = usage_line;
  input = said_is source.old;
  held = λ _. refl;
  answers = record {
    words = ((λ _. refl), (λ _. refl));
    only = inr (record { outcome = Err refusals.BadWords; comes = refl; status = refl; text_is = refl });
    exactly = inr (λ o that. subst (λ x. IsStatusOf x status.BadWords) (sym that) refl);
    read = λ e. cc;
    device = λ e. cc;
    write = λ e. cc;
    complete = λ o that f g h. absurd (cc that);
  };
  draws = record { unread = λ _. left; took = λ e. cc; never_falls = same };
  puts = puts;
  disk_never_falls = calm;
  truth = λ _. tt;
}

pub ends_unread : (asked : Option Command) (source sink : Change) (disk : DiskChange) (s : Status) → asked ≡ None → IsUntouched source →
    source.faults_old ≤ source.faults_new → disk.faults_old ≤ disk.faults_new → EndsRefused refusals.BadWords sink s → Ends asked source sink disk s
ends_unread asked source sink disk s none left same calm end = subst (λ a. Ends a source sink disk s) (sym none) (by end)
  where
    by : EndsRefused refusals.BadWords sink s → Ends None source sink disk s
    by (inl e) = subst (λ t. Ends None source sink disk t) (sym e.0)
        (at_bad_words source sink disk left same calm (subst (λ t. Puts t sink usage_line) e.0 e.1))
    by (inr e) = absurd e.0

-- ---- what a command gave

-- a command that reads a text alone
free_text : (asked : Option Command) (source : Change) (disk : DiskChange) (o : Outcome) → reads_text asked ≡ true → IsUnread source o →
    IsFree asked source disk o
free_text asked source disk o reads (inl h) = inl (h.0, reads, h.1)
free_text asked source disk o reads (inr h) = inr (inr h)

short_text : (source : Change) (o : Outcome) → IsUnread source o → ShortOf o
short_text source o (inl h) = inl h.0
short_text source o (inr h) = inr h

pub given_text : (command : Command) (next : Scenario → Outcome → Type 0) (source : Change) (disk : DiskChange) (o : Outcome) →
    reads_text (Some command) ≡ true →
    ((said : Result Scenario Fault) → WithScenario next said o → Comes (Some command) said disk.seen o) →
    ((said : Result Scenario Fault) → IfOk said IsTrueRun → IsTrueOutput (Some command) said disk.seen) →
    disk.faults_old ≤ disk.faults_new → GivesOfText next source o → Gives (Some command) source disk o
given_text command next source disk o reads comes true_of calm gives = record {
  said = gives.said;
  file = disk.seen;
  input = gives.input;
  held = λ _. refl;
  is = elim gives.is as (λ _. IsFree (Some command) source disk o ⊎ Comes (Some command) gives.said disk.seen o) [
    | inl h ↦ inl (free_text (Some command) source disk o reads h)
    | inr h ↦ inr (comes gives.said h)
  ];
  draws = record {
    unread = λ e. absurd (both_ways (reads_text (Some command)) reads e);
    took = λ _. elim gives.took as (λ _. ShortOf o
        ⊎ IfSome source.old (λ input. IsTaken input source.new)) [ inl h ↦ inl (short_text source o h) | inr h ↦ inr h ];
    never_falls = gives.never_falls;
  };
  disk_never_falls = calm;
  truth = λ output. true_of gives.said (gives.truth output);
}
  where
    both_ways : (b : Bool) → b ≡ true → b ≡ false → ⊥
    both_ways b yes_is no_is = absurd (cc (sym yes_is ∙ no_is))

-- a command that looks at the file alone
free_file : (asked : Option Command) (source : Change) (disk : DiskChange) (o : Outcome) → looks_at_file asked ≡ true → IsUnlooked disk o →
    IsFree asked source disk o
free_file asked source disk o looks (inl h) = inr (inl (h.0, looks, h.1))
free_file asked source disk o looks (inr h) = inr (inr h)

pub given_file : (command : Command) (next : List ℕ → Outcome → Type 0) (source : Change) (disk : DiskChange) (o : Outcome) →
    looks_at_file (Some command) ≡ true →
    reads_text (Some command) ≡ false →
    ((said : Result Scenario Fault) (file : List ℕ) → next file o → Comes (Some command) said file o) →
    ((said : Result Scenario Fault) (file : List ℕ) → IsTrueOutput (Some command) said file) →
    IsUntouched source → source.faults_old ≤ source.faults_new → GivesOfFile next disk o → Gives (Some command) source disk o
given_file command next source disk o looks unread comes true_of left same gives = record {
  said = said_by source.old;
  file = gives.file;
  input = said_is source.old;
  held = gives.held;
  is = elim gives.is as (λ _. IsFree (Some command) source disk o ⊎ Comes (Some command) (said_by source.old) gives.file o) [
    | inl h ↦ inl (free_file (Some command) source disk o looks h)
    | inr h ↦ inr (comes (said_by source.old) gives.file h)
  ];
  draws = record { unread = λ _. left; took = λ e. absurd (both_ways (reads_text (Some command)) e unread); never_falls = same };
  disk_never_falls = gives.never_falls;
  truth = λ _. true_of (said_by source.old) gives.file;
}
  where
    both_ways : (b : Bool) → b ≡ true → b ≡ false → ⊥
    both_ways b yes_is no_is = absurd (cc (sym yes_is ∙ no_is))

pub ends_given : {T : Type 0} →
    (items : T → List ℕ) (asked : Option Command) (command : Command) (source sink : Change) (disk : DiskChange) (s : Status) (given : Result T Refusal) →
    asked ≡ Some command →
    IfOk given (λ text. Gives (Some command) source disk (Ok (items text))) → IfErr given (λ r. Gives (Some command) source disk (Err r)) →
    IfOk given (λ text. EndsWith (items text) sink s) → IfErr given (λ r. EndsRefused r sink s) → Ends asked source sink disk s
ends_given {T} items asked command source sink disk s given same has is done end = subst (λ a. Ends a source sink disk s) (sym same)
    (either given has is done end)
  where
    either : (given : Result T Refusal) → IfOk given (λ text. Gives (Some command) source disk (Ok (items text))) →
        IfErr given (λ r. Gives (Some command) source disk (Err r)) →
        IfOk given (λ text. EndsWith (items text) sink s) → IfErr given (λ r. EndsRefused r sink s) → Ends (Some command) source sink disk s
    either (Ok text) has _ done _ = ends_output command source sink disk s (items text) has done
    either (Err r) _ is _ end = ends_refused command source sink disk s r is end

-- what a result gives that is more
pub both_given : {T : Type 0} → (items : T → List ℕ) (given : Result T Refusal) (P Q : Outcome → Type 0) → ((o : Outcome) → P o → Q o) →
    IfOk given (λ text. P (Ok (items text))) → IfErr given (λ r. P (Err r)) →
    IfOk given (λ text. Q (Ok (items text))) × IfErr given (λ r. Q (Err r))
both_given items (Ok text) P Q move has is = (move (Ok (items text)) has, tt)
both_given items (Err r) P Q move has is = (tt, move (Err r) is)

-- the same of a command that needs one thing alone
pub ends_by : {T : Type 0} →
    (items : T → List ℕ) (asked : Option Command) (command : Command) (source sink : Change) (disk : DiskChange) (s : Status)
    (given : Result T Refusal) (P : Outcome → Type 0) →
    asked ≡ Some command → ((o : Outcome) → P o → Gives (Some command) source disk o) →
    IfOk given (λ text. P (Ok (items text))) → IfErr given (λ r. P (Err r)) →
    IfOk given (λ text. EndsWith (items text) sink s) → IfErr given (λ r. EndsRefused r sink s) → Ends asked source sink disk s
ends_by items asked command source sink disk s given P same move has is done end =
    let both = both_given items given P (Gives (Some command) source disk) move has is in
    ends_given items asked command source sink disk s given same both.0 both.1 done end

true_file : (file : List ℕ) → IsTrueFile file
true_file file w rs whole stands agrees = true_book w (content_in rs) whole agrees

pub gives_make : (rounds : ℕ) (source : Change) (disk : DiskChange) (o : Outcome) → IsUntouched source → source.faults_old ≤ source.faults_new →
    disk.faults_old ≤ disk.faults_new → GivesMade rounds o → Gives (Some (commands.Make rounds)) source disk o
gives_make rounds source disk o left same calm gives = record {
  said = said_by source.old;
  file = disk.seen;
  input = said_is source.old;
  held = λ _. refl;
  is = elim gives as (λ _. IsFree (Some (commands.Make rounds)) source disk o
      ⊎ Comes (Some (commands.Make rounds)) (said_by source.old) disk.seen o) [ inl h ↦ inl (inr (inr h)) | inr h ↦ inr h ];
  draws = record { unread = λ _. left; took = λ e. absurd cc; never_falls = same };
  disk_never_falls = calm;
  truth = λ _. tt;
}

pub gives_capture : (source : Change) (disk : DiskChange) (o : Outcome) → disk.faults_old ≤ disk.faults_new → GivesOfText Captures source o →
    Gives (Some commands.Capture) source disk o
gives_capture source disk o calm gives = given_text commands.Capture Captures source disk o refl (λ said is. is) (λ said is. is) calm gives

pub gives_list : (source : Change) (disk : DiskChange) (o : Outcome) → IsUntouched source → source.faults_old ≤ source.faults_new → GivesOfFile Lists disk o →
    Gives (Some commands.List) source disk o
gives_list source disk o left same gives =
    given_file commands.List Lists source disk o refl refl (λ said file is. is) (λ said file. true_file file) left same gives

pub gives_rebuild : (s e : ℕ) (source : Change) (disk : DiskChange) (o : Outcome) → IsUntouched source → source.faults_old ≤ source.faults_new →
    GivesOfFile (Rebuilds s e) disk o → Gives (Some (commands.Rebuild s e)) source disk o
gives_rebuild s e source disk o left same gives =
    given_file (commands.Rebuild s e) (Rebuilds s e) source disk o refl refl (λ said file is. is) (λ said file. true_file file) left same gives
