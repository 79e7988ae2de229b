-- A call comes to one outcome at most.
use Rattle.std.specs.Prelude.{◌≡◌, ℕ, List, Option, None, Some, IsSomeAnd, Result, Ok, Err}
use Rattle.std.proofs.Common.{refl, sym, ap, ◌∙◌, subst, arith, inl, inr}
use Rattle.lg_model.specs.declared.column.Bucket.{Bucket}
use Rattle.lg_model.specs.Placing.{Shape}
use Rattle.lg_model.specs.Scenario.{Scenario}
use Rattle.lg_model.specs.Columns.{Cells, dims_of}
use Rattle.lg_model.specs.Sketch.{bucket_in, bucket_at}
use Rattle.lg_model.specs.Answer.{look_in}
use Rattle.sketchlet_wire.specs.Uploads.{UploadData}
use Rattle.sumax_sketch.specs.SketchState.{SketchState}
use Rattle.scenario_text.specs.Text.{Fault}
use Rattle.column_book.specs.declared.book.TheConstants.{ROOM}
use Rattle.column_book.specs.Entries.{content_in}
use Rattle.flow_query.specs.Rebuilt.{IsRebuilt}
use Rattle.run_laws.proofs.Agreeing.{one_table}
use Rattle.report_text.specs.Report.{report}
use Rattle.book_file.specs.declared.found.OpenFault.{OpenFault}
use Rattle.book_file.specs.declared.found.OpenFault.TheVariants as faults
use Rattle.book_file.specs.declared.found.Found.{Found}
use Rattle.book_file.specs.declared.found.Found.TheVariants.{Blank}
use Rattle.book_file.specs.File.{IsBlank, StandsFor}
use Rattle.book_file.specs.Found.{Suits, Finds}
use Rattle.book_file.proofs.Law.{law, blank_law, not_blank}
use Rattle.book_file.proofs.OneAnswer.{one_answer}
use Rattle.book_file.proofs.Complete.{whole_law}
use Rattle.guardian_words.specs.declared.commands.Command.TheVariants as commands
use Rattle.guardian_run.specs.declared.refusal.Refusal.{Refusal}
use Rattle.guardian_run.specs.declared.refusal.Refusal.TheVariants as refusals
use Rattle.guardian_run.specs.Refusals.{file_refusal}
use Rattle.guardian_run.specs.Outputs.{list_of, sketch_of}
use Rattle.guardian_run.specs.Outcomes.{Outcome, HasRecords, HasFault, Asks, Lists, IsRebuilding, IsMissing, IsUnbuilt, Rebuilds, WithScenario}
use Rattle.guardian_run.specs.Outcomes.{LawOfOutcomes, known_in}

-- ---- a refused file

-- the fault of the file that a refusal tells
record FaultOf (asked : Option Shape) (file : List ℕ) (refusal : Refusal) : Type 0 where
  fault : OpenFault
  finds : Finds asked ROOM file (Err fault)
  told : fault ≡ faults.Memory → ⊥
  is : refusal ≡ file_refusal fault

fault_of : (asked : Option Shape) (file : List ℕ) (refusal : Refusal) → HasFault asked file refusal → FaultOf asked file refusal
fault_of asked file refusals.NotAJournal has = record { fault = faults.NotAJournal; finds = has; told = λ e. cc; is = refl }
fault_of asked file (refusals.WrongShape kept other) has = record { fault = faults.WrongShape kept other; finds = has; told = λ e. cc; is = refl }
fault_of asked file (refusals.Damaged at) has = record { fault = faults.Damaged at; finds = has; told = λ e. cc; is = refl }
fault_of asked file (refusals.Full held more) has = record { fault = faults.Full held more; finds = has; told = λ e. cc; is = refl }
fault_of asked file refusals.BadWords has = absurd has
fault_of asked file (refusals.BadScenario n why) has = absurd has
fault_of asked file refusals.ReadFault has = absurd has
fault_of asked file refusals.DiskFault has = absurd has
fault_of asked file refusals.Memory has = absurd has
fault_of asked file (refusals.Missing s e known width) has = absurd has
fault_of asked file refusals.Blank has = absurd has

abbrev failing : OpenFault → Result Found OpenFault
failing f = Err f

one_error : (f g : OpenFault) → failing f ≡ failing g → f ≡ g
one_error f g same = cc

one_fault : (asked : Option Shape) (file : List ℕ) (r q : Refusal) → HasFault asked file r → HasFault asked file q → r ≡ q
one_fault asked file r q this that =
    let a = fault_of asked file r this in
    let b = fault_of asked file q that in
    let same = one_answer asked ROOM file (Err a.fault) (Err b.fault) a.finds b.finds (λ e. a.told (one_error a.fault faults.Memory e))
    (λ e. b.told (one_error b.fault faults.Memory e)) in
    a.is ∙ ap file_refusal (one_error a.fault b.fault same) ∙ sym b.is

pub no_fault : (asked : Option Shape) (file : List ℕ) (shape : Shape) (rs : List UploadData) (r : Refusal) → Suits asked shape → HasRecords file shape rs →
    HasFault asked file r → ⊥
no_fault asked file shape rs r suits has this =
    let a = fault_of asked file r this in
    a.told (whole_law asked ROOM file shape rs a.fault suits has.stands has.few a.finds)

no_blank_fault : (file : List ℕ) (r : Refusal) → IsBlank file → HasFault None file r → ⊥
no_blank_fault file r blank this =
    let a = fault_of None file r this in
    let same : Ok Blank ≡ Err a.fault = one_answer None ROOM file (Ok Blank) (Err a.fault) blank a.finds (λ e. cc)
    (λ e. a.told (one_error a.fault faults.Memory e)) in
    absurd (cc same)

-- ---- a file with records

one_list : (file : List ℕ) (shape : Shape) (L M : List UploadData) → StandsFor shape L file → StandsFor shape M file → L ≡ M
one_list file shape L M (inl blank) that = blank.1 ∙ sym (blank_law file shape M blank.0 that)
one_list file shape L M (inr a) that = (law file shape shape L M (not_blank file shape L a) (inr a) that).1

one_listing : (file : List ℕ) (s t : Shape) (L M : List UploadData) → StandsFor s L file → StandsFor t M file →
    list_of (dims_of s) (content_in L) ≡ list_of (dims_of t) (content_in M)
one_listing file s t L M (inl blank) that =
    ap (λ (l : List UploadData). list_of (dims_of s) (content_in l)) blank.1
    ∙ ap (λ (l : List UploadData). list_of (dims_of t) (content_in l)) (sym (blank_law file t M blank.0 that))
one_listing file s t L M (inr a) that =
    let same = law file s t L M (not_blank file s L a) (inr a) that in
    λ j. list_of (dims_of (same.0 j)) (content_in (same.1 j))

-- ---- rebuilt sketches

some_same : (o : Option Cells) (a b : Bucket) (f : Cells → Bucket) → IsSomeAnd o (λ v. a ≡ f v) → IsSomeAnd o (λ v. b ≡ f v) → a ≡ b
some_same None a b f this that = absurd this
some_same (Some v) a b f this that = this ∙ sym that

one_sketch : (rs : List UploadData) (shape : Shape) (s e : ℕ) (x y : SketchState) → IsRebuilt (look_in (content_in rs)) shape s e x →
    IsRebuilt (look_in (content_in rs)) shape s e y → x ≡ y
one_sketch rs shape s e x y this that =
    let tables = one_table shape x.table y.table this.table that.table
    (λ i j low under. some_same (look_in (content_in rs) s e j) (bucket_at x.table i j) (bucket_at y.table i j) (λ (v : Cells). bucket_in v.buckets i)
    (this.buckets i j low under) (that.buckets i j low under)) in
    let shapes = this.same ∙ sym that.same in
    λ j. record { shape = shapes j; table = tables j }

one_rebuilding : (s e : ℕ) (file a b : List ℕ) → IsRebuilding s e file a → IsRebuilding s e file b → a ≡ b
one_rebuilding s e file a b this that =
    let same = law file this.shape that.shape this.rs that.rs this.written this.has.stands that.has.stands in
    let moved : IsRebuilt (look_in (content_in this.rs)) this.shape s e that.sketch =
    subst (λ (x : Shape). IsRebuilt (look_in (content_in this.rs)) x s e that.sketch) (sym same.0)
    (subst (λ (l : List UploadData). IsRebuilt (look_in (content_in l)) that.shape s e that.sketch) (sym same.1) that.rebuilt) in
    this.is ∙ ap (sketch_of s e) (one_sketch this.rs this.shape s e this.sketch that.sketch this.rebuilt moved) ∙ sym that.is

built_or_missing : (s e : ℕ) (file text : List ℕ) (known width : ℕ) → IsRebuilding s e file text → IsMissing s e file known width → ⊥
built_or_missing s e file text known width this that =
    let same = law file this.shape that.shape this.rs that.rs this.written this.has.stands that.has.stands in
    let all : known ≡ width = that.known_is ∙ ap (λ (l : List UploadData). known_in l s e) (sym same.1) ∙ this.all
    ∙ ap (λ (x : Shape). x.width) same.0 ∙ sym that.width_is in
    absurd (omega (arith, all, that.few))

one_missing : (s e : ℕ) (file : List ℕ) (k w l x : ℕ) → IsMissing s e file k w → IsMissing s e file l x → (k ≡ l) × (w ≡ x)
one_missing s e file k w l x this that =
    let same = law file this.shape that.shape this.rs that.rs this.written this.has.stands that.has.stands in (
      this.known_is ∙ ap (λ (rs : List UploadData). known_in rs s e) same.1 ∙ sym that.known_is,
      this.width_is ∙ ap (λ (y : Shape). y.width) same.0 ∙ sym that.width_is,
    )

-- a sketch is not rebuilt since columns are missing, or since the file is blank, or since it has a fault
data Unbuilt (s e : ℕ) (file : List ℕ) : Refusal → Type 0 where
  missing : (known width : ℕ) → IsMissing s e file known width → Unbuilt s e file (refusals.Missing s e known width)
  blank : IsBlank file → Unbuilt s e file refusals.Blank
  faulty : (r : Refusal) → HasFault None file r → Unbuilt s e file r

unbuilt : (s e : ℕ) (file : List ℕ) (r : Refusal) → IsUnbuilt s e file r → Unbuilt s e file r
unbuilt s e file (refusals.Missing switch epoch known width) is =
    subst (λ n. Unbuilt s e file (refusals.Missing n epoch known width)) (sym is.0)
    (subst (λ n. Unbuilt s e file (refusals.Missing s n known width)) (sym is.1) (missing known width is.2))
unbuilt s e file refusals.Blank is = blank is
unbuilt s e file refusals.NotAJournal is = faulty refusals.NotAJournal is
unbuilt s e file (refusals.Damaged at) is = faulty (refusals.Damaged at) is
unbuilt s e file (refusals.Full held more) is = faulty (refusals.Full held more) is
unbuilt s e file (refusals.WrongShape kept other) is = absurd is
unbuilt s e file refusals.BadWords is = absurd is
unbuilt s e file (refusals.BadScenario n why) is = absurd is
unbuilt s e file refusals.ReadFault is = absurd is
unbuilt s e file refusals.DiskFault is = absurd is
unbuilt s e file refusals.Memory is = absurd is

one_unbuilt : (s e : ℕ) (file : List ℕ) (r q : Refusal) → Unbuilt s e file r → Unbuilt s e file q → r ≡ q
one_unbuilt s e file r q (missing k w this) (missing l x that) =
    let same = one_missing s e file k w l x this that in λ j. refusals.Missing s e (same.0 j) (same.1 j)
one_unbuilt s e file r q (missing k w this) (blank that) = absurd (this.written that)
one_unbuilt s e file r q (missing k w this) (faulty f that) = absurd (no_fault None file this.shape this.rs f tt this.has that)
one_unbuilt s e file r q (blank this) (missing l x that) = absurd (that.written this)
one_unbuilt s e file r q (blank this) (blank that) = refl
one_unbuilt s e file r q (blank this) (faulty f that) = absurd (no_blank_fault file f this that)
one_unbuilt s e file r q (faulty f this) (missing l x that) = absurd (no_fault None file that.shape that.rs f tt that.has this)
one_unbuilt s e file r q (faulty f this) (blank that) = absurd (no_blank_fault file f that this)
one_unbuilt s e file r q (faulty f this) (faulty g that) = one_fault None file f g this that

never_built : (s e : ℕ) (file text : List ℕ) (r : Refusal) → IsRebuilding s e file text → Unbuilt s e file r → ⊥
never_built s e file text r this (missing k w that) = built_or_missing s e file text k w this that
never_built s e file text r this (blank that) = this.written that
never_built s e file text r this (faulty f that) = no_fault None file this.shape this.rs f tt this.has that

-- ---- command by command

one_ask : (file : List ℕ) (w : Scenario) (a b : Outcome) → Asks file w a → Asks file w b → a ≡ b
one_ask file w (Ok x) (Ok y) this that =
    ap (λ (t : List ℕ). Ok t) (this.is
    ∙ ap (λ (rs : List UploadData). report (content_in rs) w) (one_list file w.shape this.rs that.rs this.has.stands that.has.stands)
    ∙ sym that.is)
one_ask file w (Ok x) (Err q) this that = absurd (no_fault (Some w.shape) file w.shape this.rs q refl this.has that)
one_ask file w (Err r) (Ok y) this that = absurd (no_fault (Some w.shape) file w.shape that.rs r refl that.has this)
one_ask file w (Err r) (Err q) this that = ap (λ (x : Refusal). Err x) (one_fault (Some w.shape) file r q this that)

one_list_outcome : (file : List ℕ) (a b : Outcome) → Lists file a → Lists file b → a ≡ b
one_list_outcome file (Ok x) (Ok y) this that =
    ap (λ (t : List ℕ). Ok t) (this.is ∙ one_listing file this.shape that.shape this.rs that.rs this.has.stands that.has.stands ∙ sym that.is)
one_list_outcome file (Ok x) (Err q) this that = absurd (no_fault None file this.shape this.rs q tt this.has that)
one_list_outcome file (Err r) (Ok y) this that = absurd (no_fault None file that.shape that.rs r tt that.has this)
one_list_outcome file (Err r) (Err q) this that = ap (λ (x : Refusal). Err x) (one_fault None file r q this that)

one_rebuild : (s e : ℕ) (file : List ℕ) (a b : Outcome) → Rebuilds s e file a → Rebuilds s e file b → a ≡ b
one_rebuild s e file (Ok x) (Ok y) this that = ap (λ (t : List ℕ). Ok t) (one_rebuilding s e file x y this that)
one_rebuild s e file (Ok x) (Err q) this that = absurd (never_built s e file x q this (unbuilt s e file q that))
one_rebuild s e file (Err r) (Ok y) this that = absurd (never_built s e file y r that (unbuilt s e file r this))
one_rebuild s e file (Err r) (Err q) this that =
    ap (λ (x : Refusal). Err x) (one_unbuilt s e file r q (unbuilt s e file r this) (unbuilt s e file q that))

one_of_text : (next : Scenario → Outcome → Type 0) (said : Result Scenario Fault) (a b : Outcome) →
    ((w : Scenario) (x y : Outcome) → next w x → next w y → x ≡ y) → WithScenario next said a → WithScenario next said b → a ≡ b
one_of_text next (Ok w) a b one this that = one w a b this.1 that.1
one_of_text next (Err (n, why)) a b one this that = this ∙ sym that

pub one_outcome : LawOfOutcomes
one_outcome None said file a b this that = this ∙ sym that
one_outcome (Some commands.Run) said file a b this that = absurd this
one_outcome (Some (commands.Demo n)) said file a b this that = absurd this
one_outcome (Some commands.Capture) said file a b this that = one_of_text _ said a b (λ w x y p q. p ∙ sym q) this that
one_outcome (Some commands.Ask) said file a b this that = one_of_text (Asks file) said a b (one_ask file) this that
one_outcome (Some commands.List) said file a b this that = one_list_outcome file a b this that
one_outcome (Some (commands.Rebuild s e)) said file a b this that = one_rebuild s e file a b this that
one_outcome (Some (commands.Make n)) said file a b this that = this ∙ sym that
