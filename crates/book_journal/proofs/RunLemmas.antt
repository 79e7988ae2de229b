-- What a journal's calls leave, and that they keep every run.
use Rattle.std.proofs.Common.{◌≡◌, ◌⊎◌, inl, inr, ⊎_elim, ℕ, ◌+◌, ◌<◌, ◌≤◌, List, [], ◌∷◌, ◌++◌, length, take, drop, Option, None, Result}
use Rattle.std.proofs.Common.{Ok, Err, refl, sym, ◌∙◌, ap, subst, arith, append_assoc, length-append}
use Rattle.std.proofs.lemmas.List.{append-nil, map-append}
use mathlib.Core.List.{IsPrefix}
use Rattle.lg_model.specs.Placing.{Shape}
use Rattle.lg_model.specs.Columns.{dims_of}
use Rattle.sketchlet_wire.specs.Uploads.{UploadData}
use Rattle.column_book.specs.declared.entry.Entry.{Entry}
use Rattle.column_book.specs.Entries.{records}
use Rattle.column_book.specs.Applying.{stored_entry}
use Rattle.book_file.specs.Between.{IsBetween}
use Rattle.book_file.specs.File.{body, front, AreRecords, Spells, StandsFor}
use Rattle.book_file.specs.Found.{count_of}
use Rattle.book_file.proofs.Stepping.{front_push}
use Rattle.book_journal.specs.declared.applied.Applied.{Applied}
use Rattle.book_journal.specs.declared.applied.Applied.TheVariants.{Stored}
use Rattle.book_journal.specs.declared.applied.ApplyFault.{ApplyFault}
use Rattle.book_journal.specs.declared.applied.ApplyFault.TheVariants.{DiskFault}
use Rattle.book_journal.specs.Applying.{Answers, Applies, HasNew, IsBefore, IsAfter, IsDuring, IsThen, with_entry, broken}
use Rattle.book_journal.specs.Crashes.{IsSynced, Leaves, Appending}
use Rattle.book_journal.specs.Runs.{JournalState, Start, IsRun, IsSettled, IsSound, start_of, with_fault}
use Rattle.book_journal.proofs.CrashLemmas.{widen}
use Rattle.book_journal.proofs.FileLemmas.{inside, before_or_after, with_it}
use Rattle.book_journal.proofs.StoredLemmas.{records_push}

-- ---- lists and files between two lists

prefix_push : {X : Type 0} (a b : List X) (x : X) → IsPrefix a b → IsPrefix a (b ++ x ∷ [])
prefix_push {X = X} a b x p = (p.0 ++ x ∷ [], sym (append_assoc a p.0 (x ∷ [])) ∙ ap (λ (l : List X). l ++ x ∷ []) p.1)

records_prefix : (a b : List Entry) → IsPrefix a b → IsPrefix (records a) (records b)
records_prefix a b p = (records p.0, sym (map-append (λ (e : Entry). e.stored) a p.0) ∙ ap records p.1)

wider : (shape : Shape) (least most : List UploadData) (r : UploadData) (c : List ℕ) → IsBetween (StandsFor shape) least most c
    → IsBetween (StandsFor shape) least (most ++ r ∷ []) c
wider shape least most r c b = record { list = b.list; is = b.is; begins = b.begins; ends = prefix_push b.list most r b.ends }

placed : (shape : Shape) (least rs : List UploadData) (r : UploadData) (c : List ℕ) → IsPrefix least rs
    → StandsFor shape rs c ⊎ StandsFor shape
    (rs ++ r ∷ []) c → IsBetween (StandsFor shape) least (rs ++ r ∷ []) c
placed shape least rs r c p (inl stands) = record { list = rs; is = stands; begins = p; ends = (r ∷ [], refl) }
placed shape least rs r c p (inr stands) = record {
  list = rs ++ r ∷ [];
  is = stands;
  begins = prefix_push least rs r p;
  ends = (
    [],
    append-nil
        (rs ++ r ∷ []),
  );
}

whole_list : (es : List Entry) (fault : Option Entry) → fault ≡ None → with_fault es fault ≡ es
whole_list es fault whole = ap (with_fault es) whole

module _ {D : Type 0} (honest : D → Type 0) (seen : D → List ℕ) (images : D → List ℕ → Type 0) (moment : D → ℕ)
    (since : D → ℕ → List ℕ → Type 0) where
  settled_before : (j : JournalState D) (c : List ℕ) → IsSettled honest seen images j → c ≡ seen j.disk → IsBefore j c
  settled_before j c s same = inr (subst (λ (f : List ℕ). Spells j.shape (records j.entries) f) (sym same) s.spells)

  module _ (only_now : (d : D) (c : List ℕ) → honest d → since d (moment d) c → images d c) where
    -- ---- a run begins at a journal that no call of the disk failed

    pub run_start : (j : JournalState D) → honest j.disk → j.fault ≡ None → IsSettled honest seen images j
        → IsRun honest seen images moment since
        (start_of seen moment j) j
    run_start j told whole s = record {
      told = told;
      early = omega arith;
      begins = ([], append-nil j.entries);
      each = λ c k. here c (s.synced.only c (only_now j.disk c told k));
      before = λ t c le k. inl k;
      now = λ c image. inl (settled_before j c s (s.synced.only c image));
      reads = λ none same. refl;
    }
      where
        here : (c : List ℕ) → c ≡ seen j.disk → IsBetween (StandsFor j.shape) (records j.entries) (records (with_fault j.entries j.fault)) c
        here c same = record {
          list = records j.entries;
          is = settled_before j c s same;
          begins = ([], append-nil (records j.entries));
          ends = ([], append-nil (records j.entries) ∙ ap records (sym (whole_list j.entries j.fault whole)));
        }

    -- ---- a call that changes nothing

    stays : (P : List ℕ → Type 0) (d : D) → honest d → ((c : List ℕ) → images d c → P c) → Leaves moment since P d d
    stays P d told p = record { later = omega arith; each = λ c k. p c (only_now d c told k); before = λ t c le k. inl k }

    pub does_nothing : (pass : ℕ) (u : UploadData) (end : ℕ) (v old new : JournalState D) (r : Result Applied ApplyFault)
        → IsSound honest seen images end v → v ≡ old → new ≡ old
        → Answers pass u old new r → ((c : List ℕ) → IsBefore old c → IsDuring pass u old r c)
        → ((c : List ℕ) → IsBefore old c → IsThen pass u old r c)
        → Applies honest seen images moment since pass u old new r
    does_nothing pass u end v old new r sound is same answers during then = record {
      answers = answers;
      crash = λ told whole.
          let s = here.settled whole told in
          subst (λ (j : JournalState D). Leaves moment since (IsDuring pass u old r) old.disk j.disk) (sym same)
          (stays (IsDuring pass u old r) old.disk told (λ c image. during c (settled_before old c s (s.synced.only c image))));
      now = λ told whole c image.
          let s = here.settled whole told in
          then c (settled_before old c s (s.synced.only c (subst (λ (j : JournalState D). images j.disk c) same image)));
      runs = λ start run. subst (IsRun honest seen images moment since start) (sym same) run;
    }
      where
        here : IsSound honest seen images end old
        here = subst (IsSound honest seen images end) is sound

  -- ---- a call that stores a record

  module _ (counts_now : (d : D) (t : ℕ) (c : List ℕ) → honest d → t ≤ moment d → images d c → since d t c) (pass : ℕ) (u : UploadData)
      (v : JournalState D) (disk : D) (whole : v.fault ≡ None) where
    abbrev e : Entry
    e = stored_entry pass v.entries u

    abbrev After : List ℕ → Type 0
    After c = IsBefore v c ⊎ IsAfter pass u v c

    module _ (start : Start D) (run : IsRun honest seen images moment since start v) (told : honest disk)
        (leaves : Leaves moment since After v.disk disk) where
      abbrev Between : List ℕ → Type 0
      Between c = IsBetween (StandsFor v.shape) (records start.entries) (records v.entries ++ e.stored ∷ []) c

      was_between : (c : List ℕ) → IsBetween (StandsFor v.shape) (records start.entries) (records (with_fault v.entries v.fault)) c
          → Between c
      was_between c b = wider v.shape (records start.entries) (records v.entries) e.stored c
          (subst (λ (l : List Entry). IsBetween (StandsFor v.shape) (records start.entries) (records l) c)
          (whole_list v.entries v.fault whole) b)

      now_between : (c : List ℕ) → After c → Between c
      now_between c x = placed v.shape (records start.entries) (records v.entries) e.stored c
          (records_prefix start.entries v.entries run.begins)
          (⊎_elim (λ a. inl a) (λ b. inr (subst (λ (l : List UploadData). StandsFor v.shape l c) (records_push v.entries e) b)) x)

      each_file : (c : List ℕ) → since disk start.moment c → Between c
      each_file c k = ⊎_elim (λ was. was_between c (run.each c was)) (λ here. now_between c here) (leaves.before start.moment c run.early k)

      earlier : (t : ℕ) (c : List ℕ) → t ≤ start.moment → since disk t c → since start.disk t c ⊎ Between c
      earlier t c le k = ⊎_elim
          (λ was. ⊎_elim (λ older. inl older) (λ b. inr (was_between c b)) (run.before t c le was))
          (λ here. inr (now_between c here))
          (leaves.before t c (omega (arith, le, run.early)) k)

      run_with : (j : JournalState D) → j.shape ≡ v.shape → with_fault j.entries j.fault ≡ v.entries ++ e ∷ [] → (c : List ℕ) → Between c
          → IsBetween (StandsFor j.shape) (records start.entries) (records (with_fault j.entries j.fault)) c
      run_with j shape adds c b =
          subst (λ (s : Shape). IsBetween (StandsFor s) (records start.entries) (records (with_fault j.entries j.fault)) c) (sym shape)
          (subst (λ (l : List UploadData). IsBetween (StandsFor v.shape) (records start.entries) l c)
          (sym (ap records adds ∙ records_push v.entries e)) b)

      pub run_stored : ((c : List ℕ) → images disk c → IsAfter pass u v c)
          → IsRun honest seen images moment since start (with_entry pass u disk v)
      run_stored after =
          let next = run_with (with_entry pass u disk v) refl (whole_list (v.entries ++ e ∷ []) v.fault whole) in
          record {
            told = told;
            early = omega (arith, run.early, leaves.later);
            begins = prefix_push start.entries v.entries e run.begins;
            each = λ c k. next c (each_file c k);
            before = λ t c le k. ⊎_elim (λ older. inl older) (λ b. inr (next c b)) (earlier t c le k);
            now = λ c image. inl (after c image);
            reads = λ none same. absurd (omega (
              arith,
              ap length same,
              ap length run.begins.1,
              length-append v.entries
                  (e ∷ []),
              length-append start.entries run.begins.0,
            ));
          }

      pub run_broken : IsRun honest seen images moment since start (broken pass u disk v)
      run_broken =
          let next = run_with (broken pass u disk v) refl refl in
          record {
            told = told;
            early = omega (arith, run.early, leaves.later);
            begins = run.begins;
            each = λ c k. next c (each_file c k);
            before = λ t c le k. ⊎_elim (λ older. inl older) (λ b. inr (next c b)) (earlier t c le k);
            now = λ c image. leaves.each c (counts_now disk (moment v.disk) c told leaves.later image);
            reads = λ none same. cc;
          }

    module _ (end : ℕ) (put : List ℕ) (sound : IsSound honest seen images end v) (well : AreRecords (dims_of v.shape)
        (records v.entries ++ e.stored ∷ [])) (puts : put ≡ body e.stored ++ 0 ∷ []) where
      spelled : honest v.disk → Spells v.shape (records v.entries) (seen v.disk)
      spelled told = (sound.settled whole told).spells

      pub within : honest v.disk → end < length (seen v.disk)
      within told = inside v.shape (records v.entries) e.stored end sound.placed.place well (seen v.disk) (spelled told)

      module _ (crash : IsSynced honest seen images v.disk → end < length (seen v.disk) → Leaves moment since (Appending
          (seen v.disk) end put) v.disk disk) where
        pub leaves_either : honest v.disk → Leaves moment since After v.disk disk
        leaves_either told =
            widen moment since (Appending (seen v.disk) end put) After v.disk disk (crash (sound.settled whole told).synced (within told))
            (λ c p. ⊎_elim (λ a. inl a) (λ b. inr
            (subst (λ (l : List UploadData). StandsFor v.shape l c) (sym (records_push v.entries e)) b))
            (before_or_after v.shape (records v.entries) e.stored end sound.placed.place well (seen v.disk) (spelled told) c (subst (λ
            (l : List ℕ). Appending (seen v.disk) end l c) puts p)))

        module _ (still : honest v.disk → honest disk) (was : honest disk → honest v.disk) (new_is : HasNew pass u v) where
          pub does_fail : Applies honest seen images moment since pass u v (broken pass u disk v) (Err DiskFault)
          does_fail = record {
            answers = (new_is, refl);
            crash = λ told none. leaves_either told;
            now = λ told none c image. let l = leaves_either told in
                l.each c (counts_now disk (moment v.disk) c (still told) l.later image);
            runs = λ start run. run_broken start run (still run.told) (leaves_either run.told);
          }

          pub sound_broken : IsSound honest seen images end (broken pass u disk v)
          sound_broken = record { placed = sound.placed; settled = λ none told. absurd (cc) }

          module _ (synced : IsSynced honest seen images v.disk → IsSynced honest seen images disk)
              (writes : IsSynced honest seen images v.disk → end < length (seen v.disk)
              → seen disk ≡ take end (seen v.disk) ++ 1 ∷ put ++ drop
              (end + 1 + length put) (seen v.disk)) where
            spells_after : honest v.disk → Spells v.shape (records (v.entries ++ e ∷ [])) (seen disk)
            spells_after told =
                subst (λ (l : List UploadData). Spells v.shape l (seen disk)) (sym (records_push v.entries e))
                (with_it v.shape (records v.entries) e.stored end sound.placed.place well (seen v.disk) (spelled told) 1 (seen disk)
                (writes (sound.settled whole told).synced (within told)
                ∙ ap (λ (l : List ℕ). take end (seen v.disk) ++ 1 ∷ l ++ drop (end + 1 + length l)
                (seen v.disk)) puts) refl)

            after_now : honest v.disk → (c : List ℕ) → images disk c → IsAfter pass u v c
            after_now told c image =
                inr (subst (λ (l : List ℕ). Spells v.shape (records (v.entries ++ e ∷ [])) l) (sym ((synced
                (sound.settled whole told).synced).only c image)) (spells_after told))

            pub does_store : (p : ℕ) → p ≡ length v.entries → Applies honest seen images moment since pass u v (with_entry pass u disk v)
                (Ok (Stored p))
            does_store p place = record {
              answers = (new_is, place, refl);
              crash = λ told none. leaves_either told;
              now = λ told none. after_now told;
              runs = λ start run. run_stored start run (still run.told) (leaves_either run.told) (after_now run.told);
            }

            pub sound_stored : (len : ℕ) → len ≡ length put → count_of (records v.entries ++ e.stored ∷ []) ≤ v.room
                → IsSound honest seen images
                (end + len) (with_entry pass u disk v)
            sound_stored len size few = record {
              placed = record {
                shape_fits = sound.placed.shape_fits;
                records_fit = subst (AreRecords (dims_of v.shape)) (sym (records_push v.entries e)) well;
                few = omega (arith, few, ap count_of (records_push v.entries e));
                small = sound.placed.small;
                place = omega (
                  arith,
                  sound.placed.place,
                  size,
                  ap length puts,
                  ap length (ap (front v.shape) (records_push v.entries e)),
                  ap length (front_push v.shape (records v.entries) e.stored),
                  length-append (front v.shape (records v.entries)) (1 ∷ body e.stored),
                  length-append (body e.stored) (0 ∷ []),
                );
              };
              settled = λ none told. let before = was told in record {
                synced = synced (sound.settled whole before).synced;
                spells = spells_after before;
              };
            }
