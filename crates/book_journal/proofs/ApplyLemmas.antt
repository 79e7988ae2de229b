-- What an apply does, by the fields of the journal.
use Rattle.std.proofs.Common.{◌≡◌, ℕ, ◌+◌, ◌<◌, ◌≤◌, ◌^◌, Bool, false, List, [], ◌∷◌, ◌++◌, length, take, drop, map, Option, None, Some}
use Rattle.std.proofs.Common.{Result, Ok, Err, refl, sym, ◌∙◌, ap, subst}
use Rattle.std.specs.Prelude.{IsErrAnd, is_some, filter}
use Rattle.std.specs.Option.{option_map}
use Rattle.lg_model.specs.Columns.{Column, dims_of}
use Rattle.sketchlet_wire.specs.Uploads.{UploadData, IsFull, upload_of}
use Rattle.column_book.specs.declared.entry.Entry.{Entry}
use Rattle.column_book.specs.Entries.{BookState, records, content}
use Rattle.column_book.specs.Applying.{is_new, mask_of, decide, checked, stored_entry}
use Rattle.column_book.proofs.Applying.{checked_ok}
use Rattle.column_book.proofs.Applying as applying
use Rattle.book_file.specs.File.{body, AreRecords}
use Rattle.book_journal.specs.declared.applied.Applied.{Applied}
use Rattle.book_journal.specs.declared.applied.Applied.TheVariants.{Stored, Known}
use Rattle.book_journal.specs.declared.applied.ApplyFault.{ApplyFault}
use Rattle.book_journal.specs.declared.applied.ApplyFault.TheVariants.{Memory, DiskFault}
use Rattle.book_journal.specs.declared.attempt.Attempt.{Attempt}
use Rattle.book_journal.specs.Applying.{Applies, ComesTo, HasNew, with_entry, broken}
use Rattle.book_journal.specs.Crashes.{IsSynced, Leaves, Appending}
use Rattle.book_journal.specs.Kept.{entry_of, state_of}
use Rattle.book_journal.specs.Runs.{JournalState, IsSound}
use Rattle.book_journal.proofs.RunLemmas.{does_nothing, does_fail, does_store, sound_stored}
use Rattle.book_journal.proofs.StoredLemmas as stored

none_of : (es : List Entry) (f : Option Attempt) → is_some f ≡ false → option_map (entry_of es) f ≡ None
none_of es None h = refl
none_of es (Some a) h = absurd (cc)

err_is : (r : Result Applied ApplyFault) (f : ApplyFault) → IsErrAnd r (λ (x : ApplyFault). x ≡ f) → r ≡ Err f
err_is (Ok a) f h = absurd h
err_is (Err e) f h = ap (λ (x : ApplyFault). Err x) h

module _ {D : Type 0} (honest : D → Type 0) (seen : D → List ℕ) (images : D → List ℕ → Type 0) (moment : D → ℕ)
    (since : D → ℕ → List ℕ → Type 0)
    (pass : ℕ) (u : UploadData) (disk : D) (b : BookState) (fault : Option Attempt) (end : ℕ) (old : JournalState D)
    (sound : IsSound honest seen images end (state_of disk b fault)) (is : state_of disk b fault ≡ old)
    (mask : ℕ) (whole : is_some fault ≡ false) (check : Ok mask ≡ checked b.shape b.room (records b.entries) u) where
  abbrev v : JournalState D
  v = state_of disk b fault

  pub does_know : (only_now : (d : D) (c : List ℕ) → honest d → since d (moment d) c → images d c) → mask ≡ 0
      → Applies honest seen images moment since pass u old old (Ok Known)
  does_know only_now none =
      let known : decide b.shape b.room (records b.entries) u ≡ Ok [] =
      ((applying.law b.shape b.room b.entries pass u).known (sym check ∙ ap (λ
      (m : ℕ). Ok m) none)).0 in
      let comes : ComesTo u v (Ok []) = record { whole = none_of b.entries fault whole; decides = known } in
      does_nothing honest seen images moment since only_now pass u end v old old (Ok Known) sound is refl (
        subst (λ (j : JournalState D). ComesTo u j
            (Ok [])) is comes,
        refl,
      ) (λ c s. s) (λ c s. s)

  module _ (more : mask ≡ 0 → ⊥) where
    has_new : HasNew pass u v
    has_new = record {
      comes = record {
        whole = none_of b.entries fault whole;
        decides = stored.decides b.shape b.room b.entries pass u mask
            (sym check) more;
      };
      some = stored.some b.shape b.room b.entries pass u mask (sym check) more;
    }

    pub does_want : (only_now : (d : D) (c : List ℕ) → honest d → since d (moment d) c → images d c) (new : JournalState D) → new ≡ old →
        (r : Result Applied ApplyFault) → IsErrAnd r (λ (x : ApplyFault). x ≡ Memory)
        → Applies honest seen images moment since pass u old new r
    does_want only_now new same r h =
        subst (Applies honest seen images moment since pass u old new) (sym (err_is r Memory h))
        (does_nothing honest seen images moment since only_now pass u end v old new (Err Memory) sound is same
        (subst (HasNew pass u) is has_new, same)
        (λ c s. s) (λ c s. s))

    pub puts_of : (put : List ℕ) → ((p : Column → Bool) → mask ≡ mask_of (map p u.columns) → put ≡ body (upload_of u.host u.seq
        (filter p u.columns)) ++ 0 ∷ []) → put ≡ body (stored_entry pass b.entries u).stored ++ 0 ∷ []
    puts_of put writes = writes (is_new (content b.entries)) (sym (checked_ok b.shape b.room (records b.entries) u mask (sym check)).mask)

    module _ (full : IsFull u) (put : List ℕ) (puts : put ≡ body (stored_entry pass b.entries u).stored ++ 0 ∷ []) where
      well : AreRecords (dims_of b.shape) (records b.entries ++ (stored_entry pass b.entries u).stored ∷ [])
      well = stored.next b.shape b.room b.entries pass u mask (sym check) more full sound.placed.records_fit

      pub in_range : end + 1 + length put ≤ 2 ^ 40
      in_range = stored.in_range b.shape b.room b.entries pass u mask
          (sym check) more full sound.placed.records_fit end put sound.placed.place
          sound.placed.small sound.placed.shape_fits puts

      module _ (counts_now : (d : D) (t : ℕ) (c : List ℕ) → honest d → t ≤ moment d → images d c → since d t c) (next : D)
          (crash : IsSynced honest seen images disk → end < length (seen disk)
          → Leaves moment since (Appending (seen disk) end put) disk next)
          (still : honest disk → honest next) (was : honest next → honest disk) (held : BookState)
          (reserved : held ≡ record b { ready = held.ready }) where
        pub fails : (a : Attempt) → a.pass ≡ pass → a.upload.value ≡ u → (new : JournalState D) → new ≡ state_of next held (Some a) →
            (r : Result Applied ApplyFault) → IsErrAnd r (λ (x : ApplyFault). x ≡ DiskFault)
            → Applies honest seen images moment since pass u old new r
        fails a pass_is value_is new new_is r h =
            let one : state_of next held (Some a) ≡ broken pass u next v =
            ap (λ (x : BookState). state_of next x (Some a)) reserved ∙ (λ i. broken (pass_is i) (value_is i) next v) in
            let did = does_fail honest seen images moment since counts_now pass u v next
            (none_of b.entries fault whole) end put sound well puts crash
            still was has_new in
            subst (Applies honest seen images moment since pass u old new) (sym (err_is r DiskFault h))
            (subst (λ (j : JournalState D). Applies honest seen images moment since pass u j new (Err DiskFault)) is
            (subst (λ (j : JournalState D). Applies honest seen images moment since pass u v j (Err DiskFault)) (sym (new_is ∙ one)) did))

        module _ (synced : IsSynced honest seen images disk → IsSynced honest seen images next)
            (writes : IsSynced honest seen images disk → end < length (seen disk) → seen next ≡ take end (seen disk) ++ 1 ∷ put ++ drop
            (end + 1 + length put) (seen disk))
            (after : BookState) (added : after ≡ record held {
              ready = [];
              entries = held.entries ++ stored_entry pass held.entries u ∷ [];
            }) where
          next_is : state_of next after None ≡ with_entry pass u next v
          next_is =
              ap (λ (x : BookState). state_of next x None) added
              ∙ ap (λ (x : BookState). state_of next (record x { ready = []; entries = x.entries ++ stored_entry pass x.entries u ∷ [] })
              None) reserved
              ∙ ap (λ (f : Option Entry). record {
                shape = b.shape;
                room = b.room;
                entries = b.entries ++ stored_entry pass b.entries u ∷ [];
                fault = f;
                disk = next;
              }) (sym (none_of b.entries fault whole))

          pub stores : (new : JournalState D) → new ≡ state_of next after None → (p : ℕ) → p ≡ length held.entries
              → Applies honest seen images moment since pass u old new (Ok (Stored p))
          stores new new_is p place =
              let at : p ≡ length v.entries = place ∙ ap (λ (x : BookState). length x.entries) reserved in
              let did = does_store honest seen images moment since counts_now pass u v next
              (none_of b.entries fault whole) end put sound well puts crash
              still was has_new synced writes p at in
              subst (λ (j : JournalState D). Applies honest seen images moment since pass u j new (Ok (Stored p))) is
              (subst (λ (j : JournalState D). Applies honest seen images moment since pass u v j (Ok (Stored p)))
              (sym (new_is ∙ next_is)) did)

          pub sound_next : (len : ℕ) → len ≡ length put → IsSound honest seen images (end + len) (state_of next after None)
          sound_next len size =
              subst (IsSound honest seen images (end + len)) (sym next_is)
              (sound_stored honest seen images moment since counts_now pass u v next
              (none_of b.entries fault whole) end put sound well puts crash still
              was has_new synced writes len size
              (stored.few b.shape b.room b.entries pass u mask (sym check) more))
