-- What a legal list has.
use Rattle.std.specs.Prelude.{◌≡◌, ◌⊎◌, ℕ, suc, List, [], ◌∷◌, ◌++◌, take, All, Contains, Some}
use Rattle.std.specs.List.{slice_get}
use Rattle.std.proofs.Common.{refl, sym, ap, ◌∙◌, subst, inl, inr, append_assoc}
use Rattle.std.proofs.lemmas.List.{append-nil}
use Rattle.std.proofs.lemmas.List.Elements.{All-nil, All-append, All-contains, All-filter, All-same}
use Rattle.lg_model.specs.declared.column.Key.{Key}
use Rattle.lg_model.specs.Scenario.{Scenario}
use Rattle.lg_model.specs.Carrying.{picked}
use Rattle.lg_model.specs.Arriving.{brought_to_all}
use Rattle.lg_model.specs.Columns.{Cells}
use Rattle.lg_model.specs.Answer.{Content, found}
use Rattle.sketchlet_wire.specs.Uploads.{UploadData}
use Rattle.column_book.specs.declared.book.TheConstants.{ROOM}
use Rattle.column_book.specs.Entries.{columns_in, content_in}
use Rattle.column_book.specs.Applying.{is_new, new_columns}
use Rattle.column_book.proofs.Applying.{taken}
use Rattle.upload_world.specs.Pumps.{Has}
use Rattle.book_laws.specs.Legal.{Order, IsLegalNext, AreLegalNext, upload_at}
use Rattle.book_laws.specs.Keeping.{HasKeysOnce}
use Rattle.book_laws.proofs.Contents.{came_from, content-append, content_more, taken_in, taken_keeps, once_more}
use Rattle.book_laws.proofs.Uploads.{numbered_at, own_columns}

module _ (order : Order) (w : Scenario) where
  -- ---- one record

  -- its columns are the new ones of the upload
  pub are_new : (l : List UploadData) (r : UploadData) (is : IsLegalNext order w l r) → r.columns ≡ new_columns (content_in l) (upload_at w is.at r.seq).columns
  are_new l r is = (taken w.shape ROOM l (upload_at w is.at r.seq) r.columns is.stored).is

  next_keeps : (l : List UploadData) (r : UploadData) (k : Key) (v : Cells) → IsLegalNext order w l r → found (content_in l) k ≡ Some v →
      found (content_in (l ++ r ∷ [])) k ≡ Some v
  next_keeps l r k v is h =
      ap (λ (m : Content). found m k) (content_more l r)
      ∙ taken_keeps l (upload_at w is.at r.seq) r.columns (taken_in w.shape ROOM l (upload_at w is.at r.seq) r.columns is.stored) k v h

  pub next_brought : (l : List UploadData) (r : UploadData) → IsLegalNext order w l r → All (Contains (brought_to_all w (picked w))) r.columns
  next_brought l r is =
      All-same (Contains (brought_to_all w (picked w))) r.columns (new_columns (content_in l) (upload_at w is.at r.seq).columns) (are_new l r is)
      (All-filter (is_new (content_in l)) (Contains (brought_to_all w (picked w))) (upload_at w is.at r.seq).columns
      (own_columns w is.at r.seq is.declared is.sent))

  next_once : (l : List UploadData) (r : UploadData) → IsLegalNext order w l r → HasKeysOnce l → HasKeysOnce (l ++ r ∷ [])
  next_once l r is once = once_more l r (upload_at w is.at r.seq) (are_new l r is) (numbered_at w is.at r.seq is.sent).whole once

  -- ---- all of them

  pub legal_keeps : (l more : List UploadData) (k : Key) (v : Cells) → AreLegalNext order w l more → found (content_in l) k ≡ Some v →
      found (content_in (l ++ more)) k ≡ Some v
  legal_keeps l [] k v all h = ap (λ (x : List UploadData). found (content_in x) k) (append-nil l) ∙ h
  legal_keeps l (r ∷ more) k v all h =
      ap (λ (x : List UploadData). found (content_in x) k) (sym (append_assoc l (r ∷ []) more))
      ∙ legal_keeps (l ++ r ∷ []) more k v all.1 (next_keeps l r k v all.0 h)

  pub legal_brought : (l more : List UploadData) → AreLegalNext order w l more → All (Contains (brought_to_all w (picked w))) (columns_in more)
  legal_brought l [] all = All-nil (Contains (brought_to_all w (picked w)))
  legal_brought l (r ∷ more) all =
      All-append (Contains (brought_to_all w (picked w))) r.columns (columns_in more) (next_brought l r all.0) (legal_brought (l ++ r ∷ []) more all.1)

  pub legal_once : (l more : List UploadData) → AreLegalNext order w l more → HasKeysOnce l → HasKeysOnce (l ++ more)
  legal_once l [] all once = subst HasKeysOnce (sym (append-nil l)) once
  legal_once l (r ∷ more) all once = subst HasKeysOnce (append_assoc l (r ∷ []) more) (legal_once (l ++ r ∷ []) more all.1 (next_once l r all.0 once))

  -- what is found was found before, or is brought
  pub found_from : (l more : List UploadData) (k : Key) (v : Cells) → AreLegalNext order w l more → found (content_in (l ++ more)) k ≡ Some v →
      (found (content_in l) k ≡ Some v) ⊎ Has (brought_to_all w (picked w)) k v
  found_from l more k v all h =
      elim (came_from (content_in l) (columns_in more) k v (sym (ap (λ (m : Content). found m k) (content-append l more)) ∙ h))
      as (λ _. (found (content_in l) k ≡ Some v) ⊎ Has (brought_to_all w (picked w)) k v) [
        | inl old ↦ inl old
        | inr new ↦ inr (record {
          column = new.column;
          inside = All-contains (Contains (brought_to_all w (picked w))) (columns_in more) new.column (legal_brought l more all) new.inside;
          key = new.key;
          cells = new.cells;
        })
      ]

  -- ---- fronts, and what comes after them

  pub legal_front : (l m n : List UploadData) → AreLegalNext order w l (m ++ n) → AreLegalNext order w l m
  legal_front l [] n all = tt
  legal_front l (r ∷ m) n all = (all.0, legal_front (l ++ r ∷ []) m n all.1)

  -- by positions: each record may come after those before it
  pub legal_at : (l more : List UploadData) → ((i : ℕ) (r : UploadData) → slice_get more i ≡ Some r → IsLegalNext order w (l ++ take i more) r) →
      AreLegalNext order w l more
  legal_at l [] each = tt
  legal_at l (r ∷ more) each = (
    subst (λ (x : List UploadData). IsLegalNext order w x r) (append-nil l) (each 0 r refl),
    legal_at (l ++ r ∷ []) more
        (λ i s h. subst (λ (x : List UploadData). IsLegalNext order w x s) (sym (append_assoc l (r ∷ []) (take i more))) (each (suc i) s h)),
  )

  pub legal_append : (l m n : List UploadData) → AreLegalNext order w l m → AreLegalNext order w (l ++ m) n → AreLegalNext order w l (m ++ n)
  legal_append l [] n all more = subst (λ (x : List UploadData). AreLegalNext order w x n) (append-nil l) more
  legal_append l (r ∷ m) n all more =
      (all.0, legal_append (l ++ r ∷ []) m n all.1 (subst (λ (x : List UploadData). AreLegalNext order w x n) (sym (append_assoc l (r ∷ []) m)) more))
