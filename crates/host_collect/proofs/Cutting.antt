-- The law of the cut.
use Rattle.std.specs.Prelude.{◌≡◌, ℕ, zero, suc, ◌<◌, ◌≤◌, ◌&&◌, nat_lt, not, List, []}
use Rattle.std.specs.Prelude.{◌∷◌, ◌++◌, length, reverse, fold, take, slice_index_or, Bool, true, false, cond}
use Rattle.std.specs.List.{AllByRecursion, flat_map}
use Rattle.std.proofs.Common.{refl, sym, ap, ◌∙◌, subst, arith, inl, inr, true≢false, length-append, take_all, append_assoc}
use Rattle.std.proofs.Math.Seq.{get_or-append_seam}
use Rattle.std.proofs.lemmas.List.{append-nil, reverse-append, get_or_append_left, take-append-le}
use Rattle.std.proofs.lemmas.Grind.{flat_map-append}
use Rattle.std.proofs.lemmas.Bool.{cases_lt, ltb-true}
use Rattle.lg_model.specs.declared.limits.TheConstants.{MOST_UPLOAD_COLUMNS}
use Rattle.lg_model.specs.Columns.{Column}
use Rattle.sketchlet_wire.specs.Uploads.{IsUpload, holds_key, is_twice, no_column}
use Rattle.host_collect.specs.Cutting.{Piece, first_of, can_join, with_next, cut, IsLongest, LawOfTheCut}

-- ---- the pieces are the list

abbrev flat : List Piece → List Column
flat ps = flat_map (λ (p : Piece). p) ps

flat_last : (p : Piece) (ps : List Piece) → flat (reverse (p ∷ ps)) ≡ flat (reverse ps) ++ p
flat_last p ps = ap flat (reverse-append (p ∷ []) ps) ∙ flat_map-append (λ (p : Piece). p) (reverse ps) (p ∷ [])
    ∙ ap (λ (x : Piece). flat (reverse ps) ++ x) (append-nil p)

one_more : (ps : List Piece) (c : Column) → flat (reverse (with_next ps c)) ≡ flat (reverse ps) ++ c ∷ []
one_more [] c = refl
one_more (p ∷ ps) c = by (can_join p c)
  where
    by : (b : Bool) → flat (reverse (cond b ((p ++ c ∷ []) ∷ ps) ((c ∷ []) ∷ p ∷ ps))) ≡ flat (reverse (p ∷ ps)) ++ c ∷ []
    by true = flat_last (p ++ c ∷ []) ps ∙ sym (append_assoc (flat (reverse ps)) p (c ∷ [])) ∙ ap (λ (x : Piece). x ++ c ∷ []) (sym (flat_last p ps))
    by false = flat_last (c ∷ []) (p ∷ ps)

cut_more : (ps : List Piece) (cs : List Column) → flat (reverse (fold with_next ps cs)) ≡ flat (reverse ps) ++ cs
cut_more ps [] = sym (append-nil (flat (reverse ps)))
cut_more ps (c ∷ cs) = cut_more (with_next ps c) cs ∙ ap (λ (x : Piece). x ++ cs) (one_more ps c) ∙ append_assoc (flat (reverse ps)) (c ∷ []) cs

pub cut_whole : (cs : List Column) → flat (cut cs) ≡ cs
cut_whole cs = cut_more [] cs

-- ---- each piece can be an upload, and the first column of the next can't join it

-- What is kept of pieces, the last one first.
abbrev Kept : List Piece → Type 0
Kept [] = Unit {0}
Kept (p ∷ []) = IsUpload p
Kept (p ∷ q ∷ ps) = IsUpload p × (can_join q (first_of p) ≡ false) × Kept (q ∷ ps)

pub one_upload : (c : Column) → IsUpload (c ∷ [])
one_upload c = record { some = omega arith; few = omega arith; apart = by }
  where
    by : (n : ℕ) → n < length (c ∷ []) → is_twice (c ∷ []) n ≡ false
    by zero low = refl
    by (suc n) low = absurd (omega (arith, low))

both : (a b : Bool) → (a && b) ≡ true → (a ≡ true) × (b ≡ true)
both true b h = (refl, h)
both false b h = absurd (true≢false (sym h))

unnot : (b : Bool) → not b ≡ true → b ≡ false
unnot false h = refl
unnot true h = absurd (true≢false (sym h))

pub join_room : (p : Piece) (c : Column) → can_join p c ≡ true → length p < MOST_UPLOAD_COLUMNS
join_room p c can = ltb-true (length p) MOST_UPLOAD_COLUMNS (both (nat_lt (length p) MOST_UPLOAD_COLUMNS) (not (holds_key c.key p)) can).0

join_new : (p : Piece) (c : Column) → can_join p c ≡ true → holds_key c.key p ≡ false
join_new p c can = unnot (holds_key c.key p) (both (nat_lt (length p) MOST_UPLOAD_COLUMNS) (not (holds_key c.key p)) can).1

-- A column that can join leaves no key twice.
pub joined_apart : (p : Piece) (c : Column) → ((n : ℕ) → n < length p → is_twice p n ≡ false) → can_join p c ≡ true → (n : ℕ) → n < length (p ++ c ∷ [])
    → is_twice (p ++ c ∷ []) n ≡ false
joined_apart p c apart can n low =
    elim (cases_lt n (length p)) as (λ _. is_twice (p ++ c ∷ []) n ≡ false) [
      | inl early ↦
          ap (λ (x : Column). holds_key x.key (take n (p ++ c ∷ []))) (get_or_append_left p (c ∷ []) no_column n early)
          ∙ ap (λ (xs : Piece). holds_key (slice_index_or p n no_column).key xs) (take-append-le n p (c ∷ []) (omega (arith, early))) ∙ apart n early
      | inr late ↦
          let at : n ≡ length p = omega (arith, low, late, length-append p (c ∷ [])) in
          ap (λ (m : ℕ). is_twice (p ++ c ∷ []) m) at
          ∙ ap (λ (x : Column). holds_key x.key (take (length p) (p ++ c ∷ []))) (get_or-append_seam p c [] no_column)
          ∙ ap (λ (xs : Piece). holds_key c.key xs) (take-append-le (length p) p (c ∷ []) (omega arith) ∙ take_all (length p) p (omega arith))
          ∙ join_new p c can
    ]

-- A column that can join makes a piece that is an upload.
joined_upload : (p : Piece) (c : Column) → IsUpload p → can_join p c ≡ true → IsUpload (p ++ c ∷ [])
joined_upload p c is can = record {
  some = omega (arith, is.some, length-append p (c ∷ []));
  few = let low = join_room p c can in omega (arith, low, length-append p (c ∷ []));
  apart = joined_apart p c is.apart can;
}

same_first : (p : Piece) (c : Column) → 1 ≤ length p → first_of (p ++ c ∷ []) ≡ first_of p
same_first [] c some = absurd (omega (arith, some))
same_first (x ∷ p) c some = refl

kept_more : (ps : List Piece) (c : Column) → Kept ps → Kept (with_next ps c)
kept_more [] c k = one_upload c
kept_more (p ∷ ps) c k = by (can_join p c) refl
  where
    joined : (qs : List Piece) → Kept (p ∷ qs) → can_join p c ≡ true → Kept ((p ++ c ∷ []) ∷ qs)
    joined [] h can = joined_upload p c h can
    joined (q ∷ qs) h can = (joined_upload p c h.0 can, ap (λ (x : Column). can_join q x) (same_first p c h.0.some) ∙ h.1, h.2)

    by : (b : Bool) → can_join p c ≡ b → Kept (cond b ((p ++ c ∷ []) ∷ ps) ((c ∷ []) ∷ p ∷ ps))
    by true can = joined ps k can
    by false can = (one_upload c, can, k)

kept_all : (ps : List Piece) (cs : List Column) → Kept ps → Kept (fold with_next ps cs)
kept_all ps [] k = k
kept_all ps (c ∷ cs) k = kept_all (with_next ps c) cs (kept_more ps c k)

-- ---- the other way round

longest_more : (xs : List Piece) (q p : Piece) → IsLongest (xs ++ q ∷ []) → can_join q (first_of p) ≡ false → IsLongest ((xs ++ q ∷ []) ++ p ∷ [])
longest_more [] q p h can = (can, tt)
longest_more (x ∷ []) q p h can = (h.0, longest_more [] q p h.1 can)
longest_more (x ∷ y ∷ xs) q p h can = (h.0, longest_more (y ∷ xs) q p h.1 can)

uploads_more : (xs : List Piece) (p : Piece) → AllByRecursion IsUpload xs → IsUpload p → AllByRecursion IsUpload (xs ++ p ∷ [])
uploads_more [] p h is = (is, tt)
uploads_more (x ∷ xs) p h is = (h.0, uploads_more xs p h.1 is)

turned_uploads : (ps : List Piece) → Kept ps → AllByRecursion IsUpload (reverse ps)
turned_uploads [] k = tt
turned_uploads (p ∷ []) k = (k, tt)
turned_uploads (p ∷ q ∷ ps) k =
    subst (AllByRecursion IsUpload) (sym (reverse-append (p ∷ []) (q ∷ ps))) (uploads_more (reverse (q ∷ ps)) p (turned_uploads (q ∷ ps) k.2) k.0)

turned_longest : (ps : List Piece) → Kept ps → IsLongest (reverse ps)
turned_longest [] k = tt
turned_longest (p ∷ []) k = tt
turned_longest (p ∷ q ∷ ps) k =
    let rest : IsLongest (reverse ps ++ q ∷ []) = subst IsLongest (reverse-append (q ∷ []) ps) (turned_longest (q ∷ ps) k.2) in
    subst IsLongest (ap (λ (xs : List Piece). xs ++ p ∷ []) (sym (reverse-append (q ∷ []) ps))
    ∙ sym (reverse-append (p ∷ []) (q ∷ ps))) (longest_more (reverse ps) q p rest k.1)

pub cut_law : LawOfTheCut
cut_law cs = record {
  whole = cut_whole cs;
  uploads = turned_uploads (fold with_next [] cs) (kept_all [] cs tt);
  longest = turned_longest (fold with_next [] cs) (kept_all [] cs tt);
}
