-- Blocks and keys after new columns were put.
use Rattle.std.specs.Prelude.{◌≡◌, ℕ, ◌+◌, ◌<◌, ◌≤◌, Bool, true, false, cond, ◌||◌, List, [], ◌∷◌, ◌++◌, filter, take, drop, length, Option, None, Some, is_some, is_none, slice_index_or}
use Rattle.std.specs.List.{AllByRecursion, list_any}
use Rattle.std.proofs.Common.{refl, sym, ap, ◌∙◌, subst, arith}
use Rattle.std.proofs.lemmas.List.{append_assoc, append-nil, map-append, length-append, length-map, take-append-drop, take_more, get_or_default}
use Rattle.std.proofs.lemmas.List.Folds.{list_any-append}
use Rattle.std.proofs.lemmas.List.Elements.{All-nil, All-cons, All-append, All-weaker, filter-append, filter_more}
use Rattle.std.proofs.lemmas.Map.Keys.{IsDistinct-push}
use Rattle.lg_model.specs.declared.column.Bucket.{Bucket}
use Rattle.lg_model.specs.declared.column.Key.{Key}
use Rattle.sketchlet_wire.specs.Spelling.{filled}
use Rattle.lg_model.specs.Columns.{Column}
use Rattle.sketchlet_wire.specs.Uploads.{same_column_key, holds_key, is_twice, no_column}
use Rattle.column_book.specs.declared.block.Spot.{Spot}
use Rattle.column_book.specs.Blocks.{Made, kept_at, spot, IsMade}
use Rattle.column_book.specs.Kept.{is_free, keys_of, AreKeys, IsGrown}
use Rattle.column_book.proofs.Keys.{one_key, key_itself, same_column_key-flip, keys_equiv}

-- one column put where none was
pub grown_one : (es0 : Made) (keys0 : List Key) (es : Made) (keys : List Key) (c : Column) → AreKeys es0 keys0 → kept_at es0 c.key ≡ None →
    ((q : Key) → kept_at es q ≡ cond (same_column_key c.key q) (Some (filled c.dims c.cells)) (kept_at es0 q)) → ((s : Spot) → IsMade es0 s → IsMade es s) → keys ≡ keys0 ++ c.key ∷ [] →
    IsGrown es0 keys0 es keys (c ∷ [])
grown_one es0 keys0 es keys c known free put made all =
    let other : list_any (same_column_key c.key) keys0 ≡ false = sym (known.there c.key) ∙ ap is_some free in
    record {
      all = all;
      known = rw all (record {
        apart = IsDistinct-push keys_equiv keys0 c.key known.apart other;
        there = λ q. rw (put q, list_any-append (same_column_key q) keys0 (c.key ∷ []), same_column_key-flip q c.key) ((elim (same_column_key c.key q) as (λ b. is_some (cond b (Some (filled c.dims c.cells)) (kept_at es0 q)) ≡ (list_any (same_column_key q) keys0 || (b || false))) [
          | true ↦ (elim (list_any (same_column_key q) keys0) as (λ b. true ≡ (b || true)) [
            | true ↦ refl
            | false ↦ refl
          ])
          | false ↦ known.there q ∙ (elim (list_any (same_column_key q) keys0) as (λ b. b ≡ (b || false)) [
            | true ↦ refl
            | false ↦ refl
          ])
        ]));
      });
      made = made;
      stays = λ q bs had. put q ∙ ((elim (same_column_key c.key q) as (λ b. same_column_key c.key q ≡ b → cond b (Some (filled c.dims c.cells)) (kept_at es0 q) ≡ Some bs) [
        | true ↦ λ same. let none : kept_at es0 q ≡ None = subst (λ (k : Key). kept_at es0 k ≡ None) (one_key c.key q same) free in absurd (cc)
        | false ↦ λ same. had
      ]) refl);
      put = All-cons (λ (x : Column). kept_at es x.key ≡ Some (filled x.dims x.cells)) c [] (put c.key ∙ rw (key_itself c.key) refl) (All-nil (λ (x : Column). kept_at es x.key ≡ Some (filled x.dims x.cells)));
    }

-- nothing put
pub grown_none : (es : Made) (keys : List Key) → AreKeys es keys → IsGrown es keys es keys []
grown_none es keys known = record {
  all = sym (append-nil keys);
  known = known;
  made = λ s h. h;
  stays = λ q bs h. h;
  put = All-nil (λ (x : Column). kept_at es x.key ≡ Some (filled x.dims x.cells));
}

-- one column more
pub grown_more : (es0 : Made) (keys0 : List Key) (es1 : Made) (keys1 : List Key) (es2 : Made) (keys2 : List Key) (new : List Column) (c : Column) →
    IsGrown es0 keys0 es1 keys1 new → IsGrown es1 keys1 es2 keys2 (c ∷ []) → IsGrown es0 keys0 es2 keys2 (new ++ c ∷ [])
grown_more es0 keys0 es1 keys1 es2 keys2 new c a b = record {
  all = b.all ∙ ap (λ (ks : List Key). ks ++ c.key ∷ []) a.all ∙ append_assoc keys0 (keys_of new) (c.key ∷ []) ∙ ap (λ (ks : List Key). keys0 ++ ks) (sym (map-append (λ (x : Column). x.key) new (c ∷ [])));
  known = b.known;
  made = λ s h. b.made s (a.made s h);
  stays = λ q bs h. b.stays q bs (a.stays q bs h);
  put = All-append (λ (x : Column). kept_at es2 x.key ≡ Some (filled x.dims x.cells)) new (c ∷ [])
      (All-weaker (λ (x : Column). kept_at es1 x.key ≡ Some (filled x.dims x.cells)) (λ (x : Column). kept_at es2 x.key ≡ Some (filled x.dims x.cells)) (λ x h. b.stays x.key (filled x.dims x.cells) h) new a.put) b.put;
}

-- no column more
pub grown_again : (es0 : Made) (keys0 : List Key) (es1 : Made) (keys1 : List Key) (es2 : Made) (keys2 : List Key) (new : List Column) →
    IsGrown es0 keys0 es1 keys1 new → IsGrown es1 keys1 es2 keys2 [] → IsGrown es0 keys0 es2 keys2 new
grown_again es0 keys0 es1 keys1 es2 keys2 new a b = record {
  all = b.all ∙ append-nil keys1 ∙ a.all;
  known = b.known;
  made = λ s h. b.made s (a.made s h);
  stays = λ q bs h. b.stays q bs (a.stays q bs h);
  put = All-weaker (λ (x : Column). kept_at es1 x.key ≡ Some (filled x.dims x.cells)) (λ (x : Column). kept_at es2 x.key ≡ Some (filled x.dims x.cells)) (λ x h. b.stays x.key (filled x.dims x.cells) h) new a.put;
}

-- ---- which columns of an upload are new

pub not_among : (p : Column → Bool) (k : Key) (cs : List Column) → holds_key k cs ≡ false → list_any (same_column_key k) (keys_of (filter p cs)) ≡ false
not_among p k [] h = refl
not_among p k (c ∷ cs) h =
    (elim (same_column_key c.key k) as (λ b. same_column_key c.key k ≡ b → (b || holds_key k cs) ≡ false → list_any (same_column_key k) (keys_of (filter p (c ∷ cs))) ≡ false) [
      | true ↦ λ same any. absurd (cc)
      | false ↦ λ same any. (elim (p c) as (λ b. list_any (same_column_key k) (keys_of (cond b (c ∷ filter p cs) (filter p cs))) ≡ false) [
        | true ↦ rw (same_column_key-flip k c.key, same) (not_among p k cs any)
        | false ↦ not_among p k cs any
      ])
    ]) refl h

opposite : (a b : Option (List Bucket)) → is_some a ≡ is_some b → is_none a ≡ is_none b
opposite None None h = refl
opposite None (Some y) h = absurd (cc)
opposite (Some x) None h = absurd (cc)
opposite (Some x) (Some y) h = refl

-- whether the key of the next column is kept by now is whether it was kept before the upload
pub free_still : (es0 : Made) (keys0 : List Key) (es : Made) (keys : List Key) (cs : List Column) (i : ℕ) (c : Column) → AreKeys es0 keys0 →
    IsGrown es0 keys0 es keys (filter (is_free es0) (take i cs)) → i < length cs → c ≡ slice_index_or cs i c → is_twice cs i ≡ false → is_none (kept_at es c.key) ≡ is_free es0 c
free_still es0 keys0 es keys cs i c known h low at apart =
    let one : slice_index_or cs i no_column ≡ c = get_or_default cs i no_column c low ∙ sym at in
    let other : list_any (same_column_key c.key) (keys_of (filter (is_free es0) (take i cs))) ≡ false = not_among (is_free es0) c.key (take i cs) (subst (λ (x : Column). holds_key x.key (take i cs) ≡ false) one apart) in
    let now = h.known.there c.key ∙ ap (list_any (same_column_key c.key)) h.all ∙ list_any-append (same_column_key c.key) keys0 (keys_of (filter (is_free es0) (take i cs))) in
    let alike : is_some (kept_at es c.key) ≡ is_some (kept_at es0 c.key) = now ∙ rw other ((elim (list_any (same_column_key c.key) keys0) as (λ b. list_any (same_column_key c.key) keys0 ≡ b → (b || false) ≡ is_some (kept_at es0 c.key)) [
      | true ↦ λ e. sym (known.there c.key ∙ e)
      | false ↦ λ e. sym (known.there c.key ∙ e)
    ]) refl) in
    opposite (kept_at es c.key) (kept_at es0 c.key) alike

pub none_is : (o : Option (List Bucket)) → is_none o ≡ true → o ≡ None
none_is None h = refl
none_is (Some x) h = absurd (cc)

-- the columns that pass, up to one that does
pub passes_more : (p : Column → Bool) (cs : List Column) (i : ℕ) (c : Column) → i < length cs → c ≡ slice_index_or cs i c → p c ≡ true →
    filter p (take (i + 1) cs) ≡ filter p (take i cs) ++ c ∷ []
passes_more p cs i c low at is =
    filter_more p cs i c low ∙ ap (λ (x : Column). filter p (take i cs) ++ cond (p x) (x ∷ []) []) (sym at) ∙ rw is refl

pub passes_not : (p : Column → Bool) (cs : List Column) (i : ℕ) (c : Column) → i < length cs → c ≡ slice_index_or cs i c → p c ≡ false →
    filter p (take (i + 1) cs) ≡ filter p (take i cs)
passes_not p cs i c low at is =
    filter_more p cs i c low ∙ ap (λ (x : Column). filter p (take i cs) ++ cond (p x) (x ∷ []) []) (sym at) ∙ rw is (append-nil (filter p (take i cs)))

pub passes_room : (p : Column → Bool) (cs : List Column) (n : ℕ) → length (filter p (take n cs)) ≤ length (filter p cs)
passes_room p cs n =
    let split : length (filter p cs) ≡ length (filter p (take n cs)) + length (filter p (drop n cs)) =
    ap (λ (xs : List Column). length (filter p xs)) (sym (take-append-drop n cs)) ∙ ap length (filter-append p (take n cs) (drop n cs)) ∙ length-append (filter p (take n cs)) (filter p (drop n cs)) in
    omega (arith, split)

pub one_longer : {X : Type 0} (xs : List X) (x : X) → length (xs ++ x ∷ []) ≡ length xs + 1
one_longer xs x = length-append xs (x ∷ [])

-- how many keys there are by now
pub grown_count : (es0 : Made) (keys0 : List Key) (es : Made) (keys : List Key) (new : List Column) → IsGrown es0 keys0 es keys new → length keys ≡ length keys0 + length new
grown_count es0 keys0 es keys new h =
    let a = ap length h.all in
    let b = length-append keys0 (keys_of new) in
    let c = length-map new (λ (x : Column). x.key) in
    omega (arith, a, b, c)

-- ---- the ready list

pub all_made : (old new : Made) (ks : List Key) → ((s : Spot) → IsMade old s → IsMade new s) → AllByRecursion (λ (k : Key). IsMade old (spot k)) ks → AllByRecursion (λ (k : Key). IsMade new (spot k)) ks
all_made old new [] stays h = tt
all_made old new (k ∷ ks) stays h = (stays (spot k) h.0, all_made old new ks stays h.1)

pub made_push : (es : Made) (ks : List Key) (k : Key) → AllByRecursion (λ (q : Key). IsMade es (spot q)) ks → IsMade es (spot k) → AllByRecursion (λ (q : Key). IsMade es (spot q)) (ks ++ k ∷ [])
made_push es [] k h made = (made, tt)
made_push es (q ∷ qs) k h made = (h.0, made_push es qs k h.1 made)

pub keys_more : (cs : List Column) (i : ℕ) (c : Column) → i < length cs → c ≡ slice_index_or cs i c → keys_of (take (i + 1) cs) ≡ keys_of (take i cs) ++ c.key ∷ []
keys_more cs i c low at =
    ap keys_of (take_more cs i c low) ∙ map-append (λ (x : Column). x.key) (take i cs) (slice_index_or cs i c ∷ []) ∙ ap (λ (x : Column). keys_of (take i cs) ++ x.key ∷ []) (sym at)
