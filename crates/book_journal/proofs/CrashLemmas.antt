-- What a crash leaves during a run of calls, one after the other.
use Rattle.std.proofs.Common.{inl, inr, ⊎_elim, ℕ, ◌≤◌, List, sym, subst, arith, Result, Ok, Err, OnOk}
use Rattle.lg_disk.specs.Disk.{Course, Same, Shorter, Torn}
use Rattle.book_journal.specs.Crashes.{IsSynced, Leaves}

-- one run after another
pub after : {D : Type 0} (moment : D → ℕ) (since : D → ℕ → List ℕ → Type 0) (P Q R : List ℕ → Type 0) (old mid new : D)
    → Leaves moment since P old mid
    → Leaves moment since Q mid new → ((c : List ℕ) → P c → R c) → ((c : List ℕ) → Q c → R c) → Leaves moment since R old new
after moment since P Q R old mid new first second p q = record {
  later = omega (arith, first.later, second.later);
  each = λ c s. ⊎_elim (λ b. p c (first.each c b)) (λ here. q c here) (second.before (moment old) c first.later s);
  before = λ t c le s. ⊎_elim (λ b. ⊎_elim (λ was. inl was) (λ here. inr (p c here)) (first.before t c le b)) (λ here. inr (q c here))
      (second.before t c
      (omega (arith, le, first.later)) s);
}

pub widen : {D : Type 0} (moment : D → ℕ) (since : D → ℕ → List ℕ → Type 0) (P R : List ℕ → Type 0) (old new : D)
    → Leaves moment since P old new →
    ((c : List ℕ) → P c → R c) → Leaves moment since R old new
widen moment since P R old new all p = record {
  later = all.later;
  each = λ c s. p c (all.each c s);
  before = λ t c le s. ⊎_elim (λ was. inl was) (λ here. inr (p c here)) (all.before t c le s);
}

module _ {D : Type 0} (honest : D → Type 0) (seen : D → List ℕ) (images : D → List ℕ → Type 0) (moment : D → ℕ)
    (since : D → ℕ → List ℕ → Type 0) where
  -- one call
  pub called : (step : List ℕ → List ℕ → Type 0) (P : List ℕ → Type 0) (old new : D) → honest old
      → Course honest images moment since step old new →
      ((b c : List ℕ) → images old b → step b c → P c) → Leaves moment since P old new
  called step P old new told course here = record {
    later = course.later;
    each = each;
    before = λ t c le s. ⊎_elim (λ was. inl was) (λ now. inr (each c now)) (course.before told t c le s);
  }
    where
      each : (c : List ℕ) → since new (moment old) c → P c
      each c s = let d = course.during told c s in here d.0 c d.1 d.2

  pub wrote : (at n : ℕ) (old new : D) → Course honest images moment since (Torn at n) old new → IsSynced honest seen images old
      → Leaves moment since
      (Torn at n (seen old)) old new
  wrote at n old new course synced = called (Torn at n) (Torn at n (seen old)) old new synced.told course (λ b c image step. subst (λ
      (f : List ℕ). Torn at n f c) (synced.only b image) step)

  pub cut : (len : ℕ) (old new : D) → Course honest images moment since (Shorter len) old new → IsSynced honest seen images old
      → Leaves moment since
      (Shorter len (seen old)) old new
  cut len old new course synced = called (Shorter len) (Shorter len (seen old)) old new synced.told course (λ b c image step. subst (λ
      (f : List ℕ). Shorter len f c) (synced.only b image) step)

  module _ (counts_now : (d : D) (t : ℕ) (c : List ℕ) → honest d → t ≤ moment d → images d c → since d t c) where
    -- an image at the end of a run has what each file since its start has
    pub image_has : (P : List ℕ → Type 0) (old new : D) → honest new → Leaves moment since P old new → (c : List ℕ) → images new c → P c
    image_has P old new told all c image = all.each c (counts_now new (moment old) c told all.later image)

    -- a call that writes nothing
    pub kept : (P : List ℕ → Type 0) (old mid new : D) → honest mid → Leaves moment since P old mid
        → Course honest images moment since Same mid new
        → Leaves moment since P old new
    kept P old mid new told all course =
        after moment since P P P old mid new all
        (called Same P mid new told course (λ b c image same. subst P (sym same) (image_has P old mid told all b image)))
        (λ c p. p) (λ c p. p)

pub on_ok : {T E : Type 0} {P Q : Type 0} (r : Result T E) → (P → Q) → OnOk r P → OnOk r Q
on_ok (Ok x) f p = f p
on_ok (Err e) f p = p
