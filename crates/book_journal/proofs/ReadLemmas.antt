-- Calls that only read, one after the other.
use Rattle.std.proofs.Common.{◌≡◌, inl, ℕ, ◌≤◌, List, refl, sym, ◌∙◌, subst, arith}
use Rattle.lg_disk.specs.Disk.{Course, Same}
use Rattle.book_journal.specs.Crashes.{IsSynced, OnlyReads}
use Rattle.book_journal.proofs.CrashLemmas.{after, called, image_has}

module _ {D : Type 0} (honest : D → Type 0) (seen : D → List ℕ) (images : D → List ℕ → Type 0) (moment : D → ℕ)
    (since : D → ℕ → List ℕ → Type 0) where
  module _ (only_now : (d : D) (c : List ℕ) → honest d → since d (moment d) c → images d c) where
    pub no_read : (d : D) → OnlyReads honest seen images moment since d d
    no_read d = record {
      still = λ h. h;
      was = λ h. h;
      same = λ h. refl;
      leaves = λ h. record { later = omega arith; each = λ c s. only_now d c h s; before = λ t c le s. inl s };
    }

  pub one_read : (old new : D) → Course honest images moment since Same old new → (honest old → seen new ≡ seen old)
      → OnlyReads honest seen images moment since old new
  one_read old new course same = record {
    still = course.still;
    was = course.was;
    same = same;
    leaves = λ h. called honest seen images moment since Same (images old) old new h course
        (λ b c image is. subst (images old) (sym is) image);
  }

  module _ (counts_now : (d : D) (t : ℕ) (c : List ℕ) → honest d → t ≤ moment d → images d c → since d t c) where
    pub then_read : (old mid new : D) → OnlyReads honest seen images moment since old mid
        → OnlyReads honest seen images moment since mid new
        → OnlyReads honest seen images moment since old new
    then_read old mid new p q = record {
      still = λ h. q.still (p.still h);
      was = λ h. p.was (q.was h);
      same = λ h. q.same (p.still h) ∙ p.same h;
      leaves = λ h. after moment since (images old) (images mid) (images old) old mid new (p.leaves h) (q.leaves (p.still h)) (λ c i. i)
          (λ c i. image_has honest seen images moment since counts_now (images old) old mid (p.still h) (p.leaves h) c i);
    }

    pub synced_still : (old new : D) → OnlyReads honest seen images moment since old new → IsSynced honest seen images old
        → IsSynced honest seen images new
    synced_still old new p s = record {
      told = p.still s.told;
      only = λ c i. s.only c (image_has honest seen images moment since counts_now (images old) old new (p.still s.told)
          (p.leaves s.told) c i) ∙ sym
          (p.same s.told);
    }
