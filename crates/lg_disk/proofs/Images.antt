-- What one call adds to the images: each image after it is a step of one before it.
use Rattle.std.proofs.Common.{◌≡◌, ◌⊎◌, inl, inr, ⊎_elim, ℕ, zero, suc, ◌+◌, ◌-◌, ◌<◌, ◌≤◌, min, max, List, [], ◌∷◌, ◌++◌, length, take, drop, get_or, refl, sym, ◌∙◌, ap, subst, arith, length-take, length-drop, take-append-drop, append_assoc, if◌then◌else◌}
use Rattle.std.proofs.lemmas.List.{ext_get_or, get_or-take, get_or-drop, drop-drop, take_all}
use Rattle.std.proofs.lemmas.List.Elements.{Contains-push_cases}
use Rattle.std.proofs.lemmas.Bool.{cases_lt}
use Rattle.std.proofs.lemmas.Bool.Decides.{nat_tests}
use Rattle.std.specs.Prelude.{nat_lt}
use Rattle.lg_disk.specs.Disk.{Torn, Shorter}
use Rattle.lg_disk.specs.Model.{State, start, wrote, step, run, IsWritten, IsImage}
use Rattle.lg_disk.specs.Laws.{step_inside, step_past}
use Rattle.lg_disk.specs.Choices.{IsChosen}
use Rattle.lg_disk.specs.declared.choice.Choice.{Choice}
use Rattle.lg_disk.specs.declared.choice.Choice.TheVariants.{AsRead, AsSynced, FillLong, FillShort}
use Rattle.lg_disk.specs.declared.call.Call.{Call}
use Rattle.lg_disk.specs.declared.call.Call.TheVariants.{Nothing, Write, Cut, Sync}

-- a list of n bytes, by their places
abbrev build : ℕ → (ℕ → ℕ) → List ℕ
build zero f = []
build (suc n) f = f 0 ∷ build n (λ i. f (suc i))

length-build : (n : ℕ) (f : ℕ → ℕ) → length (build n f) ≡ n
length-build zero f = refl
length-build (suc n) f = ap suc (length-build n (λ i. f (suc i)))

at-build : (n : ℕ) (f : ℕ → ℕ) (i : ℕ) → i < n → get_or (build n f) i 0 ≡ f i
at-build zero f i lt = absurd (omega arith)
at-build (suc n) f zero lt = refl
at-build (suc n) f (suc i) lt = at-build n (λ j. f (suc j)) i (omega arith)

-- a byte is in the last range, or in one before it
written_cases : (ranges : List (ℕ × ℕ)) (at n i : ℕ) → IsWritten (ranges ++ (at, n) ∷ []) i → IsWritten ranges i ⊎ ((at ≤ i) × (i < at + n))
written_cases ranges at n i (k, x, lt, is, inside) = ⊎_elim
    (λ c. inl (c.0, x, c.1, c.2, inside))
    (λ same. inr (subst (λ (r : ℕ × ℕ). (r.0 ≤ i) × (i < r.0 + r.1)) (sym same) inside))
    (Contains-push_cases ranges (at, n) x (k, lt, is))

-- inside a range the one list, outside it the other
abbrev pick : ℕ → ℕ → List ℕ → List ℕ → ℕ → ℕ
pick at n synced c i = if nat_lt i at then get_or c i 0 else if nat_lt i (at + n) then get_or synced i 0 else get_or c i 0

pick_before : (at n : ℕ) (synced c : List ℕ) (i : ℕ) → i < at → pick at n synced c i ≡ get_or c i 0
pick_before at n synced c i lt = grind (arith, nat_tests)

pick_inside : (at n : ℕ) (synced c : List ℕ) (i : ℕ) → at ≤ i → i < at + n → pick at n synced c i ≡ get_or synced i 0
pick_inside at n synced c i le lt = grind (arith, nat_tests)

pick_after : (at n : ℕ) (synced c : List ℕ) (i : ℕ) → at + n ≤ i → pick at n synced c i ≡ get_or c i 0
pick_after at n synced c i le = grind (arith, nat_tests)

-- An image after a write: before it stood the same outside the range, and within it what the last sync left.
module _ (s : State) (at : ℕ) (v : List ℕ) (c : List ℕ) (image : IsImage (wrote s at v) c) (some : s.least ≤ s.greatest) where
  abbrev n : ℕ
  n = length v

  abbrev size : ℕ
  size = min (length c) s.greatest

  abbrev old : List ℕ
  old = build size (pick at n s.synced c)

  old_size : length old ≡ size
  old_size = length-build size (pick at n s.synced c)

  bounds : (size ≤ length c) × (length c ≤ max size (at + n)) × (s.least ≤ size) × (size ≤ s.greatest)
  bounds = (omega arith, omega (arith, image.no_longer), omega (arith, image.no_shorter, some), omega arith)

  outside : (i : ℕ) → i < size → (i < at) ⊎ (at + n ≤ i) → get_or old i 0 ≡ get_or c i 0
  outside i lt (inl before) = at-build size (pick at n s.synced c) i lt ∙ pick_before at n s.synced c i before
  outside i lt (inr after) = at-build size (pick at n s.synced c) i lt ∙ pick_after at n s.synced c i after

  inside : (i : ℕ) → i < size → at ≤ i → i < at + n → get_or old i 0 ≡ get_or s.synced i 0
  inside i lt le below = at-build size (pick at n s.synced c) i lt ∙ pick_inside at n s.synced c i le below

  kept : (i : ℕ) → (i < at) ⊎ (at + n ≤ i) → (IsWritten s.written i → ⊥) → IsWritten (s.written ++ (at, length v) ∷ []) i → ⊥
  kept i out free w = ⊎_elim free
      (λ here. ⊎_elim (λ before. absurd (omega (arith, here.0, before))) (λ after. absurd (omega (arith, here.1, after))) out)
      (written_cases s.written at (length v) i w)

  same : (i : ℕ) → i < size → i < length s.synced → (IsWritten s.written i → ⊥) → get_or old i 0 ≡ get_or s.synced i 0
  same i lt short free = elim (cases_lt i at) [
    | inl before ↦ outside i lt (inl before) ∙ image.outside i (omega (arith, bounds.0)) short (kept i (inl before) free)
    | inr le ↦ elim (cases_lt i (at + n)) [
      | inl below ↦ inside i lt le below
      | inr after ↦ outside i lt (inr after) ∙ image.outside i (omega (arith, bounds.0)) short (kept i (inr after) free)
    ]
  ]

  was_image : IsImage s old
  was_image = record {
    no_shorter = omega (arith, old_size, bounds.2);
    no_longer = omega (arith, old_size, bounds.3);
    outside = λ i lt short free. same i (omega (arith, old_size, lt)) short free;
  }

  abbrev k : ℕ
  k = min at size

  front : take at old ≡ take k c
  front = ext_get_or 0 (take at old) (take (min at size) c)
      (omega (arith, length-take at old, length-take (min at size) c, old_size, bounds.0))
      (λ i lt.
      let below : i < min at size = omega (arith, lt, length-take at old, old_size) in
      get_or-take at old i 0 (omega (arith, below))
      ∙ outside i (omega (arith, below)) (inl (omega (arith, below)))
      ∙ sym (get_or-take (min at size) c i 0 below))

  back : drop (at + n) old ≡ drop (at + n) c
  back = ext_get_or 0 (drop (at + n) old) (drop (at + n) c)
      (omega (arith, length-drop (at + n) old, length-drop (at + n) c, old_size, bounds.0, bounds.1))
      (λ i lt.
      let below : at + n + i < size = omega (arith, lt, length-drop (at + n) old, old_size) in
      get_or-drop (at + n) old i 0 ∙ outside (at + n + i) below (inr (omega arith)) ∙ sym (get_or-drop (at + n) c i 0))

  joined : c ≡ take at old ++ take (at + n - k) (drop k c) ++ drop (at + n) old
  joined =
      let reaches : k + (at + n - k) ≡ at + n = omega arith in
      let last : drop (at + n - k) (drop k c) ≡ drop (at + n) old = drop-drop (at + n - k) k c ∙ ap (λ (m : ℕ). drop m c) reaches ∙ sym back in
      sym (take-append-drop k c)
      ∙ ap (λ (l : List ℕ). take k c ++ l) (sym (take-append-drop (at + n - k) (drop k c)))
      ∙ sym (append_assoc (take k c) (take (at + n - k) (drop k c)) (drop (at + n - k) (drop k c)))
      ∙ ap (λ (l : List ℕ). take k c ++ take (at + n - k) (drop k c) ++ l) last
      ∙ ap (λ (l : List ℕ). l ++ take (at + n - k) (drop k c) ++ drop (at + n) old) (sym front)

  torn_from : (b : List ℕ) × IsImage s b × Torn at (length v) b c
  torn_from = (
    old,
    was_image,
    record {
      middle = take (at + n - k) (drop k c);
      parts = joined;
      no_shorter = omega (arith, old_size, bounds.0);
      no_longer = omega (arith, old_size, bounds.1);
    },
  )

-- What a cut leaves was there, or more of it.
module _ (s : State) (len : ℕ) (c : List ℕ) (image : IsImage (step s (Cut len)) c) (some : s.least ≤ s.greatest) where
  abbrev byte : ℕ → ℕ
  byte i = if nat_lt i (length c) then get_or c i 0 else get_or s.synced i 0

  abbrev longer : List ℕ
  longer = build (max (length c) s.least) byte

  longer_size : length longer ≡ max (length c) s.least
  longer_size = length-build (max (length c) s.least) byte

  byte_first : (i : ℕ) → i < length c → byte i ≡ get_or c i 0
  byte_first i lt = grind (arith, nat_tests)

  byte_later : (i : ℕ) → length c ≤ i → byte i ≡ get_or s.synced i 0
  byte_later i le = grind (arith, nat_tests)

  first : (i : ℕ) → i < length c → get_or longer i 0 ≡ get_or c i 0
  first i lt = at-build (max (length c) s.least) byte i (omega arith) ∙ byte_first i lt

  later : (i : ℕ) → length c ≤ i → i < max (length c) s.least → get_or longer i 0 ≡ get_or s.synced i 0
  later i le lt = at-build (max (length c) s.least) byte i lt ∙ byte_later i le

  was_longer : IsImage s longer
  was_longer = record {
    no_shorter = omega (arith, longer_size);
    no_longer = omega (arith, longer_size, image.no_longer, some);
    outside = λ i lt short free. ⊎_elim
        (λ below. first i below ∙ image.outside i below short free)
        (λ le. later i le (omega (arith, longer_size, lt)))
        (cases_lt i (length c));
  }

  front_of_longer : c ≡ take (length c) longer
  front_of_longer = ext_get_or 0 c (take (length c) longer)
      (omega (arith, length-take (length c) longer, longer_size))
      (λ i lt. sym (get_or-take (length c) longer i 0 lt ∙ first i lt))

  pub shorter_from : (b : List ℕ) × IsImage s b × Shorter len b c
  shorter_from = (longer, was_longer, record { no_shorter = omega (arith, image.no_shorter, longer_size); front = front_of_longer })

-- A write may change nothing.
pub torn_same : (at n : ℕ) (c : List ℕ) → Torn at n c c
torn_same at n c = record {
  middle = take n (drop at c);
  parts = sym (
      ap (λ (l : List ℕ). take at c ++ take n (drop at c) ++ l) (sym (drop-drop n at c))
      ∙ append_assoc (take at c) (take n (drop at c)) (drop n (drop at c))
      ∙ ap (λ (l : List ℕ). take at c ++ l) (take-append-drop n (drop at c))
      ∙ take-append-drop at c);
  no_shorter = omega arith;
  no_longer = omega arith;
}

-- A write that puts a part of its bytes is a write of all of them.
torn_more : (at m n : ℕ) (b c : List ℕ) → m ≤ n → Torn at m b c → Torn at n b c
torn_more at m n b c le torn = record {
  middle = torn.middle ++ take (n - m) (drop (at + m) b);
  parts =
      torn.parts
      ∙ ap (λ (l : List ℕ). take at b ++ torn.middle ++ l) split
      ∙ sym (append_assoc (take at b ++ torn.middle) (take (n - m) (drop (at + m) b)) (drop (at + n) b))
      ∙ ap (λ (l : List ℕ). l ++ drop (at + n) b) (append_assoc (take at b) torn.middle (take (n - m) (drop (at + m) b)));
  no_shorter = torn.no_shorter;
  no_longer = omega (arith, torn.no_longer, le);
}
  where
    reach : at + m + (n - m) ≡ at + n
    reach = omega (arith, le)

    split : drop (at + m) b ≡ take (n - m) (drop (at + m) b) ++ drop (at + n) b
    split =
        sym (take-append-drop (n - m) (drop (at + m) b))
        ∙ ap (λ (l : List ℕ). take (n - m) (drop (at + m) b) ++ l) (drop-drop (n - m) (at + m) b ∙ ap (λ (k : ℕ). drop k b) reach)

pub shorter_same : (len : ℕ) (c : List ℕ) → Shorter len c c
shorter_same len c = record { no_shorter = omega arith; front = sym (take_all (length c) c (omega arith)) }

-- A crash of a disk that is all synced leaves what a read gives.
pub only_seen : (file c : List ℕ) → IsImage (start file) c → c ≡ file
only_seen file c image = ext_get_or 0 c file
    (omega (arith, image.no_shorter, image.no_longer))
    (λ i lt. image.outside i lt (omega (arith, lt, image.no_longer)) (λ w. absurd (omega (arith, w.2))))

-- Each image after a write of at most n bytes is a torn one of an image before it.
pub torn_step : (s : State) (at n : ℕ) (v : List ℕ) (c : List ℕ) → s.least ≤ s.greatest → length v ≤ n → IsImage (step s (Write at v)) c
    → (b : List ℕ) × IsImage s b × Torn at n b c
torn_step s at n v c some le image = elim (cases_lt (length s.seen) at) [
  | inl past ↦ (c, subst (λ (t : State). IsImage t c) (step_past s at v past) image, torn_same at n c)
  | inr near ↦
      let from = torn_from s at v c (subst (λ (t : State). IsImage t c) (step_inside s at v near) image) some in
      (from.0, from.1, torn_more at (length v) n from.0 c le from.2)
]

-- The length at the last sync is between the least and the greatest.
record Bounds (s : State) : Type 0 where
  low : s.least ≤ length s.synced
  high : length s.synced ≤ s.greatest

step_bounds : (s : State) (call : Call) → Bounds s → Bounds (step s call)
step_bounds s Nothing b = b
step_bounds s (Write at bytes) b = elim (cases_lt (length s.seen) at) [
  | inl past ↦ subst Bounds (sym (step_past s at bytes past)) b
  | inr near ↦ subst Bounds (sym (step_inside s at bytes near)) (record { low = b.low; high = omega (arith, b.high) })
]
step_bounds s (Cut len) b = record { low = omega (arith, b.low); high = b.high }
step_bounds s Sync b = record { low = omega arith; high = omega arith }

run_bounds : (s : State) (calls : List Call) → Bounds s → Bounds (run s calls)
run_bounds s [] b = b
run_bounds s (call ∷ calls) b = run_bounds (step s call) calls (step_bounds s call b)

-- What the last sync left is an image.
pub synced_image : (file : List ℕ) (calls : List Call) → IsImage (run (start file) calls) (run (start file) calls).synced
synced_image file calls =
    let b = run_bounds (start file) calls (record { low = omega arith; high = omega arith }) in
    record { no_shorter = b.low; no_longer = b.high; outside = λ i lt short free. refl }

-- Each choice is an image, where what a read gives is one.
pub chosen_image : (choice : Choice) (s : State) (c : List ℕ) → IsImage s s.seen → IsImage s s.synced → IsChosen choice s c → IsImage s c
chosen_image AsRead s c seen synced is = subst (IsImage s) (sym is) seen
chosen_image AsSynced s c seen synced is = subst (IsImage s) (sym is) synced
chosen_image (FillLong byte) s c seen synced is = record {
  no_shorter = omega (arith, is.size, seen.no_shorter, seen.no_longer);
  no_longer = omega (arith, is.size);
  outside = λ i lt short free. (is.places i (omega (arith, lt, is.size))).kept short free;
}
chosen_image (FillShort byte) s c seen synced is = record {
  no_shorter = omega (arith, is.size);
  no_longer = omega (arith, is.size, seen.no_shorter, seen.no_longer);
  outside = λ i lt short free. (is.places i (omega (arith, lt, is.size))).kept short free;
}
