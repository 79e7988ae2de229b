-- A disk as it reads is one of its images, after every list of calls.
use Rattle.std.proofs.Common.{◌≡◌, inl, inr, ℕ, ◌+◌, ◌-◌, ◌<◌, ◌≤◌, max, List, [], ◌∷◌, ◌++◌, length, take, drop, get_or, refl, sym, ◌∙◌, ap, subst, arith, length-append, length-take, length-drop, if◌then◌else◌, Bool, false}
use Rattle.std.specs.Prelude.{nat_le}
use Rattle.std.proofs.lemmas.List.{get_or-take, get_or-drop, get_or_append_left, get_or-append_right}
use Rattle.std.proofs.lemmas.List.Quantifiers.{Any-push}
use Rattle.std.proofs.lemmas.Bool.{cases_lt, le-leb}
use Rattle.std.proofs.lemmas.Bool.Decides.{nat_tests}
use Rattle.lg_disk.specs.Disk.{with_bytes}
use Rattle.lg_disk.specs.Model.{State, start, wrote, step, run, IsWritten, IsImage}
use Rattle.lg_disk.specs.declared.call.Call.{Call}
use Rattle.lg_disk.specs.declared.call.Call.TheVariants.{Nothing, Write, Cut, Sync}

pub step_inside : (s : State) (at : ℕ) (bytes : List ℕ) → at ≤ length s.seen → step s (Write at bytes) ≡ wrote s at bytes
step_inside s at bytes le = ap (λ (b : Bool). if b then wrote s at bytes else s) (le-leb at (length s.seen) le)

past : (at len : ℕ) → len < at → nat_le at len ≡ false
past at len lt = grind (arith, nat_tests)

pub step_past : (s : State) (at : ℕ) (bytes : List ℕ) → length s.seen < at → step s (Write at bytes) ≡ s
step_past s at bytes lt = ap (λ (b : Bool). if b then wrote s at bytes else s) (past at (length s.seen) lt)

pub written_more : (ranges : List (ℕ × ℕ)) (r : ℕ × ℕ) (i : ℕ) → IsWritten ranges i → IsWritten (ranges ++ r ∷ []) i
written_more ranges r i (k, x, lt, is, inside) =
    (k, x, omega (arith, length-append ranges (r ∷ []), lt), get_or_append_left ranges (r ∷ []) x k lt ∙ is, inside)

written_last : (ranges : List (ℕ × ℕ)) (at n i : ℕ) → at ≤ i → i < at + n → IsWritten (ranges ++ (at, n) ∷ []) i
written_last ranges at n i from below = Any-push (λ (r : ℕ × ℕ). (r.0 ≤ i) × (i < r.0 + r.1)) ranges (at, n) (from, below)

length-with_bytes : (file : List ℕ) (at : ℕ) (bytes : List ℕ) → at ≤ length file
    → length (with_bytes file at bytes) ≡ max (length file) (at + length bytes)
length-with_bytes file at bytes le =
    let rest = drop (at + length bytes) file in
    let parts = length-append (take at file ++ bytes) rest in
    omega (arith, parts, length-append (take at file) bytes, length-take at file, length-drop (at + length bytes) file, le)

write_reads : (s : State) (at : ℕ) (v : List ℕ) → IsImage s s.seen → at ≤ length s.seen
    → IsImage (wrote s at v) (wrote s at v).seen
write_reads s at v image le = record {
  no_shorter = omega (arith, image.no_shorter, long);
  no_longer = omega (arith, image.no_longer, long);
  outside = outside;
}
  where
    long : length (with_bytes s.seen at v) ≡ max (length s.seen) (at + length v)
    long = length-with_bytes s.seen at v le

    front : length (take at s.seen ++ v) ≡ at + length v
    front = omega (arith, length-append (take at s.seen) v, length-take at s.seen)

    outside : (i : ℕ) → i < length (with_bytes s.seen at v) → i < length s.synced
        → (IsWritten (s.written ++ (at, length v) ∷ []) i → ⊥) → get_or (with_bytes s.seen at v) i 0 ≡ get_or s.synced i 0
    outside i lt short free = elim (cases_lt i at) [
      | inl before ↦
          get_or_append_left (take at s.seen ++ v) (drop (at + length v) s.seen) 0 i (omega (arith, front))
          ∙ get_or_append_left (take at s.seen) v 0 i (omega (arith, length-take at s.seen))
          ∙ get_or-take at s.seen i 0 before
          ∙ image.outside i (omega arith) short (λ w. free (written_more s.written (at, length v) i w))
      | inr from ↦ elim (cases_lt i (at + length v)) [
        | inl below ↦ absurd (free (written_last s.written at (length v) i from below))
        | inr after ↦
            get_or-append_right (take at s.seen ++ v) (drop (at + length v) s.seen) (at + length v) i 0 front after
            ∙ get_or-drop (at + length v) s.seen (i - (at + length v)) 0
            ∙ ap (λ (j : ℕ). get_or s.seen j 0) (omega arith)
            ∙ image.outside i (omega (arith, long)) short (λ w. free (written_more s.written (at, length v) i w))
      ]
    ]

cut_reads : (s : State) (len : ℕ) → IsImage s s.seen → IsImage (step s (Cut len)) (step s (Cut len)).seen
cut_reads s len image = record {
  no_shorter = omega (arith, length-take len s.seen, image.no_shorter);
  no_longer = omega (arith, length-take len s.seen, image.no_longer);
  outside = λ i lt short free.
      get_or-take len s.seen i 0 (omega (arith, lt, length-take len s.seen))
      ∙ image.outside i (omega (arith, lt, length-take len s.seen)) short free;
}

pub start_reads : (file : List ℕ) → IsImage (start file) file
start_reads file = record { no_shorter = omega arith; no_longer = omega arith; outside = λ i lt short free. refl }

step_reads : (s : State) (call : Call) → IsImage s s.seen → IsImage (step s call) (step s call).seen
step_reads s Nothing image = image
step_reads s (Write at bytes) image = elim (cases_lt (length s.seen) at) [
  | inl lt ↦ subst (λ (t : State). IsImage t t.seen) (sym (step_past s at bytes lt)) image
  | inr le ↦ subst (λ (t : State). IsImage t t.seen) (sym (step_inside s at bytes le)) (write_reads s at bytes image le)
]
step_reads s (Cut len) image = cut_reads s len image
step_reads s Sync image = start_reads s.seen

pub run_reads : (s : State) (calls : List Call) → IsImage s s.seen → IsImage (run s calls) (run s calls).seen
run_reads s [] image = image
run_reads s (call ∷ calls) image = run_reads (step s call) calls (step_reads s call image)
