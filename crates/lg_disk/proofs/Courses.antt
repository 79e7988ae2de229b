-- The course of a call of a disk in memory, from what it does to the list of calls.
use Rattle.std.proofs.Common.{◌≡◌, ◌⊎◌, inl, inr, ⊎_elim, ℕ, ◌+◌, ◌-◌, ◌<◌, ◌≤◌, List, [], ◌∷◌, ◌++◌, length, take, refl, sym, ◌∙◌, ap, subst, arith, Result, Ok, Err, IfOk, Vec, OnOk, OnErr, IsErr, Bool, true, false, IsTrue, ◌/◌, length-take, get_or, ◌↔◌, if◌then◌else◌}
use Rattle.std.proofs.lemmas.List.{take_all, take-append-le, take_more, length_push, get_or_append_left, get_or-append_right}
use Rattle.std.proofs.lemmas.Bool.{cases_lt, false≢true}
use Rattle.std.specs.declared.alloc.Global.{Global}
use Rattle.lg_disk.specs.Disk.{Course, Torn, Shorter, Same, Holds, Only}
use Rattle.lg_disk.specs.Model.{State, start, step, run, IsImage}
use Rattle.lg_disk.specs.Choices.{IsFilledAt, IsChosen}
use Rattle.lg_disk.specs.declared.choice.Choice.{Choice}
use Rattle.lg_disk.specs.Laws.{step_inside, step_past}
use Rattle.lg_disk.specs.Memory.{Medium, state, IsHonest, IsNow, IsSince, moment, IsKept, reads_now, FailsExactly, IsDue, did, counted, noted, faulted, wanted, first_half}
use Rattle.lg_disk.specs.declared.call.Call.{Call}
use Rattle.lg_disk.specs.declared.call.Call.TheVariants.{Nothing, Write, Cut, Sync}
use Rattle.lg_disk.proofs.Images.{torn_step, torn_same, shorter_from, only_seen, chosen_image, synced_image}

pub run_push : (s : State) (calls : List Call) (call : Call) → run s (calls ++ call ∷ []) ≡ step (run s calls) call
run_push s [] call = refl
run_push s (c ∷ calls) call = run_push (step s c) calls call

-- What a read gives after a call depends on what it gave before alone.
seen_step : (s : State) (call : Call) → (step s call).seen ≡ (step (start s.seen) call).seen
seen_step s Nothing = refl
seen_step s (Write at bytes) = elim (cases_lt (length s.seen) at) [
  | inl past ↦ ap (λ (t : State). t.seen) (step_past s at bytes past) ∙ sym (ap (λ (t : State). t.seen) (step_past (start s.seen) at bytes past))
  | inr near ↦ ap (λ (t : State). t.seen) (step_inside s at bytes near) ∙ sym (ap (λ (t : State). t.seen) (step_inside (start s.seen) at bytes near))
]
seen_step s (Cut len) = refl
seen_step s Sync = refl

-- The fields still hold what a read gives.
pub kept_more : (first bytes new_bytes : List ℕ) (calls new_calls : List Call) (call : Call) → IsKept first bytes calls
    → new_bytes ≡ (step (start bytes) call).seen → new_calls ≡ calls ++ call ∷ [] → IsKept first new_bytes new_calls
kept_more first bytes new_bytes calls new_calls call kept is same =
    is
    ∙ ap (λ (f : List ℕ). (step (start f) call).seen) kept
    ∙ sym (seen_step (run (start first) calls) call)
    ∙ ap (λ (s : State). s.seen) (sym (run_push (start first) calls call))
    ∙ ap (λ (l : List Call). (run (start first) l).seen) (sym same)

-- Each image after the call is a step of one before it.
abbrev pub Follows : (List ℕ → List ℕ → Type 0) → Medium → Call → Type 0
Follows Step old call = (c : List ℕ) → IsImage (step (state old) call) c → (b : List ℕ) × IsNow old b × Step b c

module _ (old new : Medium) (Step : List ℕ → List ℕ → Type 0) (still : (c : List ℕ) → Step c c) (first : new.first ≡ old.first) where
  moved : (calls : List Call) (k : ℕ) (c : List ℕ) → new.calls ≡ calls → IsImage (run (start new.first) (take k new.calls)) c
      → IsImage (run (start old.first) (take k calls)) c
  moved calls k c same image =
      subst (λ (l : List Call). IsImage (run (start old.first) (take k l)) c) same
      (subst (λ (f : List ℕ). IsImage (run (start f) (take k new.calls)) c) first image)

  all : (calls : List Call) (k : ℕ) (c : List ℕ) → length calls ≤ k → IsImage (run (start old.first) (take k calls)) c → IsImage (run (start old.first) calls) c
  all calls k c long image = subst (λ (l : List Call). IsImage (run (start old.first) l) c) (take_all k calls long) image

  -- of a call that is not on the list
  same_course : new.calls ≡ old.calls → Course IsHonest IsNow moment IsSince Step old new
  same_course same = record {
    still = λ h. tt;
    was = λ h. tt;
    later = omega (arith, ap length same);
    during = λ h c since. (c, all old.calls since.count c since.from (moved old.calls since.count c same since.image), still c);
    before = λ h t c le since. inl (record {
      count = since.count;
      from = since.from;
      to = omega (arith, since.to, ap length same);
      image = moved old.calls since.count c same since.image;
    });
  }

  -- of a call that is on the list
  push_course : (call : Call) → new.calls ≡ old.calls ++ call ∷ [] → Follows Step old call → Course IsHonest IsNow moment IsSince Step old new
  push_course call same follows = record {
    still = λ h. tt;
    was = λ h. tt;
    later = omega (arith, one_more);
    during = λ h c since. ⊎_elim
        (λ le. (c, all old.calls since.count c since.from (earlier c since.count le since.image), still c))
        (λ lt. follows c (last c since.count lt since.image))
        (split since.count);
    before = λ h t c le since. ⊎_elim
        (λ early. inl (record { count = since.count; from = since.from; to = early; image = earlier c since.count early since.image }))
        (λ lt. inr (record { count = since.count; from = omega arith; to = since.to; image = since.image }))
        (split since.count);
  }
    where
      one_more : length new.calls ≡ length old.calls + 1
      one_more = ap length same ∙ length_push old.calls call

      split : (k : ℕ) → (k ≤ length old.calls) ⊎ (length old.calls < k)
      split k = grind arith

      earlier : (c : List ℕ) (k : ℕ) → k ≤ length old.calls → IsImage (run (start new.first) (take k new.calls)) c
          → IsImage (run (start old.first) (take k old.calls)) c
      earlier c k le image =
          subst (λ (l : List Call). IsImage (run (start old.first) l) c) (take-append-le k old.calls (call ∷ []) le)
          (moved (old.calls ++ call ∷ []) k c same image)

      last : (c : List ℕ) (k : ℕ) → length old.calls < k → IsImage (run (start new.first) (take k new.calls)) c → IsImage (step (state old) call) c
      last c k lt image =
          subst (λ (s : State). IsImage s c) (run_push (start old.first) old.calls call)
          (all (old.calls ++ call ∷ []) k c (omega (arith, length_push old.calls call)) (moved (old.calls ++ call ∷ []) k c same image))

-- the course of a call that fails exactly where it is to
pub course : {T E : Type 0} (r : Result T E) (whole part : Call) (old new : Medium) (Step : List ℕ → List ℕ → Type 0) → FailsExactly r whole part old new
    → ((c : List ℕ) → Step c c) → Follows Step old whole → Follows Step old part → Course IsHonest IsNow moment IsSince Step old new
course (Ok x) whole part old new Step exact still follows_whole follows_part =
    push_course old new Step still (ap (λ (m : Medium). m.first) exact.1) whole (ap (λ (m : Medium). m.calls) exact.1) follows_whole
course (Err e) whole part old new Step exact still follows_whole follows_part = ⊎_elim
    (λ due. push_course old new Step still (ap (λ (m : Medium). m.first) due.1) part (ap (λ (m : Medium). m.calls) due.1) follows_part)
    (λ none. same_course old new Step still (ap (λ (m : Medium). m.first) none) (ap (λ (m : Medium). m.calls) none))
    exact

-- the range of lengths has a length in it
some : (m : Medium) → (state m).least ≤ (state m).greatest
some m = omega (arith, (reads_now m).no_shorter, (reads_now m).no_longer)

pub nothing_follows : (Step : List ℕ → List ℕ → Type 0) (old : Medium) → ((c : List ℕ) → Step c c) → Follows Step old Nothing
nothing_follows Step old still c image = (c, image, still c)

pub sync_follows : (old : Medium) → Follows Same old Sync
sync_follows old c image = (c, subst (λ (f : List ℕ). IsNow old f) (sym (only_seen (state old).seen c image)) (reads_now old), refl)

pub cut_follows : (old : Medium) (len : ℕ) → Follows (Shorter len) old (Cut len)
cut_follows old len c image = shorter_from (state old) len c image (some old)

pub write_follows : (old : Medium) (at n : ℕ) (v : List ℕ) → length v ≤ n → Follows (Torn at n) old (Write at v)
write_follows old at n v le c image = torn_step (state old) at n v c (some old) le image

-- ---- what a read gives after the call, and what a crash may leave

state_did : (old new : Medium) (call : Call) → new ≡ did old call → state new ≡ step (state old) call
state_did old new call same = ap (λ (m : Medium). state m) same ∙ run_push (start old.first) old.calls call

pub state_ok : {T E : Type 0} (r : Result T E) (whole part : Call) (old new : Medium) → FailsExactly r whole part old new
    → OnOk r (state new ≡ step (state old) whole)
state_ok (Ok x) whole part old new exact = state_did old new whole exact.1
state_ok (Err e) whole part old new exact = tt

pub seen_kept : {T E : Type 0} (r : Result T E) (whole : Call) (old new : Medium) → FailsExactly r whole Nothing old new
    → (step (state old) whole).seen ≡ (state old).seen → (state new).seen ≡ (state old).seen
seen_kept (Ok x) whole old new exact same = ap (λ (s : State). s.seen) (state_did old new whole exact.1) ∙ same
seen_kept (Err e) whole old new exact same = ⊎_elim
    (λ due. ap (λ (m : Medium). (state m).seen) due.1 ∙ ap (λ (s : State). s.seen) (run_push (start old.first) old.calls Nothing))
    (λ none. ap (λ (m : Medium). (state m).seen) none)
    exact

pub on_ok : {T E : Type 0} {P Q : Type 0} (r : Result T E) → (P → Q) → OnOk r P → OnOk r Q
on_ok (Ok x) f p = f p
on_ok (Err e) f p = p

-- after a sync a crash leaves what a read gives
pub durable : (old new : Medium) → state new ≡ step (state old) Sync → Only (state old).seen (IsNow new)
durable old new same c image = only_seen (state old).seen c (subst (λ (s : State). IsImage s c) same image)

-- what a write puts into what a read gives
pub holds : (old new : Medium) (at : ℕ) (bytes : List ℕ) → at ≤ length (state old).seen → state new ≡ step (state old) (Write at bytes)
    → Holds (state old).seen at bytes (state new).seen
holds old new at bytes le same = ap (λ (s : State). s.seen) (same ∙ step_inside (state old) at bytes le)

-- a call that was counted, and then settled
pub settled : {T E : Type 0} (r : Result T E) (fails : Bool) (whole part call : Call) (old mid new : Medium) → (IsTrue fails ↔ IsDue old) → mid ≡ counted old
    → call ≡ (if fails then part else whole)
    → OnOk r ((fails ≡ false) × (new ≡ noted mid call))
    → OnErr r (((fails ≡ true) × (new ≡ faulted (noted mid call))) ⊎ (new ≡ faulted (wanted mid)))
    → FailsExactly r whole part old new
settled (Ok x) true whole part call old mid new due is same ok err = absurd (false≢true (sym ok.0))
settled (Ok x) false whole part call old mid new due is same ok err =
    (λ d. false≢true (due.1 d), ok.1 ∙ ap (λ (m : Medium). noted m call) is ∙ ap (λ (k : Call). noted (counted old) k) same)
settled (Err e) true whole part call old mid new due is same ok err = ⊎_elim
    (λ f. inl (due.0 refl, f.1 ∙ ap (λ (m : Medium). faulted (noted m call)) is ∙ ap (λ (k : Call). faulted (noted (counted old) k)) same))
    (λ none. inr (none ∙ ap (λ (m : Medium). faulted (wanted m)) is))
    err
settled (Err e) false whole part call old mid new due is same ok err = ⊎_elim
    (λ f. absurd (false≢true f.0))
    (λ none. inr (none ∙ ap (λ (m : Medium). faulted (wanted m)) is))
    err

-- a call that was counted, and found no memory
pub unfed : {T E : Type 0} (r : Result T E) (whole part : Call) (old mid new : Medium) → IsErr r → mid ≡ counted old → new ≡ faulted (wanted mid)
    → FailsExactly r whole part old new
unfed (Ok x) whole part old mid new err is same = absurd (false≢true err)
unfed (Err e) whole part old mid new err is same = inr (same ∙ ap (λ (m : Medium). faulted (wanted m)) is)

pub written_part : (at : ℕ) (bytes put : List ℕ) (fails : Bool) → put ≡ (if fails then first_half bytes else bytes)
    → Write at put ≡ (if fails then Write at (first_half bytes) else Write at bytes)
written_part at bytes put true is = ap (Write at) is
written_part at bytes put false is = ap (Write at) is

pub half_is_less : (bytes : List ℕ) → length (first_half bytes) ≤ length bytes
half_is_less bytes = omega (arith, length-take (length bytes / 2) bytes)

-- the course of a write
pub write_course : {T E : Type 0} (r : Result T E) (at : ℕ) (bytes : List ℕ) (old new : Medium)
    → FailsExactly r (Write at bytes) (Write at (first_half bytes)) old new → Course IsHonest IsNow moment IsSince (Torn at (length bytes)) old new
write_course r at bytes old new exact =
    course r (Write at bytes) (Write at (first_half bytes)) old new (Torn at (length bytes)) exact (torn_same at (length bytes))
    (write_follows old at (length bytes) bytes (omega arith)) (write_follows old at (length bytes) (first_half bytes) (half_is_less bytes))

-- one call more of a list
pub run_more : (s : State) (calls : List Call) (i : ℕ) (x : Call) → i < length calls → x ≡ get_or calls i x
    → run s (take (i + 1) calls) ≡ step (run s (take i calls)) x
run_more s calls i x lt is =
    ap (λ (l : List Call). run s l) (take_more calls i x lt ∙ ap (λ (y : Call). take i calls ++ y ∷ []) (sym is)) ∙ run_push s (take i calls) x

-- one byte more of an image
pub filled_more : (s : State) (byte i found : ℕ) (bytes new : List ℕ) → length bytes ≡ i → new ≡ bytes ++ found ∷ []
    → ((k : ℕ) → k < i → IsFilledAt s byte k (get_or bytes k 0)) → IsFilledAt s byte i found
    → (k : ℕ) → k < i + 1 → IsFilledAt s byte k (get_or new k 0)
filled_more s byte i found bytes new size is earlier last k lt = elim (cases_lt k i) [
  | inl before ↦
      let same : get_or new k 0 ≡ get_or bytes k 0 = ap (λ (l : List ℕ). get_or l k 0) is ∙ get_or_append_left bytes (found ∷ []) 0 k (omega (arith, size)) in
      subst (λ (b : ℕ). IsFilledAt s byte k b) (sym same) (earlier k before)
  | inr after ↦
      let here : k ≡ i = omega arith in
      let first : get_or (found ∷ []) (k - i) 0 ≡ found = ap (λ (j : ℕ). get_or (found ∷ []) j 0) {y = 0} (omega (arith, here)) in
      let same : get_or new k 0 ≡ found = ap (λ (l : List ℕ). get_or l k 0) is ∙ get_or-append_right bytes (found ∷ []) i k 0 size (omega arith) ∙ first in
      subst (λ (b : ℕ). IsFilledAt s byte k b) (sym same) (subst (λ (j : ℕ). IsFilledAt s byte j found) (sym here) last)
]

-- what a replay gives is an image of the disk
pub image_of : {E : Type 0} (r : Result (Vec ℕ Global) E) (choice : Choice) (m : Medium) (s : State) → s ≡ state m
    → IfOk r (λ v. IsChosen choice s v.items) → IfOk r (λ v. IsNow m v.items)
image_of (Err e) choice m s is chosen = tt
image_of (Ok v) choice m s is chosen =
    chosen_image choice (state m) v.items (reads_now m) (synced_image m.first m.calls) (subst (λ (t : State). IsChosen choice t v.items) is chosen)
