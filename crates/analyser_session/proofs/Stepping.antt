-- A step of a reader that met no fault.
use Rattle.std.specs.Prelude.{◌≡◌, ℕ, ◌+◌, ◌≤◌, Bool, true, false, ◌&&◌, ◌==◌, cond, List, ◌++◌, length, drop, slice_index, Option, None, Some, Result, Ok, Err}
use Rattle.std.proofs.Common.{refl, sym, ap, ◌∙◌, arith, inl, inr, leb}
use Rattle.std.proofs.lemmas.Bool.{leb-true}
use Rattle.upload_frame.specs.declared.fault.FrameFault.{FrameFault}
use Rattle.upload_frame.specs.declared.fault.NextFault.TheVariants as next
use Rattle.upload_frame.specs.declared.frame.Frame.{Frame}
use Rattle.upload_frame.specs.Front.{Front, fits_lens, front_at, IsUnfinished, length_of}
use Rattle.upload_frame.specs.Frames.{frames, frame_lens}
use Rattle.upload_frame.specs.Machine.{ReaderData, reader_of, fed, fed_with, step, step_with, step_by, Step, Stepped}
use Rattle.upload_frame.proofs.FrameSpelled.{no_range, range_is, some}
use Rattle.upload_frame.proofs.Fronts.{front_of, fronts}
use Rattle.upload_frame.proofs.Heads.{whole_of}

abbrev gave : Option Frame → Result (Option Frame) FrameFault
gave o = Ok o

abbrev failed : FrameFault → Result (Option Frame) FrameFault
failed f = Err f

by_front : (r : ReaderData) (s : Step Frame) → r.fault ≡ None → step frames r ≡ s → step_by r (front_at frames r.rest) ≡ s
by_front r s clear e = ap (step_with frames r) (sym clear) ∙ e

none_by : (r new : ReaderData) (front : Front Frame) → front_at frames r.rest ≡ front → step_by r front ≡ (gave None, new)
    → (new ≡ r) × (front_at frames r.rest ≡ Ok None)
none_by r new (Ok None) is e = (sym (ap (λ (s : Step Frame). s.1) e), is)
none_by r new (Ok (Some x)) is e = absurd (let h : gave (Some x.0) ≡ gave None = ap (λ (s : Step Frame). s.0) e in cc)
none_by r new (Err f) is e = absurd (let h : failed f ≡ gave None = ap (λ (s : Step Frame). s.0) e in cc)

pub step_none : (r new : ReaderData) → r.fault ≡ None → Stepped frames r (Ok None) new → (new ≡ r) × (front_at frames r.rest ≡ Ok None)
step_none r new clear e = none_by r new (front_at frames r.rest) refl (by_front r (gave None, new) clear e)

some_by : (r new : ReaderData) (f : Frame) (front : Front Frame) → r.fault ≡ None → front_at frames r.rest ≡ front → step_by r front ≡ (gave (Some f), new)
    → (k : ℕ) × (front_at frames r.rest ≡ Ok (Some (f, k))) × (new ≡ reader_of (drop k r.rest) (r.taken + k) None)
some_by r new f (Ok None) clear is e = absurd (let h : gave None ≡ gave (Some f) = ap (λ (s : Step Frame). s.0) e in cc)
some_by r new f (Ok (Some x)) clear is e =
    let same : x.0 ≡ f = (let h : gave (Some x.0) ≡ gave (Some f) = ap (λ (s : Step Frame). s.0) e in cc) in (
      x.1,
      is ∙ ap (λ (g : Frame). (let front : Front Frame = Ok (Some (g, x.1)) in front)) same,
      sym (ap (λ (s : Step Frame). s.1) e) ∙ ap (reader_of (drop x.1 r.rest) (r.taken + x.1)) clear,
    )
some_by r new f (Err g) clear is e = absurd (let h : failed g ≡ gave (Some f) = ap (λ (s : Step Frame). s.0) e in cc)

pub step_some : (r new : ReaderData) (f : Frame) → r.fault ≡ None → Stepped frames r (Ok (Some f)) new
    → (k : ℕ) × (front_at frames r.rest ≡ Ok (Some (f, k))) × (new ≡ reader_of (drop k r.rest) (r.taken + k) None)
step_some r new f clear e = some_by r new f (front_at frames r.rest) clear refl (by_front r (gave (Some f), new) clear e)

fault_by : (r new : ReaderData) (g : FrameFault) (front : Front Frame) → front_at frames r.rest ≡ front → step_by r front ≡ (failed g, new)
    → (front_at frames r.rest ≡ Err g) × (new.taken ≡ r.taken)
fault_by r new g (Ok None) is e = absurd (let h : gave None ≡ failed g = ap (λ (s : Step Frame). s.0) e in cc)
fault_by r new g (Ok (Some x)) is e = absurd (let h : gave (Some x.0) ≡ failed g = ap (λ (s : Step Frame). s.0) e in cc)
fault_by r new g (Err f) is e =
    let same : f ≡ g = (let h : failed f ≡ failed g = ap (λ (s : Step Frame). s.0) e in cc) in
    (is ∙ ap (λ (x : FrameFault). (let front : Front Frame = Err x in front)) same, sym (ap (λ (s : Step Frame). s.1.taken) e))

pub step_fault : (r new : ReaderData) (g : FrameFault) → r.fault ≡ None → Stepped {F = Frame} frames r (Err (next.Frame g)) new
    → (front_at frames r.rest ≡ Err g) × (new.taken ≡ r.taken)
step_fault r new g clear e = fault_by r new g (front_at frames r.rest) refl (by_front r (failed g, new) clear e)

-- bytes in which no frame is whole yet are few
pub few_bytes : (s : List ℕ) → front_at frames s ≡ Ok None → length s ≤ 1001
few_bytes s e = by ((fronts frames).unfinished s e)
  where
    by : IsUnfinished frame_lens s → length s ≤ 1001
    by (inl short) = omega arith
    by (inr (inl two)) = omega (arith, two.0)
    by (inr (inr part)) = omega (arith, part.fewer, part.first.1)

-- a reader to which a piece was fed
pub grown : (r0 r1 r2 : ReaderData) (p : List ℕ) → r0.fault ≡ None → r1 ≡ r0 → r2 ≡ fed r1 p
    → (r2.fault ≡ None) × (r2.rest ≡ r0.rest ++ p) × (r2.taken ≡ r0.taken)
grown r0 r1 r2 p clear same e =
    let all = e ∙ ap (λ (r : ReaderData). fed r p) same ∙ ap (fed_with r0 p) clear in
    (ap (λ (r : ReaderData). r.fault) all ∙ clear, ap (λ (r : ReaderData). r.rest) all, ap (λ (r : ReaderData). r.taken) all)

-- ---- a frame is 1,002 bytes at most

short_range : (kind : ℕ) (range : ℕ × ℕ) → frame_lens kind ≡ some range → range.1 ≤ 1000
short_range kind range e = by (kind == 1) (kind == 2) (kind == 3) e
  where
    by : (a b c : Bool) → cond a (some (15, 15)) (cond b (some (28, 1000)) (cond c (some (3, 3)) None)) ≡ some range → range.1 ≤ 1000
    by true b c h = (let m : 15 ≡ range.1 = ap (λ (r : ℕ × ℕ). r.1) (range_is (15, 15) range h) in omega arith)
    by false true c h = (let m : 1000 ≡ range.1 = ap (λ (r : ℕ × ℕ). r.1) (range_is (28, 1000) range h) in omega arith)
    by false false true h = (let m : 3 ≡ range.1 = ap (λ (r : ℕ × ℕ). r.1) (range_is (3, 3) range h) in omega arith)
    by false false false h = absurd (no_range range None refl h)

within : (lo hi len : ℕ) → fits_lens (lo, hi) len ≡ true → len ≤ hi
within lo hi len e = leb-true _ _ (second (leb lo len) (leb len hi) e)
  where
    second : (a b : Bool) → (a && b) ≡ true → b ≡ true
    second true b h = h
    second false b h = absurd cc

-- A frame at the front: it ends in the bytes and is short.
pub record IsShort (s : List ℕ) (k : ℕ) : Type 0 where
  pub there : k ≤ length s
  pub most : k ≤ 1002

pub short_of : (s : List ℕ) (f : Frame) (k : ℕ) → front_at frames s ≡ Ok (Some (f, k)) → IsShort s k
short_of s f k e =
    let p = front_of frames s f k e in
    let w = whole_of frame_lens s p.head p.at in
    let most = short_range (slice_index s 2) w.range w.known in
    let len = within w.range.0 w.range.1 (length_of s) w.fits in
    record { there = ((fronts frames).inside s f k e).1; most = omega (arith, p.end, w.len, most, len) }
