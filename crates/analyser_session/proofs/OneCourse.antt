-- A stream has one course, and an input one end.
use Rattle.std.specs.Prelude.{◌≡◌, ℕ, zero, suc, ◌+◌, ◌-◌, ◌<◌, ◌≤◌, ◌⊎◌, Bool, true, false}
use Rattle.std.specs.Prelude.{List, [], ◌∷◌, ◌++◌, length, drop, Option, None, Some, Result, Ok, Err}
use Rattle.std.proofs.Common.{refl, sym, ap, subst, ◌∙◌, arith, inl, inr, length-append, length-drop}
use Rattle.std.proofs.lemmas.Bool.{cases_lt}
use mathlib.Core.List.{IsPrefix}
use Rattle.upload_frame.specs.declared.fault.FrameFault.{FrameFault}
use Rattle.upload_frame.specs.declared.frame.Frame.{Frame}
use Rattle.upload_frame.specs.Front.{Front, front_at}
use Rattle.upload_frame.specs.Frames.{frames}
use Rattle.upload_frame.specs.Machine.{Took}
use Rattle.upload_frame.proofs.Streams.{took_one}
use Rattle.lock_rule.proofs.Fronts.{prefix_self, prefix_shorter}
use Rattle.analyser_session.specs.declared.fault.SessionFault.{SessionFault}
use Rattle.analyser_session.specs.declared.fault.SessionFault.TheVariants as faults
use Rattle.analyser_session.specs.declared.limits.TheConstants.{MOST_SESSION_FRAMES}
use Rattle.analyser_session.specs.declared.served.Served.{Served}
use Rattle.analyser_session.specs.Answered.{EndsWithBye, is_bye, IsOpenEnded, NoBye}
use Rattle.analyser_session.specs.Hearing.{ComesTo, IsOfInput, LawOfInputs, Stops}

-- The one course goes further than the other: it begins with its frames, and its next frame stands at the front of the
-- other's rest.
pub record GoesFurther (fs gs : List Frame) (rest : List ℕ) : Type 0 where
  pub begins : IsPrefix fs gs
  pub next : Frame
  pub len : ℕ
  pub front : front_at frames rest ≡ Ok (Some (next, len))

-- Frames taken off one stream are the same as far as both go.
pub record IsOneCourse (fs gs : List Frame) (rest rest' : List ℕ) : Type 0 where
  pub same : length fs ≡ length gs → (fs ≡ gs) × (rest ≡ rest')
  pub further : length fs < length gs → GoesFurther fs gs rest

abbrev is : Frame × ℕ → Front Frame
is x = Ok (Some x)

one_front : (x y : Frame × ℕ) → is x ≡ is y → x ≡ y
one_front x y e = cc

pub one_course : (stream : List ℕ) (fs gs : List Frame) (rest rest' : List ℕ) → Took frames stream fs rest → Took frames stream gs rest'
    → IsOneCourse fs gs rest rest'
one_course stream [] [] rest rest' a b = record { same = λ e. (refl, sym a ∙ b); further = λ lt. absurd (omega arith) }
one_course stream [] (g ∷ gs) rest rest' a b = record {
  same = λ e. absurd (omega arith);
  further = λ lt. record { begins = (g ∷ gs, refl); next = g; len = b.0; front = ap (front_at frames) (sym a) ∙ b.1 };
}
one_course stream (f ∷ fs) [] rest rest' a b = record { same = λ e. absurd (omega arith); further = λ lt. absurd (omega arith) }
one_course stream (f ∷ fs) (g ∷ gs) rest rest' a b =
    let x : Frame × ℕ = (f, a.0) in
    let y : Frame × ℕ = (g, b.0) in
    let heads : x ≡ y = one_front x y (sym a.1 ∙ b.1) in
    let one : f ≡ g = ap (λ (p : Frame × ℕ). p.0) heads in
    let cut : b.0 ≡ a.0 = sym (ap (λ (p : Frame × ℕ). p.1) heads) in
    let i = one_course (drop a.0 stream) fs gs rest rest' a.2 (subst (λ (k : ℕ). Took frames (drop k stream) gs rest') cut b.2) in
    record {
      same = λ e. let t = i.same (omega arith) in ((λ j. one j ∷ t.0 j), t.1);
      further = λ lt. further fs gs rest f g one (i.further (omega arith));
    }
  where
    further : (fs gs : List Frame) (rest : List ℕ) (f g : Frame) → f ≡ g → GoesFurther fs gs rest → GoesFurther (f ∷ fs) (g ∷ gs) rest
    further fs gs rest f g one t = record {
      begins = (t.begins.0, (λ j. one j ∷ t.begins.1 j));
      next = t.next;
      len = t.len;
      front = t.front;
    }

-- ---- byes

front_free : (xs ys : List Frame) → NoBye (xs ++ ys) → NoBye xs
front_free [] ys all = tt
front_free (x ∷ xs) ys all = (all.0, front_free xs ys all.1)

last_free : (fs : List Frame) (f : Frame) → NoBye (fs ++ f ∷ []) → is_bye f ≡ false
last_free [] f all = all.0
last_free (g ∷ fs) f all = last_free fs f all.1

not_both : (fs : List Frame) → EndsWithBye fs → NoBye fs → ⊥
not_both fs e all =
    let f = last_free e.0 e.1 (subst NoBye e.2 all) in (let h : true ≡ false = sym e.4 ∙ f in absurd cc)

prefix_free : (fs gs : List Frame) → IsPrefix fs gs → NoBye gs → NoBye fs
prefix_free fs gs p all = front_free fs p.0 (subst NoBye (sym p.1) all)

-- A bye ends a session: a list that goes on has none.
on_free : (fs gs : List Frame) → IsPrefix fs gs → length fs < length gs → IsOpenEnded gs → NoBye fs
on_free fs gs p lt (inl all) = prefix_free fs gs p all
on_free fs gs p lt (inr e) =
    let whole : IsPrefix e.0 gs = (e.1 ∷ [], sym e.2) in
    let less : length fs ≤ length e.0 = omega (arith, lt, ap length e.2, length-append e.0 (e.1 ∷ [])) in
    prefix_free fs e.0 (prefix_shorter fs e.0 gs p whole less) e.3

pub none_push : (fs : List Frame) (f : Frame) → NoBye fs → is_bye f ≡ false → NoBye (fs ++ f ∷ [])
none_push [] f all new = (new, tt)
none_push (g ∷ fs) f all new = (all.0, none_push fs f all.1 new)

-- One frame more, which may be a bye.
pub open_push : (fs : List Frame) (f : Frame) → NoBye fs → IsOpenEnded (fs ++ f ∷ [])
open_push fs f all = by (is_bye f) refl
  where
    by : (b : Bool) → is_bye f ≡ b → IsOpenEnded (fs ++ f ∷ [])
    by true e = inr (fs, f, refl, all, e)
    by false e = inl (none_push fs f all e)

-- ---- ends

abbrev Answer : Type 0
Answer = Result Served SessionFault

abbrev none_there : Front Frame
none_there = Ok None

abbrev broken : FrameFault → Front Frame
broken f = Err f

pub open_of : (a : Answer) (end : Option (List ℕ)) (n : ℕ) (fs : List Frame) (rest : List ℕ) → Stops a end n fs rest → IsOpenEnded fs
open_of (Ok s) end n fs rest h = inr h.0
open_of (Err (faults.Frame at fault)) end n fs rest h = inl h.0.0
open_of (Err (faults.Early at)) end n fs rest h = inl h.0.0
open_of (Err faults.TooMany) end n fs rest h = inl h.0
open_of (Err faults.ReadFault) end n fs rest h = inl h.0
open_of (Err faults.WriteFault) end n fs rest h = h
open_of (Err faults.Memory) end n fs rest h = h

-- Where an input ended a session, no other session goes on.
no_further : (a : Answer) (n : ℕ) (fs gs : List Frame) (rest : List ℕ) → IsOfInput a → Stops a (Some []) n fs rest → IsOpenEnded gs
    → length gs ≤ MOST_SESSION_FRAMES → length fs < length gs → GoesFurther fs gs rest → ⊥
no_further (Ok s) n fs gs rest told h end few lt t = not_both fs h.0 (on_free fs gs t.begins lt end)
no_further (Err (faults.Frame at fault)) n fs gs rest told h end few lt t =
    (let e : broken fault ≡ is (t.next, t.len) = sym h.1 ∙ t.front in absurd cc)
no_further (Err (faults.Early at)) n fs gs rest told h end few lt t = (let e : none_there ≡ is (t.next, t.len) = sym h.1 ∙ t.front in absurd cc)
no_further (Err faults.TooMany) n fs gs rest told h end few lt t = absurd (omega (arith, h.1, few, lt))
no_further (Err faults.ReadFault) n fs gs rest told h end few lt t = absurd told
no_further (Err faults.WriteFault) n fs gs rest told h end few lt t = absurd told
no_further (Err faults.Memory) n fs gs rest told h end few lt t = absurd told

served_is : (s t : Served) → s.frames ≡ t.frames → (let x : Answer = Ok s in x) ≡ Ok t
served_is s t e = ap (λ (n : ℕ). (let x : Answer = Ok (record { frames = n }) in x)) e

fault_is : (f g : FrameFault) → broken f ≡ broken g → f ≡ g
fault_is f g e = cc

-- What one place in the input says of the end.
same_end : (a b : Answer) (n : ℕ) (fs : List Frame) (rest : List ℕ) → IsOfInput a → IsOfInput b → Stops a (Some []) n fs rest
    → Stops b (Some []) n fs rest → a ≡ b
same_end (Ok s) (Ok t) n fs rest p q h k = served_is s t (h.1 ∙ sym k.1)
same_end (Ok s) (Err (faults.Frame at fault)) n fs rest p q h k = absurd (not_both fs h.0 k.0.0)
same_end (Ok s) (Err (faults.Early at)) n fs rest p q h k = absurd (not_both fs h.0 k.0.0)
same_end (Ok s) (Err faults.TooMany) n fs rest p q h k = absurd (not_both fs h.0 k.0)
same_end (Err (faults.Frame at fault)) (Ok t) n fs rest p q h k = absurd (not_both fs k.0 h.0.0)
same_end (Err (faults.Frame at fault)) (Err (faults.Frame at' fault')) n fs rest p q h k =
    let same : fault ≡ fault' = fault_is fault fault' (sym h.1 ∙ k.1) in
    let place : at ≡ at' = omega (arith, h.2, k.2) in
    (λ j. Err (faults.Frame (place j) (same j)))
same_end (Err (faults.Frame at fault)) (Err (faults.Early at')) n fs rest p q h k =
    (let e : broken fault ≡ none_there = sym h.1 ∙ k.1 in absurd cc)
same_end (Err (faults.Frame at fault)) (Err faults.TooMany) n fs rest p q h k = absurd (omega (arith, h.0.1, k.1))
same_end (Err (faults.Early at)) (Ok t) n fs rest p q h k = absurd (not_both fs k.0 h.0.0)
same_end (Err (faults.Early at)) (Err (faults.Frame at' fault)) n fs rest p q h k =
    (let e : broken fault ≡ none_there = sym k.1 ∙ h.1 in absurd cc)
same_end (Err (faults.Early at)) (Err (faults.Early at')) n fs rest p q h k =
    ap (λ (m : ℕ). (let x : Answer = Err (faults.Early m) in x)) (h.2 ∙ sym k.2)
same_end (Err (faults.Early at)) (Err faults.TooMany) n fs rest p q h k = absurd (omega (arith, h.0.1, k.1))
same_end (Err faults.TooMany) (Ok t) n fs rest p q h k = absurd (not_both fs k.0 h.0)
same_end (Err faults.TooMany) (Err (faults.Frame at fault)) n fs rest p q h k = absurd (omega (arith, k.0.1, h.1))
same_end (Err faults.TooMany) (Err (faults.Early at)) n fs rest p q h k = absurd (omega (arith, k.0.1, h.1))
same_end (Err faults.TooMany) (Err faults.TooMany) n fs rest p q h k = refl
same_end (Err faults.ReadFault) b n fs rest p q h k = absurd p
same_end (Err faults.WriteFault) b n fs rest p q h k = absurd p
same_end (Err faults.Memory) b n fs rest p q h k = absurd p
same_end (Ok s) (Err faults.ReadFault) n fs rest p q h k = absurd q
same_end (Ok s) (Err faults.WriteFault) n fs rest p q h k = absurd q
same_end (Ok s) (Err faults.Memory) n fs rest p q h k = absurd q
same_end (Err (faults.Frame at fault)) (Err faults.ReadFault) n fs rest p q h k = absurd q
same_end (Err (faults.Frame at fault)) (Err faults.WriteFault) n fs rest p q h k = absurd q
same_end (Err (faults.Frame at fault)) (Err faults.Memory) n fs rest p q h k = absurd q
same_end (Err (faults.Early at)) (Err faults.ReadFault) n fs rest p q h k = absurd q
same_end (Err (faults.Early at)) (Err faults.WriteFault) n fs rest p q h k = absurd q
same_end (Err (faults.Early at)) (Err faults.Memory) n fs rest p q h k = absurd q
same_end (Err faults.TooMany) (Err faults.ReadFault) n fs rest p q h k = absurd q
same_end (Err faults.TooMany) (Err faults.WriteFault) n fs rest p q h k = absurd q
same_end (Err faults.TooMany) (Err faults.Memory) n fs rest p q h k = absurd q

pub one_end : (input : List ℕ) (a b : Answer) (fs gs : List Frame) → ComesTo input a fs → ComesTo input b gs → (fs ≡ gs) × (a ≡ b)
one_end input a b fs gs x y = by (cases_lt (length fs) (length gs)) (cases_lt (length gs) (length fs))
  where
    n : ℕ
    n = length input

    by : (length fs < length gs) ⊎ (length gs ≤ length fs) → (length gs < length fs) ⊎ (length fs ≤ length gs) → (fs ≡ gs) × (a ≡ b)
    by (inl lt) other =
        let c = one_course input fs gs x.rest y.rest x.took y.took in
        absurd (no_further a n fs gs x.rest x.decided x.stops (open_of b (Some []) n gs y.rest y.stops) y.few lt (c.further lt))
    by (inr le) (inl gt) =
        let c = one_course input gs fs y.rest x.rest y.took x.took in
        absurd (no_further b n gs fs y.rest y.decided y.stops (open_of a (Some []) n fs x.rest x.stops) x.few gt (c.further gt))
    by (inr le) (inr ge) =
        let c = (one_course input fs gs x.rest y.rest x.took y.took).same (omega (arith, le, ge)) in
        let there : Stops b (Some []) n fs x.rest =
        subst (λ (hs : List Frame). Stops b (Some []) n hs x.rest) (sym c.0) (subst (λ (r : List ℕ). Stops b (Some []) n gs r) (sym c.1) y.stops) in
        (c.0, same_end a b n fs x.rest x.decided y.decided x.stops there)

-- Where a session stopped, also where the outside stopped it: what it answered begins the frames of the input.
pub front_of : (input : List ℕ) (b : Answer) (fs gs : List Frame) (rest : List ℕ) → Took frames input fs rest → IsOpenEnded fs
    → length fs ≤ MOST_SESSION_FRAMES → ComesTo input b gs → IsPrefix fs gs
front_of input b fs gs rest took end few y = by (cases_lt (length fs) (length gs)) (cases_lt (length gs) (length fs))
  where
    by : (length fs < length gs) ⊎ (length gs ≤ length fs) → (length gs < length fs) ⊎ (length fs ≤ length gs) → IsPrefix fs gs
    by (inl lt) other = ((one_course input fs gs rest y.rest took y.took).further lt).begins
    by (inr le) (inl gt) =
        let c = one_course input gs fs y.rest rest y.took took in
        absurd (no_further b (length input) gs fs y.rest y.decided y.stops end few gt (c.further gt))
    by (inr le) (inr ge) =
        let c = (one_course input fs gs rest y.rest took y.took).same (omega (arith, le, ge)) in
        subst (IsPrefix fs) c.0 (prefix_self fs)

-- ---- every input has an end

rest_within : (stream : List ℕ) (fs : List Frame) (rest : List ℕ) → Took frames stream fs rest → length rest ≤ length stream
rest_within stream [] rest h = omega (arith, ap length h)
rest_within stream (f ∷ fs) rest h =
    let less = rest_within (drop h.0 stream) fs rest h.2 in omega (arith, less, length-drop h.0 stream)

abbrev IsEnd : List ℕ → Type 0
IsEnd input = (answer : Answer) × (fs : List Frame) × ComesTo input answer fs

module _ (input : List ℕ) where
  by_front : (n : ℕ) (fs : List Frame) (rest : List ℕ) (front : Front Frame) → front_at frames rest ≡ front → Took frames input fs rest → NoBye fs
      → length fs + suc n ≡ MOST_SESSION_FRAMES
      → ((gs : List Frame) (more : List ℕ) → Took frames input gs more → NoBye gs → length gs + n ≡ MOST_SESSION_FRAMES → IsEnd input) → IsEnd input
  by_front n fs rest (Err fault) e took none size next =
      let inside = rest_within input fs rest took in
      let few : length fs < MOST_SESSION_FRAMES = omega (arith, size) in
      let at : (length input - length rest) + length rest ≡ length input = omega (arith, inside) in (
        Err (faults.Frame (length input - length rest) fault),
        fs,
        record { rest = rest; took = took; few = omega (arith, few); stops = ((none, few), e, at); decided = tt },
      )
  by_front n fs rest (Ok None) e took none size next =
      let few : length fs < MOST_SESSION_FRAMES = omega (arith, size) in (
        Err (faults.Early (length input)),
        fs,
        record { rest = rest; took = took; few = omega (arith, few); stops = ((none, few), e, refl, refl); decided = tt },
      )
  by_front n fs rest (Ok (Some x)) e took none size next = by (is_bye x.0) refl
    where
      gs : List Frame
      gs = fs ++ x.0 ∷ []

      long : length gs ≡ length fs + 1
      long = length-append fs (x.0 ∷ [])

      one : Took frames input gs (drop x.1 rest)
      one = took_one frames input fs rest x.0 x.1 took e

      by : (b : Bool) → is_bye x.0 ≡ b → IsEnd input
      by true bye = (
        Ok (record { frames = length gs }),
        gs,
        record { rest = drop x.1 rest; took = one; few = omega (arith, long, size); stops = ((fs, x.0, refl, none, bye), refl); decided = tt },
      )
      by false other = next gs (drop x.1 rest) one (none_push fs x.0 none other) (omega (arith, long, size))

  goes_on : (n : ℕ) (fs : List Frame) (rest : List ℕ) → Took frames input fs rest → NoBye fs → length fs + n ≡ MOST_SESSION_FRAMES → IsEnd input
  goes_on zero fs rest took none size =
      let all : length fs ≡ MOST_SESSION_FRAMES = omega (arith, size) in
      (Err faults.TooMany, fs, record { rest = rest; took = took; few = omega (arith, all); stops = (none, all); decided = tt })
  goes_on (suc n) fs rest took none size =
      by_front n fs rest (front_at frames rest) refl took none size (λ gs more t free long. goes_on n gs more t free long)

pub law : LawOfInputs
law = record { some = λ input. goes_on input MOST_SESSION_FRAMES [] input refl tt (omega arith); one = one_end }
