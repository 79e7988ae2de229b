-- A reader in a stream: a piece more, a frame more, and the end.
use Rattle.std.proofs.Common.{◌≡◌, ℕ, ◌+◌, ◌<◌, ◌≤◌, List, [], ◌∷◌, ◌++◌, length}
use Rattle.std.proofs.Common.{drop, Option, Some, None, Result, Ok, Err, refl, sym, ap, subst, ◌∙◌, arith}
use Rattle.std.proofs.lemmas.List.{drop-append-le, length-drop, length-append}
use Rattle.upload_frame.specs.declared.fault.FrameFault.{FrameFault}
use Rattle.upload_frame.specs.declared.fault.NextFault.{NextFault}
use Rattle.upload_frame.specs.declared.fault.NextFault.TheVariants as next
use Rattle.upload_frame.specs.Front.{Format, Front, front_at}
use Rattle.upload_frame.specs.Law.{IsSettled, LawOfReaders}
use Rattle.upload_frame.specs.Machine.{ReaderData, reader_of, fed, step, step_with, step_by, Step}
use Rattle.upload_frame.specs.Machine.{Stepped, GivesNext, Settled, Ends, Streams, Took, FollowsBy, IsDry, Follows}
use Rattle.upload_frame.proofs.Fronts.{fronts}

abbrev gave : {F : Type 0} → Option F → Result (Option F) FrameFault
gave o = Ok o

abbrev failed : {F : Type 0} → FrameFault → Result (Option F) FrameFault
failed f = Err f

apart_failed : {F : Type 0} (f : FrameFault) (o : Option F) → failed f ≡ gave o → ⊥
apart_failed f o e = cc

apart_none : {F : Type 0} (f : F) → gave None ≡ gave (Some f) → ⊥
apart_none f e = cc

frame_is : {F : Type 0} (f g : F) → gave (Some f) ≡ gave (Some g) → f ≡ g
frame_is f g e = cc

fault_is : {F : Type 0} (f g : FrameFault) → failed {F = F} f ≡ failed g → f ≡ g
fault_is f g e = cc

abbrev found : {F : Type 0} → F → ℕ → Front F
found f n = Ok (Some (f, n))

abbrev faulty : {F : Type 0} → FrameFault → Front F
faulty f = Err f

settled_by : {F : Type 0} (a b : Front F) → a ≡ b → IsSettled b → IsSettled a
settled_by a b e s = subst IsSettled (sym e) s

pub took_more : {F : Type 0} (format : Format F) (stream : List ℕ) (fs : List F) (rest piece : List ℕ) → Took format stream fs rest
    → Took format (stream ++ piece) fs (rest ++ piece)
took_more format stream [] rest piece h = ap (λ (x : List ℕ). x ++ piece) h
took_more format stream (f ∷ fs) rest piece h =
    let law = fronts format in
    let within = law.inside stream f h.0 h.1 in
    let e : front_at format (stream ++ piece) ≡ found f h.0 = law.more stream piece (settled_by (front_at format stream) (found f h.0) h.1 tt) ∙ h.1 in
    let d : drop h.0 (stream ++ piece) ≡ drop h.0 stream ++ piece = drop-append-le h.0 stream piece within.1 in
    (h.0, e, subst (λ (x : List ℕ). Took format x fs (rest ++ piece)) (sym d) (took_more format (drop h.0 stream) fs rest piece h.2))

pub took_one : {F : Type 0} (format : Format F) (stream : List ℕ) (fs : List F) (rest : List ℕ) (f : F) (k : ℕ) → Took format stream fs rest
    → front_at format rest ≡ found f k → Took format stream (fs ++ f ∷ []) (drop k rest)
took_one format stream [] rest f k h e = (k, ap (front_at format) h ∙ e, ap (drop k) h)
took_one format stream (g ∷ fs) rest f k h e = (h.0, h.1, took_one format (drop h.0 stream) fs rest f k h.2 e)

streams_at : {F : Type 0} (format : Format F) (stream : List ℕ) (fs : List F) (rest : List ℕ) (end : Option FrameFault) → Took format stream fs rest
    → Ends format rest end → Streams format stream fs end
streams_at format stream [] rest end h e = subst (λ (x : List ℕ). Ends format x end) (sym h) e
streams_at format stream (f ∷ fs) rest end h e = (h.0, h.1, streams_at format (drop h.0 stream) fs rest end h.2 e)

pub streams_of : {F : Type 0} (format : Format F) (stream : List ℕ) (fs : List F) (rest : List ℕ) (fault : Option FrameFault)
    → FollowsBy format stream fs rest fault → IsDry format rest fault
    → Streams format stream fs fault
streams_of format stream fs rest None h dry = streams_at format stream fs rest None h dry
streams_of format stream fs rest (Some f) h dry = streams_at format stream fs h.0 (Some f) h.1 h.2

-- ---- a piece more

more_by : {F : Type 0} (format : Format F) (stream : List ℕ) (fs : List F) (rest : List ℕ) (taken : ℕ) (fault : Option FrameFault) (piece : List ℕ)
    → Follows format stream fs (reader_of rest taken fault)
    → Follows format (stream ++ piece) fs (fed (reader_of rest taken fault) piece)
more_by format stream fs rest taken None piece h = record {
  frames = took_more format stream fs rest piece h.frames;
  size = omega (arith, h.size, length-append rest piece, length-append stream piece);
}
more_by format stream fs rest taken (Some f) piece h = record {
  frames = (
    h.frames.0 ++ piece,
    took_more format stream fs h.frames.0 piece h.frames.1,
    (fronts format).more h.frames.0 piece (settled_by (front_at format h.frames.0) (faulty f) h.frames.2 tt) ∙ h.frames.2,
  );
  size = omega (arith, h.size, length-append stream piece);
}

-- ---- the three outcomes of a step

front_gave : {F : Type 0} (format : Format F) (stream : List ℕ) (fs : List F) (rest : List ℕ) (taken : ℕ) (front : Front F) (f : F) (new : ReaderData)
    → front_at format rest ≡ front
    → Follows format stream fs (reader_of rest taken None) → step_by (reader_of rest taken None) front ≡ (gave (Some f), new)
    → Follows format stream (fs ++ f ∷ []) new × (length new.rest < length rest)
front_gave {F = F} format stream fs rest taken (Err g) f new at h e = absurd (apart_failed g (Some f) (ap (λ (s : Step F). s.0) e))
front_gave {F = F} format stream fs rest taken (Ok None) f new at h e = absurd (apart_none f (ap (λ (s : Step F). s.0) e))
front_gave {F = F} format stream fs rest taken (Ok (Some x)) f new at h e =
    let same : x.0 ≡ f = frame_is x.0 f (ap (λ (s : Step F). s.0) e) in
    let now : reader_of (drop x.1 rest) (taken + x.1) None ≡ new = ap (λ (s : Step F). s.1) e in
    let within = (fronts format).inside rest x.0 x.1 at in
    let one : Took format stream (fs ++ f ∷ []) (drop x.1 rest) =
    subst (λ (g : F). Took format stream (fs ++ g ∷ []) (drop x.1 rest)) same (took_one format stream fs rest x.0 x.1 h.frames at) in
    let less : length (drop x.1 rest) < length rest = omega (arith, length-drop x.1 rest, within.0, within.1) in
    let size : taken + x.1 + length (drop x.1 rest) ≤ length stream = omega (arith, length-drop x.1 rest, within.1, h.size) in
    subst (λ (r : ReaderData). Follows format stream (fs ++ f ∷ []) r × (length r.rest < length rest)) now (record { frames = one; size = size }, less)

front_none : {F : Type 0} (format : Format F) (stream : List ℕ) (fs : List F) (rest : List ℕ) (taken : ℕ) (front : Front F) (new : ReaderData)
    → front_at format rest ≡ front
    → step_by (reader_of rest taken None) front ≡ (gave None, new) → (reader_of rest taken None ≡ new) × (front_at format rest ≡ Ok None)
front_none {F = F} format stream fs rest taken (Err g) new at e = absurd (apart_failed g None (ap (λ (s : Step F). s.0) e))
front_none {F = F} format stream fs rest taken (Ok (Some x)) new at e = absurd (apart_none x.0 (sym (ap (λ (s : Step F). s.0) e)))
front_none {F = F} format stream fs rest taken (Ok None) new at e = (ap (λ (s : Step F). s.1) e, at)

front_failed : {F : Type 0} (format : Format F) (stream : List ℕ) (fs : List F) (rest : List ℕ) (taken : ℕ) (front : Front F) (g : FrameFault)
    (new : ReaderData) → front_at format rest ≡ front
    → Follows format stream fs (reader_of rest taken None) → step_by (reader_of rest taken None) front ≡ (failed g, new) → Follows format stream fs new
    × (new.fault ≡ Some g) × Streams format stream fs (Some g)
front_failed {F = F} format stream fs rest taken (Ok None) g new at h e = absurd (apart_failed g None (sym (ap (λ (s : Step F). s.0) e)))
front_failed {F = F} format stream fs rest taken (Ok (Some x)) g new at h e = absurd (apart_failed g (Some x.0) (sym (ap (λ (s : Step F). s.0) e)))
front_failed {F = F} format stream fs rest taken (Err f) g new at h e =
    let same : f ≡ g = fault_is {F = F} f g (ap (λ (s : Step F). s.0) e) in
    let now : reader_of [] taken (Some f) ≡ new = ap (λ (s : Step F). s.1) e in
    let ends : front_at format rest ≡ faulty g = at ∙ ap faulty same in (
      subst (λ (r : ReaderData). Follows format stream fs r) now (record { frames = (rest, h.frames, at); size = omega (arith, h.size) }),
      ap (λ (r : ReaderData). r.fault) (sym now) ∙ ap Some same,
      streams_at format stream fs rest (Some g) h.frames ends,
    )

-- ---- the same, whatever fault there was

gave_by : {F : Type 0} (format : Format F) (stream : List ℕ) (fs : List F) (f : F) (rest : List ℕ) (taken : ℕ) (fault : Option FrameFault)
    (new : ReaderData) → Follows format stream fs (reader_of rest taken fault)
    → Stepped format (reader_of rest taken fault) (Ok (Some f)) new → Follows format stream (fs ++ f ∷ []) new × (length new.rest < length rest)
gave_by format stream fs f rest taken None new h e = front_gave format stream fs rest taken (front_at format rest) f new refl h e
gave_by {F = F} format stream fs f rest taken (Some g) new h e = absurd (apart_failed g (Some f) (ap (λ (s : Step F). s.0) e))

none_by : {F : Type 0} (format : Format F) (stream : List ℕ) (fs : List F) (rest : List ℕ) (taken : ℕ) (fault : Option FrameFault) (new : ReaderData)
    → Follows format stream fs (reader_of rest taken fault)
    → Stepped {F = F} format (reader_of rest taken fault) (Ok None) new → (reader_of rest taken fault ≡ new) × (fault ≡ None)
    × (front_at format rest ≡ Ok None) × Streams format stream fs None
none_by format stream fs rest taken None new h e =
    let p = front_none format stream fs rest taken (front_at format rest) new refl e in
    (p.0, refl, p.1, streams_at format stream fs rest None h.frames p.1)
none_by {F = F} format stream fs rest taken (Some g) new h e = absurd (apart_failed g None (ap (λ (s : Step F). s.0) e))

failed_by : {F : Type 0} (format : Format F) (stream : List ℕ) (fs : List F) (f : FrameFault) (rest : List ℕ) (taken : ℕ) (fault : Option FrameFault)
    (new : ReaderData) → Follows format stream fs (reader_of rest taken fault)
    → Stepped {F = F} format (reader_of rest taken fault) (Err (next.Frame f)) new → Follows format stream fs new × (new.fault ≡ Some f)
    × Streams format stream fs (Some f)
failed_by format stream fs f rest taken None new h e = front_failed format stream fs rest taken (front_at format rest) f new refl h e
failed_by {F = F} format stream fs f rest taken (Some g) new h e =
    let same : g ≡ f = fault_is {F = F} g f (ap (λ (s : Step F). s.0) e) in
    let now : reader_of rest taken (Some g) ≡ new = ap (λ (s : Step F). s.1) e in
    let all : Streams format stream fs (Some g) = streams_at format stream fs h.frames.0 (Some g) h.frames.1 h.frames.2 in (
      subst (λ (r : ReaderData). Follows format stream fs r) now h,
      ap (λ (r : ReaderData). r.fault) (sym now)
          ∙ ap Some same,
      subst (λ (x : FrameFault). Streams format stream fs (Some x)) same all,
    )

pub readers : {F : Type 0} (format : Format F) → LawOfReaders format
readers format = record {
  start = record { frames = refl; size = omega arith };
  fed = λ stream fs r piece h. more_by format stream fs r.rest r.taken r.fault piece h;
  gave = λ stream fs f r new h e. (gave_by format stream fs f r.rest r.taken r.fault new h e).0;
  none = λ stream fs r new h e. let p = none_by format stream fs r.rest r.taken r.fault new h e in (p.0, p.3);
  failed = λ stream fs f r new h e. failed_by format stream fs f r.rest r.taken r.fault new h e;
}

-- ---- what a loop over a reader needs

pub falls : {F : Type 0} (format : Format F) (stream : List ℕ) (fs : List F) (old : ReaderData) (f : F) (new : ReaderData) → Follows format stream fs old
    → Stepped format old (Ok (Some f)) new → length new.rest < length old.rest
falls format stream fs old f new h e = (gave_by format stream fs f old.rest old.taken old.fault new h e).1

step_falls : {F : Type 0} (format : Format F) (rest : List ℕ) (taken : ℕ) (front : Front F) (f : F) (new : ReaderData) → front_at format rest ≡ front
    → step_by (reader_of rest taken None) front ≡ (gave (Some f), new) → length new.rest < length rest
step_falls {F = F} format rest taken (Err g) f new at e = absurd (apart_failed g (Some f) (ap (λ (s : Step F). s.0) e))
step_falls {F = F} format rest taken (Ok None) f new at e = absurd (apart_none f (ap (λ (s : Step F). s.0) e))
step_falls {F = F} format rest taken (Ok (Some x)) f new at e =
    let now : reader_of (drop x.1 rest) (taken + x.1) None ≡ new = ap (λ (s : Step F). s.1) e in
    let within = (fronts format).inside rest x.0 x.1 at in
    let less : length (drop x.1 rest) < length rest = omega (arith, length-drop x.1 rest, within.0, within.1) in
    subst (λ (r : ReaderData). length r.rest < length rest) now less

falls_by : {F : Type 0} (format : Format F) (rest : List ℕ) (taken : ℕ) (fault : Option FrameFault) (f : F) (new : ReaderData)
    → Stepped format (reader_of rest taken fault) (Ok (Some f)) new → length new.rest < length rest
falls_by format rest taken None f new e = step_falls format rest taken (front_at format rest) f new refl e
falls_by {F = F} format rest taken (Some g) f new e = absurd (apart_failed g (Some f) (ap (λ (s : Step F). s.0) e))

pub rest_falls : {F : Type 0} (format : Format F) (old : ReaderData) (f : F) (new : ReaderData) → Stepped format old (Ok (Some f)) new
    → length new.rest < length old.rest
rest_falls format old f new e = falls_by format old.rest old.taken old.fault f new e

pub dry_none : {F : Type 0} (format : Format F) (stream : List ℕ) (fs : List F) (old new : ReaderData) → Follows format stream fs old
    → Stepped {F = F} format old (Ok None) new
    → Follows format stream fs new × (new.fault ≡ None) × IsDry format new.rest new.fault
dry_none format stream fs old new h e =
    let p = none_by format stream fs old.rest old.taken old.fault new h e in
    let fault : old.fault ≡ None = p.1 in (
      subst (λ (r : ReaderData). Follows format stream fs r) p.0 h,
      ap (λ (r : ReaderData). r.fault) (sym p.0) ∙ fault,
      subst (λ (r : ReaderData). IsDry format r.rest r.fault) p.0 (subst (λ (x : Option FrameFault). IsDry format old.rest x) (sym fault) p.2),
    )

pub dry_failed : {F : Type 0} (format : Format F) (stream : List ℕ) (fs : List F) (old : ReaderData) (f : FrameFault) (new : ReaderData)
    → Follows format stream fs old → Stepped {F = F} format old (Err (next.Frame f)) new
    → Follows format stream fs new × (new.fault ≡ Some f) × IsDry format new.rest new.fault
dry_failed format stream fs old f new h e =
    let p = failed_by format stream fs f old.rest old.taken old.fault new h e in
    (p.0, p.1, subst (λ (x : Option FrameFault). IsDry format new.rest x) (sym p.1) tt)

-- ---- a reader that settles what it read at the front

abbrev handed : {F : Type 0} → Result (Option F) NextFault → Result (Option F) NextFault
handed r = r

pub has_settled : {F : Type 0} (format : Format F) (old new : ReaderData) (front : Result (Option (F × ℕ)) NextFault) (result : Result (Option F) NextFault)
    → old.fault ≡ None
    → GivesNext (λ x. x) front (front_at format old.rest) → Settled old front result new → Stepped format old result new
has_settled {F = F} format old new (Ok None) result none gives s =
    let at : step format old ≡ (Ok None, old) = ap (step_with format old) none ∙ ap (step_by old) gives in
    subst (λ (r : Result (Option F) NextFault). Stepped format old r new) (sym s.0) (at
    ∙ ap (λ (r : ReaderData). (let x : Step F = (Ok None, r) in x)) (sym s.1))
has_settled {F = F} format old new (Ok (Some x)) result none gives s =
    let at : step format old ≡ (Ok (Some x.0), reader_of (drop x.1 old.rest) (old.taken + x.1) old.fault) =
    ap (step_with format old) none ∙ ap (step_by old) gives in
    subst (λ (r : Result (Option F) NextFault). Stepped format old r new) (sym s.0) (at
    ∙ ap (λ (r : ReaderData). (let y : Step F = (Ok (Some x.0), r) in y)) (sym s.1))
has_settled {F = F} format old new (Err (next.Frame f)) result none gives s =
    let at : step format old ≡ (Err f, reader_of [] old.taken (Some f)) = ap (step_with format old) none ∙ ap (step_by old) gives in
    subst (λ (r : Result (Option F) NextFault). Stepped format old r new) (sym s.0) (at ∙ ap (λ (r : ReaderData). (let x : Step F = (Err f, r) in x)) (sym s.1))
has_settled {F = F} format old new (Err next.Memory) result none gives s =
    subst (λ (r : Result (Option F) NextFault). Stepped format old r new) (sym s.0) (sym s.1)

pub still_failed : {F : Type 0} (format : Format F) (old : ReaderData) (f : FrameFault) → old.fault ≡ Some f
    → Stepped {F = F} format old (Err (next.Frame f)) old
still_failed format old f e = ap (step_with format old) e
