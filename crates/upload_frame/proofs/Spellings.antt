-- Frames of either side and their spellings, by what holds of the fields.
use Rattle.std.proofs.Common.{◌≡◌, ℕ, ◌+◌, ◌-◌, ◌^◌, ◌≤◌, true, List, [], ◌∷◌, ◌++◌, length, take}
use Rattle.std.proofs.Common.{drop, get_or, Option, Some, Result, Ok, refl, sym, ap, subst, ◌∙◌, arith, append_assoc, drop-cons}
use Rattle.std.specs.Prelude.{slice_range, slice_index}
use Rattle.std.specs.List.{flat_map, AllByRecursion}
use Rattle.std.specs.Int.{w16, to_be_bytes}
use Rattle.std.proofs.lemmas.List.{length-append, length-take, length-drop, take-append-drop, drop-drop, drop_at}
use Rattle.std.proofs.lemmas.List.Concat.{flat_map-cons}
use Rattle.byte_fields.specs.Reading.{◌>>=◌}
use Rattle.byte_fields.specs.Law.{IsBytes}
use Rattle.byte_fields.proofs.Numbers.{IsBytes-drop, IsBytes-take, wide16, front_back}
use Rattle.upload_frame.specs.declared.fault.FrameFault.{FrameFault}
use Rattle.upload_frame.specs.Front.{HeadFront, fits_lens, length_of, Format, Front, front_with, front_at, framed}
use Rattle.upload_frame.specs.Machine.{Ends, Streams}
use Rattle.upload_frame.specs.Law.{Parts, LawOfFrames}
use Rattle.upload_frame.proofs.Heads.{IsSpelled, framed_len, head_again, whole_of}
use Rattle.upload_frame.proofs.Fronts.{front_of}

-- What holds of the fields: those of a frame have a length and are read back, and what is read is a frame's.
pub record IsFormat {F : Type 0} (format : Format F) (Is : F → Type 0) (kind : F → ℕ) (fields : F → List ℕ) : Type 0 where
  pub spelled : (f : F) → Is f → IsSpelled format.lens (kind f) (fields f)
  pub again : (f : F) → Is f → format.fields_at (length (fields f) + 1) (kind f) (fields f) ≡ Ok f
  pub takes : (len k : ℕ) (range : ℕ × ℕ) (body : List ℕ) (f : F) → IsBytes body → length body + 1 ≡ len → format.lens k ≡ Some range
      → fits_lens range len ≡ true
      → format.fields_at len k body ≡ Ok f → Is f × (body ≡ fields f) × (k ≡ kind f)

pub frame_again : {F : Type 0} (format : Format F) (Is : F → Type 0) (kind : F → ℕ) (fields : F → List ℕ) → IsFormat format Is kind fields
    → (f : F) (rest : List ℕ) → Is f
    → front_at format (framed (kind f) (fields f) ++ rest) ≡ Ok (Some (f, length (framed (kind f) (fields f))))
frame_again {F = F} format Is kind fields of f rest is =
    let n : ℕ = length (fields f) + 1 in
    ap (λ (r : HeadFront). (let x : Front F = r >>= front_with format in x)) (head_again format.lens (kind f) (fields f) rest (of.spelled f is))
    ∙ ap (λ (r : Result F FrameFault). (let x : Front F = r >>= λ g. Ok (Some (g, n + 2)) in x)) (of.again f is)
    ∙ ap (λ (m : ℕ). (let x : Front F = Ok (Some (f, m)) in x)) (sym (framed_len (kind f) (fields f)))

pub record Taken {F : Type 0} (Is : F → Type 0) (kind : F → ℕ) (fields : F → List ℕ) (s : List ℕ) (f : F) (n : ℕ) : Type 0 where
  pub is : Is f
  pub whole : s ≡ framed (kind f) (fields f) ++ drop n s
  pub end : n ≡ length (framed (kind f) (fields f))

pub frame_takes : {F : Type 0} (format : Format F) (Is : F → Type 0) (kind : F → ℕ) (fields : F → List ℕ) → IsFormat format Is kind fields
    → (s : List ℕ) (f : F) (n : ℕ) → IsBytes s
    → front_at format s ≡ Ok (Some (f, n)) → Taken Is kind fields s f n
unfolding framed
frame_takes format Is kind fields of s f n fits e =
    let p = front_of format s f n e in
    let w = whole_of format.lens s p.head p.at in
    let len = length_of s in
    let body : List ℕ = slice_range s 3 (len + 2) in
    let start : 3 ≤ length s = omega (arith, w.some, w.there) in
    let body_len : length body + 1 ≡ len = omega (arith, length-take (len + 2 - 3) (drop 3 s), length-drop 3 s, w.some, w.there) in
    let read : format.fields_at len (slice_index s 2) body ≡ Ok f =
    ap (λ (x : ℕ). format.fields_at x (slice_index s 2) body) (sym w.len) ∙ ap (λ (x : ℕ). format.fields_at p.head.len x body) (sym w.kind)
    ∙ ap (λ (x : List ℕ). format.fields_at p.head.len p.head.kind x) (sym w.body) ∙ p.fields in
    let t = of.takes len (slice_index s 2) w.range body f (IsBytes-take (len + 2 - 3) (drop 3 s) (IsBytes-drop 3 s fits)) body_len w.known w.fits read in
    let e1 : take 2 s ≡ to_be_bytes w16 len = sym (front_back w16 (2 ^ 16) wide16 s fits (omega arith)) in
    let a : drop 2 s ≡ get_or s 2 0 ∷ drop 3 s = drop-cons s 2 0 (omega arith) in
    let m : 3 + (len + 2 - 3) ≡ n = omega (arith, p.end, w.len, w.some) in
    let b : drop 3 s ≡ body ++ drop n s =
    sym (take-append-drop (len + 2 - 3) (drop 3 s)) ∙ ap (λ (x : List ℕ). body ++ x) (drop-drop (len + 2 - 3) 3 s ∙ ap (λ (x : ℕ). drop x s) m) in
    let l : len ≡ length (fields f) + 1 = sym body_len ∙ ap (λ (x : List ℕ). length x + 1) t.1 in
    let whole : s ≡ to_be_bytes w16 (length (fields f) + 1) ++ (kind f ∷ (fields f ++ drop n s)) =
    sym (take-append-drop 2 s) ∙ ap (λ (x : List ℕ). take 2 s ++ x) (a ∙ ap (λ (x : List ℕ). get_or s 2 0 ∷ x) b)
    ∙ ap (λ (x : List ℕ). x ++ (get_or s 2 0 ∷ (body ++ drop n s))) (e1 ∙ ap (to_be_bytes w16) l)
    ∙ ap (λ (x : ℕ). to_be_bytes w16 (length (fields f) + 1) ++ (x ∷ (body ++ drop n s))) t.2
    ∙ ap (λ (x : List ℕ). to_be_bytes w16 (length (fields f) + 1) ++ (kind f ∷ (x ++ drop n s))) t.1 in
    record { is = t.0; whole = whole; end = omega (arith, p.end, w.len, l, length-append (to_be_bytes w16 (length (fields f) + 1)) (kind f ∷ fields f)) }

front_is : {F : Type 0} (x y : F × ℕ) → (let r : Front F = Ok (Some x) in r) ≡ Ok (Some y) → x ≡ y
front_is x y e = cc

parts_of : {F : Type 0} (format : Format F) (Is : F → Type 0) (kind : F → ℕ) (fields : F → List ℕ) → IsFormat format Is kind fields
    → (stream : List ℕ) (fs : List F) (end : Option FrameFault) → IsBytes stream
    → Streams format stream fs end → Parts format Is (λ f. framed (kind f) (fields f)) stream fs end
parts_of format Is kind fields of stream [] end fits h = record { rest = stream; whole = refl; each = tt; ends = h }
parts_of {F = F} format Is kind fields of stream (f ∷ fs) end fits h =
    let spelled : F → List ℕ = λ g. framed (kind g) (fields g) in
    let t = frame_takes format Is kind fields of stream f h.0 fits h.1 in
    let more = parts_of format Is kind fields of (drop h.0 stream) fs end (IsBytes-drop h.0 stream fits) h.2 in
    record {
      rest = more.rest;
      whole = t.whole ∙ ap (λ (x : List ℕ). spelled f ++ x) more.whole ∙ sym (append_assoc (spelled f) (flat_map spelled fs) more.rest)
          ∙ ap (λ (x : List ℕ). x ++ more.rest) (sym (flat_map-cons spelled f fs));
      each = (t.is, more.each);
      ends = more.ends;
    }

streams_at : {F : Type 0} (format : Format F) (Is : F → Type 0) (kind : F → ℕ) (fields : F → List ℕ) → IsFormat format Is kind fields
    → (stream : List ℕ) (fs : List F) (end : Option FrameFault) (rest : List ℕ)
    → stream ≡ flat_map (λ f. framed (kind f) (fields f)) fs ++ rest → AllByRecursion Is fs → Ends format rest end → Streams format stream fs end
streams_at format Is kind fields of stream [] end rest whole each ends = subst (λ (x : List ℕ). Ends format x end) (sym whole) ends
streams_at {F = F} format Is kind fields of stream (f ∷ fs) end rest whole each ends =
    let spelled : F → List ℕ = λ g. framed (kind g) (fields g) in
    let tail : List ℕ = flat_map spelled fs ++ rest in
    let regrouped : stream ≡ spelled f ++ tail =
    whole ∙ ap (λ (x : List ℕ). x ++ rest) (flat_map-cons spelled f fs) ∙ append_assoc (spelled f) (flat_map spelled fs) rest in
    let len : ℕ = length (spelled f) in
    let left : drop len stream ≡ tail = ap (drop len) regrouped ∙ drop_at (spelled f) tail len refl in (
      len,
      ap (front_at format) regrouped
          ∙ frame_again format Is kind fields of f tail each.0,
      streams_at format Is kind fields of (drop len stream) fs end rest left each.1 ends,
    )

pub spellings : {F : Type 0} (format : Format F) (Is : F → Type 0) (kind : F → ℕ) (fields : F → List ℕ) → IsFormat format Is kind fields
    → LawOfFrames format Is (λ f. framed (kind f) (fields f))
spellings {F = F} format Is kind fields of = record {
  apart = λ f g x y is-f is-g e.
      let spelled : F → List ℕ = λ h. framed (kind h) (fields h) in
      let both = front_is (f, length (spelled f)) (g, length (spelled g)) (sym (frame_again format Is kind fields of f x is-f) ∙ ap (front_at format) e
      ∙ frame_again format Is kind fields of g y is-g) in
      let n : length (spelled f) ≡ length (spelled g) = ap (λ (p : F × ℕ). p.1) both in (
        ap (λ (p : F × ℕ). p.0) both,
        sym (drop_at (spelled f) x (length (spelled f)) refl) ∙ ap (drop (length (spelled f))) e ∙ ap (λ (k : ℕ). drop k (spelled g ++ y)) n
            ∙ drop_at (spelled g) y (length (spelled g)) refl,
      );
  again = λ f rest is. frame_again format Is kind fields of f rest is;
  taken = λ stream fs end fits h. parts_of format Is kind fields of stream fs end fits h;
  given = λ stream fs end p. streams_at format Is kind fields of stream fs end p.rest p.whole p.each p.ends;
}
