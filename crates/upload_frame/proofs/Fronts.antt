-- The front of a stream, of either side.
use Rattle.std.proofs.Common.{◌≡◌, ℕ, ◌+◌, List, Some, None, Result, Ok, Err, refl, sym, ap, arith}
use Rattle.byte_fields.specs.Reading.{◌>>=◌}
use Rattle.upload_frame.specs.declared.fault.FrameFault.{FrameFault}
use Rattle.upload_frame.specs.Front.{Head, HeadFront, head_at, Format, Front, front_with, front_at}
use Rattle.upload_frame.specs.Law.{IsSettled, LawOfFronts}
use Rattle.upload_frame.proofs.Heads.{IsSettledHead, head_more, whole_of, head_unfinished, head_none}

-- What a frame at the front is read from.
pub record FrontOf {F : Type 0} (format : Format F) (s : List ℕ) (f : F) (n : ℕ) : Type 0 where
  pub head : Head
  pub at : head_at format.lens s ≡ Ok (Some head)
  pub fields : format.fields_at head.len head.kind head.body ≡ Ok f
  pub end : n ≡ head.len + 2

abbrev found : {F : Type 0} → F × ℕ → Front F
found x = Ok (Some x)

found_is : {F : Type 0} (x y : F × ℕ) → found x ≡ found y → x ≡ y
found_is x y e = cc

fields_by : {F : Type 0} (r : Result F FrameFault) (k : ℕ) (f : F) (n : ℕ) → (let x : Front F = r >>= λ g. Ok (Some (g, k)) in x) ≡ Ok (Some (f, n))
    → (r ≡ Ok f) × (n ≡ k)
fields_by (Err e) k f n at = absurd cc
fields_by {F = F} (Ok g) k f n at =
    let made : F × ℕ = (g, k) in
    let want : F × ℕ = (f, n) in
    let same : made ≡ want = found_is made want at in
    (ap (λ (x : F × ℕ). (let r : Result F FrameFault = Ok x.0 in r)) same, ap (λ (x : F × ℕ). x.1) (sym same))

front_by : {F : Type 0} (format : Format F) (s : List ℕ) (f : F) (n : ℕ) (r : HeadFront) → head_at format.lens s ≡ r
    → (let x : Front F = r >>= front_with format in x) ≡ Ok (Some (f, n)) → FrontOf format s f n
front_by format s f n (Err e) at h = absurd cc
front_by format s f n (Ok None) at h = absurd cc
front_by format s f n (Ok (Some head)) at h =
    let p = fields_by (format.fields_at head.len head.kind head.body) (head.len + 2) f n h in
    record { head = head; at = at; fields = p.0; end = p.1 }

pub front_of : {F : Type 0} (format : Format F) (s : List ℕ) (f : F) (n : ℕ) → front_at format s ≡ Ok (Some (f, n)) → FrontOf format s f n
front_of format s f n e = front_by format s f n (head_at format.lens s) refl e

settled_by : {F : Type 0} (format : Format F) (r : HeadFront) → IsSettled (let x : Front F = r >>= front_with format in x) → IsSettledHead r
settled_by format (Err e) s = tt
settled_by format (Ok None) s = s
settled_by format (Ok (Some h)) s = tt

none_by : {F : Type 0} (format : Format F) (r : HeadFront) → (let x : Front F = r >>= front_with format in x) ≡ Ok None → r ≡ Ok None
none_by format (Err e) h = absurd cc
none_by format (Ok None) h = refl
none_by {F = F} format (Ok (Some head)) h = absurd (by (format.fields_at head.len head.kind head.body) h)
  where
    by : (r : Result F FrameFault) → (let x : Front F = r >>= λ g. Ok (Some (g, head.len + 2)) in x) ≡ Ok None → ⊥
    by (Err e) h2 = cc
    by (Ok g) h2 = cc

pub fronts : {F : Type 0} (format : Format F) → LawOfFronts format
fronts {F = F} format = record {
  more = λ a b s. ap (λ (r : HeadFront). (let x : Front F = r >>= front_with format in x))
      (head_more format.lens a b (settled_by format (head_at format.lens a) s));
  inside = λ s f n e. let p = front_of format s f n e in let w =
      whole_of format.lens s p.head p.at in (omega (arith, p.end), omega (arith, p.end, w.len, w.there));
  unfinished = λ s e. head_unfinished format.lens s (none_by format (head_at format.lens s) e);
  none = λ s u. ap (λ (r : HeadFront). (let x : Front F = r >>= front_with format in x)) (head_none format.lens s u);
}
