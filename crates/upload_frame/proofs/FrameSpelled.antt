-- Frames of hosts: what is read is spelled so, and what is spelled so is read.
use Rattle.std.proofs.Common.{◌≡◌, ℕ, zero, suc, ◌+◌, ◌^◌, ◌<◌, ◌≤◌, Bool, true, false, cond, ltb, leb, ◌||◌, ◌&&◌, List}
use Rattle.std.proofs.Common.{[], ◌∷◌, ◌++◌, length, Option, Some, None, Result, Ok, Err, refl, sym, ap, subst, ◌∙◌, arith, append_assoc}
use Rattle.std.specs.List.{flat_map, AllByRecursion}
use Rattle.std.specs.Int.{w16, w32, to_be_bytes}
use Rattle.std.proofs.lemmas.Bool.{leb-true, le-ltb, le-leb}
use Rattle.std.proofs.lemmas.List.{length-append, append-nil, nil_from_length}
use Rattle.byte_fields.specs.Reading.{◌>>=◌, byte_at, number_at}
use Rattle.byte_fields.specs.Law.{IsBytes, Takes}
use Rattle.byte_fields.proofs.Steps.{bind_ok, guard_ok, ok_is}
use Rattle.byte_fields.proofs.Numbers.{Takes-then, wide16, wide32, number_takes, number_again, byte_takes, byte_again}
use Rattle.lg_model.specs.declared.limits.TheConstants.{MOST_FRAME_BYTES, MOST_UPLOAD_COLUMNS}
use Rattle.lg_model.specs.Placing.{Shape}
use Rattle.sketchlet_wire.specs.Spelling.{IsColumn, spelling}
use Rattle.sketchlet_wire.specs.ShapeFields.{shape_bytes, shape_at}
use Rattle.sketchlet_wire.specs.Uploads.{UploadData, IsFull, upload_of}
use Rattle.sketchlet_wire.proofs.Shapes.{shape_takes, shape_again, shape_len}
use Rattle.upload_frame.specs.declared.fault.FrameFault.{FrameFault}
use Rattle.upload_frame.specs.declared.fault.FrameFault.TheVariants.{Length, BadShape, Count}
use Rattle.upload_frame.specs.declared.fault.NextFault.{NextFault}
use Rattle.upload_frame.specs.declared.fault.NextFault.TheVariants as next
use Rattle.upload_frame.specs.declared.frame.Frame.{Frame}
use Rattle.upload_frame.specs.declared.frame.Frame.TheVariants.{Hello, Upload, Bye}
use Rattle.upload_frame.specs.Front.{fits_lens, Front, front_at}
use Rattle.upload_frame.specs.Frames.{frame_lens, frame_kind, frame_fields, IsFrame, hello_at, columns_at, UploadHead}
use Rattle.upload_frame.specs.Frames.{upload_head, upload_head_at, upload_at, bye_at, frame_fields_at, frame_of, frames}
use Rattle.upload_frame.specs.Machine.{FailsBy}
use Rattle.upload_frame.proofs.Heads.{IsSpelled}
use Rattle.upload_frame.proofs.ColumnsOf.{is_upload, columns_take, columns_length, law}
use Rattle.upload_frame.proofs.Spellings.{IsFormat, frame_again}

-- ---- what has a length

both : (a b : Bool) → (a && b) ≡ true → (a ≡ true) × (b ≡ true)
both true b e = (refl, e)
both false b e = absurd cc

frame_spelled : (f : Frame) → IsFrame f → IsSpelled frame_lens (frame_kind f) (frame_fields f)
frame_spelled (Hello host shape) h =
    let len : length (frame_fields (Hello host shape)) ≡ 14 = omega (arith, length-append (to_be_bytes w16 host) (shape_bytes shape), shape_len shape) in
    record { range = (15, 15); known = refl; fits = ap (λ (n : ℕ). fits_lens (15, 15) (n + 1)) len; few = omega (arith, len) }
frame_spelled (Upload u) h =
    let l = columns_length u.columns h.each in
    let tail : List ℕ = flat_map spelling u.columns in
    let len : length (frame_fields (Upload u)) ≡ 7 + length tail =
    omega (
      arith,
      length-append (to_be_bytes w16 u.host) (to_be_bytes w32 u.seq ++ length u.columns ∷ tail),
      length-append (to_be_bytes w32 u.seq)
          (length u.columns ∷ tail),
    ) in
    let lo : 28 ≤ length (frame_fields (Upload u)) + 1 = omega (arith, l.0, h.columns.some, len) in
    let hi : length (frame_fields (Upload u)) + 1 ≤ MOST_FRAME_BYTES = omega (arith, l.1, h.columns.few, len) in
    record { range = (28, MOST_FRAME_BYTES); known = refl; fits = rw (le-leb _ _ lo, le-leb _ _ hi) refl; few = hi }
frame_spelled (Bye host) h = record { range = (3, 3); known = refl; fits = refl; few = omega arith }

-- ---- what is spelled so is read

hello_again : (len host : ℕ) (shape : Shape) → IsFrame (Hello host shape) → hello_at len (frame_fields (Hello host shape)) ≡ Ok (Hello host shape)
unfolding hello_at
hello_again len host shape h =
    let shape_is : shape_at (Length len) BadShape (shape_bytes shape) ≡ Ok (shape, []) =
    ap (shape_at (Length len) BadShape) (sym (append-nil (shape_bytes shape))) ∙ shape_again (Length len) BadShape shape [] h.1 in
    rw (number_again (Length len) w16 (2 ^ 16) wide16 host (shape_bytes shape) h.0, shape_is) refl

upload_again : (len : ℕ) (u : UploadData) → IsFull u → upload_at len (frame_fields (Upload u)) ≡ Ok (Upload u)
unfolding upload_at upload_head_at
upload_again len u h =
    let n = length u.columns in
    let tail : List ℕ = flat_map spelling u.columns in
    let some : ltb n 1 ≡ false = le-ltb _ _ h.columns.some in
    let few : ltb MOST_UPLOAD_COLUMNS n ≡ false = le-ltb _ _ h.columns.few in
    rw (
      number_again (Length len) w16 (2 ^ 16) wide16 u.host (to_be_bytes w32 u.seq ++ n ∷ tail) h.host,
      number_again (Length len) w32 (2 ^ 32) wide32 u.seq (n ∷ tail) h.seq,
      byte_again (Length len) n tail,
      some,
      few,
      law.again len u.columns h.columns h.each,
    ) refl

bye_again : (len host : ℕ) → host < 2 ^ 16 → bye_at len (to_be_bytes w16 host) ≡ Ok (Bye host)
unfolding bye_at
bye_again len host lt =
    let host_is : number_at (Length len) w16 (to_be_bytes w16 host) ≡ Ok (host, []) =
    ap (number_at (Length len) w16) (sym (append-nil (to_be_bytes w16 host))) ∙ number_again (Length len) w16 (2 ^ 16) wide16 host [] lt in
    rw host_is refl

fields_again : (f : Frame) → IsFrame f → frame_fields_at (length (frame_fields f) + 1) (frame_kind f) (frame_fields f) ≡ Ok f
unfolding frame_fields_at
fields_again (Hello host shape) h = hello_again (length (frame_fields (Hello host shape)) + 1) host shape h
fields_again (Upload u) h = upload_again (length (frame_fields (Upload u)) + 1) u h
fields_again (Bye host) h = bye_again (length (frame_fields (Bye host)) + 1) host h

-- ---- what is read is spelled so

abbrev Read : List ℕ → ℕ → Frame → Type 0
Read body k f = IsFrame f × (body ≡ frame_fields f) × (k ≡ frame_kind f)

-- A text that is as long as the bytes is all of them.
pub all_of : (bytes text rest : List ℕ) → bytes ≡ text ++ rest → length bytes ≡ length text → bytes ≡ text
all_of bytes text rest e len =
    let none : rest ≡ [] = nil_from_length rest (omega (arith, ap length e, length-append text rest, len)) in
    e ∙ ap (λ (r : List ℕ). text ++ r) none ∙ append-nil text

hello_takes : (len : ℕ) (body : List ℕ) (f : Frame) → IsBytes body → length body ≡ 14 → hello_at len body ≡ Ok f → Read body 1 f
unfolding hello_at
hello_takes len body f fits size e =
    let a = bind_ok (number_at (Length len) w16 body)
    (λ host. shape_at (Length len) BadShape host.1 >>= λ shape. (let r : Result Frame FrameFault = Ok (Hello host.0 shape.0) in r)) f e in
    let b = bind_ok (shape_at (Length len) BadShape a.0.1) (λ shape. (let r : Result Frame FrameFault = Ok (Hello a.0.0 shape.0) in r)) f a.2 in
    let t1 = number_takes (Length len) w16 (2 ^ 16) wide16 body a.0 fits a.1 in
    let t2 = shape_takes (Length len) BadShape a.0.1 b.0 t1.0.rest_fits b.1 in
    let t = Takes-then body (to_be_bytes w16 a.0.0) a.0.1 (shape_bytes b.0.0) b.0.1 t1.0 t2.0 in
    let long : length body ≡ length (to_be_bytes w16 a.0.0 ++ shape_bytes b.0.0) =
    omega (arith, size, length-append (to_be_bytes w16 a.0.0) (shape_bytes b.0.0), shape_len b.0.0) in
    subst (λ (x : Frame). Read body 1 x) (ok_is (Hello a.0.0 b.0.0) f b.2)
    ((t1.1, t2.1), all_of body (to_be_bytes w16 a.0.0 ++ shape_bytes b.0.0) b.0.1 t.parts long, refl)

head_takes : (len : ℕ) (body : List ℕ) (x : UploadHead × List ℕ) → IsBytes body → upload_head_at len body ≡ Ok x
    → Takes body (to_be_bytes w16 x.0.host ++ (to_be_bytes w32 x.0.seq ++ x.0.count ∷ [])) x.1 × (x.0.host < 2 ^ 16) × (x.0.seq < 2 ^ 32) × (1 ≤ x.0.count)
    × (x.0.count ≤ MOST_UPLOAD_COLUMNS)
unfolding upload_head_at
head_takes len body x fits e =
    let last = λ (host seq : ℕ) (count : ℕ
    × List ℕ). (let r : Result (UploadHead × List ℕ) FrameFault =
    cond (ltb count.0 1 || ltb MOST_UPLOAD_COLUMNS count.0) (Err (Count count.0)) (Ok (upload_head host seq count.0, count.1)) in r) in
    let a = bind_ok (number_at (Length len) w16 body)
    (λ host. number_at (Length len) w32 host.1 >>= λ seq. byte_at (Length len) seq.1 >>= λ count. last host.0 seq.0 count) x e in
    let b = bind_ok (number_at (Length len) w32 a.0.1) (λ seq. byte_at (Length len) seq.1 >>= λ count. last a.0.0 seq.0 count) x a.2 in
    let c = bind_ok (byte_at (Length len) b.0.1) (λ count. last a.0.0 b.0.0 count) x b.2 in
    let made : UploadHead × List ℕ = (upload_head a.0.0 b.0.0 c.0.0, c.0.1) in
    let g = guard_ok (ltb c.0.0 1 || ltb MOST_UPLOAD_COLUMNS c.0.0) (Count c.0.0) made x c.2 in
    let t1 = number_takes (Length len) w16 (2 ^ 16) wide16 body a.0 fits a.1 in
    let t2 = number_takes (Length len) w32 (2 ^ 32) wide32 a.0.1 b.0 t1.0.rest_fits b.1 in
    let t3 = byte_takes (Length len) b.0.1 c.0 t2.0.rest_fits c.1 in
    let s2 = Takes-then a.0.1 (to_be_bytes w32 b.0.0) b.0.1 (c.0.0 ∷ []) c.0.1 t2.0 t3.0 in
    let s1 = Takes-then body (to_be_bytes w16 a.0.0) a.0.1 (to_be_bytes w32 b.0.0 ++ c.0.0 ∷ []) c.0.1 t1.0 s2 in
    subst (λ (y : UploadHead × List ℕ). Takes body (to_be_bytes w16 y.0.host ++ (to_be_bytes w32 y.0.seq ++ y.0.count ∷ [])) y.1 × (y.0.host < 2 ^ 16)
    × (y.0.seq < 2 ^ 32) × (1 ≤ y.0.count) × (y.0.count ≤ MOST_UPLOAD_COLUMNS)) {x = made} g.1
    (s1, t1.1, t2.1, grind (arith, g.0), grind (arith, g.0))

upload_takes : (len : ℕ) (body : List ℕ) (f : Frame) → IsBytes body → upload_at len body ≡ Ok f → Read body 2 f
unfolding upload_at
upload_takes len body f fits e =
    let a = bind_ok (upload_head_at len body)
    (λ head. columns_at len head.0.count [] head.1 >>= λ cs.
    (let r : Result Frame FrameFault = Ok (Upload (upload_of head.0.host head.0.seq cs)) in r)) f e in
    let h = a.0.0 in
    let b = bind_ok (columns_at len h.count [] a.0.1) (λ cs. (let r : Result Frame FrameFault = Ok (Upload (upload_of h.host h.seq cs)) in r)) f a.2 in
    let t = head_takes len body a.0 fits a.1 in
    let cs = b.0 in
    let p = columns_take len h.count [] a.0.1 cs t.0.rest_fits b.1 in
    let each : AllByRecursion IsColumn cs = subst (AllByRecursion IsColumn) (sym p.all_is) p.each in
    let n : h.count ≡ length cs = sym (ap length p.all_is ∙ p.count) in
    let tail : a.0.1 ≡ flat_map spelling cs = p.bytes_are ∙ ap (flat_map spelling) (sym p.all_is) in
    let upload = is_upload len h.count a.0.1 cs b.1 t.3 t.4 in
    let head : List ℕ = to_be_bytes w16 h.host ++ (to_be_bytes w32 h.seq ++ h.count ∷ []) in
    let regroup : head ++ a.0.1 ≡ to_be_bytes w16 h.host ++ (to_be_bytes w32 h.seq ++ h.count ∷ a.0.1) = simp append_assoc in
    let whole : body ≡ frame_fields (Upload (upload_of h.host h.seq cs)) =
    t.0.parts ∙ regroup ∙ ap (λ (x : List ℕ). to_be_bytes w16 h.host ++ (to_be_bytes w32 h.seq ++ h.count ∷ x)) tail
    ∙ ap (λ (x : ℕ). to_be_bytes w16 h.host ++ (to_be_bytes w32 h.seq ++ x ∷ flat_map spelling cs)) n in
    let full : IsFull (upload_of h.host h.seq cs) = record { host = t.1; seq = t.2; columns = upload; each = each } in
    subst (λ (x : Frame). Read body 2 x) (ok_is (Upload (upload_of h.host h.seq cs)) f b.2) (full, whole, refl)

bye_takes : (len : ℕ) (body : List ℕ) (f : Frame) → IsBytes body → length body ≡ 2 → bye_at len body ≡ Ok f → Read body 3 f
unfolding bye_at
bye_takes len body f fits size e =
    let a = bind_ok (number_at (Length len) w16 body) (λ host. (let r : Result Frame FrameFault = Ok (Bye host.0) in r)) f e in
    let t = number_takes (Length len) w16 (2 ^ 16) wide16 body a.0 fits a.1 in
    let long : length body ≡ length (to_be_bytes w16 a.0.0) = size in
    subst (λ (x : Frame). Read body 3 x) (ok_is (Bye a.0.0) f a.2) (t.1, all_of body (to_be_bytes w16 a.0.0) a.0.1 t.0.parts long, refl)

-- The lengths that are told by a range of one length.
pub exact : (n len : ℕ) → fits_lens (n, n) len ≡ true → len ≡ n
exact n len e =
    let p = both (leb n len) (leb len n) e in
    let lo : n ≤ len = leb-true _ _ p.0 in
    let hi : len ≤ n = leb-true _ _ p.1 in
    omega (arith, lo, hi)

abbrev pub some : ℕ × ℕ → Option (ℕ × ℕ)
some r = Some r

pub range_is : (a b : ℕ × ℕ) → some a ≡ some b → a ≡ b
range_is a b e = cc

pub no_range : (r : ℕ × ℕ) (x : Option (ℕ × ℕ)) → x ≡ None → x ≡ some r → ⊥
no_range r x n e = absurd cc

fields_take : (len k : ℕ) (range : ℕ × ℕ) (body : List ℕ) (f : Frame) → IsBytes body → length body + 1 ≡ len → frame_lens k ≡ Some range
    → fits_lens range len ≡ true → frame_fields_at len k body ≡ Ok f → Read body k f
unfolding frame_fields_at
fields_take len zero range body f fits long known size e = absurd cc
fields_take len (suc zero) range body f fits long known size e =
    let l = exact 15 len (subst (λ (r : ℕ × ℕ). fits_lens r len ≡ true) (sym (range_is (15, 15) range known)) size) in
    hello_takes len body f fits (omega (arith, l, long)) e
fields_take len (suc (suc zero)) range body f fits long known size e = upload_takes len body f fits e
fields_take len (suc (suc (suc zero))) range body f fits long known size e =
    let l = exact 3 len (subst (λ (r : ℕ × ℕ). fits_lens r len ≡ true) (sym (range_is (3, 3) range known)) size) in
    bye_takes len body f fits (omega (arith, l, long)) e
fields_take len (suc (suc (suc (suc k)))) range body f fits long known size e =
    let n : frame_lens (suc (suc (suc (suc k)))) ≡ None = grind arith in
    absurd (no_range range (frame_lens (suc (suc (suc (suc k))))) n known)

pub frame_format : IsFormat frames IsFrame frame_kind frame_fields
frame_format = record { spelled = frame_spelled; again = fields_again; takes = fields_take }

-- ---- the whole frame of an upload

abbrev pub IsOneUpload : List ℕ → Type 0
IsOneUpload bytes = (u : UploadData) × IsFull u × (bytes ≡ frame_of u)

upload_front : (bytes : List ℕ) (u : UploadData) → IsFull u → bytes ≡ frame_of u → front_at frames bytes ≡ Ok (Some (Upload u, length (frame_of u)))
upload_front bytes u full e =
    ap (front_at frames) (e ∙ sym (append-nil (frame_of u))) ∙ frame_again frames IsFrame frame_kind frame_fields frame_format (Upload u) [] full

abbrev front : Option (Frame × ℕ) → Front Frame
front o = Ok o

abbrev broken : FrameFault → Front Frame
broken f = Err f

some_same : (x y : Frame × ℕ) → front (Some x) ≡ front (Some y) → x ≡ y
some_same x y e = cc

upload_same : (u v : UploadData) → Upload u ≡ Upload v → u ≡ v
upload_same u v e = cc

pub not_none : (bytes : List ℕ) → IsOneUpload bytes → front_at frames bytes ≡ Ok None → ⊥
not_none bytes h e = differ (Upload h.0, length (frame_of h.0)) (sym (upload_front bytes h.0 h.1 h.2) ∙ e)
  where
    differ : (x : Frame × ℕ) → front (Some x) ≡ front None → ⊥
    differ x e2 = absurd cc

pub not_broken : (bytes : List ℕ) (f : FrameFault) → IsOneUpload bytes → front_at frames bytes ≡ Err f → ⊥
not_broken bytes f h e = differ (Upload h.0, length (frame_of h.0)) (sym (upload_front bytes h.0 h.1 h.2) ∙ e)
  where
    differ : (x : Frame × ℕ) → front (Some x) ≡ broken f → ⊥
    differ x e2 = absurd cc

pub not_hello : (bytes : List ℕ) (host : ℕ) (shape : Shape) (n : ℕ) → IsOneUpload bytes → front_at frames bytes ≡ Ok (Some (Hello host shape, n)) → ⊥
not_hello bytes host shape n h e =
    differ (ap (λ (x : Frame × ℕ). x.0) (some_same (Upload h.0, length (frame_of h.0)) (Hello host shape, n) (sym (upload_front bytes h.0 h.1 h.2) ∙ e)))
  where
    differ : Upload h.0 ≡ Hello host shape → ⊥
    differ e2 = absurd cc

pub not_bye : (bytes : List ℕ) (host : ℕ) (n : ℕ) → IsOneUpload bytes → front_at frames bytes ≡ Ok (Some (Bye host, n)) → ⊥
not_bye bytes host n h e = differ
    (ap (λ (x : Frame × ℕ). x.0) (some_same (Upload h.0, length (frame_of h.0)) (Bye host, n) (sym (upload_front bytes h.0 h.1 h.2) ∙ e)))
  where
    differ : Upload h.0 ≡ Bye host → ⊥
    differ e2 = absurd cc

pub only_upload : (bytes : List ℕ) (v : UploadData) (n : ℕ) (u : UploadData) → front_at frames bytes ≡ Ok (Some (Upload v, n)) → IsFull u
    → bytes ≡ frame_of u → v ≡ u
only_upload bytes v n u at full e =
    upload_same v u (ap (λ (x : Frame × ℕ). x.0) (some_same (Upload v, n) (Upload u, length (frame_of u)) (sym at ∙ upload_front bytes u full e)))

-- The front that was read, by its parts.
pub read_as : (bytes : List ℕ) (o : Option (Frame × ℕ)) (f g : Frame) (n : ℕ) → front_at frames bytes ≡ Ok o → o ≡ Some (f, n) → f ≡ g
    → front_at frames bytes ≡ Ok (Some (g, n))
read_as bytes o f g n at o-is f-is = at ∙ ap front o-is ∙ ap (λ (x : Frame). front (Some (x, n))) f-is

pub read_none : (bytes : List ℕ) (o : Option (Frame × ℕ)) → front_at frames bytes ≡ Ok o → o ≡ None → front_at frames bytes ≡ Ok None
read_none bytes o at o-is = at ∙ ap front o-is

pub read_broken : (bytes : List ℕ) (g : NextFault) (f : FrameFault) → FailsBy g (front_at frames bytes) → g ≡ next.Frame f → front_at frames bytes ≡ Err f
read_broken bytes g f at g-is = subst (λ (x : NextFault). FailsBy x (front_at frames bytes)) g-is at
