-- Replies: what is read is spelled so, and what is spelled so is read.
use Rattle.std.proofs.Common.{◌≡◌, ℕ, zero, suc, ◌+◌, ◌^◌, ◌<◌, Bool, true, false, cond, ltb, eqb, ◌||◌, ◌&&◌}
use Rattle.std.proofs.Common.{List, [], ◌∷◌, ◌++◌, length, Some, None, Result, Ok, Err, refl, sym, ap, subst, ◌∙◌, arith}
use Rattle.std.specs.Int.{w16, w32, to_be_bytes}
use Rattle.std.proofs.lemmas.Bool.{eqb-true}
use Rattle.std.proofs.lemmas.List.{append-nil}
use Rattle.byte_fields.specs.Reading.{◌>>=◌, byte_at, number_at}
use Rattle.byte_fields.specs.Law.{IsBytes}
use Rattle.byte_fields.proofs.Steps.{bind_ok, guard_ok, guarded, ok_is}
use Rattle.byte_fields.proofs.Numbers.{Takes-then, wide16, wide32, number_takes, number_again, byte_takes, byte_again}
use Rattle.lg_model.specs.declared.column.Key.{Key}
use Rattle.sketchlet_wire.specs.Spelling.{FitsKey, column_key_bytes}
use Rattle.sketchlet_wire.specs.Reading.{key_at}
use Rattle.sketchlet_wire.proofs.Fields.{key_takes, key_again, key_len}
use Rattle.upload_frame.specs.declared.fault.FrameFault.{FrameFault}
use Rattle.upload_frame.specs.declared.fault.FrameFault.TheVariants.{Length, Code, KeyNotZero}
use Rattle.upload_frame.specs.declared.reply.RefusedWhy.{RefusedWhy}
use Rattle.upload_frame.specs.declared.reply.RefusedWhy.TheVariants as why
use Rattle.upload_frame.specs.declared.reply.Reply.{Reply}
use Rattle.upload_frame.specs.declared.reply.Reply.TheVariants.{Welcome, Acknowledged, Refused, Goodbye}
use Rattle.upload_frame.specs.Front.{fits_lens}
use Rattle.upload_frame.specs.Replies.{reply_lens, reply_kind, known_code, why_code, zero_key, why_key, reply_fields, IsReply}
use Rattle.upload_frame.specs.Replies.{is_zero_key, why_by, why_of, welcome_at, acknowledged_at, refused_at, goodbye_at, reply_fields_at, replies}
use Rattle.upload_frame.proofs.Heads.{IsSpelled}
use Rattle.upload_frame.proofs.FrameSpelled.{all_of, exact, range_is, no_range}
use Rattle.upload_frame.proofs.Spellings.{IsFormat}

refused_len : (host seq : ℕ) (reason : RefusedWhy) → length (reply_fields (Refused host seq reason)) ≡ 15
refused_len host seq reason = omega (arith, key_len (why_key reason))

known_len : (host seq : ℕ) (known : Bool) → length (reply_fields (Acknowledged host seq known)) ≡ 7
known_len host seq known = refl

reply_spelled : (r : Reply) → IsReply r → IsSpelled reply_lens (reply_kind r) (reply_fields r)
reply_spelled (Welcome host) h = record { range = (3, 3); known = refl; fits = refl; few = omega arith }
reply_spelled (Acknowledged host seq known) h = record { range = (8, 8); known = refl; fits = refl; few = omega (arith, known_len host seq known) }
reply_spelled (Refused host seq reason) h =
    record {
      range = (16, 16);
      known = refl;
      fits = ap (λ (n : ℕ). fits_lens (16, 16) (n + 1)) (refused_len host seq reason);
      few = omega
          (arith, refused_len host seq reason);
    }
reply_spelled (Goodbye host) h = record { range = (3, 3); known = refl; fits = refl; few = omega arith }

-- ---- what is spelled so is read

host_again : (len host : ℕ) → host < 2 ^ 16 → number_at (Length len) w16 (to_be_bytes w16 host) ≡ Ok (host, [])
host_again len host lt = ap (number_at (Length len) w16) (sym (append-nil (to_be_bytes w16 host))) ∙ number_again (Length len) w16 (2 ^ 16) wide16 host [] lt

welcome_again : (len host : ℕ) → host < 2 ^ 16 → welcome_at len (to_be_bytes w16 host) ≡ Ok (Welcome host)
unfolding welcome_at
welcome_again len host lt = rw (host_again len host lt) refl

goodbye_again : (len host : ℕ) → host < 2 ^ 16 → goodbye_at len (to_be_bytes w16 host) ≡ Ok (Goodbye host)
unfolding goodbye_at
goodbye_again len host lt = rw (host_again len host lt) refl

acknowledged_again : (len host seq : ℕ) (known : Bool) → host < 2 ^ 16 → seq < 2 ^ 32
    → acknowledged_at len (reply_fields (Acknowledged host seq known)) ≡ Ok (Acknowledged host seq known)
unfolding acknowledged_at
acknowledged_again len host seq true h s =
    rw (
      number_again (Length len) w16 (2 ^ 16) wide16 host (to_be_bytes w32 seq ++ 1 ∷ []) h,
      number_again (Length len) w32 (2 ^ 32) wide32 seq (1 ∷ []) s,
      byte_again (Length len) 1 [],
    ) refl
acknowledged_again len host seq false h s =
    rw (
      number_again (Length len) w16 (2 ^ 16) wide16 host (to_be_bytes w32 seq ++ 0 ∷ []) h,
      number_again (Length len) w32 (2 ^ 32) wide32 seq (0 ∷ []) s,
      byte_again (Length len) 0 [],
    ) refl

why_again : (reason : RefusedWhy) → why_of (why_code reason) (why_key reason) ≡ Ok reason
unfolding why_of
why_again (why.Conflict key) = refl
why_again why.Full = refl
why_again why.Shape = refl
why_again why.Closed = refl

refused_again : (len host seq : ℕ) (reason : RefusedWhy) → IsReply (Refused host seq reason)
    → refused_at len (reply_fields (Refused host seq reason)) ≡ Ok (Refused host seq reason)
unfolding refused_at
refused_again len host seq reason h =
    let key : List ℕ = column_key_bytes (why_key reason) in
    let code : ℕ = why_code reason in
    let key_is : key_at (Length len) key ≡ Ok (why_key reason, []) =
    ap (key_at (Length len)) (sym (append-nil key)) ∙ key_again (Length len) (why_key reason) [] h.2 in
    rw (
      number_again (Length len) w16 (2 ^ 16) wide16 host (to_be_bytes w32 seq ++ code ∷ key) h.0,
      number_again (Length len) w32 (2 ^ 32) wide32 seq (code ∷ key) h.1,
      byte_again (Length len) code key,
      key_is,
      why_again reason,
    ) refl

fields_again : (r : Reply) → IsReply r → reply_fields_at (length (reply_fields r) + 1) (reply_kind r) (reply_fields r) ≡ Ok r
unfolding reply_fields_at
fields_again (Welcome host) h = welcome_again (length (reply_fields (Welcome host)) + 1) host h
fields_again (Acknowledged host seq known) h = acknowledged_again (length (reply_fields (Acknowledged host seq known)) + 1) host seq known h.0 h.1
fields_again (Refused host seq reason) h = refused_again (length (reply_fields (Refused host seq reason)) + 1) host seq reason h
fields_again (Goodbye host) h = goodbye_again (length (reply_fields (Goodbye host)) + 1) host h

-- ---- what is read is spelled so

abbrev Read : List ℕ → ℕ → Reply → Type 0
Read body k r = IsReply r × (body ≡ reply_fields r) × (k ≡ reply_kind r)

welcome_takes : (len : ℕ) (body : List ℕ) (r : Reply) → IsBytes body → length body ≡ 2 → welcome_at len body ≡ Ok r → Read body 0x81 r
unfolding welcome_at
welcome_takes len body r fits size e =
    let a = bind_ok (number_at (Length len) w16 body) (λ host. (let x : Result Reply FrameFault = Ok (Welcome host.0) in x)) r e in
    let t = number_takes (Length len) w16 (2 ^ 16) wide16 body a.0 fits a.1 in
    let long : length body ≡ length (to_be_bytes w16 a.0.0) = size in
    subst (λ (x : Reply). Read body 0x81 x) (ok_is (Welcome a.0.0) r a.2) (t.1, all_of body (to_be_bytes w16 a.0.0) a.0.1 t.0.parts long, refl)

goodbye_takes : (len : ℕ) (body : List ℕ) (r : Reply) → IsBytes body → length body ≡ 2 → goodbye_at len body ≡ Ok r → Read body 0x84 r
unfolding goodbye_at
goodbye_takes len body r fits size e =
    let a = bind_ok (number_at (Length len) w16 body) (λ host. (let x : Result Reply FrameFault = Ok (Goodbye host.0) in x)) r e in
    let t = number_takes (Length len) w16 (2 ^ 16) wide16 body a.0 fits a.1 in
    let long : length body ≡ length (to_be_bytes w16 a.0.0) = size in
    subst (λ (x : Reply). Read body 0x84 x) (ok_is (Goodbye a.0.0) r a.2) (t.1, all_of body (to_be_bytes w16 a.0.0) a.0.1 t.0.parts long, refl)

code_is : (code : ℕ) → ltb 1 code ≡ false → code ≡ known_code (eqb code 1)
code_is zero e = refl
code_is (suc zero) e = refl
code_is (suc (suc k)) e = absurd (grind (arith, e))

acknowledged_takes : (len : ℕ) (body : List ℕ) (r : Reply) → IsBytes body → length body ≡ 7 → acknowledged_at len body ≡ Ok r → Read body 0x82 r
unfolding acknowledged_at
acknowledged_takes len body r fits size e =
    let last = λ (host seq : ℕ) (code : ℕ
    × List ℕ). (let x : Result Reply FrameFault = cond (ltb 1 code.0) (Err (Code code.0)) (Ok (Acknowledged host seq (eqb code.0 1))) in x) in
    let a = bind_ok (number_at (Length len) w16 body)
    (λ host. number_at (Length len) w32 host.1 >>= λ seq. byte_at (Length len) seq.1 >>= λ code. last host.0 seq.0 code) r e in
    let b = bind_ok (number_at (Length len) w32 a.0.1) (λ seq. byte_at (Length len) seq.1 >>= λ code. last a.0.0 seq.0 code) r a.2 in
    let c = bind_ok (byte_at (Length len) b.0.1) (λ code. last a.0.0 b.0.0 code) r b.2 in
    let made : Reply = Acknowledged a.0.0 b.0.0 (eqb c.0.0 1) in
    let g = guard_ok (ltb 1 c.0.0) (Code c.0.0) made r c.2 in
    let t1 = number_takes (Length len) w16 (2 ^ 16) wide16 body a.0 fits a.1 in
    let t2 = number_takes (Length len) w32 (2 ^ 32) wide32 a.0.1 b.0 t1.0.rest_fits b.1 in
    let t3 = byte_takes (Length len) b.0.1 c.0 t2.0.rest_fits c.1 in
    let s2 = Takes-then a.0.1 (to_be_bytes w32 b.0.0) b.0.1 (c.0.0 ∷ []) c.0.1 t2.0 t3.0 in
    let s1 = Takes-then body (to_be_bytes w16 a.0.0) a.0.1 (to_be_bytes w32 b.0.0 ++ c.0.0 ∷ []) c.0.1 t1.0 s2 in
    let all : body ≡ to_be_bytes w16 a.0.0 ++ (to_be_bytes w32 b.0.0 ++ c.0.0 ∷ []) =
    all_of body (to_be_bytes w16 a.0.0 ++ (to_be_bytes w32 b.0.0 ++ c.0.0 ∷ [])) c.0.1 s1.parts size in
    let text : body ≡ reply_fields made = all ∙ ap (λ (n : ℕ). to_be_bytes w16 a.0.0 ++ (to_be_bytes w32 b.0.0 ++ n ∷ [])) (code_is c.0.0 g.0) in
    subst (λ (x : Reply). Read body 0x82 x) {x = made} g.1 ((t1.1, t2.1), text, refl)

both : (a b : Bool) → (a && b) ≡ true → (a ≡ true) × (b ≡ true)
both true b e = (refl, e)
both false b e = absurd cc

zero_is : (key : Key) → is_zero_key key ≡ true → key ≡ zero_key
zero_is key e =
    let p = both (eqb key.switch 0) (eqb key.epoch 0 && eqb key.index 0) e in
    let q = both (eqb key.epoch 0) (eqb key.index 0) p.1 in
    let s : key.switch ≡ 0 = eqb-true _ _ p.0 in
    let n : key.epoch ≡ 0 = eqb-true _ _ q.0 in
    let j : key.index ≡ 0 = eqb-true _ _ q.1 in
    λ i. record { switch = s i; epoch = n i; index = j i }

abbrev Told : ℕ → Key → RefusedWhy → Type 0
Told code key reason = (code ≡ why_code reason) × (key ≡ why_key reason)

no_key : (code : ℕ) (key : Key) (made reason : RefusedWhy) → (code ≡ why_code made) → (zero_key ≡ why_key made)
    → cond (is_zero_key key) (Ok made) (Err KeyNotZero) ≡ Ok reason → Told code key reason
no_key code key made reason code-is key-is e =
    let g = guarded (is_zero_key key) KeyNotZero made reason e in
    subst (λ (x : RefusedWhy). Told code key x) g.1 (code-is, zero_is key g.0 ∙ key-is)

why_takes : (code : ℕ) (key : Key) (reason : RefusedWhy) → why_of code key ≡ Ok reason → Told code key reason
unfolding why_of
why_takes zero key reason e = absurd cc
why_takes (suc zero) key reason e = subst (λ (x : RefusedWhy). Told 1 key x) (ok_is {E = FrameFault} (why.Conflict key) reason e) (refl, refl)
why_takes (suc (suc zero)) key reason e = no_key 2 key why.Full reason refl refl e
why_takes (suc (suc (suc zero))) key reason e = no_key 3 key why.Shape reason refl refl e
why_takes (suc (suc (suc (suc zero)))) key reason e = no_key 4 key why.Closed reason refl refl e
why_takes (suc (suc (suc (suc (suc k))))) key reason e =
    let code : ℕ = suc (suc (suc (suc (suc k)))) in
    let bad : (ltb code 1 || ltb 4 code) ≡ true = grind arith in
    let x : Result RefusedWhy FrameFault = cond (eqb code 1) (Ok (why.Conflict key)) (cond (is_zero_key key) (Ok (why_by code)) (Err KeyNotZero)) in
    absurd (no_reason (Code code) reason (sym (ap (λ (b : Bool). cond b (Err (Code code)) x) bad) ∙ e))
  where
    no_reason : (f : FrameFault) (r : RefusedWhy) → (let x : Result RefusedWhy FrameFault = Err f in x) ≡ Ok r → ⊥
    no_reason f r h = cc

refused_takes : (len : ℕ) (body : List ℕ) (r : Reply) → IsBytes body → length body ≡ 15 → refused_at len body ≡ Ok r → Read body 0x83 r
unfolding refused_at
refused_takes len body r fits size e =
    let last = λ (host seq : ℕ) (reason : RefusedWhy). (let x : Result Reply FrameFault = Ok (Refused host seq reason) in x) in
    let a = bind_ok (number_at (Length len) w16 body) (λ host. number_at (Length len) w32 host.1 >>= λ seq. byte_at (Length len) seq.1 >>= λ code. key_at
    (Length len) code.1 >>= λ key. why_of code.0 key.0 >>= λ reason. last host.0 seq.0 reason) r e in
    let b = bind_ok (number_at (Length len) w32 a.0.1)
    (λ seq. byte_at (Length len) seq.1 >>= λ code. key_at (Length len) code.1 >>= λ key. why_of code.0 key.0 >>= λ reason. last a.0.0 seq.0 reason) r a.2 in
    let c = bind_ok (byte_at (Length len) b.0.1)
    (λ code. key_at (Length len) code.1 >>= λ key. why_of code.0 key.0 >>= λ reason. last a.0.0 b.0.0 reason) r b.2 in
    let d = bind_ok (key_at (Length len) c.0.1) (λ key. why_of c.0.0 key.0 >>= λ reason. last a.0.0 b.0.0 reason) r c.2 in
    let w = bind_ok (why_of c.0.0 d.0.0) (λ reason. last a.0.0 b.0.0 reason) r d.2 in
    let t1 = number_takes (Length len) w16 (2 ^ 16) wide16 body a.0 fits a.1 in
    let t2 = number_takes (Length len) w32 (2 ^ 32) wide32 a.0.1 b.0 t1.0.rest_fits b.1 in
    let t3 = byte_takes (Length len) b.0.1 c.0 t2.0.rest_fits c.1 in
    let t4 = key_takes (Length len) c.0.1 d.0 t3.0.rest_fits d.1 in
    let told = why_takes c.0.0 d.0.0 w.0 w.1 in
    let s3 = Takes-then b.0.1 (c.0.0 ∷ []) c.0.1 (column_key_bytes d.0.0) d.0.1 t3.0 t4.0 in
    let s2 = Takes-then a.0.1 (to_be_bytes w32 b.0.0) b.0.1 (c.0.0 ∷ column_key_bytes d.0.0) d.0.1 t2.0 s3 in
    let s1 = Takes-then body (to_be_bytes w16 a.0.0) a.0.1 (to_be_bytes w32 b.0.0 ++ c.0.0 ∷ column_key_bytes d.0.0) d.0.1 t1.0 s2 in
    let long : length body ≡ length (to_be_bytes w16 a.0.0 ++ (to_be_bytes w32 b.0.0 ++ c.0.0 ∷ column_key_bytes d.0.0)) = omega (arith, size, key_len d.0.0) in
    let all : body ≡ to_be_bytes w16 a.0.0 ++ (to_be_bytes w32 b.0.0 ++ c.0.0 ∷ column_key_bytes d.0.0) =
    all_of body (to_be_bytes w16 a.0.0 ++ (to_be_bytes w32 b.0.0 ++ c.0.0 ∷ column_key_bytes d.0.0)) d.0.1 s1.parts long in
    let text : body ≡ reply_fields (Refused a.0.0 b.0.0 w.0) =
    all ∙ ap (λ (n : ℕ). to_be_bytes w16 a.0.0 ++ (to_be_bytes w32 b.0.0 ++ n ∷ column_key_bytes d.0.0)) told.0
    ∙ ap (λ (k : Key). to_be_bytes w16 a.0.0 ++ (to_be_bytes w32 b.0.0 ++ why_code w.0 ∷ column_key_bytes k)) told.1 in
    subst (λ (x : Reply). Read body 0x83 x) (ok_is (Refused a.0.0 b.0.0 w.0) r w.2) ((t1.1, t2.1, subst FitsKey told.1 t4.1), text, refl)

not_kind : (k : ℕ) → eqb k 0x81 ≡ false → eqb k 0x82 ≡ false → eqb k 0x83 ≡ false → eqb k 0x84 ≡ false → reply_lens k ≡ None
not_kind k a b c d = rw (a, b, c, d) refl

fields_take : (len k : ℕ) (range : ℕ × ℕ) (body : List ℕ) (r : Reply) → IsBytes body → length body + 1 ≡ len → reply_lens k ≡ Some range
    → fits_lens range len ≡ true → reply_fields_at len k body ≡ Ok r → Read body k r
unfolding reply_fields_at
fields_take len k range body r fits long known size e = one (eqb k 0x81) refl
  where
    fixed : (n m : ℕ) → k ≡ n → reply_lens n ≡ Some (m, m) → len ≡ m
    fixed n m k-is at = exact m len (subst (λ (x : ℕ × ℕ). fits_lens x len ≡ true) (range_is range (m, m) (sym known ∙ ap reply_lens k-is ∙ at)) size)

    at : (n : ℕ) → k ≡ n → reply_fields_at len n body ≡ Ok r
    at n k-is = ap (λ (x : ℕ). reply_fields_at len x body) (sym k-is) ∙ e

    back : (n : ℕ) → k ≡ n → Read body n r → Read body k r
    back n k-is h = subst (λ (x : ℕ). Read body x r) (sym k-is) h

    four : (a : eqb k 0x81 ≡ false) (b : eqb k 0x82 ≡ false) (c : eqb k 0x83 ≡ false) (t : Bool) → eqb k 0x84 ≡ t → Read body k r
    four a b c true h = let k-is = eqb-true k 0x84 h in back 0x84 k-is (goodbye_takes len body r fits (omega (arith, fixed 0x84 3 k-is refl, long))
        (at 0x84 k-is))
    four a b c false h = absurd (no_range range (reply_lens k) (not_kind k a b c h) known)

    three : (a : eqb k 0x81 ≡ false) (b : eqb k 0x82 ≡ false) (t : Bool) → eqb k 0x83 ≡ t → Read body k r
    three a b true h = let k-is = eqb-true k 0x83 h in back 0x83 k-is (refused_takes len body r fits (omega (arith, fixed 0x83 16 k-is refl, long))
        (at 0x83 k-is))
    three a b false h = four a b h (eqb k 0x84) refl

    two : (a : eqb k 0x81 ≡ false) (t : Bool) → eqb k 0x82 ≡ t → Read body k r
    two a true h = let k-is = eqb-true k 0x82 h in back 0x82 k-is (acknowledged_takes len body r fits (omega (arith, fixed 0x82 8 k-is refl, long))
        (at 0x82 k-is))
    two a false h = three a h (eqb k 0x83) refl

    one : (t : Bool) → eqb k 0x81 ≡ t → Read body k r
    one true h = let k-is = eqb-true k 0x81 h in back 0x81 k-is (welcome_takes len body r fits (omega (arith, fixed 0x81 3 k-is refl, long)) (at 0x81 k-is))
    one false h = two h (eqb k 0x82) refl

pub reply_format : IsFormat replies IsReply reply_kind reply_fields
reply_format = record { spelled = reply_spelled; again = fields_again; takes = fields_take }
