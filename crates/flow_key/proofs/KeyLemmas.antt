-- What is read as a number, an address or a key is its one text, and that text is read again.
use Rattle.std.proofs.Common.{◌≡◌, ℕ, suc, ◌<◌, ◌≤◌, ◌^◌, Bool, true, false, cond, ltb, leb, eqb, List, zero, [], ◌∷◌, length, get_or, Option, Some, None, refl, sym, ap, subst, ◌∙◌, arith, All, ◌&&◌, lit<, inl, inr}
use Rattle.std.specs.Prelude.{IfSome, IfNone}
use Rattle.std.specs.List.{list_all, join_with_byte}
use Rattle.std.specs.Char.{is_ascii_digit}
use Rattle.std.specs.Int.{IsInRange}
use Rattle.std.specs.Fmt.{decimal}
use Rattle.std.specs.Str.Parse.{digits_value}
use Rattle.std.proofs.lemmas.Bool.{cases_lt, ltb-false, leb-true, le-leb}
use Rattle.std.proofs.lemmas.Option.{cond_some}
use Rattle.std.proofs.lemmas.Str.Parse.{digit_at}
use Rattle.std.proofs.lemmas.Fmt.{decimal-digits_value, decimal_is_IsNumeral, first_decimal, decimal_digit}
use Rattle.std.proofs.lemmas.List.Elements.{All-from_get_or, All-append}
use Rattle.std.proofs.lemmas.List.Splits.{slice_split_at, slice_split_none, join_with_byte-slice_split}
use Rattle.flow_key.specs.declared.key.FlowKey.{FlowKey}
use Rattle.flow_key.specs.Words.{words_at, is_number, value_to, number_to}
use Rattle.flow_key.specs.KeyText.{◌>>=◌, number_word, no_more, address_of, address_word, key_words, key_of, key_text, dotted, IsAddress, Fits}
use Rattle.flow_key.proofs.WordLemmas.{own}

-- ---- numbers

form_digits : (w : List ℕ) (a b : Bool) → cond a false (cond b false (list_all is_ascii_digit w)) ≡ true → (a ≡ false) × (b ≡ false) × (list_all is_ascii_digit w ≡ true)
form_digits w true b e = absurd cc
form_digits w false true e = absurd cc
form_digits w false false e = (refl, refl, e)

one_zero : (h n : ℕ) → (eqb h 48 && ltb 1 n) ≡ false → 0 < n → h ≡ 48 → n ≡ 1
one_zero h n e some z =
    let f : (eqb 48 48 && ltb 1 n) ≡ false = subst (λ (x : ℕ). (eqb x 48 && ltb 1 n) ≡ false) z e in
    let le : n ≤ 1 = ltb-false 1 n f in
    omega arith

zero_one : (h n : ℕ) → (h ≡ 48 → n ≡ 1) → (eqb h 48 && ltb 1 n) ≡ false
zero_one h n one = grind arith

pub number_is : (most : ℕ) (w : List ℕ) (n : ℕ) → most < 2 ^ 64 → number_to most w ≡ Some n → (w ≡ decimal n) × (n ≤ most)
unfolding number_to value_to is_number
number_is most w n small e =
    let yes = form_number (is_number w) (value_to most w) n e in
    let parts = form_digits w (eqb (length w) 0) (eqb (get_or w 0 0) 48 && ltb 1 (length w)) yes.0 in
    let val = cond_some (leb (digits_value 10 w) most) (digits_value 10 w) n yes.1 in
    let le : digits_value 10 w ≤ most = leb-true _ _ val.0 in
    let some : 0 < length w = grind arith in
    let one : get_or w 0 0 ≡ 48 → length w ≡ 1 = λ z. one_zero (get_or w 0 0) (length w) parts.1 some z in
    let text = decimal-digits_value own w parts.2 some one (omega arith) in
    (sym text ∙ ap decimal val.1, omega (arith, val.1))
  where
    form_number : (b : Bool) (v : Option ℕ) (n : ℕ) → cond b v None ≡ Some n → (b ≡ true) × (v ≡ Some n)
    form_number true v n e = (refl, e)
    form_number false v n e = absurd cc

has_form : (w : List ℕ) → 0 < length w → (get_or w 0 0 ≡ 48 → length w ≡ 1) → list_all is_ascii_digit w ≡ true → is_number w ≡ true
unfolding is_number
has_form w some one digits =
    let e : eqb (length w) 0 ≡ false = grind arith in
    rw (e, zero_one (get_or w 0 0) (length w) one) digits

no_zero : (n : ℕ) → n < 2 ^ 64 → get_or (decimal n) 0 0 ≡ 48 → length (decimal n) ≡ 1
no_zero n small z =
    elim (cases_lt n 10) [
      | inl lt ↦ ap length (decimal_digit n lt)
      | inr le ↦ let first = first_decimal n (omega arith) small in absurd (omega arith)
    ]

pub number_again : (most n : ℕ) → most < 2 ^ 64 → n ≤ most → number_to most (decimal n) ≡ Some n
unfolding number_to value_to
number_again most n small le =
    let lt : n < 2 ^ 64 = omega arith in
    let num = decimal_is_IsNumeral n lt in
    let form = has_form (decimal n) num.0.0 (no_zero n lt) (own.from (decimal n) num.0.1) in
    let yes : leb n most ≡ true = le-leb n most le in
    rw (form, num.1, yes) refl

pub spelled : (most : ℕ) (w : List ℕ) (r : Option ℕ) → most < 2 ^ 64 → r ≡ number_to most w → IfSome r (λ n. w ≡ decimal n)
spelled most w None small e = tt
spelled most w (Some n) small e = (number_is most w n small (sym e)).0

-- ---- texts of digits, and lists of them

digit_no : (c d : ℕ) → d < 48 → IsInRange 48 57 c → eqb c d ≡ false
digit_no c d low range = grind arith

pub unmarked : (n c : ℕ) → n < 2 ^ 64 → c < 48 → All (λ x. eqb x c ≡ false) (decimal n)
unmarked n c small low =
    let num = decimal_is_IsNumeral n small in
    All-from_get_or (λ x. eqb x c ≡ false) (decimal n) 0 (λ i lt. digit_no (get_or (decimal n) i 0) c low (digit_at (decimal n) i num.0.1 lt))

-- each word is free of the byte
abbrev pub AreFree : ℕ → List (List ℕ) → Type 0
AreFree c [] = Unit {0}
AreFree c (w ∷ ws) = All (λ x. eqb x c ≡ false) w × AreFree c ws

pub split_join : (c : ℕ) (w : List ℕ) (ws : List (List ℕ)) → AreFree c (w ∷ ws) → words_at c (join_with_byte c (w ∷ ws)) ≡ w ∷ ws
split_join c w [] free = slice_split_none (λ b. eqb b c) w free.0
split_join c w (v ∷ vs) free =
    let same : eqb c c ≡ true = grind arith in
    slice_split_at (λ b. eqb b c) w c (join_with_byte c (v ∷ vs)) free.0 same ∙ ap (λ (ps : List (List ℕ)). w ∷ ps) (split_join c v vs free.1)

-- ---- reading takes the text

bind_some : {A B : Type 0} (r : Option A) (f : A → Option B) (y : B) → (r >>= f) ≡ Some y → (x : A) × (r ≡ Some x) × (f x ≡ Some y)
bind_some (Some x) f y e = (x, refl, e)
bind_some None f y e = absurd cc

abbrev pub some_of : {A : Type 0} → A → Option A
some_of x = Some x

pub some_is : {A : Type 0} (x y : A) → some_of x ≡ some_of y → x ≡ y
some_is x y e = cc

pub word_takes : (most : ℕ) (ws : List (List ℕ)) (x : ℕ × List (List ℕ)) → most < 2 ^ 64 → number_word most ws ≡ Some x → (ws ≡ decimal x.0 ∷ x.1) × (x.0 ≤ most)
unfolding number_word
word_takes most [] x small e = absurd cc
word_takes most (w ∷ ws) x small e =
    let a = bind_some (number_to most w) (λ n. Some (n, ws)) x e in
    let is = number_is most w a.0 small a.1 in
    subst (λ (y : ℕ × List (List ℕ)). (w ∷ ws ≡ decimal y.0 ∷ y.1) × (y.0 ≤ most)) (some_is (a.0, ws) x a.2) (ap (λ (v : List ℕ). v ∷ ws) is.0, is.1)

none_left : (ws : List (List ℕ)) (u : Unit {0}) → no_more ws ≡ Some u → ws ≡ []
none_left [] u e = refl
none_left (w ∷ ws) u e = absurd cc

pub address_takes : (w ns : List ℕ) → address_of w ≡ Some ns → w ≡ dotted ns
unfolding address_of
address_takes w ns e =
    let a = bind_some (number_word 255 (words_at 46 w)) (λ a. number_word 255 a.1 >>= λ b. number_word 255 b.1 >>= λ c. number_word 255 c.1 >>= λ d. no_more d.1 >>= λ _. Some (a.0 ∷ b.0 ∷ c.0 ∷ d.0 ∷ [])) ns e in
    let b = bind_some (number_word 255 a.0.1) (λ b. number_word 255 b.1 >>= λ c. number_word 255 c.1 >>= λ d. no_more d.1 >>= λ _. Some (a.0.0 ∷ b.0 ∷ c.0 ∷ d.0 ∷ [])) ns a.2 in
    let c = bind_some (number_word 255 b.0.1) (λ c. number_word 255 c.1 >>= λ d. no_more d.1 >>= λ _. Some (a.0.0 ∷ b.0.0 ∷ c.0 ∷ d.0 ∷ [])) ns b.2 in
    let d = bind_some (number_word 255 c.0.1) (λ d. no_more d.1 >>= λ _. Some (a.0.0 ∷ b.0.0 ∷ c.0.0 ∷ d.0 ∷ [])) ns c.2 in
    let z = bind_some (no_more d.0.1) (λ _. Some (a.0.0 ∷ b.0.0 ∷ c.0.0 ∷ d.0.0 ∷ [])) ns d.2 in
    let ta = word_takes 255 (words_at 46 w) a.0 (lit< tt) a.1 in
    let tb = word_takes 255 a.0.1 b.0 (lit< tt) b.1 in
    let tc = word_takes 255 b.0.1 c.0 (lit< tt) c.1 in
    let td = word_takes 255 c.0.1 d.0 (lit< tt) d.1 in
    let end = none_left d.0.1 z.0 z.1 in
    let all : words_at 46 w ≡ decimal a.0.0 ∷ decimal b.0.0 ∷ decimal c.0.0 ∷ decimal d.0.0 ∷ [] = cc (ta.0, tb.0, tc.0, td.0, end) in
    let text : w ≡ dotted (a.0.0 ∷ b.0.0 ∷ c.0.0 ∷ d.0.0 ∷ []) = sym (join_with_byte-slice_split 46 w) ∙ ap (join_with_byte 46) all in
    text ∙ ap dotted (some_is (a.0.0 ∷ b.0.0 ∷ c.0.0 ∷ d.0.0 ∷ []) ns z.2)

pub address_spelled : (w : List ℕ) (r : Option (List ℕ)) → r ≡ address_of w → IfSome r (λ ns. w ≡ dotted ns)
address_spelled w None e = tt
address_spelled w (Some ns) e = address_takes w ns (sym e)

pub address_word_takes : (ws : List (List ℕ)) (x : List ℕ × List (List ℕ)) → address_word ws ≡ Some x → ws ≡ dotted x.0 ∷ x.1
unfolding address_word
address_word_takes [] x e = absurd cc
address_word_takes (w ∷ ws) x e =
    let a = bind_some (address_of w) (λ ns. Some (ns, ws)) x e in
    let is = address_takes w a.0 a.1 in
    subst (λ (y : List ℕ × List (List ℕ)). w ∷ ws ≡ dotted y.0 ∷ y.1) (some_is (a.0, ws) x a.2) (ap (λ (v : List ℕ). v ∷ ws) is)

abbrev key_parts : FlowKey → List (List ℕ) → List (List ℕ)
key_parts k ws = dotted k.src ∷ dotted k.dst ∷ decimal k.proto ∷ decimal k.sport ∷ decimal k.dport ∷ ws

joined : {w0 w1 w2 w3 w4 w5 : List (List ℕ)} {a b c d e : List ℕ} → w0 ≡ a ∷ w1 → w1 ≡ b ∷ w2 → w2 ≡ c ∷ w3 → w3 ≡ d ∷ w4 → w4 ≡ e ∷ w5 → w0 ≡ a ∷ b ∷ c ∷ d ∷ e ∷ w5
joined p q r s t = cc

pub key_words_take : (ws : List (List ℕ)) (x : FlowKey × List (List ℕ)) → key_words ws ≡ Some x → ws ≡ key_parts x.0 x.1
unfolding key_words
key_words_take ws x h =
    let a = bind_some (address_word ws) (λ a. address_word a.1 >>= λ b. number_word 255 b.1 >>= λ p. number_word 65535 p.1 >>= λ s. number_word 65535 s.1 >>= λ d. Some (record { src = a.0; dst = b.0; proto = p.0; sport = s.0; dport = d.0 }, d.1)) x h in
    let b = bind_some (address_word a.0.1) (λ b. number_word 255 b.1 >>= λ p. number_word 65535 p.1 >>= λ s. number_word 65535 s.1 >>= λ d. Some (record { src = a.0.0; dst = b.0; proto = p.0; sport = s.0; dport = d.0 }, d.1)) x a.2 in
    let p = bind_some (number_word 255 b.0.1) (λ p. number_word 65535 p.1 >>= λ s. number_word 65535 s.1 >>= λ d. Some (record { src = a.0.0; dst = b.0.0; proto = p.0; sport = s.0; dport = d.0 }, d.1)) x b.2 in
    let s = bind_some (number_word 65535 p.0.1) (λ s. number_word 65535 s.1 >>= λ d. Some (record { src = a.0.0; dst = b.0.0; proto = p.0.0; sport = s.0; dport = d.0 }, d.1)) x p.2 in
    let d = bind_some (number_word 65535 s.0.1) (λ d. Some (record { src = a.0.0; dst = b.0.0; proto = p.0.0; sport = s.0.0; dport = d.0 }, d.1)) x s.2 in
    let made : FlowKey = record { src = a.0.0; dst = b.0.0; proto = p.0.0; sport = s.0.0; dport = d.0.0 } in
    let ta = address_word_takes ws a.0 a.1 in
    let tb = address_word_takes a.0.1 b.0 b.1 in
    let tp = word_takes 255 b.0.1 p.0 (lit< tt) p.1 in
    let ts = word_takes 65535 p.0.1 s.0 (lit< tt) s.1 in
    let td = word_takes 65535 s.0.1 d.0 (lit< tt) d.1 in
    let all : ws ≡ key_parts made d.0.1 = joined ta tb tp.0 ts.0 td.0 in
    subst (λ (y : FlowKey × List (List ℕ)). ws ≡ key_parts y.0 y.1) (some_is (made, d.0.1) x d.2) all

pub key_takes : (text : List ℕ) (k : FlowKey) → key_of text ≡ Some k → text ≡ key_text k
unfolding key_of
key_takes text k e =
    let a = bind_some (key_words (words_at 32 text)) (λ key. no_more key.1 >>= λ _. Some key.0) k e in
    let z = bind_some (no_more a.0.1) (λ _. Some a.0.0) k a.2 in
    let parts = key_words_take (words_at 32 text) a.0 a.1 in
    let end = none_left a.0.1 z.0 z.1 in
    let all : words_at 32 text ≡ key_parts a.0.0 [] = parts ∙ ap (key_parts a.0.0) end in
    (sym (join_with_byte-slice_split 32 text) ∙ ap (join_with_byte 32) all) ∙ ap key_text (some_is a.0.0 k z.2)

-- ---- the text is read again

pub word_again : (most n : ℕ) (ws : List (List ℕ)) → most < 2 ^ 64 → n ≤ most → number_word most (decimal n ∷ ws) ≡ Some (n, ws)
unfolding number_word
word_again most n ws small le = rw (number_again most n small le) refl

pub address_again : (ns : List ℕ) → IsAddress ns → address_of (dotted ns) ≡ Some ns
unfolding address_of
address_again [] h = absurd (omega (arith, h.four))
address_again (a ∷ []) h = absurd (omega (arith, h.four))
address_again (a ∷ b ∷ []) h = absurd (omega (arith, h.four))
address_again (a ∷ b ∷ c ∷ []) h = absurd (omega (arith, h.four))
address_again (a ∷ b ∷ c ∷ d ∷ e ∷ ns) h = absurd (omega (arith, h.four))
address_again (a ∷ b ∷ c ∷ d ∷ []) h =
    let ha : a < 256 = h.bytes 0 0 (lit< tt) in
    let hb : b < 256 = h.bytes 1 0 (lit< tt) in
    let hc : c < 256 = h.bytes 2 0 (lit< tt) in
    let hd : d < 256 = h.bytes 3 0 (lit< tt) in
    let free = λ (n : ℕ) (lt : n < 256). unmarked n 46 (omega arith) (lit< tt) in
    let split = split_join 46 (decimal a) (decimal b ∷ decimal c ∷ decimal d ∷ []) (free a ha, (free b hb, (free c hc, (free d hd, tt)))) in
    rw (split, word_again 255 a (decimal b ∷ decimal c ∷ decimal d ∷ []) (lit< tt) (omega arith), word_again 255 b (decimal c ∷ decimal d ∷ []) (lit< tt) (omega arith), word_again 255 c (decimal d ∷ []) (lit< tt) (omega arith), word_again 255 d [] (lit< tt) (omega arith)) refl

pub found : (text : List ℕ) (r : Option FlowKey) → r ≡ key_of text → IfSome r (λ k. text ≡ key_text k)
found text None e = tt
found text (Some k) e = key_takes text k (sym e)

pub dotted_free : (ns : List ℕ) → IsAddress ns → All (λ x. eqb x 32 ≡ false) (dotted ns)
dotted_free [] h = absurd (omega (arith, h.four))
dotted_free (a ∷ []) h = absurd (omega (arith, h.four))
dotted_free (a ∷ b ∷ []) h = absurd (omega (arith, h.four))
dotted_free (a ∷ b ∷ c ∷ []) h = absurd (omega (arith, h.four))
dotted_free (a ∷ b ∷ c ∷ d ∷ e ∷ ns) h = absurd (omega (arith, h.four))
dotted_free (a ∷ b ∷ c ∷ d ∷ []) h =
    let ha : a < 256 = h.bytes 0 0 (lit< tt) in
    let hb : b < 256 = h.bytes 1 0 (lit< tt) in
    let hc : c < 256 = h.bytes 2 0 (lit< tt) in
    let hd : d < 256 = h.bytes 3 0 (lit< tt) in
    let P : ℕ → Type 0 = λ x. eqb x 32 ≡ false in
    let free = λ (n : ℕ) (lt : n < 256). unmarked n 32 (omega arith) (lit< tt) in
    let dot = λ (xs : List ℕ) (ok : All P xs). All-append P (46 ∷ []) xs (All-from_get_or P (46 ∷ []) 0 (λ i lt. one_dot i lt)) ok in
    All-append P (decimal a) _ (free a ha) (dot _ (All-append P (decimal b) _ (free b hb) (dot _ (All-append P (decimal c) _ (free c hc) (dot _ (free d hd))))))
  where
    one_dot : (i : ℕ) → i < 1 → eqb (get_or (46 ∷ []) i 0) 32 ≡ false
    one_dot zero lt = refl
    one_dot (suc i) lt = absurd (omega arith)

pub key_again : (k : FlowKey) → Fits k → key_of (key_text k) ≡ Some k
unfolding key_of key_words address_word
key_again k h =
    let split = split_join 32 (dotted k.src) (dotted k.dst ∷ decimal k.proto ∷ decimal k.sport ∷ decimal k.dport ∷ []) (dotted_free k.src h.src, (dotted_free k.dst h.dst, (unmarked k.proto 32 (omega (arith, h.proto)) (lit< tt), (unmarked k.sport 32 (omega (arith, h.sport)) (lit< tt), (unmarked k.dport 32 (omega (arith, h.dport)) (lit< tt), tt))))) in
    rw (split, address_again k.src h.src, address_again k.dst h.dst, word_again 255 k.proto (decimal k.sport ∷ decimal k.dport ∷ []) (lit< tt) (omega (arith, h.proto)), word_again 65535 k.sport (decimal k.dport ∷ []) (lit< tt) (omega (arith, h.sport)), word_again 65535 k.dport [] (lit< tt) (omega (arith, h.dport))) refl

abbrev none_of : Option FlowKey
none_of = None

different : (k : FlowKey) → none_of ≡ Some k → ⊥
different k h = cc

pub no_key : (text : List ℕ) (r : Option FlowKey) → r ≡ key_of text → IfNone r ((k : FlowKey) → Fits k → text ≡ key_text k → ⊥)
no_key text None e = λ k fits is. let some = ap key_of is ∙ key_again k fits in different k (e ∙ some)
no_key text (Some k) e = tt
