-- The words of a line are split and read again.
use Rattle.std.proofs.Common.{◌≡◌, ℕ, suc, ◌-◌, ◌<◌, ◌≤◌, ◌^◌, Bool, true, false, eqb, List, [], ◌∷◌, ◌++◌, length, get_or, map, Ok, refl, ap, ◌∙◌, arith}
use Rattle.std.proofs.Common.{All, lit<}
use Rattle.std.specs.Prelude.{nat_lt}
use Rattle.std.specs.List.{list_all}
use Rattle.std.specs.Fmt.{decimal}
use Rattle.std.specs.Str.Lines.{strip_carriage_return}
use Rattle.std.specs.Int.{IsInRange}
use Rattle.std.proofs.lemmas.Bool.{le-leb, lt-ltb}
use Rattle.std.proofs.lemmas.Str.Parse.{digit_at}
use Rattle.std.proofs.lemmas.Fmt.{decimal_is_IsNumeral}
use Rattle.std.proofs.lemmas.List.{append-nil}
use Rattle.std.proofs.lemmas.List.Elements.{All-from_get_or}
use Rattle.std.proofs.lemmas.List.Folds.{list_all-append}
use Rattle.std.proofs.lemmas.List.Sums.{AllPass-from_list_all, list_all-from_AllPass}
use Rattle.std.proofs.lemmas.List.Splits.{slice_split_at, slice_split_none}
use Rattle.flow_key.specs.declared.key.FlowKey.{FlowKey}
use Rattle.flow_key.specs.KeyText.{IsAddress, Fits, dotted}
use Rattle.flow_key.specs.Words.{words_at}
use Rattle.flow_key.proofs.KeyLemmas.{number_again, AreFree}
use Rattle.text_out.specs.Words.{Words, spaced, joined}
use Rattle.scenario_lines.specs.Spelling.{key_parts}
use Rattle.scenario_lines.specs.Fields.{number}

-- ---- words of bytes above the space

abbrev pub is_word : List ℕ → Bool
is_word w = list_all (λ b. nat_lt 32 b) w

abbrev pub AreWords : Words → Type 0
AreWords [] = Unit {0}
AreWords (w ∷ ws) = (is_word w ≡ true) × AreWords ws

pub words_append : (ws vs : Words) → AreWords ws → AreWords vs → AreWords (ws ++ vs)
words_append [] vs f g = g
words_append (w ∷ ws) vs f g = (f.0, words_append ws vs f.1 g)

above : (b : ℕ) → nat_lt 32 b ≡ true → eqb b 32 ≡ false
above b e = grind arith

words_free : (ws : Words) → AreWords ws → AreFree 32 ws
words_free [] ok = tt
words_free (w ∷ ws) ok = (λ i d lt. above _ (AllPass-from_list_all (λ b. nat_lt 32 b) w ok.0 i d lt), words_free ws ok.1)

split_free : (w : List ℕ) (ws : Words) → AreFree 32 (w ∷ ws) → words_at 32 (joined (w ∷ ws)) ≡ w ∷ ws
split_free w [] free = rw append-nil (slice_split_none (λ b. eqb b 32) w free.0)
split_free w (v ∷ vs) free = slice_split_at (λ b. eqb b 32) w 32 (joined (v ∷ vs)) free.0 refl ∙ ap (λ (ps : Words). w ∷ ps) (split_free v vs free.1)

pub split_words : (w : List ℕ) (ws : Words) → AreWords (w ∷ ws) → words_at 32 (joined (w ∷ ws)) ≡ w ∷ ws
split_words w ws ok = split_free w ws (words_free (w ∷ ws) ok)

-- ---- lines of such words

abbrev pub is_plain : List ℕ → Bool
is_plain l = list_all (λ b. nat_lt 31 b) l

wider : (b : ℕ) → nat_lt 32 b ≡ true → nat_lt 31 b ≡ true
wider b e = grind arith

word_plain : (w : List ℕ) → is_word w ≡ true → is_plain w ≡ true
word_plain w ok = list_all-from_AllPass (λ b. nat_lt 31 b) w (λ i d lt. wider _ (AllPass-from_list_all (λ b. nat_lt 32 b) w ok i d lt))

spaced_plain : (ws : Words) → AreWords ws → is_plain (spaced ws) ≡ true
spaced_plain [] ok = refl
spaced_plain (w ∷ ws) ok = rw (list_all-append (λ b. nat_lt 31 b) w (spaced ws), word_plain w ok.0, spaced_plain ws ok.1) refl

pub joined_plain : (ws : Words) → AreWords ws → is_plain (joined ws) ≡ true
joined_plain [] ok = refl
joined_plain (w ∷ ws) ok = rw (list_all-append (λ b. nat_lt 31 b) w (spaced ws), word_plain w ok.0, spaced_plain ws ok.1) refl

not_end : (b : ℕ) → nat_lt 31 b ≡ true → eqb b 10 ≡ false
not_end b e = grind arith

not_return : (b : ℕ) → nat_lt 31 b ≡ true → eqb b 13 ≡ false
not_return b e = grind arith

pub plain_unbroken : (l : List ℕ) → is_plain l ≡ true → All (λ b. eqb b 10 ≡ false) l
plain_unbroken l ok = λ i d lt. not_end _ (AllPass-from_list_all (λ b. nat_lt 31 b) l ok i d lt)

pub plain_bare : (l : List ℕ) → is_plain l ≡ true → strip_carriage_return l ≡ l
plain_bare [] ok = refl
plain_bare (x ∷ xs) ok =
    let last : eqb (get_or (x ∷ xs) (length (x ∷ xs) - 1) 0) 13 ≡ false =
    not_return _ (AllPass-from_list_all (λ b. nat_lt 31 b) (x ∷ xs) ok (length (x ∷ xs) - 1) 0 (omega arith)) in
    rw last refl

-- ---- numbers and keys

digit_above : (c : ℕ) → IsInRange 48 57 c → nat_lt 32 c ≡ true
digit_above c range = lt-ltb 32 c (omega (arith, range.0))

pub number_word_is : (n : ℕ) → n < 2 ^ 64 → is_word (decimal n) ≡ true
number_word_is n small =
    let num = decimal_is_IsNumeral n small in
    list_all-from_AllPass (λ b. nat_lt 32 b) (decimal n)
    (All-from_get_or (λ b. nat_lt 32 b ≡ true) (decimal n) 0 (λ i lt. digit_above (get_or (decimal n) i 0) (digit_at (decimal n) i num.0.1 lt)))

four_words : (a b c d : List ℕ) → is_word a ≡ true → is_word b ≡ true → is_word c ≡ true → is_word d ≡ true
    → is_word (a ++ 46 ∷ (b ++ 46 ∷ (c ++ 46 ∷ d))) ≡ true
four_words a b c d p q r s =
    rw (
      list_all-append (λ x. nat_lt 32 x) a (46 ∷ (b ++ 46 ∷ (c ++ 46 ∷ d))),
      p,
      list_all-append (λ x. nat_lt 32 x) b (46 ∷ (c ++ 46 ∷ d)),
      q,
      list_all-append (λ x. nat_lt 32 x) c (46 ∷ d),
      r,
      s,
    ) refl

pub address_word_is : (ns : List ℕ) → IsAddress ns → is_word (dotted ns) ≡ true
address_word_is [] h = absurd (omega (arith, h.four))
address_word_is (a ∷ []) h = absurd (omega (arith, h.four))
address_word_is (a ∷ b ∷ []) h = absurd (omega (arith, h.four))
address_word_is (a ∷ b ∷ c ∷ []) h = absurd (omega (arith, h.four))
address_word_is (a ∷ b ∷ c ∷ d ∷ e ∷ ns) h = absurd (omega (arith, h.four))
address_word_is (a ∷ b ∷ c ∷ d ∷ []) h =
    let ha : a < 256 = h.bytes 0 0 (lit< tt) in
    let hb : b < 256 = h.bytes 1 0 (lit< tt) in
    let hc : c < 256 = h.bytes 2 0 (lit< tt) in
    let hd : d < 256 = h.bytes 3 0 (lit< tt) in
    let byte = λ (n : ℕ) (lt : n < 256). number_word_is n (omega arith) in
    four_words (decimal a) (decimal b) (decimal c) (decimal d) (byte a ha) (byte b hb) (byte c hc) (byte d hd)

pub key_words_are : (k : FlowKey) (ws : Words) → Fits k → AreWords ws → AreWords (key_parts k ws)
key_words_are k ws h ok = (
  address_word_is k.src h.src,
  (
    address_word_is k.dst h.dst,
    (
      number_word_is k.proto (omega (arith, h.proto)),
      (number_word_is k.sport (omega (arith, h.sport)), (number_word_is k.dport (omega (arith, h.dport)), ok)),
    ),
  ),
)

pub numbers_are_words : (ns : List ℕ) → All (λ d. d < 4294967296) ns → AreWords (map decimal ns)
numbers_are_words [] small = tt
numbers_are_words (d ∷ ds) small =
    (number_word_is d (let lt = small 0 0 (omega arith) in omega arith), numbers_are_words ds (λ i x lt. small (suc i) x (omega arith)))

pub number_read : (most n : ℕ) (ws : Words) → most < 2 ^ 64 → n ≤ most → number 0 most (decimal n ∷ ws) ≡ Ok (n, ws)
unfolding number
number_read most n ws small le = rw (number_again most n small le, le-leb 0 n (omega arith)) refl

pub number_from_read : (low most n : ℕ) (ws : Words) → most < 2 ^ 64 → low ≤ n → n ≤ most → number low most (decimal n ∷ ws) ≡ Ok (n, ws)
unfolding number
number_from_read low most n ws small ge le = rw (number_again most n small le, le-leb low n ge) refl
