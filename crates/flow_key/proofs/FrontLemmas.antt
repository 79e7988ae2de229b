-- The number that the first word of a text writes, and the words after it.
use Rattle.std.proofs.Common.{
  ◌≡◌,
  ℕ,
  ◌+◌,
  ◌<◌,
  ◌≤◌,
  ◌^◌,
  Bool,
  true,
  false,
  cond,
  eqb,
  ltb,
  List,
  [],
  ◌∷◌,
  length,
  get_or,
  take,
  drop,
  Option,
  Some,
  None,
  ◌&&◌,
  refl,
  sym,
  ap,
  subst,
  ◌∙◌,
  arith,
  lit<,
  inl,
  inr,
}
use Rattle.std.specs.List.{position_or_len, list_all, join_with_byte}
use Rattle.std.specs.Char.{is_ascii_digit}
use Rattle.std.specs.Fmt.{decimal}
use Rattle.std.specs.Str.Parse.{digits_value}
use Rattle.std.proofs.lemmas.Bool.{cases_lt}
use Rattle.std.proofs.lemmas.List.{get_or-take, take-take, take_all, length-take-le}
use Rattle.std.proofs.lemmas.List.Folds.{list_all_at}
use Rattle.std.proofs.lemmas.List.Sums.{fails_before_first, passes_at_first, prefix_len-le-length}
use Rattle.std.proofs.lemmas.List.Splits.{length-slice_split, slice_split_first, join_with_byte-slice_split}
use Rattle.flow_key.specs.Words.{words_at, first_word, digits_to, is_number, value_to, number_to}
use Rattle.flow_key.specs.KeyText.{number_word}
use Rattle.flow_key.proofs.WordLemmas.{past, too_much, just}
use Rattle.flow_key.proofs.KeyLemmas.{some_is, number_is, number_again, unmarked, split_join}

-- ---- where the first word ends

pub ends_by : (p : ℕ → Bool) (xs : List ℕ) → position_or_len p xs ≤ length xs
ends_by p xs = prefix_len-le-length _ xs

pub ends_here : (p : ℕ → Bool) (xs : List ℕ) (i : ℕ) → i ≤ position_or_len p xs → p (get_or xs i 0) ≡ true → i ≡ position_or_len p xs
ends_here p xs i le here =
    elim (cases_lt i (position_or_len p xs)) [
      | inl lt ↦ let no = fails_before_first p xs i 0 lt in absurd cc
      | inr ge ↦ omega arith
    ]

pub ends_later : (p : ℕ → Bool) (xs : List ℕ) (i : ℕ) → i ≤ position_or_len p xs → i < length xs → p (get_or xs i 0) ≡ false → i < position_or_len p xs
ends_later p xs i le lt here =
    elim (cases_lt i (position_or_len p xs)) [
      | inl less ↦ less
      | inr ge ↦
          let same : position_or_len p xs ≡ i = omega arith in
          let yes = passes_at_first p xs 0 (omega arith) in
          let yes_here : p (get_or xs i 0) ≡ true = subst (λ (k : ℕ). p (get_or xs k 0) ≡ true) same yes in
          absurd cc
    ]

-- ---- the value of its digits

pub worth_front : (at most : ℕ) (text : List ℕ) (i n : ℕ) → i ≡ position_or_len (λ b. eqb b at) text → list_all is_ascii_digit (take i text) ≡ true →
    n ≡ digits_value 10 (take i text) → n ≤ most → Some n ≡ digits_to most (first_word at text)
worth_front at most text i n e all is le = subst (λ (k : ℕ). Some n ≡ digits_to most (take k text)) e (just most (take i text) n all is le)

pub no_digit : (at most : ℕ) (text : List ℕ) (i : ℕ) → i < position_or_len (λ b. eqb b at) text → is_ascii_digit (get_or text i 0) ≡ false →
    None ≡ digits_to most (first_word at text)
no_digit at most text i lt here =
    let end = position_or_len (λ b. eqb b at) text in
    let len : length (first_word at text) ≡ end = length-take-le end text (ends_by (λ b. eqb b at) text) in
    let same = get_or-take end text i 0 lt in
    let no : list_all is_ascii_digit (first_word at text) ≡ false =
    list_all_at is_ascii_digit (first_word at text) i 0 (omega (arith, len)) (ap is_ascii_digit same ∙ here) in
    rw no refl

pub front_too_much : (at most : ℕ) (text : List ℕ) (i : ℕ) → i < position_or_len (λ b. eqb b at) text → most < digits_value 10 (take (i + 1) text) →
    None ≡ digits_to most (first_word at text)
front_too_much at most text i lt more =
    let same = take-take (i + 1) (position_or_len (λ b. eqb b at) text) text (omega arith) in
    too_much most (first_word at text) (i + 1) (subst (λ (ds : List ℕ). most < digits_value 10 ds) (sym same) more)

-- ---- the number of a word

worth_none : (a b : Bool) (most : ℕ) (w : List ℕ) → None ≡ digits_to most w →
    cond (cond a false (cond b false (list_all is_ascii_digit w))) (value_to most w) None ≡ None
worth_none true b most w e = refl
worth_none false true most w e = refl
worth_none false false most w e = sym e

pub worthless : (most : ℕ) (w : List ℕ) → None ≡ digits_to most w → number_to most w ≡ None
unfolding number_to is_number
worthless most w e = worth_none (eqb (length w) 0) (eqb (get_or w 0 0) 48 && ltb 1 (length w)) most w e

pub empty : (most : ℕ) (w : List ℕ) → length w ≡ 0 → number_to most w ≡ None
unfolding number_to is_number
empty most w e = rw e refl

form_zero : (a : Bool) (most : ℕ) (w : List ℕ) → cond (cond a false false) (value_to most w) None ≡ None
form_zero true most w = refl
form_zero false most w = refl

pub zero_first : (most : ℕ) (w : List ℕ) → get_or w 0 0 ≡ 48 → 1 < length w → number_to most w ≡ None
unfolding number_to is_number
zero_first most w z lt =
    let both : (eqb (get_or w 0 0) 48 && ltb 1 (length w)) ≡ true = grind arith in
    rw both (form_zero (eqb (length w) 0) most w)

pub worth_number : (most : ℕ) (w : List ℕ) (n : ℕ) → 0 < length w → (get_or w 0 0 ≡ 48 → length w ≤ 1) → Some n ≡ digits_to most w → number_to most w ≡ Some n
unfolding number_to is_number
worth_number most w n some one e =
    let a : eqb (length w) 0 ≡ false = grind arith in
    let b : (eqb (get_or w 0 0) 48 && ltb 1 (length w)) ≡ false = grind arith in
    rw (a, b) (sym e)

-- ---- the number in front

pub split_here : (at : ℕ) (text : List ℕ) (i : ℕ) → i ≡ position_or_len (λ b. eqb b at) text → i < length text →
    words_at at text ≡ take i text ∷ words_at at (drop (i + 1) text)
split_here at text i e lt =
    let first = slice_split_first (λ b. eqb b at) text 0 (omega (arith, e)) in
    subst (λ (k : ℕ). words_at at text ≡ take k text ∷ words_at at (drop (k + 1) text)) (sym e) first

pub split_end : (at : ℕ) (text : List ℕ) (i : ℕ) → i ≡ position_or_len (λ b. eqb b at) text → length text ≤ i → words_at at text ≡ take i text ∷ []
split_end at text i e le =
    let all = take_all i text le in
    rw all (past (λ b. eqb b at) text (omega (arith, e)))

pub front_some : (most : ℕ) (w : List ℕ) (n : ℕ) (ws left : List (List ℕ)) → ws ≡ w ∷ left → number_to most w ≡ Some n → Some (n, left) ≡ number_word most ws
unfolding number_word
front_some most w n ws left e is = rw (e, is) refl

front_none : (most : ℕ) (w : List ℕ) (ws left : List (List ℕ)) → ws ≡ w ∷ left → number_to most w ≡ None → None ≡ number_word most ws
unfolding number_word
front_none most w ws left e is = rw (e, is) refl

pub no_front : (at most : ℕ) (text : List ℕ) → number_to most (first_word at text) ≡ None → None ≡ number_word most (words_at at text)
no_front at most text is =
    let end = position_or_len (λ b. eqb b at) text in
    elim (cases_lt end (length text)) [
      | inl lt ↦ front_none most (first_word at text) (words_at at text) _ (split_here at text end refl lt) is
      | inr le ↦ front_none most (first_word at text) (words_at at text) _ (split_end at text end refl le) is
    ]

front_len : (at : ℕ) (text : List ℕ) → length (first_word at text) ≡ position_or_len (λ b. eqb b at) text
front_len at text = length-take-le (position_or_len (λ b. eqb b at) text) text (ends_by (λ b. eqb b at) text)

front_first : (at : ℕ) (text : List ℕ) → 0 < position_or_len (λ b. eqb b at) text → get_or (first_word at text) 0 0 ≡ get_or text 0 0
front_first at text lt = get_or-take (position_or_len (λ b. eqb b at) text) text 0 0 lt

pub empty_front : (at most : ℕ) (text : List ℕ) (i : ℕ) → i ≡ position_or_len (λ b. eqb b at) text → i ≡ 0 → None ≡ number_word most (words_at at text)
empty_front at most text i e z = no_front at most text (empty most (first_word at text) (omega (arith, front_len at text, e, z)))

pub zero_front : (at most : ℕ) (text : List ℕ) (i : ℕ) → i ≡ position_or_len (λ b. eqb b at) text → get_or text 0 0 ≡ 48 → 1 < i →
    None ≡ number_word most (words_at at text)
zero_front at most text i e z lt =
    let first = front_first at text (omega (arith, e)) in
    no_front at most text (zero_first most (first_word at text) (first ∙ z) (omega (arith, front_len at text, e)))

pub front_number : (at most : ℕ) (text : List ℕ) (i n : ℕ) → i ≡ position_or_len (λ b. eqb b at) text → 0 < i → (get_or text 0 0 ≡ 48 → i ≤ 1) →
    Some n ≡ digits_to most (first_word at text) → number_to most (take i text) ≡ Some n
front_number at most text i n e some one is =
    let first = front_first at text (omega (arith, e)) in
    let len = front_len at text in
    let number = worth_number most (first_word at text) n (omega (arith, len, e)) (λ z. let le = one (sym first ∙ z) in omega (arith, len, e, le)) is in
    subst (λ (k : ℕ). number_to most (take k text) ≡ Some n) (sym e) number

-- ---- a text of one word

alone : (n : ℕ) → n < 2 ^ 64 → words_at 32 (decimal n) ≡ decimal n ∷ []
alone n small = split_join 32 (decimal n) [] (unmarked n 32 small (lit< tt), tt)

pub number_alone : (most : ℕ) (w : List ℕ) (n : ℕ) → most < 2 ^ 64 → n ≤ most → words_at 32 w ≡ decimal n ∷ [] → Some n ≡ number_to most w
number_alone most w n small le e =
    let text : w ≡ decimal n = sym (join_with_byte-slice_split 32 w) ∙ ap (join_with_byte 32) e in
    sym (ap (number_to most) text ∙ number_again most n small le)

-- a word that writes a number is the one word of a text
pub one_word : (most : ℕ) (w : List ℕ) (n : ℕ) → most < 2 ^ 64 → number_to most w ≡ Some n → number_word most (words_at 32 w) ≡ Some (n, [])
one_word most w n small e =
    let is = number_is most w n small e in
    let split : words_at 32 w ≡ w ∷ [] = ap (words_at 32) is.0 ∙ alone n (omega (arith, is.1)) ∙ ap (λ (v : List ℕ). v ∷ []) (sym is.0) in
    sym (front_some most w n (words_at 32 w) [] split e)

pub none_alone : (most : ℕ) (w : List ℕ) (r : Option ℕ) → most < 2 ^ 64 → number_to most w ≡ r → None ≡ number_word most (words_at 32 w) → None ≡ r
none_alone most w None small e none = refl
none_alone most w (Some n) small e none =
    let one = one_word most w n small e in
    absurd cc

pub more_than_one : (most : ℕ) (w rest : List ℕ) (m : ℕ) (r : Option ℕ) → most < 2 ^ 64 → number_to most w ≡ r →
    Some (m, words_at 32 rest) ≡ number_word most (words_at 32 w) → None ≡ r
more_than_one most w rest m None small e some = refl
more_than_one most w rest m (Some n) small e some =
    let one = one_word most w n small e in
    let pair = some_is (m, words_at 32 rest) (n, []) (some ∙ one) in
    let nothing : words_at 32 rest ≡ [] = ap (λ (x : ℕ × List (List ℕ)). x.1) pair in
    let some_word = length-slice_split (λ b. eqb b 32) rest in
    let zero : length (words_at 32 rest) ≡ 0 = ap length nothing in
    absurd (omega (arith, some_word, zero))
