-- The deciding prefix says what the whole input says.
use Rattle.std.proofs.Common.{◌≡◌, ℕ, suc, zero, ◌+◌, ◌<◌, ◌≤◌, Bool, true, false, cond, eqb, leb, List, [], ◌∷◌, ◌++◌, length, length-append, length-take}
use Rattle.std.proofs.Common.{take, Result, Ok, Err, refl, sym, ap, ◌∙◌, ◌⊎◌, inl, inr, arith}
use Rattle.std.specs.Str.Lines.{strip_carriage_return}
use Rattle.std.proofs.lemmas.Bool.{cases_lt, le-leb}
use Rattle.std.proofs.lemmas.List.{take-take, take_all}
use Rattle.std.proofs.lemmas.List.Elements.{All-nil, All-cons}
use Rattle.std.proofs.lemmas.List.Splits.{slice_split_none}
use Rattle.flow_key.specs.Words.{words_at}
use Rattle.lg_model.specs.declared.limits.TheConstants.{MOST_TEXT_BYTES}
use Rattle.scenario_lines.specs.declared.why.Why.{Why}
use Rattle.scenario_lines.specs.Sections.{is_done}
use Rattle.scenario_lines.specs.Draft.{State, start}
use Rattle.scenario_lines.specs.Line.{line_of}
use Rattle.scenario_text.specs.Text.{after_line, after_len, lines_say, reading, decide, deciding_len, deciding}
use Rattle.scenario_text.specs.Reading.{IsUnbroken}
use Rattle.scenario_text.proofs.ReaderLemmas.{ends}
use Rattle.scenario_text.proofs.SpentLemmas.{decide_ends}

-- A text is one line, or a line and what follows its 0A.
pub record Cut (xs : List ℕ) : Type 0 where
  pub line : List ℕ
  pub more : List ℕ
  pub is : xs ≡ line ++ 10 ∷ more
  pub unbroken : IsUnbroken line

cut_more : (x : ℕ) (xs : List ℕ) → eqb x 10 ≡ false → IsUnbroken xs ⊎ Cut xs → IsUnbroken (x ∷ xs) ⊎ Cut (x ∷ xs)
cut_more x xs e (inl h) = inl (All-cons (λ b. eqb b 10 ≡ false) x xs e h)
cut_more x xs e (inr c) =
    inr (record {
      line = x ∷ c.line;
      more = c.more;
      is = ap (λ (ys : List ℕ). x ∷ ys) c.is;
      unbroken = All-cons (λ b. eqb b 10 ≡ false) x c.line e c.unbroken;
    })

cut_here : (x : ℕ) (xs : List ℕ) (b : Bool) → eqb x 10 ≡ b → IsUnbroken xs ⊎ Cut xs → IsUnbroken (x ∷ xs) ⊎ Cut (x ∷ xs)
cut_here x xs true e h = let is : x ≡ 10 = grind arith in
    inr (record { line = []; more = xs; is = ap (λ (y : ℕ). y ∷ xs) is; unbroken = All-nil (λ b. eqb b 10 ≡ false) })
cut_here x xs false e h = cut_more x xs e h

pub cut : (xs : List ℕ) → IsUnbroken xs ⊎ Cut xs
cut [] = inl (All-nil (λ b. eqb b 10 ≡ false))
cut (x ∷ xs) = cut_here x xs (eqb x 10) refl (cut xs)

-- one line alone
pub alone : (s : State) (line : List ℕ) → IsUnbroken line → decide s (words_at 10 line) ≡ length line
unfolding decide
alone s line unbroken = ap (decide s) (slice_split_none (λ b. eqb b 10) line unbroken)

pub take_past : (line more : List ℕ) (e : ℕ) → take ((length line + 1) + e) (line ++ 10 ∷ more) ≡ line ++ 10 ∷ take e more
take_past [] more e = let k : (0 + 1) + e ≡ suc e = omega arith in ap (λ (n : ℕ). take n (10 ∷ more)) k
take_past (x ∷ line) more e =
    let k : (suc (length line) + 1) + e ≡ suc ((length line + 1) + e) = omega arith in
    ap (λ (n : ℕ). take n (x ∷ (line ++ 10 ∷ more))) k ∙ ap (λ (ys : List ℕ). x ∷ ys) (take_past line more e)

-- a text of which a front decides: what the front says
abbrev Front : List ℕ → Type 0
Front xs = (b c : Bool) (n : ℕ) (s : State) → decide s (words_at 10 xs) < length xs
    → lines_say b n s (words_at 10 (take (decide s (words_at 10 xs)) xs)) ≡ lines_say c n s (words_at 10 xs)

-- after a line that was taken
behind : (b c : Bool) (n : ℕ) (more : List ℕ) (t : State) (d : Bool) → is_done t.section ≡ d → Front more
    → cond d 0 (decide t (words_at 10 more)) < suc (length more)
    → (d ≡ false → decide t (words_at 10 more) < length more)
    → cond d (Ok t.parts) (lines_say b n t (words_at 10 (take (cond d 0 (decide t (words_at 10 more))) more))) ≡ cond d (Ok t.parts)
    (lines_say c n t (words_at 10 more))
behind b c n more t true e front lt less = refl
behind b c n more t false e front lt less = front b c n t (less refl)

line_said : (b c : Bool) (n : ℕ) (line more : List ℕ) (r : Result State Why) → Front more
    → (length line + 1) + after_len r (λ t. decide t (words_at 10 more)) < length (line ++ 10 ∷ more)
    → after_line n r (λ t. lines_say b (n + 1) t (words_at 10 (take (after_len r (λ t. decide t (words_at 10 more))) more))) ≡ after_line n r
    (λ t. lines_say c (n + 1) t (words_at 10 more))
line_said b c n line more (Err why) front lt = refl
line_said b c n line more (Ok t) front lt = by_case (is_done t.section) refl where
  len : length (line ++ 10 ∷ more) ≡ length line + suc (length more)
  len = length-append line (10 ∷ more)

  by_case : (d : Bool) → is_done t.section ≡ d
      → after_line n (Ok t) (λ u. lines_say b (n + 1) u (words_at 10 (take (after_len (Ok t) (λ v. decide v (words_at 10 more))) more))) ≡ after_line n
      (Ok t) (λ u. lines_say c (n + 1) u (words_at 10 more))
  by_case true e = rw e refl
  by_case false e =
      let small : (length line + 1) + decide t (words_at 10 more) < length (line ++ 10 ∷ more) = rw e at lt in
      rw e (front b c (n + 1) t (omega (arith, small, len)))

cut_said : (xs : List ℕ) (k : Cut xs) → Front k.more → Front xs
cut_said xs k front b c n s lt =
    let r = line_of s (strip_carriage_return k.line) in
    let e = after_len (line_of s (strip_carriage_return k.line)) (λ t. decide t (words_at 10 k.more)) in
    let d : decide s (words_at 10 xs) ≡ (length k.line + 1) + after_len (line_of s (strip_carriage_return k.line)) (λ t. decide t (words_at 10 k.more)) =
    ap (λ (ys : List ℕ). decide s (words_at 10 ys)) k.is ∙ decide_ends s k.line k.more k.unbroken in
    let small : (length k.line + 1) + after_len (line_of s (strip_carriage_return k.line)) (λ t. decide t (words_at 10 k.more)) < length
    (k.line ++ 10 ∷ k.more) = omega (arith, lt, d, ap length k.is) in
    let front_is : take (decide s (words_at 10 xs)) xs ≡ k.line ++ 10 ∷ take
    (after_len (line_of s (strip_carriage_return k.line)) (λ t. decide t (words_at 10 k.more))) k.more
    = ap (λ (m : ℕ). take m xs) d
    ∙ ap (λ (ys : List ℕ). take
    ((length k.line + 1) + after_len (line_of s (strip_carriage_return k.line)) (λ t. decide t (words_at 10 k.more))) ys) k.is
    ∙ take_past k.line k.more _ in
    ap (λ (ys : List ℕ). lines_say b n s (words_at 10 ys)) front_is
    ∙ ends b n s k.line (take (after_len (line_of s (strip_carriage_return k.line)) (λ t. decide t (words_at 10 k.more))) k.more) k.unbroken
    ∙ line_said b c n k.line k.more (line_of s (strip_carriage_return k.line)) front small
    ∙ sym (ends c n s k.line k.more k.unbroken)
    ∙ ap (λ (ys : List ℕ). lines_say c n s (words_at 10 ys)) (sym k.is)

front_by : (fuel : ℕ) (xs : List ℕ) → ((ys : List ℕ) → length ys ≤ fuel → Front ys) → length xs ≤ suc fuel → IsUnbroken xs ⊎ Cut xs → Front xs
front_by fuel xs ih le (inl h) = λ b c n s lt. absurd (omega (arith, lt, alone s xs h))
front_by fuel xs ih le (inr k) = cut_said xs k (ih k.more (omega (arith, le, ap length k.is, length-append k.line (10 ∷ k.more))))

front_says : (fuel : ℕ) (xs : List ℕ) → length xs ≤ fuel → Front xs
front_says zero xs le = λ b c n s lt. absurd (omega (arith, lt, le))
front_says (suc fuel) xs le = front_by fuel xs (front_says fuel) le (cut xs)

-- ---- the whole input

decided : (input : List ℕ) (d : ℕ) → d ≡ decide start (words_at 10 (take MOST_TEXT_BYTES input)) → d < length (take MOST_TEXT_BYTES input)
    → lines_say (leb MOST_TEXT_BYTES (length (take d input))) 1 start (words_at 10 (take MOST_TEXT_BYTES (take d input))) ≡ lines_say
    (leb MOST_TEXT_BYTES (length input)) 1 start (words_at 10 (take MOST_TEXT_BYTES input))
decided input d is lt =
    let few : d ≤ MOST_TEXT_BYTES = omega (arith, lt, length-take MOST_TEXT_BYTES input) in
    let front : take MOST_TEXT_BYTES (take d input) ≡ take d (take MOST_TEXT_BYTES input) =
    take_all MOST_TEXT_BYTES (take d input) (omega (arith, few, length-take d input)) ∙ sym (take-take d MOST_TEXT_BYTES input few) in
    ap (λ (ys : List ℕ). lines_say (leb MOST_TEXT_BYTES (length (take d input))) 1 start (words_at 10 ys))
    (front ∙ ap (λ (m : ℕ). take m (take MOST_TEXT_BYTES input)) is)
    ∙ front_says (length (take MOST_TEXT_BYTES input)) (take MOST_TEXT_BYTES input) (omega arith) (leb MOST_TEXT_BYTES (length (take d input)))
    (leb MOST_TEXT_BYTES (length input)) 1 start (rw is at lt)

undecided : (input : List ℕ) (d : ℕ) → length (take MOST_TEXT_BYTES input) ≤ d → (length input < MOST_TEXT_BYTES) ⊎ (MOST_TEXT_BYTES ≤ length input)
    → lines_say (leb MOST_TEXT_BYTES (length (take d input))) 1 start (words_at 10 (take MOST_TEXT_BYTES (take d input))) ≡ lines_say
    (leb MOST_TEXT_BYTES (length input)) 1 start (words_at 10 (take MOST_TEXT_BYTES input))
undecided input d ge (inl less) =
    ap (λ (ys : List ℕ). lines_say (leb MOST_TEXT_BYTES (length ys)) 1 start (words_at 10 (take MOST_TEXT_BYTES ys)))
    (take_all d input (omega (arith, ge, less, length-take MOST_TEXT_BYTES input)))
undecided input d ge (inr more) =
    let most : MOST_TEXT_BYTES ≤ d = omega (arith, ge, more, length-take MOST_TEXT_BYTES input) in
    let one : leb MOST_TEXT_BYTES (length (take d input)) ≡ true = le-leb _ _ (omega (arith, most, more, length-take d input)) in
    let two : leb MOST_TEXT_BYTES (length input) ≡ true = le-leb _ _ more in
    ap (λ (b : Bool). lines_say b 1 start (words_at 10 (take MOST_TEXT_BYTES (take d input)))) (one ∙ sym two)
    ∙ ap (λ (ys : List ℕ). lines_say (leb MOST_TEXT_BYTES (length input)) 1 start (words_at 10 ys)) (take-take MOST_TEXT_BYTES d input most)

prefix_by : (input : List ℕ) (d : ℕ) → d ≡ decide start (words_at 10 (take MOST_TEXT_BYTES input))
    → (d < length (take MOST_TEXT_BYTES input)) ⊎ (length (take MOST_TEXT_BYTES input) ≤ d)
    → lines_say (leb MOST_TEXT_BYTES (length (take d input))) 1 start (words_at 10 (take MOST_TEXT_BYTES (take d input))) ≡ lines_say
    (leb MOST_TEXT_BYTES (length input)) 1 start (words_at 10 (take MOST_TEXT_BYTES input))
prefix_by input d is (inl lt) = decided input d is lt
prefix_by input d is (inr ge) = undecided input d ge (cases_lt (length input) MOST_TEXT_BYTES)

pub prefix : (input : List ℕ) → reading (deciding input) ≡ reading input
unfolding reading deciding_len
prefix input = prefix_by input (decide start (words_at 10 (take MOST_TEXT_BYTES input))) refl
    (cases_lt (decide start (words_at 10 (take MOST_TEXT_BYTES input))) (length (take MOST_TEXT_BYTES input)))
