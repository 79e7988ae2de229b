-- Where a text is unfinished or too long, all its bytes decide, and its faulty line is the last.
use Rattle.std.proofs.Common.{◌≡◌, ℕ, suc, zero, ◌+◌, ◌≤◌, Bool, true, false, eqb, leb, List, [], ◌∷◌, length, length-append, length-take, take, Result, Ok}
use Rattle.std.proofs.Common.{Err, refl, sym, ap, subst, ◌∙◌, ◌⊎◌, inl, inr, arith}
use Rattle.std.specs.Prelude.{if◌then◌else◌}
use Rattle.std.specs.List.{count_by}
use Rattle.std.specs.Str.Lines.{strip_carriage_return}
use Rattle.std.proofs.lemmas.List.{take-take, take_all}
use Rattle.std.proofs.lemmas.List.Splits.{slice_split_none, slice_split_at, length-slice_split}
use Rattle.flow_key.specs.Words.{words_at}
use Rattle.lg_model.specs.declared.limits.TheConstants.{MOST_TEXT_BYTES}
use Rattle.lg_model.specs.Scenario.{Scenario}
use Rattle.scenario_lines.specs.declared.why.Why.{Why}
use Rattle.scenario_lines.specs.declared.why.Why.TheVariants.{NoDone, TooLong}
use Rattle.scenario_lines.specs.Sections.{is_done}
use Rattle.scenario_lines.specs.Draft.{State, start}
use Rattle.scenario_lines.specs.Line.{line_of}
use Rattle.scenario_text.specs.Text.{Fault, at_end, after_line, after_len, lines_say, reading, decide, deciding_len, deciding, IsUnfinished}
use Rattle.scenario_text.specs.Reading.{IsUnbroken}
use Rattle.scenario_text.proofs.ReaderLemmas.{ends}
use Rattle.scenario_text.proofs.DecidingLemmas.{Cut, cut, alone}
use Rattle.scenario_text.proofs.SpentLemmas.{decide_ends}
use Rattle.scenario_text.proofs.LineWhys.{IsOfALine, OfALine, line_why}

abbrev line_in : Result Scenario Fault → ℕ
line_in (Ok w) = 0
line_in (Err f) = f.0

abbrev why_in : Result Scenario Fault → Why
why_in (Ok w) = NoDone
why_in (Err f) = f.1

not_said : {A : Type 0} (w : Scenario) (f : Fault) → ◌≡◌ {A = Result Scenario Fault} (Ok w) (Err f) → A
not_said w f same = absurd cc

not_of_a_line : (why : Why) → IsUnfinished why → IsOfALine why → ⊥
not_of_a_line why (inl e) is = subst IsOfALine e is
not_of_a_line why (inr e) is = subst IsOfALine e is

-- the last line, which has no 0A
last_line : (b : Bool) (n m : ℕ) (why : Why) (r : Result State Why) → (if b then Err (n, TooLong) else at_end n r) ≡ Err (m, why) → m ≡ n
last_line true n m why r h = sym (ap line_in h)
last_line false n m why (Err e) h = sym (ap line_in h)
last_line false n m why (Ok t) h = by_case (is_done t.section) refl where
  by_case : (d : Bool) → is_done t.section ≡ d → m ≡ n
  by_case true e = let said = rw e at h in not_said t.parts (m, why) said
  by_case false e = let said = rw e at h in sym (ap line_in said)

record IsLast (xs : List ℕ) (n m : ℕ) (s : State) : Type 0 where
  line : m + 1 ≡ n + length (words_at 10 xs)
  all : decide s (words_at 10 xs) ≡ length xs

abbrev Last : List ℕ → Type 0
Last xs = (b : Bool) (n m : ℕ) (s : State) (why : Why) → IsUnfinished why → lines_say b n s (words_at 10 xs) ≡ Err (m, why) → IsLast xs n m s

one_line : (xs : List ℕ) → IsUnbroken xs → Last xs
unfolding lines_say
one_line xs unbroken b n m s why un h =
    let parts : words_at 10 xs ≡ xs ∷ [] = slice_split_none (λ b. eqb b 10) xs unbroken in
    let said : lines_say b n s (xs ∷ []) ≡ Err (m, why) = sym (ap (lines_say b n s) parts) ∙ h in
    record { line = omega (arith, last_line b n m why (line_of s xs) said, ap length parts); all = alone s xs unbroken }

-- a line, and what follows its 0A
line_then : (line more : List ℕ) (b : Bool) (n m : ℕ) (why : Why) (r : Result State Why) → IsUnfinished why → OfALine r → Last more
    → after_line n r (λ t. lines_say b (n + 1) t (words_at 10 more)) ≡ Err (m, why)
    → (m + 1 ≡ (n + 1) + length (words_at 10 more)) × (after_len r (λ t. decide t (words_at 10 more)) ≡ length more)
line_then line more b n m why (Err e) un of rest h = absurd (not_of_a_line why un (subst IsOfALine (ap why_in h) of.why))
line_then line more b n m why (Ok t) un of rest h = by_case (is_done t.section) refl where
  by_case : (d : Bool) → is_done t.section ≡ d
      → (m + 1 ≡ (n + 1) + length (words_at 10 more)) × (after_len (Ok t) (λ u. decide u (words_at 10 more)) ≡ length more)
  by_case true e = let said = rw e at h in not_said t.parts (m, why) said
  by_case false e =
      let said : lines_say b (n + 1) t (words_at 10 more) ≡ Err (m, why) = rw e at h in
      let k = rest b (n + 1) m t why un said in
      rw e (k.line, k.all)

more_lines : (xs : List ℕ) (k : Cut xs) → Last k.more → Last xs
more_lines xs k rest b n m s why un h =
    let parts : words_at 10 xs ≡ k.line ∷ words_at 10 k.more = ap (words_at 10) k.is ∙ slice_split_at (λ b. eqb b 10) k.line 10 k.more k.unbroken refl in
    let said = sym (ends b n s k.line k.more k.unbroken) ∙ ap (λ (ys : List ℕ). lines_say b n s (words_at 10 ys)) (sym k.is) ∙ h in
    let p = line_then k.line k.more b n m why (line_of s (strip_carriage_return k.line)) un (line_why s (strip_carriage_return k.line)) rest said in
    let d = ap (λ (ys : List ℕ). decide s (words_at 10 ys)) k.is ∙ decide_ends s k.line k.more k.unbroken in
    record { line = omega (arith, p.0, ap length parts); all = omega (arith, d, p.1, ap length k.is, length-append k.line (10 ∷ k.more)) }

last_by : (fuel : ℕ) (xs : List ℕ) → ((ys : List ℕ) → length ys ≤ fuel → Last ys) → length xs ≤ suc fuel → IsUnbroken xs ⊎ Cut xs → Last xs
last_by fuel xs ih le (inl h) = one_line xs h
last_by fuel xs ih le (inr k) = more_lines xs k (ih k.more (omega (arith, le, ap length k.is, length-append k.line (10 ∷ k.more))))

is_last : (fuel : ℕ) (xs : List ℕ) → length xs ≤ fuel → Last xs
is_last zero xs le = one_line xs (λ i d lt. absurd (omega (arith, lt, le)))
is_last (suc fuel) xs le = last_by fuel xs (is_last fuel) le (cut xs)

pub counted : (input : List ℕ) (n : ℕ) (why : Why) → IsUnfinished why → reading input ≡ Err (n, why) → n ≡ count_by (λ b. eqb b 10) (deciding input) + 1
unfolding reading deciding_len
counted input n why un h =
    let k = is_last (length (take MOST_TEXT_BYTES input)) (take MOST_TEXT_BYTES input) (omega arith) (leb MOST_TEXT_BYTES (length input)) 1 n start why un h in
    let whole : take (decide start (words_at 10 (take MOST_TEXT_BYTES input))) input ≡ take MOST_TEXT_BYTES input
    = sym (take-take (decide start (words_at 10 (take MOST_TEXT_BYTES input))) MOST_TEXT_BYTES input (omega (arith, k.all, length-take MOST_TEXT_BYTES input)))
    ∙ take_all (decide start (words_at 10 (take MOST_TEXT_BYTES input))) (take MOST_TEXT_BYTES input) (omega (arith, k.all)) in
    rw whole (omega (arith, k.line, length-slice_split (λ b. eqb b 10) (take MOST_TEXT_BYTES input)))
