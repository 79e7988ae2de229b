-- The deciding prefix ends with 0A where bytes follow it, and no shorter prefix decides.
use Rattle.std.proofs.Common.{◌≡◌, ℕ, suc, zero, ◌+◌, ◌-◌, ◌<◌, ◌≤◌, Bool, true, false, eqb, List, [], ◌∷◌, ◌++◌, length, length-append, length-take, take}
use Rattle.std.proofs.Common.{Result, Ok, Err, refl, sym, ap, ◌∙◌, append_assoc, ◌⊎◌, inl, inr, arith}
use Rattle.std.specs.Str.Lines.{strip_carriage_return}
use Rattle.std.proofs.lemmas.Bool.{cases_lt}
use Rattle.std.proofs.lemmas.List.{take-take, take_all, take-append-le}
use Rattle.std.proofs.lemmas.List.Elements.{All-take}
use Rattle.flow_key.specs.Words.{words_at}
use Rattle.lg_model.specs.declared.limits.TheConstants.{MOST_TEXT_BYTES}
use Rattle.scenario_lines.specs.declared.why.Why.{Why}
use Rattle.scenario_lines.specs.Sections.{is_done}
use Rattle.scenario_lines.specs.Draft.{State, start}
use Rattle.scenario_lines.specs.Line.{line_of}
use Rattle.scenario_text.specs.Text.{after_len, decide, deciding_len, IsShortest}
use Rattle.scenario_text.specs.Reading.{IsUnbroken}
use Rattle.scenario_text.proofs.DecidingLemmas.{Cut, cut, alone, take_past}
use Rattle.scenario_text.proofs.SpentLemmas.{decide_ends}
use Rattle.scenario_text.proofs.TookLemmas.{one_more}

-- ---- the last byte

abbrev Ended : List ℕ → Type 0
Ended xs = (s : State) → decide s (words_at 10 xs) < length xs → (front : List ℕ) × (take (decide s (words_at 10 xs)) xs ≡ front ++ 10 ∷ [])

-- the bytes that decide after a line, given with what it leaves
ended_after : (line more : List ℕ) (r : Result State Why) → Ended more
    → (length line + 1) + after_len r (λ t. decide t (words_at 10 more)) < length (line ++ 10 ∷ more)
    → (front : List ℕ) × (line ++ 10 ∷ take (after_len r (λ t. decide t (words_at 10 more))) more ≡ front ++ 10 ∷ [])
ended_after line more (Err why) rest lt = (line, refl)
ended_after line more (Ok t) rest lt = by_case (is_done t.section) refl where
  by_case : (d : Bool) → is_done t.section ≡ d
      → (front : List ℕ) × (line ++ 10 ∷ take (after_len (Ok t) (λ u. decide u (words_at 10 more))) more ≡ front ++ 10 ∷ [])
  by_case true e = rw e (line, refl)
  by_case false e =
      let small : (length line + 1) + decide t (words_at 10 more) < length (line ++ 10 ∷ more) = rw e at lt in
      let k = rest t (omega (arith, small, length-append line (10 ∷ more))) in
      rw e (line ++ 10 ∷ k.0, ap (λ (ys : List ℕ). line ++ 10 ∷ ys) k.1 ∙ sym (append_assoc line (10 ∷ k.0) (10 ∷ [])))

cut_ended : (xs : List ℕ) (k : Cut xs) → Ended k.more → Ended xs
cut_ended xs k rest s lt =
    let d : decide s (words_at 10 xs) ≡ (length k.line + 1) + after_len (line_of s (strip_carriage_return k.line)) (λ t. decide t (words_at 10 k.more)) =
    ap (λ (ys : List ℕ). decide s (words_at 10 ys)) k.is ∙ decide_ends s k.line k.more k.unbroken in
    let small : (length k.line + 1) + after_len (line_of s (strip_carriage_return k.line)) (λ t. decide t (words_at 10 k.more)) < length
    (k.line ++ 10 ∷ k.more) = omega (arith, lt, d, ap length k.is) in
    let e = ended_after k.line k.more (line_of s (strip_carriage_return k.line)) rest small in (
      e.0,
      ap (λ (m : ℕ). take m xs) d
          ∙ ap (λ (ys : List ℕ). take
          ((length k.line + 1) + after_len (line_of s (strip_carriage_return k.line)) (λ t. decide t (words_at 10 k.more))) ys) k.is
          ∙ take_past k.line k.more _ ∙ e.1,
    )

ended_by : (fuel : ℕ) (xs : List ℕ) → ((ys : List ℕ) → length ys ≤ fuel → Ended ys) → length xs ≤ suc fuel → IsUnbroken xs ⊎ Cut xs → Ended xs
ended_by fuel xs ih le (inl h) = λ s lt. absurd (omega (arith, lt, alone s xs h))
ended_by fuel xs ih le (inr k) = cut_ended xs k (ih k.more (omega (arith, le, ap length k.is, length-append k.line (10 ∷ k.more))))

ends_in_line : (fuel : ℕ) (xs : List ℕ) → length xs ≤ fuel → Ended xs
ends_in_line zero xs le = λ s lt. absurd (omega (arith, lt, le))
ends_in_line (suc fuel) xs le = ended_by fuel xs (ends_in_line fuel) le (cut xs)

-- ---- shorter prefixes

abbrev Open : List ℕ → Type 0
Open xs = (s : State) (n next : ℕ) → n < decide s (words_at 10 xs) → n < decide s (words_at 10 (take n xs ++ next ∷ []))

unbroken_take : (n : ℕ) (line : List ℕ) → IsUnbroken line → IsUnbroken (take n line)
unbroken_take n line h = All-take (λ b. eqb b 10 ≡ false) n line h

-- within a line, every byte counts
within : (s : State) (line : List ℕ) (n next : ℕ) → IsUnbroken line → n ≤ length line → n < decide s (words_at 10 (take n line ++ next ∷ []))
within s line n next unbroken le =
    let k = one_more s (take n line) next (unbroken_take n line unbroken) (eqb next 10) refl in
    omega (arith, k, length-take n line)

open_after : (line more : List ℕ) (r : Result State Why) (e next : ℕ) → Open more → e < after_len r (λ t. decide t (words_at 10 more))
    → e < after_len r (λ t. decide t (words_at 10 (take e more ++ next ∷ [])))
open_after line more (Err why) e next rest lt = absurd (omega (arith, lt))
open_after line more (Ok t) e next rest lt = by_case (is_done t.section) refl where
  by_case : (d : Bool) → is_done t.section ≡ d → e < after_len (Ok t) (λ u. decide u (words_at 10 (take e more ++ next ∷ [])))
  by_case true is = let none : e < 0 = rw is at lt in absurd (omega (arith, none))
  by_case false is = let some : e < decide t (words_at 10 more) = rw is at lt in rw is (rest t e next some)

cut_open : (xs : List ℕ) (k : Cut xs) → Open k.more → Open xs
cut_open xs k rest s n next lt = by_place (cases_lt n (length k.line + 1)) where
  by_place : (n < length k.line + 1) ⊎ (length k.line + 1 ≤ n) → n < decide s (words_at 10 (take n xs ++ next ∷ []))
  by_place (inl small) =
      let front : take n xs ≡ take n k.line = ap (take n) k.is ∙ take-append-le n k.line (10 ∷ k.more) (omega arith) in
      rw front (within s k.line n next k.unbroken (omega arith))
  by_place (inr past) =
      let n_is : n ≡ (length k.line + 1) + (n - (length k.line + 1)) = omega arith in
      let d : decide s (words_at 10 xs) ≡ (length k.line + 1) + after_len (line_of s (strip_carriage_return k.line)) (λ t. decide t (words_at 10 k.more)) =
      ap (λ (ys : List ℕ). decide s (words_at 10 ys)) k.is ∙ decide_ends s k.line k.more k.unbroken in
      let front : take n xs ≡ k.line ++ 10 ∷ take (n - (length k.line + 1)) k.more = ap (λ (m : ℕ). take m xs) n_is
      ∙ ap (take ((length k.line + 1) + (n - (length k.line + 1)))) k.is ∙ take_past k.line k.more (n - (length k.line + 1)) in
      let all : take n xs ++ next ∷ [] ≡ k.line ++ 10 ∷ (take (n - (length k.line + 1)) k.more ++ next ∷ []) = ap (λ (ys : List ℕ). ys ++ next ∷ []) front
      ∙ append_assoc k.line (10 ∷ take (n - (length k.line + 1)) k.more) (next ∷ []) in
      let f = ap (λ (ys : List ℕ). decide s (words_at 10 ys)) all ∙ decide_ends s k.line (take (n - (length k.line + 1)) k.more ++ next ∷ []) k.unbroken in
      let g = open_after k.line k.more (line_of s (strip_carriage_return k.line)) (n - (length k.line + 1)) next rest (omega (arith, lt, d)) in
      omega (arith, f, g)

open_by : (fuel : ℕ) (xs : List ℕ) → ((ys : List ℕ) → length ys ≤ fuel → Open ys) → length xs ≤ suc fuel → IsUnbroken xs ⊎ Cut xs → Open xs
open_by fuel xs ih le (inl h) = λ s n next lt. within s xs n next h (omega (arith, lt, alone s xs h))
open_by fuel xs ih le (inr k) = cut_open xs k (ih k.more (omega (arith, le, ap length k.is, length-append k.line (10 ∷ k.more))))

open_before : (fuel : ℕ) (xs : List ℕ) → length xs ≤ fuel → Open xs
open_before zero xs le = λ s n next lt. within s xs n next (none xs le) (omega (arith, lt, alone s xs (none xs le), le)) where
  none : (ys : List ℕ) → length ys ≤ 0 → IsUnbroken ys
  none ys le = λ i d lt. absurd (omega (arith, lt, le))
open_before (suc fuel) xs le = open_by fuel xs (open_before fuel) le (cut xs)

-- ---- no more than all bytes decide

abbrev Most : List ℕ → Type 0
Most xs = (s : State) → decide s (words_at 10 xs) ≤ length xs

most_after : (more : List ℕ) (r : Result State Why) → Most more → after_len r (λ t. decide t (words_at 10 more)) ≤ length more
most_after more (Err why) rest = omega arith
most_after more (Ok t) rest = by_case (is_done t.section) refl where
  by_case : (d : Bool) → is_done t.section ≡ d → after_len (Ok t) (λ u. decide u (words_at 10 more)) ≤ length more
  by_case true e = rw e (omega arith)
  by_case false e = rw e (rest t)

most_by : (fuel : ℕ) (xs : List ℕ) → ((ys : List ℕ) → length ys ≤ fuel → Most ys) → length xs ≤ suc fuel → IsUnbroken xs ⊎ Cut xs → Most xs
most_by fuel xs ih le (inl h) s = omega (arith, alone s xs h)
most_by fuel xs ih le (inr k) s =
    let d = ap (λ (ys : List ℕ). decide s (words_at 10 ys)) k.is ∙ decide_ends s k.line k.more k.unbroken in
    let len = ap length k.is ∙ length-append k.line (10 ∷ k.more) in
    omega (arith, d, len, most_after k.more (line_of s (strip_carriage_return k.line)) (ih k.more (omega (arith, le, len))))

most_decide : (fuel : ℕ) (xs : List ℕ) → length xs ≤ fuel → Most xs
most_decide zero xs le s = omega (arith, alone s xs (λ i d lt. absurd (omega (arith, lt, le))))
most_decide (suc fuel) xs le s = most_by fuel xs (most_decide fuel) le (cut xs) s

-- ---- the whole input

pub shortest : (input : List ℕ) → IsShortest input
unfolding deciding_len
shortest input = record {
  ended = λ lt.
      let k = ends_in_line (length (take MOST_TEXT_BYTES input)) (take MOST_TEXT_BYTES input) (omega arith) start lt in (
        k.0,
        sym (take-take (decide start (words_at 10 (take MOST_TEXT_BYTES input))) MOST_TEXT_BYTES input
            (omega (arith, lt, length-take MOST_TEXT_BYTES input))) ∙ k.1,
      );
  none_before = λ n lt next.
      let most = most_decide (length (take MOST_TEXT_BYTES input)) (take MOST_TEXT_BYTES input) (omega arith) start in
      let small : n < MOST_TEXT_BYTES = omega (arith, lt, most, length-take MOST_TEXT_BYTES input) in
      let k = open_before (length (take MOST_TEXT_BYTES input)) (take MOST_TEXT_BYTES input) (omega arith) start n next lt in
      let front : take n (take MOST_TEXT_BYTES input) ≡ take n input = take-take n MOST_TEXT_BYTES input (omega arith) in
      let whole : take MOST_TEXT_BYTES (take n input ++ next ∷ []) ≡ take n input ++ next ∷ [] =
      take_all MOST_TEXT_BYTES (take n input ++ next ∷ []) (omega (arith, small, length-append (take n input) (next ∷ []), length-take n input)) in
      let same = ap (λ (ys : List ℕ). decide start (words_at 10 ys)) (whole ∙ ap (λ (ys : List ℕ). ys ++ next ∷ []) (sym front)) in
      omega (arith, k, same);
}
