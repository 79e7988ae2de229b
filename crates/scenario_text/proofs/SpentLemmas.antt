-- How many bytes decide, line by line.
use Rattle.std.proofs.Common.{◌≡◌, ℕ, ◌+◌, ◌-◌, ◌<◌, ◌≤◌, cond, eqb, true, false, List, [], ◌∷◌, ◌++◌, length, length-append, take, drop, Result, Ok, Err}
use Rattle.std.proofs.Common.{refl, sym, ap, ◌∙◌, arith, append_assoc}
use Rattle.std.proofs.lemmas.List.{length-drop, length-take-le, take_rest}
use Rattle.std.specs.Str.Lines.{strip_carriage_return}
use Rattle.std.proofs.lemmas.List.Splits.{slice_split_at, length-slice_split}
use Rattle.flow_key.specs.Words.{words_at}
use Rattle.scenario_lines.specs.declared.why.Why.{Why}
use Rattle.scenario_text.specs.declared.fault.ScenarioFault.{ScenarioFault}
use Rattle.scenario_text.specs.declared.fault.ScenarioFault.TheVariants as faults
use Rattle.scenario_text.specs.declared.reader.Reader.{Reader}
use Rattle.scenario_lines.specs.Draft.{State, view}
use Rattle.scenario_lines.specs.Line.{line_of}
use Rattle.scenario_lines.specs.Sections.{is_done}
use Rattle.scenario_text.specs.Text.{after_len, decide}
use Rattle.scenario_text.specs.Reading.{needs, IsUnbroken, EndsAt, Spent}
use Rattle.scenario_text.proofs.ReaderLemmas.{seam, unbroken_both, regroup}

second : (s : State) (line : List ℕ) (parts : List (List ℕ)) → 0 < length parts
    → decide s (line ∷ parts) ≡ (length line + 1) + after_len (line_of s (strip_carriage_return line)) (λ t. decide t parts)
unfolding decide
second s line [] h = absurd (omega arith)
second s line (p ∷ ps) h = refl

pub decide_ends : (s : State) (line more : List ℕ) → IsUnbroken line
    → decide s (words_at 10 (line ++ 10 ∷ more)) ≡ (length line + 1) + after_len (line_of s (strip_carriage_return line)) (λ t. decide t (words_at 10 more))
decide_ends s line more unbroken =
    ap (decide s) (slice_split_at (λ b. eqb b 10) line 10 more unbroken refl)
    ∙ second s line (words_at 10 more) (omega (arith, length-slice_split (λ b. eqb b 10) more))

pub decide_bad : (s : State) (line more stripped : List ℕ) (why : Why) → IsUnbroken line → stripped ≡ strip_carriage_return line → line_of s stripped ≡ Err why
    → decide s (words_at 10 (line ++ 10 ∷ more)) ≤ length line + 1
decide_bad s line more stripped why unbroken is h =
    let e : decide s (words_at 10 (line ++ 10 ∷ more)) ≡ (length line + 1) + 0 = decide_ends s line more unbroken
    ∙ ap (λ (r : Result State Why). (length line + 1) + after_len r (λ t. decide t (words_at 10 more))) (ap (line_of s) (sym is) ∙ h) in
    omega arith

pub decide_well : (s t : State) (line more stripped : List ℕ) → IsUnbroken line → stripped ≡ strip_carriage_return line → line_of s stripped ≡ Ok t
    → decide s (words_at 10 (line ++ 10 ∷ more)) ≡ (length line + 1) + cond (is_done t.section) 0 (decide t (words_at 10 more))
decide_well s t line more stripped unbroken is h =
    decide_ends s line more unbroken
    ∙ ap (λ (r : Result State Why). (length line + 1) + after_len r (λ t. decide t (words_at 10 more))) (ap (line_of s) (sym is) ∙ h)

-- ---- a line more

-- The end of the pending line.
pub spend_bad : (old : Reader) (front : List ℕ) (why : Why) → IsUnbroken old.pending.items → IsUnbroken front
    → line_of (view old.draft) (strip_carriage_return (old.pending.items ++ front)) ≡ Err why
    → (more : List ℕ) → needs old ((front ++ 10 ∷ []) ++ more) ≤ length old.pending.items + length (front ++ 10 ∷ [])
spend_bad old front why one two h more =
    let least = decide_bad (view old.draft) (old.pending.items ++ front) more (strip_carriage_return (old.pending.items ++ front)) why
    (unbroken_both old.pending.items front one two) refl h in
    rw (seam old.pending.items front more) (omega (arith, least, length-append old.pending.items front, length-append front (10 ∷ [])))

pub spend_well : (old : Reader) (front : List ℕ) (t : State) → IsUnbroken old.pending.items → IsUnbroken front
    → line_of (view old.draft) (strip_carriage_return (old.pending.items ++ front)) ≡ Ok t
    → (more : List ℕ) → needs old ((front ++ 10 ∷ []) ++ more) ≡ (length old.pending.items + length (front ++ 10 ∷ [])) + cond (is_done t.section) 0
    (decide t (words_at 10 more))
spend_well old front t one two h more =
    let all = decide_well (view old.draft) t (old.pending.items ++ front) more (strip_carriage_return (old.pending.items ++ front))
    (unbroken_both old.pending.items front one two) refl h in
    rw (seam old.pending.items front more) (omega (arith, all, length-append old.pending.items front, length-append front (10 ∷ [])))

abbrev pub SameNeeds : Reader → List ℕ → Reader → ℕ → Type 0
SameNeeds old piece mid i = (more : List ℕ)
    → needs old (piece ++ more) + length mid.pending.items ≡ (length old.pending.items + i) + needs mid (drop i piece ++ more)

line_needs : (old mid : Reader) (piece front : List ℕ) (i j : ℕ) → drop i piece ≡ front ++ 10 ∷ drop j piece → SameNeeds old piece mid i → (more : List ℕ)
    → needs old (piece ++ more) + length mid.pending.items ≡ (length old.pending.items + i) + needs mid ((front ++ 10 ∷ []) ++ (drop j piece ++ more))
line_needs old mid piece front i j is same more = same more ∙ ap (λ (xs : List ℕ). (length old.pending.items + i) + needs mid (xs ++ more)) is
    ∙ ap (λ (xs : List ℕ). (length old.pending.items + i) + needs mid xs) (regroup front (drop j piece) more)

-- The bytes of a line and its 0A.
pub line_len : (piece : List ℕ) (i n : ℕ) → EndsAt n (take (length piece - i) (drop i piece)) → length (take ((i + n) - i) (drop i piece) ++ 10 ∷ []) ≡ n + 1
line_len piece i n e =
    let within : n < length (drop i piece) = rw (take_rest piece i) at e.within in
    omega (arith, length-append (take ((i + n) - i) (drop i piece)) (10 ∷ []), length-take-le ((i + n) - i) (drop i piece) (omega (arith, within)))

pub same_needs_line : (old mid new : Reader) (piece front : List ℕ) (i j : ℕ) → drop i piece ≡ front ++ 10 ∷ drop j piece
    → i + length (front ++ 10 ∷ []) ≡ j → SameNeeds old piece mid i → Spent mid (front ++ 10 ∷ []) new (Ok false) → SameNeeds old piece new j
same_needs_line old mid new piece front i j is len same spent =
    λ more. omega (arith, line_needs old mid piece front i j is same more, spent (drop j piece ++ more), len)

pub spent_done : (old mid new : Reader) (piece front : List ℕ) (i j : ℕ) → drop i piece ≡ front ++ 10 ∷ drop j piece → i + length (front ++ 10 ∷ []) ≡ j
    → j ≤ length piece → SameNeeds old piece mid i → Spent mid (front ++ 10 ∷ []) new (Ok true) → Spent old piece new (Ok true)
spent_done old mid new piece front i j is len within same spent =
    λ more. omega (arith, line_needs old mid piece front i j is same more, spent (drop j piece ++ more), len, within)

pub spent_bad : (old mid new : Reader) (piece front : List ℕ) (i j : ℕ) (e : ScenarioFault) → drop i piece ≡ front ++ 10 ∷ drop j piece
    → i + length (front ++ 10 ∷ []) ≡ j → j ≤ length piece → SameNeeds old piece mid i → Spent mid (front ++ 10 ∷ []) new (Err e)
    → Spent old piece new (Err e)
spent_bad old mid new piece front i j (faults.Bad line why) is len within same spent =
    λ more. omega (arith, line_needs old mid piece front i j is same more, spent (drop j piece ++ more), len, within)
spent_bad old mid new piece front i j faults.ReadFault is len within same spent = spent
spent_bad old mid new piece front i j faults.Memory is len within same spent = tt

pub spent_rest : (old mid new : Reader) (piece : List ℕ) (i : ℕ) → i ≤ length piece → SameNeeds old piece mid i → new.draft ≡ mid.draft
    → new.pending.items ≡ mid.pending.items ++ drop i piece → Spent old piece new (Ok false)
spent_rest old mid new piece i within same draft pending = λ more.
    let now : needs new more ≡ needs mid (drop i piece ++ more) = rw (draft, pending, append_assoc mid.pending.items (drop i piece) more) refl in
    omega (arith, same more, now, ap length pending, length-append mid.pending.items (drop i piece), length-drop i piece)
