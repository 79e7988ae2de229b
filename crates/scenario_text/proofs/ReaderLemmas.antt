-- A line that ends, and bytes of a line that doesn't yet.
use Rattle.std.proofs.Common.{◌≡◌, ℕ, suc, ◌+◌, ◌-◌, ◌<◌, Bool, true, false, cond, eqb, List, [], ◌∷◌, ◌++◌, length, get_or, take, drop, Result, Ok, Err}
use Rattle.std.proofs.Common.{refl, sym, ap, ◌∙◌, arith, append_assoc}
use Rattle.std.proofs.Math.Seq.{split_at}
use Rattle.std.specs.List.{slice_split}
use Rattle.std.specs.Str.Lines.{strip_carriage_return}
use Rattle.std.proofs.lemmas.List.{append-nil, drop-drop, take_rest}
use Rattle.std.proofs.lemmas.List.Elements.{All-append}
use Rattle.std.proofs.lemmas.List.Splits.{slice_split_at, slice_split_none, length-slice_split}
use Rattle.flow_key.specs.Words.{words_at}
use Rattle.scenario_lines.specs.declared.why.Why.{Why}
use Rattle.scenario_lines.specs.declared.why.Why.TheVariants.{TooLong}
use Rattle.scenario_text.specs.declared.fault.ScenarioFault.{ScenarioFault}
use Rattle.scenario_text.specs.declared.fault.ScenarioFault.TheVariants as faults
use Rattle.scenario_text.specs.declared.reader.Reader.{Reader}
use Rattle.scenario_lines.specs.Draft.{State, view}
use Rattle.scenario_lines.specs.Line.{line_of}
use Rattle.scenario_lines.specs.Sections.{is_done}
use Rattle.scenario_text.specs.Text.{at_end, after_line, lines_say}
use Rattle.scenario_text.specs.Reading.{IsUnbroken, EndsAt, Fed, from_here}

-- the parts are never none
second : (long : Bool) (n : ℕ) (s : State) (line : List ℕ) (parts : List (List ℕ)) → 0 < length parts
    → lines_say long n s (line ∷ parts) ≡ after_line n (line_of s (strip_carriage_return line)) (λ t. lines_say long (n + 1) t parts)
unfolding lines_say
second long n s line [] h = absurd (omega arith)
second long n s line (p ∷ ps) h = refl

some_parts : (p : ℕ → Bool) (xs : List ℕ) → 0 < length (slice_split p xs)
some_parts p xs = omega (arith, length-slice_split p xs)

-- a line that has its 0A
pub ends : (long : Bool) (n : ℕ) (s : State) (line more : List ℕ) → IsUnbroken line
    → lines_say long n s (words_at 10 (line ++ 10 ∷ more)) ≡ after_line n (line_of s (strip_carriage_return line))
    (λ t. lines_say long (n + 1) t (words_at 10 more))
ends long n s line more unbroken =
    ap (lines_say long n s) (slice_split_at (λ b. eqb b 10) line 10 more unbroken refl)
    ∙ second long n s line (words_at 10 more) (some_parts (λ b. eqb b 10) more)

pub ends_bad : (long : Bool) (n : ℕ) (s : State) (line more stripped : List ℕ) (why : Why) → IsUnbroken line → stripped ≡ strip_carriage_return line
    → line_of s stripped ≡ Err why
    → lines_say long n s (words_at 10 (line ++ 10 ∷ more)) ≡ Err (n, why)
ends_bad long n s line more stripped why unbroken is h =
    ends long n s line more unbroken
    ∙ ap (λ (r : Result State Why). after_line n r (λ t. lines_say long (n + 1) t (words_at 10 more))) (ap (line_of s) (sym is) ∙ h)

pub ends_well : (long : Bool) (n : ℕ) (s t : State) (line more stripped : List ℕ) → IsUnbroken line → stripped ≡ strip_carriage_return line
    → line_of s stripped ≡ Ok t
    → lines_say long n s (words_at 10 (line ++ 10 ∷ more)) ≡ cond (is_done t.section) (Ok t.parts) (lines_say long (n + 1) t (words_at 10 more))
ends_well long n s t line more stripped unbroken is h =
    ends long n s line more unbroken
    ∙ ap (λ (r : Result State Why). after_line n r (λ t. lines_say long (n + 1) t (words_at 10 more))) (ap (line_of s) (sym is) ∙ h)

-- a line that has none
pub stops : (long : Bool) (n : ℕ) (s : State) (line : List ℕ) → IsUnbroken line
    → lines_say long n s (words_at 10 (line ++ [])) ≡ cond long (Err (n, TooLong)) (at_end n (line_of s line))
unfolding lines_say
stops long n s line unbroken =
    ap (λ (l : List ℕ). lines_say long n s (words_at 10 l)) (append-nil line) ∙ ap (lines_say long n s) (slice_split_none (λ b. eqb b 10) line unbroken)

-- ---- a line more

-- The pending bytes, the last ones of their line, its 0A, and what follows.
pub seam : (pending front more : List ℕ) → pending ++ ((front ++ 10 ∷ []) ++ more) ≡ (pending ++ front) ++ 10 ∷ more
seam pending front more = rw (append_assoc front (10 ∷ []) more, append_assoc pending front (10 ∷ more)) refl

pub unbroken_both : (pending front : List ℕ) → IsUnbroken pending → IsUnbroken front → IsUnbroken (pending ++ front)
unbroken_both pending front one two = All-append (λ b. eqb b 10 ≡ false) pending front one two

-- What is left of a piece from some place on: the bytes before its first 0A, the 0A, and the rest.
pub line_is : (piece : List ℕ) (i n : ℕ) → EndsAt n (take (length piece - i) (drop i piece))
    → drop i piece ≡ take ((i + n) - i) (drop i piece) ++ 10 ∷ drop (i + (n + 1)) piece
line_is piece i n e =
    let rest = drop i piece in
    let within : n < length rest = rw (take_rest piece i) at e.within in
    let here : get_or rest n 0 ≡ 10 = rw (take_rest piece i) at e.here in
    let count : n ≡ (i + n) - i = omega arith in
    let next : i + suc n ≡ i + (n + 1) = omega arith in
    split_at rest n 0 within ∙ ap (λ (x : ℕ). take n rest ++ x ∷ drop (suc n) rest) here
    ∙ ap (λ (xs : List ℕ). take n rest ++ 10 ∷ xs) (drop-drop (suc n) i piece ∙ ap (λ (k : ℕ). drop k piece) next)
    ∙ ap (λ (k : ℕ). take k rest ++ 10 ∷ drop (i + (n + 1)) piece) count

-- The end of the pending line.
pub end_bad : (old : Reader) (front : List ℕ) (n : ℕ) (why : Why) → IsUnbroken old.pending.items → IsUnbroken front → n ≡ old.line
    → line_of (view old.draft) (strip_carriage_return (old.pending.items ++ front)) ≡ Err why
    → (long : Bool) (more : List ℕ) → from_here long old ((front ++ 10 ∷ []) ++ more) ≡ Err (n, why)
end_bad old front n why one two at h long more =
    rw (seam old.pending.items front more, at)
    (ends_bad long old.line (view old.draft) (old.pending.items ++ front) more (strip_carriage_return (old.pending.items ++ front)) why
    (unbroken_both old.pending.items front one two) refl h)

pub end_well : (old : Reader) (front : List ℕ) (t : State) → IsUnbroken old.pending.items → IsUnbroken front
    → line_of (view old.draft) (strip_carriage_return (old.pending.items ++ front)) ≡ Ok t
    → (long : Bool) (more : List ℕ)
    → from_here long old ((front ++ 10 ∷ []) ++ more) ≡ cond (is_done t.section) (Ok t.parts) (lines_say long (old.line + 1) t (words_at 10 more))
end_well old front t one two h long more =
    rw (seam old.pending.items front more)
    (ends_well long old.line (view old.draft) t (old.pending.items ++ front) more (strip_carriage_return (old.pending.items ++ front))
    (unbroken_both old.pending.items front one two) refl h)

abbrev pub Same : Reader → List ℕ → Reader → ℕ → Type 0
Same old piece mid i = (long : Bool) (more : List ℕ) → from_here long old (piece ++ more) ≡ from_here long mid (drop i piece ++ more)

pub regroup : (front rest more : List ℕ) → (front ++ 10 ∷ rest) ++ more ≡ (front ++ 10 ∷ []) ++ (rest ++ more)
regroup front rest more = rw (append_assoc front (10 ∷ rest) more, append_assoc front (10 ∷ []) (rest ++ more)) refl

-- Up to the line's end nothing else is said.
line_here : (old mid : Reader) (piece front : List ℕ) (i j : ℕ) → drop i piece ≡ front ++ 10 ∷ drop j piece → Same old piece mid i
    → (long : Bool) (more : List ℕ) → from_here long old (piece ++ more) ≡ from_here long mid ((front ++ 10 ∷ []) ++ (drop j piece ++ more))
line_here old mid piece front i j is same long more = same long more ∙ ap (λ (xs : List ℕ). from_here long mid (xs ++ more)) is
    ∙ ap (from_here long mid) (regroup front (drop j piece) more)

pub same_line : (old mid new : Reader) (piece front : List ℕ) (i j : ℕ) → drop i piece ≡ front ++ 10 ∷ drop j piece → Same old piece mid i
    → Fed mid (front ++ 10 ∷ []) new (Ok false) → Same old piece new j
same_line old mid new piece front i j is same fed = λ long more. line_here old mid piece front i j is same long more ∙ fed long (drop j piece ++ more)

pub done_line : (old mid new : Reader) (piece front : List ℕ) (i j : ℕ) → drop i piece ≡ front ++ 10 ∷ drop j piece → Same old piece mid i
    → Fed mid (front ++ 10 ∷ []) new (Ok true) → Fed old piece new (Ok true)
done_line old mid new piece front i j is same fed = λ long more. line_here old mid piece front i j is same long more ∙ fed long (drop j piece ++ more)

pub bad_line : (old mid new : Reader) (piece front : List ℕ) (i j : ℕ) (e : ScenarioFault) → drop i piece ≡ front ++ 10 ∷ drop j piece
    → Same old piece mid i → Fed mid (front ++ 10 ∷ []) new (Err e) → Fed old piece new (Err e)
bad_line old mid new piece front i j (faults.Bad line why) is same fed = λ long more. line_here old mid piece front i j is same long more
    ∙ fed long (drop j piece ++ more)
bad_line old mid new piece front i j faults.ReadFault is same fed = fed
bad_line old mid new piece front i j faults.Memory is same fed = tt

-- The rest of the piece is kept.
pub kept_rest : (old mid new : Reader) (piece : List ℕ) (i : ℕ) → Same old piece mid i → new.draft ≡ mid.draft → new.line ≡ mid.line
    → new.pending.items ≡ mid.pending.items ++ drop i piece → Fed old piece new (Ok false)
kept_rest old mid new piece i same draft line pending = λ long more. same long more
    ∙ rw (draft, line, pending, append_assoc mid.pending.items (drop i piece) more) refl
