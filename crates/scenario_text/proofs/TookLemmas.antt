-- A reader over a source: what it took holds the deciding prefix.
use Rattle.std.proofs.Common.{◌≡◌, ◌≢◌, ℕ, ◌+◌, ◌-◌, ◌<◌, ◌≤◌, Bool, true, false, eqb, List, [], ◌∷◌, ◌++◌, length, take, drop, Option, Some, None, Result}
use Rattle.std.proofs.Common.{Ok, Err, refl, sym, ap, ◌∙◌, append_assoc, arith}
use Rattle.std.specs.Io.KnownBytes.{Keeps}
use Rattle.std.specs.Prelude.{IfSome, IfErr}
use Rattle.std.proofs.Math.Seq.{take-add, take-append-add}
use Rattle.std.proofs.lemmas.List.{length-append, length-take, drop-drop, append-nil, take-append-drop, take_all}
use Rattle.std.proofs.lemmas.List.Elements.{All-nil, All-cons}
use Rattle.std.proofs.lemmas.List.Splits.{slice_split_none}
use Rattle.scenario_text.specs.declared.fault.ScenarioFault.{ScenarioFault}
use Rattle.scenario_text.specs.declared.fault.ScenarioFault.TheVariants as faults
use Rattle.lg_model.specs.Scenario.{Scenario}
use Rattle.scenario_text.specs.declared.reader.Reader.{Reader}
use Rattle.scenario_lines.specs.Draft.{State, view, start}
use Rattle.scenario_text.specs.Sources.{Comes}
use Rattle.flow_key.specs.Words.{words_at}
use Rattle.lg_model.specs.declared.limits.TheConstants.{MOST_TEXT_BYTES}
use Rattle.scenario_text.specs.Text.{decide, deciding_len, IsTaken, Took}
use Rattle.scenario_text.specs.Reading.{needs, Spent, IsUnbroken, StillNeeds}
use Rattle.scenario_text.proofs.ReadLemmas.{come}
use Rattle.scenario_text.proofs.ReaderLemmas.{unbroken_both}
use Rattle.scenario_text.proofs.SpentLemmas.{decide_ends}

pub needs_first : (left : Option (List ℕ)) (r : Reader) → r.pending.items ≡ [] → view r.draft ≡ start → IfSome left (λ input. StillNeeds input 0 left r)
unfolding deciding_len
needs_first None r pending draft = tt
needs_first (Some input) r pending draft = record {
  left_is = refl;
  needs_so = λ rest. rw (pending, draft) (omega arith);
}

-- a pending line alone
alone : (s : State) (line : List ℕ) → IsUnbroken line → decide s (words_at 10 (line ++ [])) ≡ length line
unfolding decide
alone s line unbroken = ap (λ (l : List ℕ). decide s (words_at 10 l)) (append-nil line) ∙ ap (decide s) (slice_split_none (λ b. eqb b 10) line unbroken)

record After (input piece : List ℕ) (taken n : ℕ) (left' : Option (List ℕ)) (r : Reader) : Type 0 where
  left_is : left' ≡ Some (drop (taken + n) input)
  len : length piece ≡ n
  needs_so : (rest : List ℕ)
      → deciding_len (take (taken + n) input ++ rest) + length r.pending.items ≡ taken + needs r (piece ++ take (MOST_TEXT_BYTES - (taken + n)) rest)

past_piece : (most taken n : ℕ) (piece rest : List ℕ) → length piece ≡ n → taken + n ≤ most
    → take (most - taken) (piece ++ rest) ≡ piece ++ take (most - (taken + n)) rest
past_piece most taken n piece rest len le =
    let k : most - taken ≡ length piece + (most - (taken + n)) = omega (arith, len) in
    ap (λ (m : ℕ). take m (piece ++ rest)) k ∙ take-append-add piece rest (most - (taken + n))

after : (input : List ℕ) (taken n want : ℕ) (left left' : Option (List ℕ)) (r : Reader) (buf : List ℕ) → taken + n ≤ MOST_TEXT_BYTES
    → StillNeeds input taken left r → IfSome left (λ b. Comes n want b buf left') → After input (take n buf) taken n left' r
after input taken n want left left' r buf le s h =
    let k = come n want left left' (drop taken input) buf s.left_is h in
    let d : drop n (drop taken input) ≡ drop (taken + n) input = drop-drop n taken input in
    let len : length (take n buf) ≡ n = ap length k.front ∙ omega (arith, length-take n (drop taken input), k.enough) in
    record {
      left_is = k.rest ∙ ap (λ (l : List ℕ). Some l) d;
      len = len;
      needs_so = λ rest.
          ap (λ (l : List ℕ). deciding_len (l ++ rest) + length r.pending.items)
          (take-add taken n input ∙ ap (λ (l : List ℕ). take taken input ++ l) (sym k.front))
          ∙ ap (λ (l : List ℕ). deciding_len l + length r.pending.items) (append_assoc (take taken input) (take n buf) rest)
          ∙ s.needs_so (take n buf ++ rest)
          ∙ ap (λ (l : List ℕ). taken + needs r l) (past_piece MOST_TEXT_BYTES taken n (take n buf) rest len le);
    }

pub needs_more : (first left left' : Option (List ℕ)) (taken n want : ℕ) (r r' : Reader) (buf : List ℕ) → taken + n ≤ MOST_TEXT_BYTES
    → IfSome first (λ input. StillNeeds input taken left r)
    → IfSome left (λ b. Comes n want b buf left') → Spent r (take n buf) r' (Ok false) → IfSome first (λ input. StillNeeds input (taken + n) left' r')
needs_more None left left' taken n want r r' buf le s h spent = tt
needs_more (Some input) left left' taken n want r r' buf le s h spent =
    let k = after input taken n want left left' r buf le s h in
    record { left_is = k.left_is; needs_so = λ rest. let m = spent (take (MOST_TEXT_BYTES - (taken + n)) rest) in omega (arith, k.needs_so rest, k.len, m) }

took_now : (input : List ℕ) (left left' : Option (List ℕ)) (taken n want : ℕ) (r : Reader) (buf : List ℕ) → taken + n ≤ MOST_TEXT_BYTES
    → StillNeeds input taken left r
    → IfSome left (λ b. Comes n want b buf left') → ((more : List ℕ) → needs r (take n buf ++ more) ≤ length r.pending.items + length (take n buf))
    → IsTaken input left'
took_now input left left' taken n want r buf le s h spent =
    let k = after input taken n want left left' r buf le s h in
    let m = spent (take (MOST_TEXT_BYTES - (taken + n)) (drop (taken + n) input)) in
    let whole = ap deciding_len (take-append-drop (taken + n) input) in
    record { taken = taken + n; left_is = k.left_is; decided = omega (arith, whole, k.needs_so (drop (taken + n) input), k.len, m) }

pub took_done : (first left left' : Option (List ℕ)) (taken n want : ℕ) (r r' : Reader) (buf : List ℕ) (w : Scenario) → taken + n ≤ MOST_TEXT_BYTES
    → IfSome first (λ input. StillNeeds input taken left r)
    → IfSome left (λ b. Comes n want b buf left') → Spent r (take n buf) r' (Ok true) → IfSome first (λ input. Took (Ok w) input left')
took_done None left left' taken n want r r' buf w le s h spent = tt
took_done (Some input) left left' taken n want r r' buf w le s h spent = took_now input left left' taken n want r buf le s h spent

pub took_bad : (first left left' : Option (List ℕ)) (taken n want : ℕ) (r r' : Reader) (buf : List ℕ) (e : ScenarioFault) → taken + n ≤ MOST_TEXT_BYTES
    → IfSome first (λ input. StillNeeds input taken left r)
    → IfSome left (λ b. Comes n want b buf left') → Spent r (take n buf) r' (Err e) → IfSome first (λ input. Took (Err e) input left')
took_bad None left left' taken n want r r' buf e le s h spent = tt
took_bad (Some input) left left' taken n want r r' buf (faults.Bad line why) le s h spent = took_now input left left' taken n want r buf le s h spent
took_bad (Some input) left left' taken n want r r' buf faults.ReadFault le s h spent = absurd spent
took_bad (Some input) left left' taken n want r r' buf faults.Memory le s h spent = tt

any_took : (res : Result Scenario ScenarioFault) (input : List ℕ) (left : Option (List ℕ)) → IfErr res (λ e. e ≢ faults.ReadFault) → IsTaken input left
    → Took res input left
any_took (Ok d) input left other h = h
any_took (Err (faults.Bad line why)) input left other h = h
any_took (Err faults.ReadFault) input left other h = absurd (other refl)
any_took (Err faults.Memory) input left other h = tt

nothing : (k : ℕ) (bytes : List ℕ) → bytes ≡ [] → take k bytes ≡ []
nothing k bytes is = grind arith

-- where nothing more is looked at, all that was taken decides
all_decides : (input : List ℕ) (taken : ℕ) (left : Option (List ℕ)) (r : Reader) → IsUnbroken r.pending.items → StillNeeds input taken left r
    → take (MOST_TEXT_BYTES - taken) (drop taken input) ≡ [] → deciding_len input ≡ taken
all_decides input taken left r unbroken s none =
    let whole = ap deciding_len (take-append-drop taken input) in
    let e = s.needs_so (drop taken input) ∙ ap (λ (l : List ℕ). taken + needs r l) none in
    let a = alone (view r.draft) r.pending.items unbroken in
    omega (arith, whole, e, a)

pub took_end : (first left left' : Option (List ℕ)) (taken n want : ℕ) (r : Reader) (buf : List ℕ) (res : Result Scenario ScenarioFault)
    → IfErr res (λ e. e ≢ faults.ReadFault) → n ≡ 0 → 0 < want → IsUnbroken r.pending.items → IfSome first (λ input. StillNeeds input taken left r)
    → IfSome left (λ b. Comes n want b buf left') → IfSome first (λ input. Took res input left')
took_end None left left' taken n want r buf res other zero some unbroken s h = tt
took_end (Some input) left left' taken n want r buf res other zero some unbroken s h =
    let k = come n want left left' (drop taken input) buf s.left_is h in
    let none : drop taken input ≡ [] = k.at_end zero some in
    let len = all_decides input taken left r unbroken s (nothing (MOST_TEXT_BYTES - taken) (drop taken input) none) in
    any_took res input left' other
    (record { taken = taken + n; left_is = k.rest ∙ ap (λ (l : List ℕ). Some l) (drop-drop n taken input); decided = omega (arith, len) })

pub took_stop : (first left : Option (List ℕ)) (taken : ℕ) (r : Reader) (res : Result Scenario ScenarioFault) → IfErr res (λ e. e ≢ faults.ReadFault)
    → MOST_TEXT_BYTES ≤ taken → IsUnbroken r.pending.items → IfSome first (λ input. StillNeeds input taken left r)
    → IfSome first (λ input. Took res input left)
took_stop None left taken r res other full unbroken s = tt
took_stop (Some input) left taken r res other full unbroken s =
    let zero : MOST_TEXT_BYTES - taken ≡ 0 = omega arith in
    let len = all_decides input taken left r unbroken s (ap (λ (k : ℕ). take k (drop taken input)) zero) in
    any_took res input left other (record { taken = taken; left_is = s.left_is; decided = omega (arith, len) })

-- ---- a failed source

-- a pending line needs one byte more, whatever it is
pub one_more : (s : State) (line : List ℕ) (next : ℕ) → IsUnbroken line → (b : Bool) → eqb next 10 ≡ b
    → length line < decide s (words_at 10 (line ++ next ∷ []))
one_more s line next unbroken true e =
    let is : next ≡ 10 = grind arith in
    let d = ap (λ (k : ℕ). decide s (words_at 10 (line ++ k ∷ []))) is ∙ decide_ends s line [] unbroken in
    omega (arith, d)
one_more s line next unbroken false e =
    let both = unbroken_both line (next ∷ []) unbroken (All-cons (λ b. eqb b 10 ≡ false) next [] e (All-nil (λ b. eqb b 10 ≡ false))) in
    let d = ap (λ (l : List ℕ). decide s (words_at 10 l)) (sym (append-nil (line ++ next ∷ []))) ∙ alone s (line ++ next ∷ []) both in
    omega (arith, d, length-append line (next ∷ []))

still : (left left' : Option (List ℕ)) (bytes : List ℕ) → left ≡ Some bytes → Keeps left left' → left' ≡ Some bytes
still None left' bytes is kept = absurd cc
still (Some xs) None bytes is kept = absurd kept
still (Some xs) (Some ys) bytes is kept = ap (λ (l : List ℕ). Some l) kept ∙ is

pub took_fault : (first left left' : Option (List ℕ)) (taken : ℕ) (r : Reader) (e : ScenarioFault) → e ≡ faults.ReadFault → taken < MOST_TEXT_BYTES
    → IsUnbroken r.pending.items
    → IfSome first (λ input. StillNeeds input taken left r) → Keeps left left' → IfSome first (λ input. Took (Err e) input left')
took_fault None left left' taken r e is some unbroken s kept = tt
took_fault (Some input) left left' taken r e is some unbroken s kept = rw is record {
  taken = taken;
  left_is = still left left' (drop taken input) s.left_is kept;
  undecided = λ next.
      let all : take (MOST_TEXT_BYTES - taken) (next ∷ []) ≡ next ∷ [] = take_all (MOST_TEXT_BYTES - taken) (next ∷ []) (omega arith) in
      let e = s.needs_so (next ∷ []) ∙ ap (λ (l : List ℕ). taken + needs r l) all in
      omega (arith, e, one_more (view r.draft) r.pending.items next unbroken (eqb next 10) refl);
}
