-- A reader over a source: what is still said after each piece.
use Rattle.std.proofs.Common.{◌≡◌, ℕ, ◌+◌, ◌-◌, ◌<◌, ◌≤◌, Bool, true, false, leb, List, [], ◌++◌, length, take, drop, Option, Some, None, Result, Ok, Err}
use Rattle.std.proofs.Common.{refl, sym, ap, subst, ◌∙◌, arith}
use Rattle.std.specs.Prelude.{IfSome}
use Rattle.std.proofs.Math.Seq.{take-add}
use Rattle.std.proofs.lemmas.List.{length-drop}
use Rattle.std.proofs.lemmas.Bool.{le-leb}
use Rattle.lg_model.specs.declared.limits.TheConstants.{MOST_TEXT_BYTES}
use Rattle.scenario_text.specs.declared.fault.ScenarioFault.{ScenarioFault}
use Rattle.scenario_text.specs.declared.fault.ScenarioFault.TheVariants as faults
use Rattle.lg_model.specs.Scenario.{Scenario}
use Rattle.scenario_text.specs.declared.reader.Reader.{Reader}
use Rattle.scenario_lines.specs.Draft.{view, start}
use Rattle.scenario_text.specs.Sources.{Comes}
use Rattle.scenario_text.specs.Text.{reading, Answers}
use Rattle.scenario_text.specs.Reading.{from_here, Fed, StillSays}

pub says_first : (left : Option (List ℕ)) (r : Reader) → r.pending.items ≡ [] → r.line ≡ 1 → view r.draft ≡ start
    → IfSome left (λ input. StillSays input 0 left r)
unfolding reading
says_first None r pending line draft = tt
says_first (Some input) r pending line draft = record {
  bytes = input;
  left_is = refl;
  all = omega arith;
  says = rw (pending, line, draft) refl;
}

pub come : (n want : ℕ) (left left' : Option (List ℕ)) (bytes buf : List ℕ) → left ≡ Some bytes → IfSome left (λ b. Comes n want b buf left')
    → Comes n want bytes buf left'
come n want left left' bytes buf is h = let P : Option (List ℕ) → Type 0 = λ o. IfSome o (λ b. Comes n want b buf left') in subst P is h

-- what is left to be said, as the piece and what follows it
pub split_piece : (most taken n : ℕ) (bytes piece : List ℕ) → piece ≡ take n bytes → taken + n ≤ most
    → take (most - taken) bytes ≡ piece ++ take (most - (taken + n)) (drop n bytes)
split_piece most taken n bytes piece is le =
    let k : most - taken ≡ n + (most - (taken + n)) = omega arith in
    ap (λ (m : ℕ). take m bytes) k ∙ take-add n (most - (taken + n)) bytes ∙ ap (λ (p : List ℕ). p ++ take (most - (taken + n)) (drop n bytes)) (sym is)

-- what the input says, from the reader's place on
pub record Here (input piece : List ℕ) (taken n : ℕ) (left : Option (List ℕ)) (r : Reader) : Type 0 where
  pub bytes : List ℕ
  pub left_is : left ≡ Some (drop n bytes)
  pub all : (taken + n) + length (drop n bytes) ≡ length input
  pub says : from_here (leb MOST_TEXT_BYTES (length input)) r (piece ++ take (MOST_TEXT_BYTES - (taken + n)) (drop n bytes)) ≡ reading input

here : (input : List ℕ) (taken n want : ℕ) (left left' : Option (List ℕ)) (r : Reader) (buf : List ℕ) → taken + n ≤ MOST_TEXT_BYTES
    → StillSays input taken left r → IfSome left (λ b. Comes n want b buf left') → Here input (take n buf) taken n left' r
here input taken n want left left' r buf le s h =
    let k = come n want left left' s.bytes buf s.left_is h in
    record {
      bytes = s.bytes;
      left_is = k.rest;
      all = omega (arith, s.all, k.enough, length-drop n s.bytes);
      says = ap (from_here (leb MOST_TEXT_BYTES (length input)) r) (sym (split_piece MOST_TEXT_BYTES taken n s.bytes (take n buf) k.front le)) ∙ s.says;
    }

pub says_more : (first left left' : Option (List ℕ)) (taken n want : ℕ) (r r' : Reader) (buf : List ℕ) → taken + n ≤ MOST_TEXT_BYTES
    → IfSome first (λ input. StillSays input taken left r)
    → IfSome left (λ b. Comes n want b buf left') → Fed r (take n buf) r' (Ok false) → IfSome first (λ input. StillSays input (taken + n) left' r')
says_more None left left' taken n want r r' buf le s h fed = tt
says_more (Some input) left left' taken n want r r' buf le s h fed =
    let k = here input taken n want left left' r buf le s h in
    record {
      bytes = drop n k.bytes;
      left_is = k.left_is;
      all = k.all;
      says = sym (fed (leb MOST_TEXT_BYTES (length input)) (take (MOST_TEXT_BYTES - (taken + n)) (drop n k.bytes))) ∙ k.says;
    }

pub says_done : (first left left' : Option (List ℕ)) (taken n want : ℕ) (r r' : Reader) (buf : List ℕ) (w : Scenario) → taken + n ≤ MOST_TEXT_BYTES
    → IfSome first (λ input. StillSays input taken left r)
    → IfSome left (λ b. Comes n want b buf left') → Fed r (take n buf) r' (Ok true) → w ≡ (view r'.draft).parts
    → IfSome first (λ input. Answers (Ok w) (reading input))
says_done None left left' taken n want r r' buf w le s h fed is = tt
says_done (Some input) left left' taken n want r r' buf w le s h fed is =
    let k = here input taken n want left left' r buf le s h in
    sym k.says ∙ fed (leb MOST_TEXT_BYTES (length input)) (take (MOST_TEXT_BYTES - (taken + n)) (drop n k.bytes)) ∙ ap (λ (v : Scenario). Ok v) (sym is)

pub says_bad : (first left left' : Option (List ℕ)) (taken n want : ℕ) (r r' : Reader) (buf : List ℕ) (e : ScenarioFault) → taken + n ≤ MOST_TEXT_BYTES
    → IfSome first (λ input. StillSays input taken left r)
    → IfSome left (λ b. Comes n want b buf left') → Fed r (take n buf) r' (Err e) → IfSome first (λ input. Answers (Err e) (reading input))
says_bad None left left' taken n want r r' buf e le s h fed = tt
says_bad (Some input) left left' taken n want r r' buf (faults.Bad line why) le s h fed =
    let k = here input taken n want left left' r buf le s h in
    sym k.says ∙ fed (leb MOST_TEXT_BYTES (length input)) (take (MOST_TEXT_BYTES - (taken + n)) (drop n k.bytes))
says_bad (Some input) left left' taken n want r r' buf faults.ReadFault le s h fed = tt
says_bad (Some input) left left' taken n want r r' buf faults.Memory le s h fed = tt

short : (input : List ℕ) → length input < MOST_TEXT_BYTES → leb MOST_TEXT_BYTES (length input) ≡ false
short input lt = grind arith

nothing : (k : ℕ) (bytes : List ℕ) → bytes ≡ [] → take k bytes ≡ []
nothing k bytes is = grind arith

pub says_end : (first left left' : Option (List ℕ)) (taken n want : ℕ) (r : Reader) (buf : List ℕ) (res : Result Scenario ScenarioFault)
    → taken < MOST_TEXT_BYTES → n ≡ 0 → 0 < want → IfSome first (λ input. StillSays input taken left r)
    → IfSome left (λ b. Comes n want b buf left') → Answers res (from_here false r []) → IfSome first (λ input. Answers res (reading input))
says_end None left left' taken n want r buf res lt zero some s h answered = tt
says_end (Some input) left left' taken n want r buf res lt zero some s h answered =
    let k = come n want left left' s.bytes buf s.left_is h in
    let none : s.bytes ≡ [] = k.at_end zero some in
    let len : length s.bytes ≡ 0 = ap length none in
    let flag = short input (omega (arith, s.all)) in
    let same : from_here false r [] ≡ reading input = ap (λ (l : List ℕ). from_here false r l) (sym (nothing (MOST_TEXT_BYTES - taken) s.bytes none))
    ∙ ap (λ (b : Bool). from_here b r (take (MOST_TEXT_BYTES - taken) s.bytes)) (sym flag) ∙ s.says in
    subst (Answers res) same answered

pub says_stop : (first left : Option (List ℕ)) (taken : ℕ) (r : Reader) (res : Result Scenario ScenarioFault) → MOST_TEXT_BYTES ≤ taken
    → taken ≤ MOST_TEXT_BYTES → IfSome first (λ input. StillSays input taken left r)
    → Answers res (from_here true r []) → IfSome first (λ input. Answers res (reading input))
says_stop None left taken r res full most s answered = tt
says_stop (Some input) left taken r res full most s answered =
    let flag : leb MOST_TEXT_BYTES (length input) ≡ true = le-leb _ _ (omega (arith, s.all)) in
    let zero : MOST_TEXT_BYTES - taken ≡ 0 = omega arith in
    let same : from_here true r [] ≡ reading input = ap (λ (k : ℕ). from_here true r (take k s.bytes)) (sym zero)
    ∙ ap (λ (b : Bool). from_here b r (take (MOST_TEXT_BYTES - taken) s.bytes)) (sym flag) ∙ s.says in
    subst (Answers res) same answered
