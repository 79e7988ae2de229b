-- Parts whose printed text is a scenario text are good: they fit each other, and the text is no longer than a text may be.
use Rattle.std.proofs.Common.{◌≡◌, ℕ, ◌+◌, ◌-◌, ◌<◌, ◌≤◌, ◌||◌, Bool, true, false, cond, eqb, List, [], ◌∷◌, ◌++◌, length, length-append, take, map, refl}
use Rattle.std.proofs.Common.{sym, ap, subst, ◌∙◌, arith, All, append_assoc, ◌⊎◌, inl, inr}
use Rattle.std.specs.Prelude.{Result, Ok, Err, nat_le}
use Rattle.std.specs.List.{flat_map}
use Rattle.std.proofs.Math.Seq.{take-append-add}
use Rattle.std.proofs.lemmas.Bool.{cases_lt, le-leb}
use Rattle.std.proofs.lemmas.List.{append-nil, length-map, map-append, take-append-le}
use Rattle.std.proofs.lemmas.List.Elements.{All-take}
use Rattle.std.proofs.lemmas.List.Splits.{length-slice_split, slice_split_none}
use Rattle.flow_key.specs.Words.{words_at}
use Rattle.lg_model.specs.declared.limits.TheConstants.{MOST_TEXT_BYTES}
use Rattle.lg_model.specs.declared.scenario.HostLine.{HostLine}
use Rattle.lg_model.specs.declared.scenario.Flow.{Flow}
use Rattle.lg_model.specs.declared.scenario.Step.{Step}
use Rattle.lg_model.specs.declared.scenario.Ask.{Ask}
use Rattle.lg_model.specs.Placing.{IsShape}
use Rattle.lg_model.specs.Scenario.{Scenario}
use Rattle.scenario_lines.specs.declared.why.Why.{Why}
use Rattle.scenario_lines.specs.declared.section.Section.{Section}
use Rattle.scenario_lines.specs.declared.section.Section.TheVariants as sections
use Rattle.scenario_lines.specs.declared.section.Section.TheVariants.{Declarations, Steps}
use Rattle.scenario_lines.specs.Sections.{is_done}
use Rattle.lg_model.specs.Ranges.{IsHashRange, IsPickRange, HasRanges, IsFlowRange, IsStepRange, IsAskRange}
use Rattle.text_out.specs.Words.{Words, joined}
use Rattle.scenario_lines.specs.Spelling.{line_text, guardian_words, shape_line_words, pick_line_words, host_words, switch_words, flow_words, link_words}
use Rattle.scenario_lines.specs.Spelling.{step_words, ask_words, done_words}
use Rattle.scenario_lines.specs.Draft.{State, start, IsDraft}
use Rattle.scenario_lines.specs.Line.{line_of}
use Rattle.scenario_text.specs.Text.{Fault, after_line, lines_say, reading}
use Rattle.scenario_parts.specs.Parts.{AreInRange, IsFlowInRange, IsStepInRange}
use Rattle.scenario_parts.specs.Printed.{lines_text, link_text, first_text, declared_text, text_of}
use Rattle.scenario_parts.specs.Whole.{IsWhole}
use Rattle.scenario_text.proofs.PrintedWordsAreRead.{AreWords, joined_plain, plain_unbroken, plain_bare}
use Rattle.scenario_text.proofs.PrintedNamesAreRead.{at_seam}
use Rattle.scenario_text.proofs.PrintedLinesAreRead.{at_state, section_of, guardian_read, shape_are_words, shape_read, pick_are_words, pick_read, bare}
use Rattle.scenario_text.proofs.PrintedTextIsRead.{so_far, some, some_push, or_some, line_first, bare_names, no_letters}
use Rattle.scenario_text.proofs.ReadLinesFit.{Leads, host_leads, switch_leads, flow_leads, link_leads, step_leads, ask_leads}

-- From some line and this state on, the text says the scenario, of which only the first m bytes are looked at.
abbrev pub Says : ℕ → State → List ℕ → Scenario → Type 0
Says m s text q = (n : ℕ) × (lines_say (nat_le m (length text)) n s (words_at 10 (take m text)) ≡ Ok q)

-- What is known after a piece of a text: it lies within the bytes that are looked at, the rest says the scenario, and
-- the parts so far fit each other.
pub record Behind (m : ℕ) (piece : List ℕ) (t : State) (more : List ℕ) (q : Scenario) : Type 0 where
  pub left : ℕ
  pub len : m ≡ length piece + left
  pub says : Says left t more q
  pub draft : IsDraft t

-- A text that says a scenario from the first state on, and begins with this piece, says it from the second state on after it.
abbrev pub Passes : State → List ℕ → State → Type 0
Passes s piece t = (m : ℕ) (more : List ℕ) (q : Scenario) → IsDraft s → Says m s (piece ++ more) q → Behind m piece t more q

-- ---- one line

after_read : (n : ℕ) (r : Result State Why) (next : State → Result Scenario Fault) (q : Scenario) → after_line n r next ≡ Ok q
    → (t : State) × (r ≡ Ok t) × (is_done t.section ≡ false → next t ≡ Ok q)
after_read n (Err why) next q h = absurd cc
after_read n (Ok t) next q h = (t, refl, λ still. rw still at h)

-- A line that another part follows.
line_said : (long : Bool) (n : ℕ) (s : State) (ws : Words) (parts : List (List ℕ)) (q : Scenario) → AreWords ws → 0 < length parts
    → lines_say long n s (joined ws ∷ parts) ≡ Ok q
    → (t : State) × (line_of s (joined ws) ≡ Ok t) × (is_done t.section ≡ false → lines_say long (n + 1) t parts ≡ Ok q)
unfolding lines_say
line_said long n s ws [] q ok lt h = absurd (omega (arith, lt))
line_said long n s ws (p ∷ ps) q ok lt h =
    after_read n (line_of s (joined ws)) (λ t. lines_say long (n + 1) t (p ∷ ps)) q (rw (plain_bare (joined ws) (joined_plain ws ok)) at h)

same_le : (l k n : ℕ) → nat_le (l + k) (l + n) ≡ nat_le k n
same_le l k n = grind arith

-- A line that has its end within the bytes that are looked at.
line_within : (k : ℕ) (s : State) (ws : Words) (more : List ℕ) (q : Scenario) → AreWords ws → Says (length (line_text ws) + k) s (line_text ws ++ more) q
    → (t : State) × (line_of s (joined ws) ≡ Ok t) × (is_done t.section ≡ false → Says k t more q)
line_within k s ws more q ok says =
    let split = ap (words_at 10) (take-append-add (line_text ws) more k) ∙ line_first ws (take k more) ok in
    let long = ap (nat_le (length (line_text ws) + k)) (length-append (line_text ws) more) ∙ same_le (length (line_text ws)) k (length more) in
    let here : lines_say (nat_le k (length more)) says.0 s (joined ws ∷ words_at 10 (take k more)) ≡ Ok q =
    sym (ap (λ (b : Bool). lines_say b says.0 s (words_at 10 (take (length (line_text ws) + k) (line_text ws ++ more)))) long
    ∙ ap (lines_say (nat_le k (length more)) says.0 s) split) ∙ says.1 in
    let said = line_said (nat_le k (length more)) says.0 s ws (words_at 10 (take k more)) q ok
    (omega (arith, length-slice_split (λ b. eqb b 10) (take k more))) here in
    (said.0, said.1, λ still. (says.0 + 1, said.2 still))

-- A line that has its end after the bytes that are looked at says nothing.
line_beyond : (m : ℕ) (s : State) (ws : Words) (more : List ℕ) (q : Scenario) → AreWords ws → m < length (line_text ws) → Says m s (line_text ws ++ more) q → ⊥
unfolding lines_say
line_beyond m s ws more q ok less says =
    let len = length-append (joined ws) (10 ∷ []) in
    let cut : take m (line_text ws ++ more) ≡ take m (joined ws) = ap (take m) (append_assoc (joined ws) (10 ∷ []) more)
    ∙ take-append-le m (joined ws) (10 ∷ more) (omega (arith, len, less)) in
    let split : words_at 10 (take m (line_text ws ++ more)) ≡ take m (joined ws) ∷ [] = ap (words_at 10) cut
    ∙ slice_split_none (λ b. eqb b 10) (take m (joined ws))
    (All-take (λ b. eqb b 10 ≡ false) m (joined ws) (plain_unbroken (joined ws) (joined_plain ws ok))) in
    let long : nat_le m (length (line_text ws ++ more)) ≡ true =
    le-leb m (length (line_text ws ++ more)) (omega (arith, less, length-append (line_text ws) more)) in
    let bad = rw (split, long) at says.1 in
    cc

line_fits : (m : ℕ) (s : State) (ws : Words) (more : List ℕ) (q : Scenario) → AreWords ws → Says m s (line_text ws ++ more) q → length (line_text ws) ≤ m
line_fits m s ws more q ok says = by (cases_lt m (length (line_text ws))) where
  by : (m < length (line_text ws)) ⊎ (length (line_text ws) ≤ m) → length (line_text ws) ≤ m
  by (inl less) = absurd (line_beyond m s ws more q ok less says)
  by (inr le) = le

same_ok : (t u : State) → ◌≡◌ {A = Result State Why} (Ok t) (Ok u) → t ≡ u
same_ok t u e = cc

-- A line that leads to a state, where it is read at all, passes.
line_passes : (s t : State) (ws : Words) → is_done t.section ≡ false → (IsDraft s → Leads s ws t) → Passes s (line_text ws) t
line_passes s t ws still leads = λ m more q ok says.
    let two = leads ok in
    let left = m - length (line_text ws) in
    let len : m ≡ length (line_text ws) + left = omega (arith, line_fits m s ws more q two.0 says) in
    let line = line_within left s ws more q two.0 (rw len at says) in
    let next = two.1 line.0 line.1 in
    let same : line.0 ≡ t = same_ok line.0 t (sym line.1 ∙ next.0) in
    record { left = left; len = len; says = subst (λ (v : State). Says left v more q) same (line.2 (rw same still)); draft = next.1 }

-- ---- pieces in a row

-- An empty piece.
no_piece : (s : State) → Passes s [] s
no_piece s = λ m more q ok says. record { left = m; len = omega arith; says = says; draft = ok }

both : (s t u : State) (a b : List ℕ) → Passes s a t → Passes t b u → Passes s (a ++ b) u
both s t u a b one two = λ m more q ok says.
    let first = one m (b ++ more) q ok (rw (append_assoc a b more) at says) in
    let second = two first.left more q first.draft first.says in
    record { left = second.left; len = omega (arith, length-append a b, first.len, second.len); says = second.says; draft = second.draft }

-- The pieces of a list, where that of each element leads from the state after those before it to the next.
each_passes : {X : Type 0} (S : List X → List X → State) (piece : X → List ℕ) (all : List X)
    → ((done rest : List X) (x : X) → all ≡ done ++ x ∷ rest → Passes (S done (x ∷ rest)) (piece x) (S (done ++ x ∷ []) rest))
    → (done rest : List X) → all ≡ done ++ rest → Passes (S done rest) (flat_map piece rest) (S all [])
each_passes S piece all one done [] is = subst (λ (xs : List _). Passes (S done []) [] (S xs [])) (sym (is ∙ append-nil done)) (no_piece (S done []))
each_passes S piece all one done (x ∷ rest) is =
    both (S done (x ∷ rest)) (S (done ++ x ∷ []) rest) (S all []) (piece x) (flat_map piece rest) (one done rest x is)
    (each_passes S piece all one (done ++ x ∷ []) rest (is ∙ sym (append_assoc done (x ∷ []) rest)))

-- ---- declarations

seam : {X : Type 0} (P : X → Type 0) (xs done rest : List X) (x : X) → xs ≡ done ++ x ∷ rest → All P xs → P x
seam P xs done rest x is all = at_seam P done rest x (subst (λ (ys : List _). All P ys) is all)

hosts_pass : (w : Scenario) → HasRanges w
    → Passes (at_state Declarations (so_far w [] [] [] [] [])) (lines_text host_words w.hosts)
    (at_state Declarations (so_far w (map bare w.hosts) [] [] [] []))
hosts_pass w ranges = each_passes (λ done rest. at_state Declarations (so_far w (map bare done) [] [] [] []))
    (λ h. line_text (host_words h)) w.hosts one [] w.hosts refl where
      one : (done rest : List HostLine) (h : HostLine) → w.hosts ≡ done ++ h ∷ rest
          → Passes (at_state Declarations (so_far w (map bare done) [] [] [] [])) (line_text (host_words h))
          (at_state Declarations (so_far w (map bare (done ++ h ∷ [])) [] [] [] []))
      one done rest h is = rw (map-append bare done (h ∷ []))
          (line_passes (at_state Declarations (so_far w (map bare done) [] [] [] []))
          (at_state Declarations (so_far w (map bare done ++ bare h ∷ []) [] [] [] [])) (host_words h) refl
          (λ ok. host_leads (so_far w (map bare done) [] [] [] []) h ok (seam (λ g. g.name < 65536) w.hosts done rest h is ranges.hosts)))

switches_pass : (w : Scenario) (hosts : List HostLine) → HasRanges w
    → Passes (at_state Declarations (so_far w hosts [] [] [] [])) (lines_text switch_words w.switches)
    (at_state Declarations (so_far w hosts w.switches [] [] []))
switches_pass w hosts ranges =
    each_passes (λ done rest. at_state Declarations (so_far w hosts done [] [] []))
    (λ n. line_text (switch_words n)) w.switches one [] w.switches refl where
      one : (done rest : List ℕ) (n : ℕ) → w.switches ≡ done ++ n ∷ rest
          → Passes (at_state Declarations (so_far w hosts done [] [] [])) (line_text (switch_words n))
          (at_state Declarations (so_far w hosts (done ++ n ∷ []) [] [] []))
      one done rest n is =
          line_passes (at_state Declarations (so_far w hosts done [] [] [])) (at_state Declarations (so_far w hosts (done ++ n ∷ []) [] [] []))
          (switch_words n) refl
          (λ ok. switch_leads (so_far w hosts done [] [] []) n ok (seam (λ m. m < 65536) w.switches done rest n is ranges.switches))

flows_pass : (w : Scenario) → HasRanges w → AreInRange w
    → Passes (at_state Declarations (so_far w (map bare w.hosts) w.switches [] [] [])) (lines_text (flow_words w.hosts w.switches) w.flows)
    (at_state Declarations (so_far w (map bare w.hosts) w.switches w.flows [] []))
flows_pass w ranges positions =
    each_passes (λ done rest. at_state Declarations (so_far w (map bare w.hosts) w.switches done [] []))
    (λ f. line_text (flow_words w.hosts w.switches f)) w.flows one [] w.flows refl where
      one : (done rest : List Flow) (f : Flow) → w.flows ≡ done ++ f ∷ rest
          → Passes (at_state Declarations (so_far w (map bare w.hosts) w.switches done [] [])) (line_text (flow_words w.hosts w.switches f))
          (at_state Declarations (so_far w (map bare w.hosts) w.switches (done ++ f ∷ []) [] []))
      one done rest f is =
          let within : IsFlowInRange (length (map bare w.hosts)) (length w.switches) f =
          rw (length-map w.hosts bare) (seam (IsFlowInRange (length w.hosts) (length w.switches)) w.flows done rest f is positions.flows) in
          line_passes (at_state Declarations (so_far w (map bare w.hosts) w.switches done [] []))
          (at_state Declarations (so_far w (map bare w.hosts) w.switches (done ++ f ∷ []) [] [])) (flow_words w.hosts w.switches f) refl
          (λ ok. flow_leads (so_far w (map bare w.hosts) w.switches done [] []) w.hosts f ok (bare_names w.hosts)
          (seam IsFlowRange w.flows done rest f is ranges.flows) within)

link_passes : (w : Scenario) (done rest : List HostLine) (h : HostLine) → h.name < 65536
    → Passes (at_state Declarations (so_far w (done ++ bare h ∷ rest) w.switches w.flows [] [])) (link_text h)
    (at_state Declarations (so_far w (done ++ h ∷ rest) w.switches w.flows [] []))
link_passes w done rest h small = by (eqb (length h.letters) 0) refl where
  by : (b : Bool) → eqb (length h.letters) 0 ≡ b
      → Passes (at_state Declarations (so_far w (done ++ bare h ∷ rest) w.switches w.flows [] [])) (cond b [] (line_text (link_words h)))
      (at_state Declarations (so_far w (done ++ h ∷ rest) w.switches w.flows [] []))
  by true e =
      let none : length h.letters ≡ 0 = grind arith in
      let same : bare h ≡ h = ap (λ (ls : List _). record { name = h.name; letters = ls }) (no_letters h.letters none) in
      rw same (no_piece (at_state Declarations (so_far w (done ++ h ∷ rest) w.switches w.flows [] [])))
  by false e =
      let some : 0 < length h.letters = grind arith in
      line_passes (at_state Declarations (so_far w (done ++ bare h ∷ rest) w.switches w.flows [] []))
      (at_state Declarations (so_far w (done ++ h ∷ rest) w.switches w.flows [] [])) (link_words h) refl
      (λ ok. link_leads (so_far w [] w.switches w.flows [] []) done rest h ok small some)

links_pass : (w : Scenario) → HasRanges w
    → Passes (at_state Declarations (so_far w (map bare w.hosts) w.switches w.flows [] [])) (flat_map link_text w.hosts)
    (at_state Declarations (so_far w w.hosts w.switches w.flows [] []))
links_pass w ranges = rw (append-nil w.hosts) at
    (each_passes (λ done rest. at_state Declarations
    (so_far w (done ++ map bare rest) w.switches w.flows [] [])) link_text w.hosts one [] w.hosts refl) where
      one : (done rest : List HostLine) (h : HostLine) → w.hosts ≡ done ++ h ∷ rest
          → Passes (at_state Declarations (so_far w (done ++ bare h ∷ map bare rest) w.switches w.flows [] [])) (link_text h)
          (at_state Declarations (so_far w ((done ++ h ∷ []) ++ map bare rest) w.switches w.flows [] []))
      one done rest h is = rw (append_assoc done (h ∷ []) (map bare rest))
          (link_passes w done (map bare rest) h (seam (λ g. g.name < 65536) w.hosts done rest h is ranges.hosts))

-- ---- steps and asks

steps_pass : (w : Scenario) → HasRanges w → AreInRange w
    → Passes (at_state Declarations (so_far w w.hosts w.switches w.flows [] [])) (lines_text (step_words w.flows w.switches) w.steps)
    (at_state (section_of (some w.steps)) (so_far w w.hosts w.switches w.flows w.steps []))
steps_pass w ranges positions = each_passes (λ done rest. at_state (section_of (some done)) (so_far w w.hosts w.switches w.flows done []))
    (λ t. line_text (step_words w.flows w.switches t)) w.steps one [] w.steps refl where
      one : (done rest : List Step) (t : Step) → w.steps ≡ done ++ t ∷ rest
          → Passes (at_state (section_of (some done)) (so_far w w.hosts w.switches w.flows done [])) (line_text (step_words w.flows w.switches t))
          (at_state (section_of (some (done ++ t ∷ []))) (so_far w w.hosts w.switches w.flows (done ++ t ∷ []) []))
      one done rest t is = rw (some_push done t)
          (line_passes (at_state (section_of (some done)) (so_far w w.hosts w.switches w.flows done []))
          (at_state Steps (so_far w w.hosts w.switches w.flows (done ++ t ∷ []) [])) (step_words w.flows w.switches t) refl
          (λ ok. step_leads (some done) (so_far w w.hosts w.switches w.flows done []) t ok (seam IsStepRange w.steps done rest t is ranges.steps)
          (seam (IsStepInRange (length w.flows) (length w.switches)) w.steps done rest t is positions.steps)))

asks_pass : (w : Scenario) → HasRanges w → AreInRange w
    → Passes (at_state (section_of (some w.steps)) (so_far w w.hosts w.switches w.flows w.steps [])) (lines_text (ask_words w.flows) w.asks)
    (at_state (section_of (some w.steps || some w.asks)) w)
asks_pass w ranges positions =
    rw (no_or (some w.steps)) at
    (each_passes (λ done rest. at_state (section_of (some w.steps || some done)) (so_far w w.hosts w.switches w.flows w.steps done))
    (λ q. line_text (ask_words w.flows q)) w.asks one [] w.asks refl) where
      no_or : (b : Bool) → (b || false) ≡ b
      no_or true = refl
      no_or false = refl

      one : (done rest : List Ask) (q : Ask) → w.asks ≡ done ++ q ∷ rest
          → Passes (at_state (section_of (some w.steps || some done)) (so_far w w.hosts w.switches w.flows w.steps done)) (line_text (ask_words w.flows q))
          (at_state (section_of (some w.steps || some (done ++ q ∷ []))) (so_far w w.hosts w.switches w.flows w.steps (done ++ q ∷ [])))
      one done rest q is = rw (some_push done q, or_some (some w.steps))
          (line_passes (at_state (section_of (some w.steps || some done)) (so_far w w.hosts w.switches w.flows w.steps done))
          (at_state Steps (so_far w w.hosts w.switches w.flows w.steps (done ++ q ∷ []))) (ask_words w.flows q) refl
          (λ ok. ask_leads (some w.steps || some done) (so_far w w.hosts w.switches w.flows w.steps done) q ok
          (seam IsAskRange w.asks done rest q is ranges.asks) (seam (λ a. a.flow_at < length w.flows) w.asks done rest q is positions.asks)))

-- ---- the whole text

-- Before the declarations only the shape and the pick have ranges.
none_declared : (w : Scenario) (x : Section) → IsShape w.shape.rows w.shape.width → IsHashRange w.shape.hash → IsPickRange w.pick
    → IsDraft (at_state x (so_far w [] [] [] [] []))
none_declared w x shape hash pick = record {
  scenario = record {
    shape = shape;
    hash = hash;
    pick = pick;
    hosts = record { few = omega arith; each = λ i d lt. absurd (omega (arith, lt)); own = λ i j d less lt. absurd (omega (arith, lt)) };
    switches = record { few = omega arith; each = λ i d lt. absurd (omega (arith, lt)); own = λ i j d less lt. absurd (omega (arith, lt)) };
    flows = record { few = omega arith; each = λ i d lt. absurd (omega (arith, lt)); own = λ i j d less lt. absurd (omega (arith, lt)) };
    steps = record { each = λ i d lt. absurd (omega (arith, lt)); few_packets = omega arith; few_ends = λ i lt. omega arith };
    asks = record { few = omega arith; each = λ i d lt. absurd (omega (arith, lt)) };
  };
  no_steps = λ e. refl;
}

start_draft : IsDraft start
start_draft = none_declared start.parts sections.Version
    (record { some_rows = omega arith; few_rows = omega arith; some_width = omega arith; few_width = omega arith }) tt tt

first_pass : (w : Scenario) → HasRanges w → Passes start (first_text w) (at_state Declarations (so_far w [] [] [] [] []))
first_pass w ranges =
    let w0 = start.parts in
    let w1 : Scenario = record w0 { shape = w.shape } in
    let third = line_passes (at_state sections.Pick w1) (at_state Declarations (so_far w [] [] [] [] [])) (pick_line_words w.pick) refl
    (λ ok. (
      pick_are_words w.pick ranges.pick,
      λ u line. (pick_read w1 w.pick ranges.pick, none_declared w Declarations ranges.shape ranges.hash ranges.pick),
    )) in
    let second = line_passes (at_state sections.Shape w0) (at_state sections.Pick w1) (shape_line_words w.shape) refl
    (λ ok. (
      shape_are_words w.shape ranges.shape ranges.hash,
      λ u line. (shape_read w0 w.shape ranges.shape ranges.hash, none_declared w1 sections.Pick ranges.shape ranges.hash tt),
    )) in
    let one = line_passes start (at_state sections.Shape w0) guardian_words refl
    (λ ok. ((refl, (refl, tt)), λ u line. (guardian_read w0, none_declared w0 sections.Shape ok.scenario.shape tt tt))) in
    both start (at_state sections.Shape w0) (at_state Declarations (so_far w [] [] [] [] [])) (line_text guardian_words)
    (line_text (shape_line_words w.shape) ++ line_text (pick_line_words w.pick)) one
    (both (at_state sections.Shape w0) (at_state sections.Pick w1) (at_state Declarations (so_far w [] [] [] [] [])) (line_text (shape_line_words w.shape))
    (line_text (pick_line_words w.pick)) second third)

declared_pass : (w : Scenario) → HasRanges w → AreInRange w
    → Passes (at_state Declarations (so_far w [] [] [] [] [])) (declared_text w) (at_state Declarations (so_far w w.hosts w.switches w.flows [] []))
declared_pass w ranges positions =
    let bares = map bare w.hosts in
    let none = at_state Declarations (so_far w [] [] [] [] []) in
    let hosts = at_state Declarations (so_far w bares [] [] [] []) in
    let switches = at_state Declarations (so_far w bares w.switches [] [] []) in
    let flows = at_state Declarations (so_far w bares w.switches w.flows [] []) in
    let links = at_state Declarations (so_far w w.hosts w.switches w.flows [] []) in
    both none hosts links (lines_text host_words w.hosts)
    (lines_text switch_words w.switches ++ (lines_text (flow_words w.hosts w.switches) w.flows ++ flat_map link_text w.hosts)) (hosts_pass w ranges)
    (both hosts switches links (lines_text switch_words w.switches) (lines_text (flow_words w.hosts w.switches) w.flows ++ flat_map link_text w.hosts)
    (switches_pass w bares ranges)
    (both switches flows links (lines_text (flow_words w.hosts w.switches) w.flows) (flat_map link_text w.hosts) (flows_pass w ranges positions)
    (links_pass w ranges)))

-- All before the last line.
undone_text : Scenario → List ℕ
undone_text w = first_text w ++ (declared_text w ++ (lines_text (step_words w.flows w.switches) w.steps ++ lines_text (ask_words w.flows) w.asks))

undone_pass : (w : Scenario) → HasRanges w → AreInRange w → Passes start (undone_text w) (at_state (section_of (some w.steps || some w.asks)) w)
unfolding undone_text
undone_pass w ranges positions =
    let first = at_state Declarations (so_far w [] [] [] [] []) in
    let declared = at_state Declarations (so_far w w.hosts w.switches w.flows [] []) in
    let stepped = at_state (section_of (some w.steps)) (so_far w w.hosts w.switches w.flows w.steps []) in
    let all = at_state (section_of (some w.steps || some w.asks)) w in
    let steps = lines_text (step_words w.flows w.switches) w.steps in
    let asks = lines_text (ask_words w.flows) w.asks in
    both start first all (first_text w) (declared_text w ++ (steps ++ asks)) (first_pass w ranges)
    (both first declared all (declared_text w) (steps ++ asks) (declared_pass w ranges positions)
    (both declared stepped all steps asks (steps_pass w ranges positions) (asks_pass w ranges positions)))

last_apart : (a b c d e : List ℕ) → a ++ (b ++ (c ++ (d ++ e))) ≡ (a ++ (b ++ (c ++ d))) ++ e
last_apart a b c d e = rw (append_assoc a (b ++ (c ++ d)) e, append_assoc b (c ++ d) e, append_assoc c d e) refl

-- Parts whose text says a scenario within its first m bytes fit each other, and their text has at most m bytes.
good_parts : (m : ℕ) (w q : Scenario) → HasRanges w → AreInRange w → Says m start (text_of w) q
    → (IsDraft (at_state (section_of (some w.steps || some w.asks)) w)) × (length (text_of w) ≤ m)
unfolding undone_text
good_parts m w q ranges positions says =
    let is : text_of w ≡ undone_text w ++ line_text done_words =
    last_apart (first_text w) (declared_text w) (lines_text (step_words w.flows w.switches) w.steps) (lines_text (ask_words w.flows) w.asks)
    (line_text done_words) in
    let end = undone_pass w ranges positions m (line_text done_words) q start_draft (subst (λ (text : List ℕ). Says m start text q) is says) in
    let fits = line_fits end.left (at_state (section_of (some w.steps || some w.asks)) w) done_words [] q (refl, tt) end.says in
    (end.draft, omega (arith, ap length is, length-append (undone_text w) (line_text done_words), end.len, fits))

says_whole : (text : List ℕ) (q : Scenario) → reading text ≡ Ok q → Says MOST_TEXT_BYTES start text q
unfolding reading
says_whole text q h = (1, h)

-- Parts whose text is read are good.
pub only_whole : (w q : Scenario) → HasRanges w → AreInRange w → reading (text_of w) ≡ Ok q → IsWhole w
only_whole w q ranges positions h =
    let good = good_parts MOST_TEXT_BYTES w q ranges positions (says_whole (text_of w) q h) in
    record { scenario = good.0.scenario; short = good.1 }
