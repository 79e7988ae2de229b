-- The text of a scenario is read again.
use Rattle.std.proofs.Common.{◌≡◌, ℕ, ◌+◌, ◌<◌, ◌≤◌, ◌||◌, Bool, true, false, cond, eqb, List, [], ◌∷◌, ◌++◌, length, length-append, get_or, map, Ok, refl}
use Rattle.std.proofs.Common.{sym, ap, subst, ◌∙◌, arith, All, append_assoc}
use Rattle.std.specs.List.{list_any, flat_map}
use Rattle.std.proofs.lemmas.List.{append-nil, get_or-map, length-map, map-append, take_all}
use Rattle.std.proofs.lemmas.List.Sums.{sum_by-append, sum_by-cons}
use Rattle.std.proofs.lemmas.List.Splits.{slice_split_at, length-slice_split}
use Rattle.flow_key.specs.Words.{words_at}
use Rattle.lg_model.specs.declared.limits.TheConstants.{MOST_TEXT_BYTES}
use Rattle.lg_model.specs.declared.scenario.HostLine.{HostLine}
use Rattle.lg_model.specs.declared.scenario.Flow.{Flow}
use Rattle.lg_model.specs.declared.scenario.Step.{Step}
use Rattle.lg_model.specs.declared.scenario.Step.TheVariants as steps
use Rattle.lg_model.specs.declared.scenario.Ask.{Ask}
use Rattle.lg_model.specs.Keeping.{IsFlow, IsStep, IsAsk, names_of, ends_of, AreApart, IsHost, host_names}
use Rattle.lg_model.specs.Scenario.{Scenario, packet_count, burst_of, is_end_of}
use Rattle.scenario_lines.specs.declared.section.Section.TheVariants as sections
use Rattle.scenario_lines.specs.declared.section.Section.TheVariants.{Declarations, Steps, Done}
use Rattle.scenario_lines.specs.Sections.{is_done}
use Rattle.text_out.specs.Words.{Words, joined}
use Rattle.scenario_lines.specs.Spelling.{line_text, guardian_words, shape_line_words, pick_line_words, host_words, switch_words, flow_words, link_words}
use Rattle.scenario_lines.specs.Spelling.{step_words, ask_words, done_words}
use Rattle.scenario_lines.specs.Draft.{State, start}
use Rattle.scenario_lines.specs.Line.{line_of}
use Rattle.scenario_text.specs.Text.{lines_say, reading}
use Rattle.scenario_parts.specs.Printed.{lines_text, link_text, first_text, declared_text, happening_text, text_of}
use Rattle.scenario_parts.specs.Whole.{IsWhole}
use Rattle.scenario_text.proofs.PrintedWordsAreRead.{AreWords, joined_plain, plain_unbroken, plain_bare}
use Rattle.scenario_text.proofs.PrintedNamesAreRead.{at_seam, name_fresh, list_any-map}
use Rattle.scenario_text.proofs.PrintedLinesAreRead.{at_state, section_of, guardian_read, shape_are_words, shape_read, pick_are_words, pick_read, bare}
use Rattle.scenario_text.proofs.PrintedLinesAreRead.{host_are_words, host_read, switch_are_words, switch_read, FlowFits, flow_are_words, flow_read}
use Rattle.scenario_text.proofs.PrintedLinesAreRead.{link_are_words}
use Rattle.scenario_text.proofs.PrintedLinesAreRead.{link_read, PacketFits, packet_are_words, packet_read, end_are_words, end_read, end_all_read, release_read}
use Rattle.scenario_text.proofs.PrintedLinesAreRead.{ask_are_words, ask_read, done_read}

-- From this state on, the text says the scenario.
abbrev pub Reads : State → List ℕ → Scenario → Type 0
Reads s text w = (long : Bool) (n : ℕ) → lines_say long n s (words_at 10 text) ≡ Ok w

-- ---- one line

some_parts : (xs : List (List ℕ)) → 0 < length xs → (p : List ℕ) × (ps : List (List ℕ)) × (xs ≡ p ∷ ps)
some_parts [] lt = absurd (omega arith)
some_parts (p ∷ ps) lt = (p, ps, refl)

pub line_first : (ws : Words) (more : List ℕ) → AreWords ws → words_at 10 (line_text ws ++ more) ≡ joined ws ∷ words_at 10 more
line_first ws more ok = rw (append_assoc (joined ws) (10 ∷ []) more)
    (slice_split_at (λ b. eqb b 10) (joined ws) 10 more (plain_unbroken (joined ws) (joined_plain ws ok)) refl)

pub before : (s t : State) (ws : Words) (more : List ℕ) (w : Scenario) → AreWords ws → line_of s (joined ws) ≡ Ok t → is_done t.section ≡ false
    → Reads t more w → Reads s (line_text ws ++ more) w
unfolding lines_say
before s t ws more w ok line still then = λ long n.
    let parts = some_parts (words_at 10 more) (omega (arith, length-slice_split (λ b. eqb b 10) more)) in
    let split : words_at 10 (line_text ws ++ more) ≡ joined ws ∷ parts.0 ∷ parts.1 = line_first ws more ok
    ∙ ap (λ (ps : List (List ℕ)). joined ws ∷ ps) parts.2 in
    let next : lines_say long (n + 1) t (parts.0 ∷ parts.1) ≡ Ok w = ap (lines_say long (n + 1) t) (sym parts.2) ∙ then long (n + 1) in
    rw (split, plain_bare (joined ws) (joined_plain ws ok), line, still) next

last : (s t : State) (ws : Words) → AreWords ws → line_of s (joined ws) ≡ Ok t → is_done t.section ≡ true → Reads s (line_text ws) t.parts
unfolding lines_say
last s t ws ok line ended = λ long n.
    let split : words_at 10 (line_text ws) ≡ joined ws ∷ [] ∷ [] =
    slice_split_at (λ b. eqb b 10) (joined ws) 10 [] (plain_unbroken (joined ws) (joined_plain ws ok)) refl in
    rw (split, plain_bare (joined ws) (joined_plain ws ok), line, ended) refl

-- ---- the lines of a list

for_each : {X : Type 0} (S : List X → List X → State) (piece : X → List ℕ) (all : List X) (w : Scenario)
    → ((done rest : List X) (x : X) (more : List ℕ) → all ≡ done ++ x ∷ rest → Reads (S (done ++ x ∷ []) rest) more w
    → Reads (S done (x ∷ rest)) (piece x ++ more) w)
    → (done rest : List X) (more : List ℕ) → all ≡ done ++ rest → Reads (S all []) more w → Reads (S done rest) (flat_map piece rest ++ more) w
for_each S piece all w one done [] more is then = subst (λ (xs : List _). Reads (S xs []) more w) (is ∙ append-nil done) then
for_each S piece all w one done (x ∷ rest) more is then =
    let next = for_each S piece all w one (done ++ x ∷ []) rest more (is ∙ sym (append_assoc done (x ∷ []) rest)) then in
    rw (append_assoc (piece x) (flat_map piece rest) more) (one done rest x (flat_map piece rest ++ more) is next)

pub things_fresh : {X : Type 0} (name : X → ℕ) (done rest : List X) (x : X) → AreApart (map name (done ++ x ∷ rest))
    → list_any (λ m. eqb m (name x)) (map name done) ≡ false
things_fresh name done rest x apart = name_fresh (map name done) (map name rest) (name x) (rw (map-append name done (x ∷ rest)) at apart)

pub names_small : {X : Type 0} (name : X → ℕ) (xs : List X) → All (λ x. name x < 65536) xs → All (λ n. n < 65536) (map name xs)
names_small name [] ok = λ i d lt. absurd (omega arith)
names_small name (y ∷ ys) ok = λ i d lt.
    let within : i < length (y ∷ ys) = omega (arith, lt, length-map (y ∷ ys) name) in
    rw (get_or-map name (y ∷ ys) i y d within) (ok i y within)

-- The scenario of some of the parts.
abbrev pub so_far : Scenario → List HostLine → List ℕ → List Flow → List Step → List Ask → Scenario
so_far w hosts switches flows ts asks = record { shape = w.shape; pick = w.pick; hosts = hosts; switches = switches; flows = flows; steps = ts; asks = asks }

-- ---- declarations

host_names_small : (w : Scenario) → IsWhole w → All (λ n. n < 65536) (host_names w.hosts)
host_names_small w h = names_small (λ (g : HostLine). g.name) w.hosts (λ i d lt. let line = h.scenario.hosts.each i d lt in line.name)

flow_names_small : (w : Scenario) → IsWhole w → All (λ n. n < 65536) (names_of w.flows)
flow_names_small w h = names_small (λ (f : Flow). f.name) w.flows (λ i d lt. let line = h.scenario.flows.each i d lt in line.name)

host_one : (w : Scenario) → IsWhole w → (done rest : List HostLine) (x : HostLine) (more : List ℕ) → w.hosts ≡ done ++ x ∷ rest
    → Reads (at_state Declarations (so_far w (map bare (done ++ x ∷ [])) [] [] [] [])) more w
    → Reads (at_state Declarations (so_far w (map bare done) [] [] [] [])) (line_text (host_words x) ++ more) w
host_one w h done rest x more is then =
    let line : IsHost x = at_seam IsHost done rest x (subst (λ (xs : List HostLine). All IsHost xs) is h.scenario.hosts.each) in
    let apart : AreApart (map (λ (g : HostLine). g.name) (done ++ x ∷ rest)) =
    subst (λ (xs : List HostLine). AreApart (host_names xs)) is h.scenario.hosts.own in
    let new : list_any (λ g. eqb g.name x.name) (map bare done) ≡ false = list_any-map (λ g. eqb g.name x.name) bare done
    ∙ sym (list_any-map (λ m. eqb m x.name) (λ (g : HostLine). g.name) done) ∙ things_fresh (λ (g : HostLine). g.name) done rest x apart in
    let few : length (map bare done) < 64 = omega (arith, length-map done bare, ap length is, length-append done (x ∷ rest), h.scenario.hosts.few) in
    before (at_state Declarations (so_far w (map bare done) [] [] [] [])) (at_state Declarations (so_far w (map bare done ++ bare x ∷ []) [] [] [] []))
    (host_words x) more w (host_are_words x line.name) (host_read (so_far w (map bare done) [] [] [] []) x line.name new few) refl
    (rw (map-append bare done (x ∷ [])) at then)

switch_one : (w : Scenario) → IsWhole w → (hosts : List HostLine) (done rest : List ℕ) (n : ℕ) (more : List ℕ) → w.switches ≡ done ++ n ∷ rest
    → Reads (at_state Declarations (so_far w hosts (done ++ n ∷ []) [] [] [])) more w
    → Reads (at_state Declarations (so_far w hosts done [] [] [])) (line_text (switch_words n) ++ more) w
switch_one w h hosts done rest n more is then =
    let small : n < 65536 = at_seam (λ m. m < 65536) done rest n (subst (λ (xs : List ℕ). All (λ m. m < 65536) xs) is h.scenario.switches.each) in
    let new = name_fresh done rest n (subst AreApart is h.scenario.switches.own) in
    let few : length done < 64 = omega (arith, ap length is, length-append done (n ∷ rest), h.scenario.switches.few) in
    before (at_state Declarations (so_far w hosts done [] [] [])) (at_state Declarations (so_far w hosts (done ++ n ∷ []) [] [] [])) (switch_words n) more w
    (switch_are_words n small) (switch_read (so_far w hosts done [] [] []) n small new few) refl then

pub bare_names : (hosts : List HostLine) → host_names (map bare hosts) ≡ host_names hosts
bare_names [] = refl
bare_names (h ∷ hosts) = ap (λ (ns : List ℕ). h.name ∷ ns) (bare_names hosts)

flow_one : (w : Scenario) → IsWhole w → (done rest : List Flow) (f : Flow) (more : List ℕ) → w.flows ≡ done ++ f ∷ rest
    → Reads (at_state Declarations (so_far w (map bare w.hosts) w.switches (done ++ f ∷ []) [] [])) more w
    → Reads (at_state Declarations (so_far w (map bare w.hosts) w.switches done [] [])) (line_text (flow_words w.hosts w.switches f) ++ more) w
flow_one w h done rest f more is then =
    let fit : IsFlow (length w.hosts) (length w.switches) f =
    at_seam (IsFlow (length w.hosts) (length w.switches)) done rest f
    (subst (λ (xs : List Flow). All (IsFlow (length w.hosts) (length w.switches)) xs) is h.scenario.flows.each) in
    let apart : AreApart (map (λ (g : Flow). g.name) (done ++ f ∷ rest)) = subst (λ (xs : List Flow). AreApart (names_of xs)) is h.scenario.flows.own in
    let good : FlowFits (so_far w (map bare w.hosts) w.switches done [] []) w.hosts f = record {
      names = bare_names w.hosts;
      fits = rw (length-map w.hosts bare) fit;
      own_hosts = rw (bare_names w.hosts) h.scenario.hosts.own;
      host_name = rw (bare_names w.hosts) (host_names_small w h f.host_at 0 (omega (arith, fit.host, length-map w.hosts (λ (g : HostLine). g.name))));
      own_switches = h.scenario.switches.own;
      small_switches = h.scenario.switches.each;
      new_flow = things_fresh (λ (g : Flow). g.name) done rest f apart;
      room_left = omega (arith, ap length is, length-append done (f ∷ rest), h.scenario.flows.few);
    } in
    before (at_state Declarations (so_far w (map bare w.hosts) w.switches done [] []))
    (at_state Declarations (so_far w (map bare w.hosts) w.switches (done ++ f ∷ []) [] [])) (flow_words w.hosts w.switches f) more w
    (flow_are_words (so_far w (map bare w.hosts) w.switches done [] []) w.hosts f good)
    (flow_read (so_far w (map bare w.hosts) w.switches done [] []) w.hosts f good) refl then

pub no_letters : {X : Type 0} (ls : List X) → length ls ≡ 0 → [] ≡ ls
no_letters [] e = refl
no_letters (l ∷ ls) e = absurd (omega arith)

link_one : (w : Scenario) → IsWhole w → (done rest : List HostLine) (x : HostLine) (more : List ℕ) → w.hosts ≡ done ++ x ∷ rest
    → Reads (at_state Declarations (so_far w ((done ++ x ∷ []) ++ map bare rest) w.switches w.flows [] [])) more w
    → Reads (at_state Declarations (so_far w (done ++ map bare (x ∷ rest)) w.switches w.flows [] [])) (link_text x ++ more) w
link_one w h done rest x more is then = by_letters (eqb (length x.letters) 0) refl where
  line : IsHost x
  line = at_seam IsHost done rest x (subst (λ (xs : List HostLine). All IsHost xs) is h.scenario.hosts.each)

  new : list_any (λ g. eqb g.name x.name) done ≡ false
  new =
      let apart : AreApart (map (λ (g : HostLine). g.name) (done ++ x ∷ rest)) =
      subst (λ (xs : List HostLine). AreApart (host_names xs)) is h.scenario.hosts.own in
      sym (list_any-map (λ m. eqb m x.name) (λ (g : HostLine). g.name) done) ∙ things_fresh (λ (g : HostLine). g.name) done rest x apart

  then_here : Reads (at_state Declarations (so_far w (done ++ x ∷ map bare rest) w.switches w.flows [] [])) more w
  then_here = rw (append_assoc done (x ∷ []) (map bare rest)) at then

  by_letters : (b : Bool) → eqb (length x.letters) 0 ≡ b
      → Reads (at_state Declarations (so_far w (done ++ bare x ∷ map bare rest) w.switches w.flows [] [])) (cond b [] (line_text (link_words x)) ++ more) w
  by_letters true e =
      let none : length x.letters ≡ 0 = grind arith in
      let same : bare x ≡ x = ap (λ (ls : List _). record { name = x.name; letters = ls }) (no_letters x.letters none) in
      rw same then_here
  by_letters false e =
      let some : 0 < length x.letters = grind arith in
      before (at_state Declarations (so_far w (done ++ bare x ∷ map bare rest) w.switches w.flows [] []))
      (at_state Declarations (so_far w (done ++ x ∷ map bare rest) w.switches w.flows [] [])) (link_words x) more w (link_are_words x line.name)
      (link_read (so_far w done w.switches w.flows [] []) done (map bare rest) x line.name some line.few_letters new) refl then_here

-- ---- steps and asks

abbrev pub some : {X : Type 0} → List X → Bool
some [] = false
some (x ∷ xs) = true

pub some_push : {X : Type 0} (xs : List X) (x : X) → some (xs ++ x ∷ []) ≡ true
some_push [] x = refl
some_push (y ∷ ys) x = refl

pub or_some : (b : Bool) → (b || true) ≡ true
or_some true = refl
or_some false = refl

count_seam : (w : Scenario) (done rest : List Step) (t : Step) → w.steps ≡ done ++ t ∷ rest → packet_count w.steps ≤ 1000000
    → packet_count done + burst_of t ≤ 1000000
count_seam w done rest t is few = omega (arith, few, ap packet_count is, sum_by-append burst_of done (t ∷ rest), sum_by-cons burst_of t rest)

ends_seam : (w : Scenario) (done rest : List Step) (t : Step) (i : ℕ) → w.steps ≡ done ++ t ∷ rest → ends_of i w.steps ≤ 65535 → is_end_of i t ≡ true
    → ends_of i done < 65535
ends_seam w done rest t i is few ends =
    let one : ◌≡◌ {A = ℕ} (cond (is_end_of i t) 1 0) 1 = rw ends refl in
    omega (
      arith,
      few,
      ap (ends_of i) is,
      sum_by-append (λ x. cond (is_end_of i x) 1 0) done (t ∷ rest),
      sum_by-cons (λ x. cond (is_end_of i x) 1 0) t rest,
      one,
    )

same : (n : ℕ) → eqb n n ≡ true
same n = grind arith

step_are_words : (w : Scenario) → IsWhole w → (done rest : List Step) (t : Step) → w.steps ≡ done ++ t ∷ rest
    → AreWords (step_words w.flows w.switches t) ×
    ((b : Bool) → line_of (at_state (section_of b) (so_far w w.hosts w.switches w.flows done [])) (joined (step_words w.flows w.switches t)) ≡ Ok
    (at_state Steps (so_far w w.hosts w.switches w.flows (done ++ t ∷ []) [])))
step_are_words w h done rest (steps.Packet at size delays burst x) is =
    let fit = at_seam (IsStep (length w.switches) w.flows) done rest (steps.Packet at size delays burst x)
    (subst (λ (xs : List Step). All (IsStep (length w.switches) w.flows) xs) is h.scenario.steps.each) in
    let flow = h.scenario.flows.each at
    (get_or w.flows at (record { name = 0; key = record { src = []; dst = []; proto = 0; sport = 0; dport = 0 }; host_at = 0; path = [] })) fit.flow in
    let good : PacketFits (so_far w w.hosts w.switches w.flows done []) at size delays burst x = record {
      flow = fit.flow;
      own_flows = h.scenario.flows.own;
      name = flow_names_small w h at 0 (omega (arith, fit.flow, length-map w.flows (λ (f : Flow). f.name)));
      small = fit.size;
      hops = fit.hops;
      short = short_path at fit.flow;
      delays = fit.each_delay;
      some = fit.some;
      fate = fit.reach;
      packets = count_seam w done rest (steps.Packet at size delays burst x) is h.scenario.steps.few_packets;
    } in (
      packet_are_words (so_far w w.hosts w.switches w.flows done []) at size delays burst x good,
      λ b. packet_read b (so_far w w.hosts w.switches w.flows done []) at size delays burst x good,
    )
  where
    short_path : (i : ℕ) → i < length w.flows
        → length (get_or w.flows i
        (record { name = 0; key = record { src = []; dst = []; proto = 0; sport = 0; dport = 0 }; host_at = 0; path = [] })).path ≤ 16
    short_path i lt = let f =
        h.scenario.flows.each i (record { name = 0; key = record { src = []; dst = []; proto = 0; sport = 0; dport = 0 }; host_at = 0; path = [] }) lt in
        f.few_hops
step_are_words w h done rest (steps.End at) is =
    let fit : at < length w.switches =
    at_seam (IsStep (length w.switches) w.flows) done rest (steps.End at)
    (subst (λ (xs : List Step). All (IsStep (length w.switches) w.flows) xs) is h.scenario.steps.each) in
    let small = h.scenario.switches.each at 0 fit in (
      end_are_words (get_or w.switches at 0) small,
      λ b. end_read b (so_far w w.hosts w.switches w.flows done []) at fit h.scenario.switches.own small
          (ends_seam w done rest (steps.End at) at is (h.scenario.steps.few_ends at fit) (same at)),
    )
step_are_words w h done rest steps.EndAll is = (
  (refl, (refl, tt)),
  λ b. end_all_read b (so_far w w.hosts w.switches w.flows done [])
      (λ i lt. ends_seam w done rest steps.EndAll i is (h.scenario.steps.few_ends i lt) refl),
)
step_are_words w h done rest steps.Release is = ((refl, tt), λ b. release_read b (so_far w w.hosts w.switches w.flows done []))

step_one : (w : Scenario) → IsWhole w → (done rest : List Step) (t : Step) (more : List ℕ) → w.steps ≡ done ++ t ∷ rest
    → Reads (at_state (section_of (some (done ++ t ∷ []))) (so_far w w.hosts w.switches w.flows (done ++ t ∷ []) [])) more w
    → Reads (at_state (section_of (some done)) (so_far w w.hosts w.switches w.flows done [])) (line_text (step_words w.flows w.switches t) ++ more) w
step_one w h done rest t more is then =
    let law = step_are_words w h done rest t is in
    before (at_state (section_of (some done)) (so_far w w.hosts w.switches w.flows done []))
    (at_state Steps (so_far w w.hosts w.switches w.flows (done ++ t ∷ []) [])) (step_words w.flows w.switches t) more w law.0 (law.1 (some done)) refl
    (rw (some_push done t) at then)

ask_one : (w : Scenario) → IsWhole w → (done rest : List Ask) (q : Ask) (more : List ℕ) → w.asks ≡ done ++ q ∷ rest
    → Reads (at_state (section_of (some w.steps || some (done ++ q ∷ []))) (so_far w w.hosts w.switches w.flows w.steps (done ++ q ∷ []))) more w
    → Reads (at_state (section_of (some w.steps || some done)) (so_far w w.hosts w.switches w.flows w.steps done))
    (line_text (ask_words w.flows q) ++ more) w
ask_one w h done rest q more is then =
    let line : IsAsk w.switches w.flows q =
    at_seam (IsAsk w.switches w.flows) done rest q (subst (λ (xs : List Ask). All (IsAsk w.switches w.flows) xs) is h.scenario.asks.each) in
    let name = flow_names_small w h q.flow_at 0 (omega (arith, line.flow, length-map w.flows (λ (f : Flow). f.name))) in
    let few : length done < 10000 = omega (arith, ap length is, length-append done (q ∷ rest), h.scenario.asks.few) in
    let v = so_far w w.hosts w.switches w.flows w.steps done in
    before (at_state (section_of (some w.steps || some done)) v) (at_state Steps (so_far w w.hosts w.switches w.flows w.steps (done ++ q ∷ [])))
    (ask_words w.flows q) more w (ask_are_words v q name line.switch line.epoch)
    (ask_read (some w.steps || some done) v q line.flow h.scenario.flows.own name line.declared line.switch line.epoch few) refl
    (rw (some_push done q, or_some (some w.steps)) at then)

-- ---- the whole text

happening : (w : Scenario) → IsWhole w → Reads (at_state Declarations (so_far w w.hosts w.switches w.flows [] [])) (happening_text w) w
happening w h =
    let end = last (at_state (section_of (some w.steps || some w.asks)) w) (at_state Done w) done_words (refl, tt)
    (done_read (some w.steps || some w.asks) w) refl in
    let asks = for_each (λ done rest. at_state (section_of (some w.steps || some done)) (so_far w w.hosts w.switches w.flows w.steps done))
    (λ q. line_text (ask_words w.flows q)) w.asks w (ask_one w h) [] w.asks (line_text done_words) refl end in
    for_each (λ done rest. at_state (section_of (some done)) (so_far w w.hosts w.switches w.flows done []))
    (λ t. line_text (step_words w.flows w.switches t)) w.steps w (step_one w h) [] w.steps
    (lines_text (ask_words w.flows) w.asks ++ line_text done_words) refl (rw (← no_or (some w.steps)) asks)
  where
    no_or : (b : Bool) → (b || false) ≡ b
    no_or true = refl
    no_or false = refl

declared : (w : Scenario) (more : List ℕ) → IsWhole w → Reads (at_state Declarations (so_far w w.hosts w.switches w.flows [] [])) more w
    → Reads (at_state Declarations (so_far w [] [] [] [] [])) (declared_text w ++ more) w
declared w more h then =
    let links = for_each (λ done rest. at_state Declarations (so_far w (done ++ map bare rest) w.switches w.flows [] [])) link_text w.hosts w
    (link_one w h) [] w.hosts more refl (rw (append-nil w.hosts) then) in
    let flows = for_each (λ done rest. at_state Declarations (so_far w (map bare w.hosts) w.switches done [] []))
    (λ f. line_text (flow_words w.hosts w.switches f)) w.flows w (flow_one w h) [] w.flows (flat_map link_text w.hosts ++ more) refl links in
    let switches = for_each (λ done rest. at_state Declarations (so_far w (map bare w.hosts) done [] [] [])) (λ n. line_text (switch_words n)) w.switches w
    (switch_one w h (map bare w.hosts)) [] w.switches
    (lines_text (flow_words w.hosts w.switches) w.flows ++ (flat_map link_text w.hosts ++ more)) refl flows in
    let hosts = for_each (λ done rest. at_state Declarations (so_far w (map bare done) [] [] [] [])) (λ x. line_text (host_words x)) w.hosts w
    (host_one w h) [] w.hosts
    (lines_text switch_words w.switches ++
    (lines_text (flow_words w.hosts w.switches) w.flows ++ (flat_map link_text w.hosts ++ more))) refl switches in
    rw (
      append_assoc (lines_text host_words w.hosts)
          (lines_text switch_words w.switches ++ (lines_text (flow_words w.hosts w.switches) w.flows ++ flat_map link_text w.hosts)) more,
      append_assoc (lines_text switch_words w.switches) (lines_text (flow_words w.hosts w.switches) w.flows ++ flat_map link_text w.hosts) more,
      append_assoc (lines_text (flow_words w.hosts w.switches) w.flows) (flat_map link_text w.hosts) more,
    ) hosts

three : (s : State) (w : Scenario) (a b c more : List ℕ) → Reads s (a ++ (b ++ (c ++ more))) w → Reads s ((a ++ (b ++ c)) ++ more) w
three s w a b c more reads = rw (append_assoc a (b ++ c) more, append_assoc b c more) reads

first : (w : Scenario) (more : List ℕ) → IsWhole w → Reads (at_state Declarations (so_far w [] [] [] [] [])) more w → Reads start (first_text w ++ more) w
first w more h then =
    let w0 = start.parts in
    let w1 : Scenario = record w0 { shape = w.shape } in
    let third = before (at_state sections.Pick w1) (at_state Declarations (so_far w [] [] [] [] [])) (pick_line_words w.pick) more w
    (pick_are_words w.pick h.scenario.pick) (pick_read w1 w.pick h.scenario.pick) refl then in
    let second = before (at_state sections.Shape w0) (at_state sections.Pick w1) (shape_line_words w.shape) (line_text (pick_line_words w.pick) ++ more) w
    (shape_are_words w.shape h.scenario.shape h.scenario.hash) (shape_read w0 w.shape h.scenario.shape h.scenario.hash) refl third in
    let one = before (at_state sections.Version w0) (at_state sections.Shape w0) guardian_words
    (line_text (shape_line_words w.shape) ++ (line_text (pick_line_words w.pick) ++ more)) w (refl, (refl, tt)) (guardian_read w0) refl second in
    three start w (line_text guardian_words) (line_text (shape_line_words w.shape)) (line_text (pick_line_words w.pick)) more one

reads_whole : (text : List ℕ) (w : Scenario) → Reads start text w → length text ≤ MOST_TEXT_BYTES → reading text ≡ Ok w
unfolding reading
reads_whole text w reads short = rw (take_all MOST_TEXT_BYTES text short) (reads _ 1)

pub printed : (w : Scenario) → IsWhole w → reading (text_of w) ≡ Ok w
printed w h = reads_whole (text_of w) w (first w (declared_text w ++ happening_text w) h (declared w (happening_text w) h (happening w h))) h.short
