-- The bytes of lines, one part after the other, and of the whole text.
use Rattle.std.proofs.Common.{◌≡◌, ℕ, ◌+◌, ◌<◌, Bool, true, false, eqb, List, [], ◌∷◌, ◌++◌, length, length-append, get_or}
use Rattle.std.proofs.Common.{map, refl, ◌∙◌, ap, arith}
use Rattle.std.specs.Prelude.{sum_by}
use Rattle.std.specs.List.{flat_map}
use Rattle.std.specs.Fmt.{decimal}
use Rattle.std.proofs.lemmas.List.Concat.{length-flat_map}
use Rattle.lg_model.specs.declared.scenario.HostLine.{HostLine}
use Rattle.lg_model.specs.declared.scenario.Fate.{Fate}
use Rattle.lg_model.specs.declared.scenario.Flow.{Flow}
use Rattle.lg_model.specs.declared.scenario.Step.{Step}
use Rattle.lg_model.specs.declared.scenario.Step.TheVariants as steps
use Rattle.lg_model.specs.Scenario.{Scenario}
use Rattle.scenario_lines.specs.declared.section.Section.TheVariants.{Done}
use Rattle.text_out.specs.Words.{Words, spaced}
use Rattle.scenario_lines.specs.Spelling.{line_text, size, burst_words, fate_words, guardian_words, shape_line_words, pick_line_words, host_words}
use Rattle.scenario_lines.specs.Spelling.{switch_words, flow_words, link_words, step_words, ask_words, done_words}
use Rattle.scenario_lines.specs.PrintedLen.{frame_size, link_size, declared_size, happening_size}
use Rattle.scenario_lines.proofs.SizeLemmas.{size_append}
use Rattle.scenario_lines.proofs.WeightLemmas.{sum_same}
use Rattle.scenario_parts.specs.Printed.{lines_text, link_text, first_text, declared_text, happening_text, text_of}

-- The delays, the burst and the fate of a packet.
pub tail_size : (ds : List ℕ) (n : ℕ) (x : Fate)
    → size (map decimal ds ++ (burst_words n ++ fate_words x)) ≡ size (map decimal ds) + (size (burst_words n) + size (fate_words x))
tail_size ds n x = size_append (map decimal ds) (burst_words n ++ fate_words x)
    ∙ ap (λ (k : ℕ). size (map decimal ds) + k) (size_append (burst_words n) (fate_words x))

-- ---- the whole text

spaced_size : (ws : Words) → length (spaced ws) ≡ size ws
spaced_size [] = refl
spaced_size (w ∷ ws) = omega (arith, length-append w (spaced ws), spaced_size ws)

line_size : (ws : Words) → 0 < length ws → length (line_text ws) ≡ size ws
line_size [] some = absurd (omega arith)
line_size (w ∷ ws) some = omega (arith, length-append (w ++ spaced ws) (10 ∷ []), length-append w (spaced ws), spaced_size ws)

pieces_size : {X : Type 0} (piece : X → List ℕ) (bytes : X → ℕ) (xs : List X) → ((x : X) → length (piece x) ≡ bytes x)
    → length (flat_map piece xs) ≡ sum_by bytes xs
pieces_size piece bytes xs same = length-flat_map piece xs ∙ sum_same (λ x. length (piece x)) bytes xs (λ k d lt. same (get_or xs k d))

link_text_size : (h : HostLine) (b : Bool) → eqb (length h.letters) 0 ≡ b → length (link_text h) ≡ link_size h
link_text_size h true is = rw is refl
link_text_size h false is = rw is (line_size (link_words h) (omega arith))

step_size : (flows : List Flow) (switches : List ℕ) (t : Step) → length (line_text (step_words flows switches t)) ≡ size (step_words flows switches t)
step_size flows switches (steps.Packet at bytes delays burst x) = line_size (step_words flows switches (steps.Packet at bytes delays burst x)) (omega arith)
step_size flows switches (steps.End at) = line_size (step_words flows switches (steps.End at)) (omega arith)
step_size flows switches steps.EndAll = line_size (step_words flows switches steps.EndAll) (omega arith)
step_size flows switches steps.Release = line_size (step_words flows switches steps.Release) (omega arith)

three : (a b c : List ℕ) → length (a ++ (b ++ c)) ≡ (length a + length b) + length c
three a b c = omega (arith, length-append a (b ++ c), length-append b c)

first_size : (w : Scenario) → length (first_text w) ≡ (size guardian_words + size (shape_line_words w.shape)) + size (pick_line_words w.pick)
first_size w =
    let guardian = line_size guardian_words (omega arith) in
    let shape = line_size (shape_line_words w.shape) (omega arith) in
    let pick = line_size (pick_line_words w.pick) (omega arith) in
    three (line_text guardian_words) (line_text (shape_line_words w.shape)) (line_text (pick_line_words w.pick)) ∙ omega (arith, guardian, shape, pick)

declared_size_is : (w : Scenario) → length (declared_text w) ≡ declared_size w.hosts w.switches w.flows
declared_size_is w =
    let hosts = pieces_size (λ h. line_text (host_words h)) (λ h. size (host_words h)) w.hosts (λ h. line_size (host_words h) (omega arith)) in
    let switches = pieces_size (λ n. line_text (switch_words n)) (λ n. size (switch_words n)) w.switches (λ n. line_size (switch_words n) (omega arith)) in
    let flows = pieces_size (λ f. line_text (flow_words w.hosts w.switches f)) (λ f. size (flow_words w.hosts w.switches f)) w.flows
    (λ f. line_size (flow_words w.hosts w.switches f) (omega arith)) in
    let links = pieces_size link_text link_size w.hosts (λ h. link_text_size h (eqb (length h.letters) 0) refl) in
    omega (
      arith,
      hosts,
      switches,
      flows,
      links,
      length-append (lines_text host_words w.hosts)
          (lines_text switch_words w.switches ++ (lines_text (flow_words w.hosts w.switches) w.flows ++ flat_map link_text w.hosts)),
      length-append (lines_text switch_words w.switches) (lines_text (flow_words w.hosts w.switches) w.flows ++ flat_map link_text w.hosts),
      length-append (lines_text (flow_words w.hosts w.switches) w.flows) (flat_map link_text w.hosts),
    )

happening_size_is : (w : Scenario) → length (happening_text w) ≡ happening_size w.switches w.flows w.steps w.asks + 5
happening_size_is w =
    let all = pieces_size (λ t. line_text (step_words w.flows w.switches t)) (λ t. size (step_words w.flows w.switches t)) w.steps
    (step_size w.flows w.switches) in
    let asks = pieces_size (λ q. line_text (ask_words w.flows q)) (λ q. size (ask_words w.flows q)) w.asks
    (λ q. line_size (ask_words w.flows q) (omega arith)) in
    omega (
      arith,
      all,
      asks,
      length-append (lines_text (step_words w.flows w.switches) w.steps)
          (lines_text (ask_words w.flows) w.asks ++ line_text done_words),
      length-append (lines_text (ask_words w.flows) w.asks) (line_text done_words),
    )

-- The text has the bytes of its lines.
pub text_size : (w : Scenario)
    → length (text_of w) ≡ frame_size Done w.shape w.pick + (declared_size w.hosts w.switches w.flows + happening_size w.switches w.flows w.steps w.asks)
text_size w = omega (
  arith,
  length-append (first_text w) (declared_text w ++ happening_text w),
  length-append (declared_text w) (happening_text w),
  first_size w,
  declared_size_is w,
  happening_size_is w,
)
