-- The packets of a step, and what stands after it.
use Rattle.std.specs.Prelude.{◌≡◌, ◌≢◌, ℕ, ◌+◌, ◌<◌, ◌≤◌, true, false, cond, List, [], ◌++◌, map, take, drop, length, reverse, replicate, slice_set}
use Rattle.std.specs.Prelude.{slice_index_or, count_by, All}
use Rattle.std.specs.List.{flat_map, enumerate_from, AllPairs}
use Rattle.std.proofs.Common.{refl, sym, ap, ◌∙◌, subst, arith, append-nil, take_all, add-zero}
use Rattle.std.proofs.Math.Seq.{take-append_seam}
use Rattle.std.proofs.lemmas.List.{get_or_append_left, get_or-append-add, get_or-replicate, length-replicate, length-append, length-take, get_or-take, get_or_default}
use Rattle.std.proofs.lemmas.List.Elements.{All-get_or, All-nil}
use Rattle.lg_model.specs.declared.scenario.Fate.{Fate}
use Rattle.lg_model.specs.declared.scenario.Step.{Step}
use Rattle.lg_model.specs.declared.scenario.Step.TheVariants as steps
use Rattle.lg_model.specs.Keeping.{IsScenario, IsStep, IsFlow}
use Rattle.lg_model.specs.Scenario.{Scenario, flow_at, no_flow, is_end_of, ended}
use Rattle.lg_model.specs.Trace.{Packet, packets, packet_of, packets_of, packets_until, meetings_in}
use Rattle.lg_model.specs.Carrying as model
use Rattle.lg_model.specs.Offering.{Picks, Offering}
use Rattle.lg_model.specs.TwinsState.{TwinsState, AreTwins, with_end}
use Rattle.lg_model.specs.Arriving.{packet_at, no_packet, is_release, held, deliveries, arrivals_until}
use Rattle.lg_model.specs.Columns.{Column}
use Rattle.lg_model.specs.Midway.{packets_to, arrived_to, held_to, AreDelivered}
use Rattle.lg_model.proofs.Tracing.{packets_split, packets_from, packets_more, ended_more, ended_rises, length_packets, meetings_on, meetings_append}
use Rattle.lg_model.proofs.Twinning.{twins_stay, twins_end, twins_end_all}
use Rattle.lg_model.proofs.Arrivals.{arrived_start, arrived_end, held_start, held_end, arrivals_released, held_released, deliveries_append, deliveries_reverse}
use Rattle.sketchlet_wire.specs.Packing.{IsPacked}
use Rattle.path_sim.specs.declared.post.Post.{Ghosts}
use Rattle.path_sim.specs.declared.sending.Sent.{Sent}
use Rattle.path_sim.specs.declared.traffic.Traffic.{Traffic}
use Rattle.path_sim.specs.Parts.{IsBefore, step_in}
use Rattle.path_sim.specs.Holding.{AreHeld, IsInside}
use Rattle.path_sim.specs.Sending.{IsPacketStep, IsSending, IsFit, packet_is}
use Rattle.path_sim.specs.Running.{IsMail, IsRunTo, IsRunAhead}
use Rattle.path_sim.proofs.Mailing.{mail_same}
use Rattle.path_sim.proofs.Onward.{nothing_yet}

pub prefix_is : (w : Scenario) (n : ℕ) → n ≤ length w.steps → packets_to w (length (packets_until w n)) ≡ packets_until w n
prefix_is w n h = ap (take (length (packets_until w n))) (packets_split w n h) ∙ take-append_seam (packets_until w n) (packets_from w n)

pub prefix_at : (w : Scenario) (n number : ℕ) → n ≤ length w.steps → number ≡ length (packets_until w n) → packets_to w number ≡ packets_until w n
prefix_at w n number h same = ap (packets_to w) same ∙ prefix_is w n h

-- how many packets are sent after the step
pub number_more : (w : Scenario) (n f size : ℕ) (delays : List ℕ) (count : ℕ) (fate : Fate) → n < length w.steps
    → step_in w n ≡ steps.Packet f size delays count fate →
    length (packets_until w (n + 1)) ≡ length (packets_until w n) + count
number_more w n f size delays count fate h step =
    let p = packet_of w.flows n f size delays fate in
    let mine : packets_of w.flows (n, step_in w n) ≡ replicate count p = rw step refl in
    ap length (packets_more w n h ∙ ap (λ ps. packets_until w n ++ ps) mine) ∙ length-append (packets_until w n) (replicate count p)
    ∙ ap (λ k. length (packets_until w n) + k) (length-replicate count p)

-- each of them
pub packet_is_at : (w : Scenario) (n f size : ℕ) (delays : List ℕ) (count : ℕ) (fate : Fate) (b : ℕ) → n < length w.steps
    → step_in w n ≡ steps.Packet f size delays count fate → b < count →
    packet_at w (length (packets_until w n) + b) ≡ packet_of w.flows n f size delays fate
packet_is_at w n f size delays count fate b h step low =
    let p = packet_of w.flows n f size delays fate in
    let mine : packets_of w.flows (n, step_in w n) ≡ replicate count p = rw step refl in
    let all : packets w ≡ (packets_until w n ++ replicate count p) ++ packets_from w (n + 1) =
    packets_split w (n + 1) (omega arith) ∙ ap (λ ps. ps ++ packets_from w (n + 1)) (packets_more w n h ∙ ap (λ ps. packets_until w n ++ ps) mine) in
    let inside : length (packets_until w n) + b < length (packets_until w n ++ replicate count p) =
    omega (arith, length-append (packets_until w n) (replicate count p), length-replicate count p) in
    ap (λ ps. slice_index_or ps (length (packets_until w n) + b) no_packet) all
    ∙ get_or_append_left (packets_until w n ++ replicate count p) (packets_from w (n + 1)) no_packet (length (packets_until w n) + b) inside
    ∙ get_or-append-add (packets_until w n) (replicate count p) b no_packet ∙ get_or-replicate count b p no_packet low

-- what the scenario says of the step
pub step_fits : (w : Scenario) (n : ℕ) (step : Step) → IsScenario w → n < length w.steps → step_in w n ≡ step → IsStep (length w.switches) w.flows step
step_fits w n step is h same = subst (IsStep (length w.switches) w.flows) same
    (All-get_or (IsStep (length w.switches) w.flows) w.steps n steps.Release h is.steps.each)

pub flow_fits : (w : Scenario) (at : ℕ) → IsScenario w → at < length w.flows → IsFlow (length w.hosts) (length w.switches) (flow_at w.flows at)
flow_fits w at is h = All-get_or (IsFlow (length w.hosts) (length w.switches)) w.flows at no_flow h is.flows.each

pub number_fits : (w : Scenario) (n : ℕ) → n ≤ length w.steps → length (packets_until w n) ≤ length (packets w)
number_fits w n h = omega (arith, ap length (packets_split w n h), length-append (packets_until w n) (packets_from w n))

pub few_packets : (w : Scenario) → IsScenario w → length (packets w) ≤ 1000000
few_packets w is = omega (arith, length_packets w, is.steps.few_packets)

-- a step without packets
pub quiet_more : (w : Scenario) (n : ℕ) → n < length w.steps → packets_of w.flows (n, step_in w n) ≡ [] → packets_until w (n + 1) ≡ packets_until w n
quiet_more w n h quiet = packets_more w n h ∙ ap (λ ps. packets_until w n ++ ps) quiet ∙ append-nil (packets_until w n)

-- at the end
pub prefix_all : (w : Scenario) (n number : ℕ) → n ≡ length w.steps → number ≡ length (packets_until w n) → packets_to w number ≡ packets w
prefix_all w n number all same =
    prefix_at w n number (omega arith) same
    ∙ ap (packets_until w) all ∙ ap (λ xs. flat_map (packets_of w.flows) (enumerate_from 0 xs)) (take_all (length w.steps) w.steps (omega arith))

-- a switch that ends an epoch has ended few before
pub ended_fits : (w : Scenario) (n s : ℕ) → IsScenario w → n < length w.steps → s < length w.switches → is_end_of s (step_in w n) ≡ true → ended w s n < 65535
ended_fits w n s is h inside ends =
    let more : ended w s (n + 1) ≡ ended w s n + 1 = ended_more w s n h ∙ ap (λ b. ended w s n + cond b 1 0) ends in
    let up : ended w s (n + 1) ≤ ended w s (length w.steps) = ended_rises w s (n + 1) (length w.steps) (omega arith) in
    let all : ended w s (length w.steps) ≡ count_by (is_end_of s) w.steps = ap (count_by (is_end_of s)) (take_all (length w.steps) w.steps (omega arith)) in
    omega (arith, is.steps.few_ends s inside)

-- the step that the code reads
pub step_known : (w : Scenario) (n : ℕ) (xs : List Step) (x : Step) → xs ≡ w.steps → n < length w.steps → x ≡ slice_index_or xs n x → step_in w n ≡ x
step_known w n xs x same h is = get_or_default w.steps n steps.Release x h ∙ ap (λ (ys : List Step). slice_index_or ys n x) (sym same) ∙ sym is

pub quiet_number : (w : Scenario) (n k : ℕ) → n < length w.steps → k ≡ length (packets_until w n) → packets_of w.flows (n, step_in w n) ≡ []
    → k ≡ length (packets_until w (n + 1))
quiet_number w n k h number quiet = number ∙ sym (ap length (quiet_more w n h quiet))

-- the packets of a step can be sent
pub sends : (w : Scenario) (k : ℕ) (s : Sent) → IsScenario w → IsPacketStep w s → k ≡ length (packets_until w s.step_at) → (b : ℕ) → b < s.burst
    → IsSending w (k + b) s
sends w k s is step number b low =
    let n = s.step_at in
    let fits = step_fits w n (steps.Packet step.flow_at s.size s.delays.now s.burst s.fate) is step.inside step.step in
    let its = flow_fits w step.flow_at is fits.flow in
    let more = number_more w n step.flow_at s.size s.delays.now s.burst s.fate step.inside step.step in
    let here : packet_at w (k + b) ≡ packet_of w.flows n step.flow_at s.size s.delays.now s.fate =
    ap (λ (a : ℕ). packet_at w (a + b)) number ∙ packet_is_at w n step.flow_at s.size s.delays.now s.burst s.fate b step.inside step.step low in
    record {
      number = omega (arith, number, more, number_fits w (n + 1) (omega (arith, step.inside)));
      few = few_packets w is;
      packet = here ∙ (λ i. record { step_at = n; flow = sym step.flow i; size = s.size; delays = s.delays.now; fate = s.fate });
      inside = omega (arith, step.inside);
      first = omega (arith, number);
      fits = record {
        path = rw step.flow its.path;
        few_hops = rw step.flow its.few_hops;
        delays = rw step.flow fits.hops;
        reached_is = step.reached_is;
        reach = rw (step.reached_is, step.flow) fits.reach;
      };
      host = rw step.flow its.host;
      places = step.places;
    }

-- what the switches need to count the packets of a step
pub record Counts (w : Scenario) (s : Sent) : Type 0 where
  pub some : 1 ≤ s.burst
  pub fits : IsFit (length w.switches) s
  pub apart : AllPairs (λ x y. x ≢ y) (take s.reached s.flow.now.path)

pub counts : (w : Scenario) (s : Sent) → IsScenario w → IsPacketStep w s → Counts w s
counts w s is step =
    let fits = step_fits w s.step_at (steps.Packet step.flow_at s.size s.delays.now s.burst s.fate) is step.inside step.step in
    let its = flow_fits w step.flow_at is fits.flow in
    let apart : AllPairs (λ x y. x ≢ y) s.flow.now.path = rw step.flow its.once in
    record {
      some = fits.some;
      fits = record {
        path = rw step.flow its.path;
        few_hops = rw step.flow its.few_hops;
        delays = rw step.flow fits.hops;
        reached_is = step.reached_is;
        reach = rw (step.reached_is, step.flow) fits.reach;
      };
      apart = λ i j d low high.
          let long = length-take s.reached s.flow.now.path in
          let here : j < s.reached = omega (arith, high, long) in
          let inside : j < length s.flow.now.path = omega (arith, high, long) in
          subst (λ (x : ℕ). x ≢ slice_index_or (take s.reached s.flow.now.path) j d) (sym (get_or-take s.reached s.flow.now.path i d (omega (arith, low, here))))
          (subst (λ (y : ℕ). slice_index_or s.flow.now.path i d ≢ y) (sym (get_or-take s.reached s.flow.now.path j d here)) (apart i j d low inside));
    }

-- the meetings of a step come after those before it
pub step_counted : (w : Scenario) (s : Sent) → IsPacketStep w s →
    meetings_in (packets_until w (s.step_at + 1))
    ≡ meetings_in (packets_until w s.step_at) ++ meetings_on (length (packets_until w s.step_at)) (replicate s.burst (packet_is s))
step_counted w s step =
    let n = s.step_at in
    let p = packet_of w.flows n step.flow_at s.size s.delays.now s.fate in
    let mine : packets_of w.flows (n, step_in w n) ≡ replicate s.burst p = rw step.step refl in
    let same : p ≡ packet_is s = λ i. record { step_at = n; flow = sym step.flow i; size = s.size; delays = s.delays.now; fate = s.fate } in
    ap meetings_in (packets_more w n step.inside ∙ ap (λ ps. packets_until w n ++ ps) mine)
    ∙ meetings_append (packets_until w n) (replicate s.burst p)
    ∙ ap (λ (q : Packet). meetings_in (packets_until w n) ++ meetings_on (length (packets_until w n)) (replicate s.burst q)) same

-- a step that releases nothing leaves what came and what is held
pub next_mail : {O C : Type 0} (post : Ghosts O C) (w : Scenario) (n k : ℕ) (cs : List model.Carry) (t t' : Traffic O C) → n < length w.steps
    → k ≡ length (packets_until w (n + 1)) → is_release (step_in w n) ≡ false →
    t'.post ≡ t.post → t'.held.items ≡ t.held.items → IsMail post w n k cs t → IsMail post w (n + 1) k cs t'
next_mail post w n k cs t t' h number no_release post_is held_is is =
    let came : arrived_to w n k ≡ arrived_to w (n + 1) k = arrived_end w n k h number no_release ∙ sym (arrived_start w (n + 1) k (omega arith) number) in
    let waits : held_to w n k ≡ held_to w (n + 1) k = held_end w n k h number no_release ∙ sym (held_start w (n + 1) k (omega arith) number) in
    record {
      noted = rw post_is is.noted;
      hosts = rw post_is is.hosts;
      arrived = rw (post_is, ← came) is.arrived;
      held = rw (post_is, held_is, ← waits) is.held;
      held_inside = rw held_is is.held_inside;
    }

module _ {S O C : Type 0} (picks : Picks S) (post : Ghosts O C) (w : Scenario) (n k : ℕ) (h : n < length w.steps) where
  stepped : (t t' : Traffic O C) (start : Offering S) (ps : List S) → k ≡ length (packets_until w (n + 1)) → is_release (step_in w n) ≡ false
      → t'.post ≡ t.post → t'.held.items ≡ t.held.items →
      (is : IsRunTo picks post w n k start ps t) → AreTwins w (n + 1) (meetings_in (packets_to w k)) is.carried t'.twins.items
      → IsRunTo picks post w (n + 1) k start ps t'
  stepped t t' start ps number no_release post_is held_is is twins = record {
    carried = is.carried;
    chosen = is.chosen;
    before = is.before;
    few = is.few;
    twins = twins;
    cargo_is = rw post_is is.cargo_is;
    mail = next_mail post w n k is.carried t t' h number no_release post_is held_is is.mail;
  }

  -- a step that sent packets
  pub sent_step : (s : Sent) (t : Traffic O C) (start : Offering S) (ps : List S) → IsPacketStep w s → s.step_at ≡ n
      → k ≡ length (packets_until w (n + 1)) → IsRunTo picks post w n k start ps t → IsRunTo picks post w (n + 1) k start ps t
  sent_step s t start ps step here number is =
      let known : step_in w n ≡ steps.Packet step.flow_at s.size s.delays.now s.burst s.fate = ap (step_in w) (sym here) ∙ step.step in
      let keeps : (a : ℕ) → is_end_of a (step_in w n) ≡ false = λ a. rw known refl in
      stepped t t start ps number (rw known refl) refl refl is (twins_stay w n (meetings_in (packets_to w k)) is.carried t.twins.items h keeps is.twins)

  -- the epoch that is to end is not the last that a switch can have
  pub epoch_fits : (t : Traffic O C) (s : ℕ) (ts : List TwinsState) (d : TwinsState) (start : Offering S) (ps : List S) → IsScenario w
      → ts ≡ t.twins.items → s < length ts → is_end_of s (step_in w n) ≡ true →
      IsRunTo picks post w n k start ps t → (slice_index_or ts s d).epoch < 65535
  epoch_fits t s ts d start ps is same inside ends run =
      let low : s < length t.twins.items = subst (λ (xs : List TwinsState). s < length xs) same inside in
      let epoch : (slice_index_or ts s d).epoch ≡ ended w s n = ap (λ (xs : List TwinsState). (slice_index_or xs s d).epoch) same
      ∙ (run.twins.each s d low).epoch in
      let few : ended w s n < 65535 = ended_fits w n s is h (omega (arith, run.twins.count)) ends in
      omega arith

  -- before the step the twins are those of the first n steps
  pub first_twins : (t : Traffic O C) (start : Offering S) (ps : List S) → k ≡ length (packets_until w n) → (is : IsRunTo picks post w n k start ps t)
      → AreTwins w n (meetings_in (packets_until w n)) is.carried t.twins.items
  first_twins t start ps number is = subst (λ (xs : List Packet). AreTwins w n (meetings_in xs) is.carried t.twins.items)
      (prefix_at w n k (omega (arith, h)) number) is.twins

  -- the switches have counted the packets of the step
  pub counted_step : (t t' : Traffic O C) (old new : List TwinsState) (start : Offering S) (ps : List S) → k ≡ length (packets_until w n)
      → old ≡ t.twins.items → t'.twins.items ≡ new → t'.post ≡ t.post → t'.held.items ≡ t.held.items →
      ((cs : List model.Carry) → AreTwins w n (meetings_in (packets_until w n)) cs old → AreTwins w n (meetings_in (packets_until w (n + 1))) cs new) →
      IsRunTo picks post w n k start ps t → IsRunAhead picks post w n k (meetings_in (packets_until w (n + 1))) start ps t'
  counted_step t t' old new start ps number old_is new_is post_is held_is counts_all is = record {
    carried = is.carried;
    chosen = is.chosen;
    before = is.before;
    few = is.few;
    twins = rw new_is (counts_all is.carried (rw old_is (first_twins t start ps number is)));
    cargo_is = rw post_is is.cargo_is;
    mail = mail_same post w n k is.carried t t' post_is held_is is.mail;
  }

  -- all of them have gone their way
  pub all_sent : (t : Traffic O C) (start : Offering S) (ps : List S) (l : ℕ) → l ≡ length (packets_until w (n + 1)) →
      IsRunAhead picks post w n l (meetings_in (packets_until w (n + 1))) start ps t → IsRunTo picks post w n l start ps t
  all_sent t start ps l number is =
      subst (λ (xs : List Packet). IsRunAhead picks post w n l (meetings_in xs) start ps t) (sym (prefix_at w (n + 1) l (omega (arith, h)) number)) is

  -- an epoch of one switch ends
  pub ended_one : (t t' : Traffic O C) (s : ℕ) (x : TwinsState) (start : Offering S) (ps : List S) → k ≡ length (packets_until w n)
      → step_in w n ≡ steps.End s → s < length w.switches → x ≡ slice_index_or t.twins.items s x →
      t'.twins.items ≡ slice_set t.twins.items s (with_end x) → t'.post ≡ t.post → t'.held.items ≡ t.held.items → IsRunTo picks post w n k start ps t
      → IsRunTo picks post w (n + 1) k start ps t'
  ended_one t t' s x start ps number step inside found set post_is held_is is =
      let number' : k ≡ length (packets_until w (n + 1)) = quiet_number w n k h number (rw step refl) in
      let after = twins_end w n s is.carried t.twins.items x h step (omega (arith, inside, is.twins.count)) (first_twins t start ps number is) in
      stepped t t' start ps number' (rw step refl) post_is held_is is
      (rw (set ∙ ap (λ (y : TwinsState). slice_set t.twins.items s (with_end y)) found, prefix_at w (n + 1) k (omega (arith, h)) number') after)

  -- and one of every switch
  pub ended_every : (t t' : Traffic O C) (start : Offering S) (ps : List S) → k ≡ length (packets_until w n) → step_in w n ≡ steps.EndAll →
      t'.twins.items ≡ map with_end t.twins.items → t'.post ≡ t.post → t'.held.items ≡ t.held.items → IsRunTo picks post w n k start ps t
      → IsRunTo picks post w (n + 1) k start ps t'
  ended_every t t' start ps number step set post_is held_is is =
      let number' : k ≡ length (packets_until w (n + 1)) = quiet_number w n k h number (rw step refl) in
      let after = twins_end_all w n is.carried t.twins.items h step (first_twins t start ps number is) in
      stepped t t' start ps number' (rw step refl) post_is held_is is (rw (set, prefix_at w (n + 1) k (omega (arith, h)) number') after)

  -- a release
  pub released_step : (t t' : Traffic O C) (start : Offering S) (ps : List S) → k ≡ length (packets_until w n) → step_in w n ≡ steps.Release
      → t'.twins.items ≡ t.twins.items → t'.held.items ≡ [] →
      length (post.inboxes t'.post) ≡ length (post.inboxes t.post)
      → ((v : Scenario) (cs : List model.Carry) → post.notes t.post v cs → post.notes t'.post v cs) →
      ((ds hs : List (ℕ × Column)) → AreHeld (post.stands t.post) hs t.held.items → AreDelivered IsPacked ds (post.inboxes t.post)
      → AreDelivered IsPacked (ds ++ reverse hs) (post.inboxes t'.post)) →
      IsRunTo picks post w n k start ps t → IsRunTo picks post w (n + 1) k start ps t'
  released_step t t' start ps number step twins empty hosts noted came is =
      let cs = is.carried in
      let number' : k ≡ length (packets_until w (n + 1)) = quiet_number w n k h number (rw step refl) in
      let ends : (s : ℕ) → is_end_of s (step_in w n) ≡ false = λ s. rw step refl in
      let before : arrived_to w n k ≡ arrivals_until w n = arrived_start w n k (omega (arith, h)) number in
      let waits : held_to w n k ≡ held w n = held_start w n k (omega (arith, h)) number in
      let after : arrived_to w (n + 1) k ≡ arrivals_until w n ++ reverse (held w n) = arrived_start w (n + 1) k (omega (arith, h)) number'
      ∙ arrivals_released w n h step in
      let none : held_to w (n + 1) k ≡ [] = held_start w (n + 1) k (omega (arith, h)) number' ∙ held_released w n h (ap is_release step) in
      let all = came (deliveries w cs (arrivals_until w n)) (deliveries w cs (held w n)) (rw waits at is.mail.held) (rw before at is.mail.arrived) in
      let joined : deliveries w cs (arrived_to w (n + 1) k) ≡ deliveries w cs (arrivals_until w n) ++ reverse (deliveries w cs (held w n)) =
      ap (deliveries w cs) after ∙ deliveries_append w cs (arrivals_until w n) (reverse (held w n))
      ∙ ap (λ ds. deliveries w cs (arrivals_until w n) ++ ds) (deliveries_reverse w cs (held w n)) in
      record {
        carried = cs;
        chosen = is.chosen;
        before = is.before;
        few = is.few;
        twins = rw twins (twins_stay w n (meetings_in (packets_to w k)) cs t.twins.items h ends is.twins);
        cargo_is = nothing_yet (post.stands t'.post) w cs k (subst (λ (a : ℕ). All (IsBefore a) cs) (add-zero k) is.before);
        mail = record {
          noted = noted w cs is.mail.noted;
          hosts = hosts ∙ is.mail.hosts;
          arrived = rw joined all;
          held = rw (empty, none) tt;
          held_inside = rw empty (All-nil (IsInside (length w.hosts)));
        };
      }

-- a Vec that was lent as a slice holds what the slice holds
pub refill : {X : Type 0} (n : ℕ) (xs ys : List X) → length ys ≡ n → take n (ys ++ drop (length ys) xs) ≡ ys
refill n xs ys same = ap (λ (a : ℕ). take a (ys ++ drop (length ys) xs)) (sym same) ∙ take-append_seam ys (drop (length ys) xs)
