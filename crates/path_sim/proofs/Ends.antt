-- The beginning and the end of a run.
use Rattle.std.specs.Prelude.{◌≡◌, ℕ, ◌<◌, List, [], ◌++◌, length, reverse, replicate, slice_index_or, All}
use Rattle.std.specs.List.{flat_map, enumerate_from}
use Rattle.std.proofs.Common.{refl, sym, ap, ◌∙◌, subst, arith, take_all}
use Rattle.std.proofs.lemmas.List.{length-replicate, get_or-replicate}
use Rattle.std.proofs.lemmas.List.Elements.{All-nil, All-replicate}
use Rattle.lg_model.specs.Scenario.{Scenario}
use Rattle.lg_model.specs.Trace.{Packet, packets, packets_of, packets_until, meetings_in}
use Rattle.lg_model.specs.Matching.{Matched}
use Rattle.lg_model.specs.Carrying as model
use Rattle.lg_model.specs.Offering.{Picks, Offering, IsPick, offering}
use Rattle.lg_model.specs.Runs.{Runs}
use Rattle.lg_model.specs.TwinsState.{TwinsState, AreTwins, new_twins}
use Rattle.lg_model.specs.Arriving.{brought, arrivals, arrivals_at, arrivals_until, held, deliveries}
use Rattle.lg_model.specs.Columns.{Column}
use Rattle.lg_model.specs.Midway.{packets_to, arrived_to, held_to, AreDelivered}
use Rattle.lg_model.proofs.Twinning.{twins_start}
use Rattle.lg_model.proofs.Arrivals.{arrived_start, held_start, deliveries_append, deliveries_reverse}
use Rattle.lg_model.proofs.Allowing.{allowed}
use Rattle.lg_model.proofs.ArrivalCounts.{few_brought}
use Rattle.lg_model.proofs.Pairing.{matched_length}
use Rattle.sketchlet_wire.specs.declared.packed.Packed.{Packed}
use Rattle.sketchlet_wire.specs.Packing.{IsPacked}
use Rattle.path_sim.specs.declared.post.Post.{Ghosts}
use Rattle.path_sim.specs.declared.running.Ran.{Ran}
use Rattle.path_sim.specs.declared.traffic.Traffic.{Traffic}
use Rattle.path_sim.specs.Parts.{IsBefore}
use Rattle.path_sim.specs.Holding.{AreHeld, IsInside}
use Rattle.path_sim.specs.Running.{IsRunTo, IsFresh, HasRun}

-- nothing has happened
pub started : {S O C : Type 0} (picks : Picks S) (post : Ghosts O C) (w : Scenario) (ps : List S) (t : Traffic O C)
    → t.twins.items ≡ replicate (length w.switches) (new_twins w.shape) → IsFresh post w t.post → t.held.items ≡ [] →
    IsRunTo picks post w 0 0 (offering ps []) ps t
started picks post w ps t fresh empty held_is =
    let twins = t.twins.items in
    let at_start : AreTwins w 0 [] [] twins = twins_start w twins (ap length fresh ∙ length-replicate (length w.switches) (new_twins w.shape))
    (subst (All (λ (x : TwinsState). x ≡ new_twins w.shape)) (sym fresh)
    (All-replicate (λ (x : TwinsState). x ≡ new_twins w.shape) (length w.switches) (new_twins w.shape) refl)) in
    let inboxes = post.inboxes t.post in
    let long : length inboxes ≡ length w.hosts = ap length empty.inboxes ∙ length-replicate (length w.hosts) [] in
    let nothing : AreDelivered IsPacked [] inboxes = record {
      each = λ h low.
          let inside : h < length w.hosts = omega (arith, low, long) in
          let row : slice_index_or inboxes h [] ≡ [] = ap (λ (xs : List (List Packed)). slice_index_or xs h []) empty.inboxes
          ∙ get_or-replicate (length w.hosts) h [] [] inside in
          subst (λ (xs : List Packed). Matched IsPacked xs []) (sym row) tt;
    } in
    record {
      carried = [];
      chosen = refl;
      before = All-nil (IsBefore 0);
      few = omega arith;
      twins = at_start;
      cargo_is = tt;
      mail = record {
        noted = empty.noted;
        hosts = long;
        arrived = nothing;
        held = rw held_is tt;
        held_inside = rw held_is (All-nil (IsInside (length w.hosts)));
      };
    }

until_all : (w : Scenario) → packets_until w (length w.steps) ≡ packets w
until_all w = ap (λ xs. flat_map (packets_of w.flows) (enumerate_from 0 xs)) (take_all (length w.steps) w.steps (omega arith))

-- all steps are done
pub all_steps : {S O C : Type 0} (picks : Picks S) (post : Ghosts O C) (w : Scenario) (n k : ℕ) (start : Offering S) (ps : List S) (t : Traffic O C)
    → n ≡ length w.steps → k ≡ length (packets_until w n) →
    IsRunTo picks post w n k start ps t → IsRunTo picks post w (length w.steps) (length (packets w)) start ps t
all_steps picks post w n k start ps t all number is =
    let many : k ≡ length (packets w) = number ∙ ap (λ (a : ℕ). length (packets_until w a)) all ∙ ap length (until_all w) in
    subst (λ (a : ℕ). IsRunTo picks post w a (length (packets w)) start ps t) all (subst (λ (a : ℕ). IsRunTo picks post w n a start ps t) many is)

-- and what is held has arrived
pub run_all : {S O C : Type 0} (picks : Picks S) (post : Ghosts O C) (w : Scenario) (ps qs : List S) (t : Traffic O C) (ran : Ran O)
    → IsRunTo picks post w (length w.steps) (length (packets w)) (offering ps []) qs t → ran.twins.items ≡ t.twins.items →
    length (post.inboxes ran.post) ≡ length (post.inboxes t.post)
    → ((v : Scenario) (cs : List model.Carry) → post.notes t.post v cs → post.notes ran.post v cs) →
    ((ds hs : List (ℕ × Column)) → AreHeld (post.stands t.post) hs t.held.items → AreDelivered IsPacked ds (post.inboxes t.post)
    → AreDelivered IsPacked (ds ++ reverse hs) (post.inboxes ran.post)) →
    HasRun picks post w ps qs ran
run_all picks post w ps qs t ran is twins hosts noted came =
    let cs = is.carried in
    let n = length w.steps in
    let inboxes = post.inboxes ran.post in
    let whole_trace : packets_to w (length (packets w)) ≡ packets w = take_all (length (packets w)) (packets w) (omega arith) in
    let number : length (packets w) ≡ length (packets_until w n) = ap length (sym (until_all w)) in
    let until : arrivals_until w n ≡ flat_map (arrivals_at w) (enumerate_from 0 w.steps) =
    ap (λ xs. flat_map (arrivals_at w) (enumerate_from 0 xs)) (take_all n w.steps (omega arith)) in
    let before : arrived_to w n (length (packets w)) ≡ arrivals_until w n = arrived_start w n (length (packets w)) (omega arith) number in
    let waits : held_to w n (length (packets w)) ≡ held w n = held_start w n (length (packets w)) (omega arith) number in
    let all : AreDelivered IsPacked (deliveries w cs (arrivals_until w n) ++ reverse (deliveries w cs (held w n))) inboxes =
    came (deliveries w cs (arrivals_until w n)) (deliveries w cs (held w n)) (rw waits at is.mail.held) (rw before at is.mail.arrived) in
    let joined : deliveries w cs (arrivals_until w n) ++ reverse (deliveries w cs (held w n)) ≡ deliveries w cs (arrivals w) =
    ap (λ ds. deliveries w cs (arrivals_until w n) ++ ds) (sym (deliveries_reverse w cs (held w n)))
    ∙ sym (deliveries_append w cs (arrivals_until w n) (reverse (held w n)))
    ∙ ap (λ (ks : List ℕ). deliveries w cs (ks ++ reverse (held w n))) until in
    let whole : AreDelivered IsPacked (deliveries w cs (arrivals w)) inboxes =
    subst (λ (ds : List (ℕ × Column)). AreDelivered IsPacked ds inboxes) joined all in
    let chosen = subst (λ (xs : List Packet). Runs (IsPick picks w) (meetings_in xs) (offering ps []) (offering qs cs)) whole_trace is.chosen in
    record {
      carried = cs;
      noted = noted w cs is.mail.noted;
      chosen = chosen;
      allowed = allowed picks w ps (offering qs cs) chosen;
      arrived = record {
        hosts = hosts ∙ is.mail.hosts;
        few = λ h low. let long = matched_length IsPacked (slice_index_or inboxes h []) (brought w cs h) (whole.each h low) in omega
            (arith, long, few_brought w cs h);
        each = whole.each;
      };
      twins = rw twins (subst (λ (xs : List Packet). AreTwins w n (meetings_in xs) cs t.twins.items) whole_trace is.twins);
    }
