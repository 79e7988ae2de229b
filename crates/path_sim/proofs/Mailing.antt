-- What came to the hosts, and what is held.
use Rattle.std.specs.Prelude.{◌≡◌, ℕ, ◌≤◌, List, [], ◌∷◌, length}
use Rattle.std.proofs.Common.{ap, ◌∙◌}
use Rattle.lg_model.specs.Scenario.{Scenario}
use Rattle.lg_model.specs.Trace.{packets_until}
use Rattle.lg_model.specs.Carrying as model
use Rattle.lg_model.specs.Carrying.{Adds}
use Rattle.lg_model.specs.Arriving.{deliveries}
use Rattle.lg_model.specs.Columns.{Column}
use Rattle.lg_model.specs.Midway.{arrived_to, held_to}
use Rattle.lg_model.proofs.Arrivals.{deliveries_stay, arrived_below, held_to_below}
use Rattle.path_sim.specs.declared.inbox.Held.{Held}
use Rattle.path_sim.specs.declared.post.Post.{Ghosts}
use Rattle.path_sim.specs.declared.traffic.Traffic.{Traffic}
use Rattle.path_sim.specs.Holding.{AreHeld}
use Rattle.path_sim.specs.Running.{IsMail}

-- whatever stood for a column still does
pub held_still : {C : Type 0} (stands stands' : C → Column → Type 0) (hs : List (Held C)) (ds : List (ℕ × Column))
    → ((c : C) (column : Column) → stands c column → stands' c column) →
    AreHeld stands ds hs → AreHeld stands' ds hs
held_still stands stands' [] [] stays h = tt
held_still stands stands' [] (d ∷ ds) stays h = absurd h
held_still stands stands' (x ∷ hs) [] stays h = absurd h
held_still stands stands' (x ∷ hs) (d ∷ ds) stays h = ((h.0.0, stays x.cargo d.1 h.0.1), held_still stands stands' hs ds stays h.1)

-- later entries of the carry list change nothing of it
pub mail_stays : {O C : Type 0} (post : Ghosts O C) (w : Scenario) (n k : ℕ) (cs cs' : List model.Carry) (t t' : Traffic O C) → n ≤ length w.steps
    → length (packets_until w n) ≤ k → Adds k cs cs' →
    post.notes t'.post w cs' → post.inboxes t'.post ≡ post.inboxes t.post
    → ((c : C) (column : Column) → post.stands t.post c column → post.stands t'.post c column) → t'.held.items ≡ t.held.items →
    IsMail post w n k cs t → IsMail post w n k cs' t'
mail_stays post w n k cs cs' t t' h low adds noted inboxes stays held_is is =
    let came : deliveries w cs' (arrived_to w n k) ≡ deliveries w cs (arrived_to w n k) =
    ap (λ (xs : List model.Carry). deliveries w xs (arrived_to w n k)) adds.is
    ∙ deliveries_stay w cs adds.more k (arrived_to w n k) adds.late (arrived_below w n k h low) in
    let waits : deliveries w cs' (held_to w n k) ≡ deliveries w cs (held_to w n k) =
    ap (λ (xs : List model.Carry). deliveries w xs (held_to w n k)) adds.is
    ∙ deliveries_stay w cs adds.more k (held_to w n k) adds.late (held_to_below w n k low) in
    record {
      noted = noted;
      hosts = ap length inboxes ∙ is.hosts;
      arrived = rw (came, inboxes) is.arrived;
      held = rw (waits, held_is) (held_still (post.stands t.post) (post.stands t'.post) t.held.items (deliveries w cs (held_to w n k)) stays is.held);
      held_inside = rw held_is is.held_inside;
    }

-- nor does a change of the twins
pub mail_same : {O C : Type 0} (post : Ghosts O C) (w : Scenario) (n k : ℕ) (cs : List model.Carry) (t t' : Traffic O C) → t'.post ≡ t.post
    → t'.held.items ≡ t.held.items → IsMail post w n k cs t → IsMail post w n k cs t'
mail_same post w n k cs t t' post_is held_is is = record {
  noted = rw post_is is.noted;
  hosts = rw post_is is.hosts;
  arrived = rw post_is is.arrived;
  held = rw (post_is, held_is) is.held;
  held_inside = rw held_is is.held_inside;
}
