-- What a run of the network has come to.
use Rattle.std.specs.Prelude.{◌≡◌, ℕ, ◌+◌, ◌≤◌, List, [], length, replicate, All, Option, None}
use Rattle.lg_model.specs.Scenario.{Scenario}
use Rattle.lg_model.specs.Trace.{Meeting, meetings, meetings_in}
use Rattle.lg_model.specs.Matching.{MatchedOption}
use Rattle.lg_model.specs.Carrying as model
use Rattle.lg_model.specs.Carrying.{IsAllowed}
use Rattle.lg_model.specs.Offering.{Picks, Offering, IsPick, offering, HaveChosen}
use Rattle.lg_model.specs.Runs.{Runs}
use Rattle.lg_model.specs.TwinsState.{AreTwins}
use Rattle.lg_model.specs.Arriving.{cargo, deliveries}
use Rattle.lg_model.specs.Midway.{packets_to, arrived_to, held_to, AreDelivered}
use Rattle.sketchlet_wire.specs.Packing.{IsPacked}
use Rattle.path_sim.specs.declared.post.Post.{Ghosts}
use Rattle.path_sim.specs.declared.traffic.Traffic.{Traffic}
use Rattle.path_sim.specs.declared.running.Ran.{Ran}
use Rattle.path_sim.specs.Parts.{IsBefore, meetings_to, some_count}
use Rattle.path_sim.specs.Holding.{AreHeld, IsInside}
use Rattle.path_sim.specs.Arrived.{HaveArrived}

-- How far a run is: the step, the number of the packet that is under way or next, the meetings that were counted, and
-- those whose offers were made.
pub record Progress : Type 0 where
  pub step : ℕ
  pub number : ℕ
  pub counted : List Meeting
  pub offered : List Meeting

-- Before the packet of number k within the step at n, with these meetings counted.
abbrev pub before_counted : Scenario → (n k : ℕ) → List Meeting → Progress
before_counted w n k counted = record { step = n; number = k; counted = counted; offered = meetings_in (packets_to w k) }

-- The same where just the packets before it are counted.
abbrev pub before_packet : Scenario → (n k : ℕ) → Progress
before_packet w n k = before_counted w n k (meetings_in (packets_to w k))

-- With these meetings counted, the packet of number k within the step at n was offered at that many hops.
abbrev pub at_hops : Scenario → (n k : ℕ) → List Meeting → (offered : ℕ) → Progress
at_hops w n k counted offered = record { step = n; number = k; counted = counted; offered = meetings_to w k offered }

-- It was offered at all hops that it reaches.
abbrev pub after_packet : Scenario → (n k : ℕ) → List Meeting → Progress
after_packet w n k counted = record { step = n; number = k; counted = counted; offered = meetings_in (packets_to w (k + 1)) }

-- For that carry list what came to the hosts and what is held is what the packets before number k within the step at n
-- brought.
pub record IsMail {O C : Type 0} (post : Ghosts O C) (w : Scenario) (n k : ℕ) (cs : List model.Carry) (t : Traffic O C) : Type 0 where
  pub noted : post.notes t.post w cs
  pub hosts : length (post.inboxes t.post) ≡ length w.hosts
  pub arrived : AreDelivered IsPacked (deliveries w cs (arrived_to w n k)) (post.inboxes t.post)
  pub held : AreHeld (post.stands t.post) (deliveries w cs (held_to w n k)) t.held.items
  pub held_inside : All (IsInside (length w.hosts)) t.held.items

-- For that carry list it is what the packet of number k carries.
abbrev pub IsCargo : {O C : Type 0} → Ghosts O C → Scenario → (k : ℕ) → List model.Carry → Traffic O C → Option C → Type 0
IsCargo post w k cs t hand = MatchedOption (post.stands t.post) hand (cargo w cs k)

-- A run that began with these pickers is that far: there is a carry list that the answers of the pickers give, by these
-- packets and at most one a packet, the twins and the mail are those of this list, and the cargo is what the packet
-- that is under way carries.
pub record IsRun {S O C : Type 0} (picks : Picks S) (post : Ghosts O C) (w : Scenario) (at : Progress) (start : Offering S) (ps : List S)
    (t : Traffic O C) (in_hand : Option C) : Type 0 where
  pub carried : List model.Carry
  pub chosen : Runs (IsPick picks w) at.offered start (offering ps carried)
  pub before : All (IsBefore (at.number + some_count in_hand)) carried
  pub few : length carried ≤ at.number + some_count in_hand
  pub twins : AreTwins w at.step at.counted carried t.twins.items
  pub cargo_is : IsCargo post w at.number carried t in_hand
  pub mail : IsMail post w at.step at.number carried t

-- No packet is under way.
abbrev pub IsRunTo : {S O C : Type 0} → Picks S → Ghosts O C → Scenario → (n k : ℕ) → Offering S → List S → Traffic O C → Type 0
IsRunTo picks post w n k start ps t = IsRun picks post w (before_packet w n k) start ps t None

-- The same while these meetings are counted: those of all packets of a step are, before the first of them is sent.
abbrev pub IsRunAhead : {S O C : Type 0} → Picks S → Ghosts O C → Scenario → (n k : ℕ) → List Meeting → Offering S → List S → Traffic O C → Type 0
IsRunAhead picks post w n k counted start ps t = IsRun picks post w (before_counted w n k counted) start ps t None

-- Nothing was posted yet.
pub record IsFresh {O C : Type 0} (post : Ghosts O C) (w : Scenario) (o : O) : Type 0 where
  pub noted : post.notes o w []
  pub inboxes : post.inboxes o ≡ replicate (length w.hosts) []

-- The pickers went from the first list to the second, and there is the carry list that their answers gave: it is
-- allowed, each host has the columns that it brings, and the twins are those of it.
pub record HasRun {S O C : Type 0} (picks : Picks S) (post : Ghosts O C) (w : Scenario) (old new : List S) (ran : Ran O) : Type 0 where
  pub carried : List model.Carry
  pub noted : post.notes ran.post w carried
  pub chosen : HaveChosen picks w old new carried
  pub allowed : IsAllowed w carried
  pub arrived : HaveArrived w carried (post.inboxes ran.post)
  pub twins : AreTwins w (length w.steps) (meetings w) carried ran.twins.items
