-- From one packet to the next.
use Rattle.std.specs.Prelude.{◌≡◌, ℕ, ◌+◌, ◌≤◌, List, length, Option, Some, None, All}
use Rattle.std.proofs.Common.{sym, subst, arith, add-zero}
use Rattle.lg_model.specs.Scenario.{Scenario}
use Rattle.lg_model.specs.Trace.{Meeting}
use Rattle.lg_model.specs.Matching.{MatchedOption}
use Rattle.lg_model.specs.Carrying as model
use Rattle.lg_model.specs.Offering.{Picks, Offering}
use Rattle.lg_model.specs.Columns.{Column}
use Rattle.lg_model.specs.Arriving.{cargo}
use Rattle.lg_model.proofs.Cargo.{cargo_none}
use Rattle.path_sim.specs.declared.post.Post.{Ghosts}
use Rattle.path_sim.specs.declared.traffic.Traffic.{Traffic}
use Rattle.path_sim.specs.Parts.{IsBefore, some_count}
use Rattle.path_sim.specs.Running.{IsMail, IsRun, IsRunAhead, after_packet}
use Rattle.path_sim.proofs.Offers.{none_carried, before_more}

before_next : {C : Type 0} (k : ℕ) (cs : List model.Carry) (hand : Option C) → All (IsBefore (k + some_count hand)) cs → All (IsBefore (k + 1)) cs
before_next k cs None h = before_more k cs (subst (λ (a : ℕ). All (IsBefore a) cs) (add-zero k) h)
before_next k cs (Some p) h = h

few_next : {C : Type 0} (k n : ℕ) (hand : Option C) → n ≤ k + some_count hand → n ≤ k + 1
few_next k n None h = omega (arith, h)
few_next k n (Some p) h = h

-- a packet that is not sent yet carries nothing
pub nothing_yet : {C : Type 0} (stands : C → Column → Type 0) (w : Scenario) (cs : List model.Carry) (k : ℕ) → All (IsBefore k) cs
    → MatchedOption stands None (cargo w cs k)
nothing_yet stands w cs k before = subst (MatchedOption stands None) (sym (cargo_none w cs k (none_carried k cs before))) tt

-- the packet of number k has gone its way, and has settled
pub next_packet : {S O C : Type 0} (picks : Picks S) (post : Ghosts O C) (w : Scenario) (n k : ℕ) (counted : List Meeting) (t t' : Traffic O C) (hand : Option C)
    (start : Offering S) (ps : List S) → t'.twins ≡ t.twins →
    (is : IsRun picks post w (after_packet w n k counted) start ps t hand) → IsMail post w n (k + 1) is.carried t'
    → IsRunAhead picks post w n (k + 1) counted start ps t'
next_packet picks post w n k counted t t' hand start ps twins is mail =
    let before = before_next k is.carried hand is.before in
    record {
      carried = is.carried;
      chosen = is.chosen;
      before = subst (λ (a : ℕ). All (IsBefore a) is.carried) (sym (add-zero (k + 1))) before;
      few = omega (arith, few_next k (length is.carried) hand is.few);
      twins = rw twins is.twins;
      cargo_is = nothing_yet (post.stands t'.post) w is.carried (k + 1) before;
      mail = mail;
    }
