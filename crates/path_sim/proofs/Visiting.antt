-- One visit of a packet to a switch.
use Rattle.std.specs.Prelude.{◌≡◌, ℕ, zero, suc, true, is_some, slice_index, length, ◌+◌, ◌-◌, ◌<◌, ◌≤◌, false, List, [], ◌∷◌, ◌++◌, length, slice_index_or, slice_set, slice_get, Option, Some, None, All}
use Rattle.std.proofs.Common.{refl, sym, ap, ◌∙◌, subst, arith, add-zero}
use Rattle.std.proofs.lemmas.Bool.{false≢true}
use Rattle.std.proofs.lemmas.List.{length_push}
use Rattle.std.proofs.lemmas.List.Elements.{All-push, All-cons, All-nil}
use Rattle.lg_model.specs.Scenario.{Scenario, ended}
use Rattle.lg_model.specs.Trace.{Packet, Meeting, reach, meeting_of, meetings_of, ended_before}
use Rattle.lg_model.specs.Carrying as model
use Rattle.lg_model.specs.Carrying.{Adds, Offer, carry_at, hops_left, is_offered, with_choice}
use Rattle.lg_model.specs.Arriving.{column_of, packet_at}
use Rattle.lg_model.specs.Arriving.{cargo as cargo_of}
use Rattle.lg_model.specs.Columns.{Column}
use Rattle.lg_model.specs.Offering.{Picks, IsPick, IsLawful, Offering, offering}
use Rattle.lg_model.specs.TwinsState.{TwinsState, IsTwinsState, offer_of, with_put}
use Rattle.lg_model.proofs.Cargo.{cargo_new}
use Rattle.lg_model.proofs.Running.{runs_more}
use Rattle.path_sim.specs.declared.carry.Carry.{Carry}
use Rattle.path_sim.specs.declared.meeting.Visit.{Visit}
use Rattle.path_sim.specs.declared.post.Post.{Ghosts}
use Rattle.path_sim.specs.declared.traffic.Traffic.{Traffic}
use Rattle.path_sim.specs.Parts.{carry_is, meeting_is, meetings_to, frozen_column, IsBefore}
use Rattle.path_sim.specs.Sending.{IsVisit}
use Rattle.path_sim.specs.Taking.{MayTake}
use Rattle.path_sim.specs.Running.{IsRun, at_hops}
use Rattle.path_sim.proofs.Offers.{offer_is, put_all, offer_yes, offer_no, in_hand_if, pick_none, column_is, empty_hand, before_more}
use Rattle.path_sim.proofs.Walking.{length_meetings, meeting_at, meetings_to_more}
use Rattle.path_sim.proofs.Mailing.{mail_stays}

module _ {S O C : Type 0} (picks : Picks S) (post : Ghosts O C) (w : Scenario) (m : Visit) (visit : IsVisit w m) (counted : List Meeting) where
  pub epoch_is : (t : Traffic O C) (twin : TwinsState) → twin ≡ slice_index_or t.twins.items m.switch_at twin
      → (start : Offering S) (ps : List S) (hand : Option C) →
      IsRun picks post w (at_hops w m.step_at m.number counted (m.hop - 1)) start ps t hand → twin.epoch ≡ ended w m.switch_at m.step_at
  epoch_is t twin found start ps hand is =
      let inside : m.switch_at < length t.twins.items = omega (arith, is.twins.count, visit.switch) in
      ap (λ (x : TwinsState). x.epoch) found ∙ (is.twins.each m.switch_at twin inside).epoch

  -- the packet goes on without an offer
  pub passed : (t : Traffic O C) (start : Offering S) (ps : List S) (hand : Option C)
      (is : IsRun picks post w (at_hops w m.step_at m.number counted (m.hop - 1)) start ps t hand) →
      is_offered w is.carried (meeting_is m) ≡ false → IsRun picks post w (at_hops w m.step_at m.number counted m.hop) start ps t hand
  passed t start ps hand is none = record {
    carried = is.carried;
    chosen = rw visit.next (runs_more (IsPick picks w) (meetings_to w m.number (m.hop - 1)) (meeting_is m) start (offering ps is.carried)
        (offering ps is.carried) is.chosen
        (pick_none picks w (meeting_is m) ps is.carried none));
    before = is.before;
    few = is.few;
    twins = is.twins;
    cargo_is = is.cargo_is;
    mail = is.mail;
  }

  -- what the picker of the switch answers to its offer
  pub record Answers (t : Traffic O C) (ps : List S) (twin : TwinsState) (p p' : S) (answer : Option ℕ) : Type 0 where
    pub found : twin ≡ slice_index_or t.twins.items m.switch_at twin
    pub some : 0 < ended w m.switch_at m.step_at
    pub its : slice_get ps m.switch_at ≡ Some p
    pub says : picks p (m.hops - m.hop + 1) (offer_of twin) answer p'
    pub lawful : IsLawful (m.hops - m.hop + 1) (offer_of twin) answer

  pub answered : (t : Traffic O C) (ps : List S) (twin : TwinsState) (p p' : S) (answer : Option ℕ) → Answers t ps twin p p' answer
      → (start : Offering S) (is : IsRun picks post w (at_hops w m.step_at m.number counted (m.hop - 1)) start ps t None) →
      IsPick picks w (meeting_is m) (offering ps is.carried) (offering (slice_set ps m.switch_at p') (with_choice w (meeting_is m) is.carried answer))
  answered t ps twin p p' answer a start is =
      let cs = is.carried in
      let inside : m.switch_at < length t.twins.items = omega (arith, is.twins.count, visit.switch) in
      let same = ap offer_of a.found ∙ offer_is w (meeting_is m) counted cs t.twins.items twin is.twins inside in
      let none : model.carries cs m.number ≡ false = empty_hand (post.stands t.post) w cs m.number is.cargo_is in
      record {
        offers = λ yes_offer. record {
          before = p;
          after = p';
          answer = answer;
          its = a.its;
          says = subst (λ (o : Offer). picks p (hops_left (meeting_is m)) o answer p') same a.says;
          lawful = subst (λ (o : Offer). IsLawful (hops_left (meeting_is m)) o answer) same a.lawful;
          pickers = refl;
          carried = refl;
        };
        passes = λ no_offer. absurd (false≢true (sym no_offer ∙ offer_yes w (meeting_is m) cs a.some none));
      }

  pub emptied : (t : Traffic O C) (ps : List S) (hand : Option C) → hand ≡ None → (start : Offering S) →
      IsRun picks post w (at_hops w m.step_at m.number counted (m.hop - 1)) start ps t hand
      → IsRun picks post w (at_hops w m.step_at m.number counted (m.hop - 1)) start ps t None
  emptied t ps hand empty start is = subst (IsRun picks post w (at_hops w m.step_at m.number counted (m.hop - 1)) start ps t) empty is

  -- no column
  pub declined : (t : Traffic O C) (ps : List S) (twin : TwinsState) (p p' : S) → Answers t ps twin p p' None → (start : Offering S) →
      IsRun picks post w (at_hops w m.step_at m.number counted (m.hop - 1)) start ps t None
      → IsRun picks post w (at_hops w m.step_at m.number counted m.hop) start (slice_set ps m.switch_at p') t None
  declined t ps twin p p' a start is = record {
    carried = is.carried;
    chosen = rw visit.next (runs_more (IsPick picks w) (meetings_to w m.number (m.hop - 1)) (meeting_is m) start (offering ps is.carried)
        (offering (slice_set ps m.switch_at p') is.carried) is.chosen
        (answered t ps twin p p' None a start is));
    before = is.before;
    few = is.few;
    twins = is.twins;
    cargo_is = is.cargo_is;
    mail = is.mail;
  }

  -- a column, which the packet may take
  abbrev pub entry : (e j : ℕ) → Carry
  entry e j = record { packet = m.number; hop = m.hop; switch_at = m.switch_at; switch = m.switch; epoch = e - 1; index = j }

  pub may_take : (t : Traffic O C) (ps : List S) (twin : TwinsState) (p p' : S) (j e : ℕ) → Answers t ps twin p p' (Some j) → e ≡ twin.epoch
      → (start : Offering S) (is : IsRun picks post w (at_hops w m.step_at m.number counted (m.hop - 1)) start ps t None) →
      MayTake w is.carried twin (entry e j)
  may_take t ps twin p p' j e a epoch start is =
      let inside : m.switch_at < length t.twins.items = omega (arith, is.twins.count, visit.switch) in
      let its : IsTwinsState w m.step_at counted is.carried m.switch_at twin =
      subst (IsTwinsState w m.step_at counted is.carried m.switch_at) (sym a.found) (is.twins.each m.switch_at twin inside) in
      record {
        few = omega (arith, is.few, visit.few);
        switch = visit.switch;
        name = visit.name;
        index = rw (← its.shape) a.lawful.index;
        shape = its.shape;
        epoch = omega (arith, epoch, its.epoch, a.some);
        column = ap (λ (x : TwinsState). frozen_column x m.switch j) a.found
            ∙ column_is w (meeting_is m) counted is.carried t.twins.items twin j m.switch is.twins inside a.some visit.name
            ∙ ap (λ (b : ℕ). column_of w (record { packet = m.number; hop = m.hop; switch_at = m.switch_at; epoch = b - 1; index = j }))
            (sym (epoch ∙ its.epoch));
      }

  pub taken : (t t' : Traffic O C) (ps : List S) (twin : TwinsState) (p p' : S) (j e : ℕ) (cargo : C) → Answers t ps twin p p' (Some j) → e ≡ twin.epoch →
      ((v : Scenario) (cs : List model.Carry) → post.notes t.post v cs → MayTake v cs twin (entry e j)
      → post.notes t'.post v (cs ++ carry_is (entry e j) ∷ [])) →
      ((v : Scenario) (cs : List model.Carry) → post.notes t.post v cs → MayTake v cs twin (entry e j)
      → post.stands t'.post cargo (column_of v (carry_is (entry e j)))) →
      ((c : C) (column : Column) → post.stands t.post c column → post.stands t'.post c column) → post.inboxes t'.post ≡ post.inboxes t.post →
      (now : TwinsState) → now ≡ slice_index_or t.twins.items m.switch_at now → t'.twins.items ≡ slice_set t.twins.items m.switch_at (with_put now j)
      → t'.held.items ≡ t.held.items → (start : Offering S) →
      IsRun picks post w (at_hops w m.step_at m.number counted (m.hop - 1)) start ps t None
      → IsRun picks post w (at_hops w m.step_at m.number counted m.hop) start (slice_set ps m.switch_at p') t' (Some cargo)
  taken t t' ps twin p p' j e cargo a epoch noted stands stays inboxes now now_is put held_is start is =
      let cs = is.carried in
      let may = may_take t ps twin p p' j e a epoch start is in
      let inside : m.switch_at < length t.twins.items = omega (arith, is.twins.count, visit.switch) in
      let its : IsTwinsState w m.step_at counted cs m.switch_at (slice_index_or t.twins.items m.switch_at twin) =
      is.twins.each m.switch_at twin inside in
      let ended_is : e ≡ ended_before w (meeting_is m) = epoch ∙ ap (λ (x : TwinsState). x.epoch) a.found ∙ its.epoch in
      let entry_is : carry_is (entry e j) ≡ carry_at w (meeting_is m) j =
      λ i. record { packet = m.number; hop = m.hop; switch_at = m.switch_at; epoch = ended_is i - 1; index = j } in
      let cs' = cs ++ carry_is (entry e j) ∷ [] in
      let more : cs' ≡ cs ++ carry_at w (meeting_is m) j ∷ [] = ap (λ (x : model.Carry). cs ++ x ∷ []) entry_is in
      let none : model.carries cs m.number ≡ false = empty_hand (post.stands t.post) w cs m.number is.cargo_is in
      let there : cargo_of w cs' m.number ≡ Some (column_of w (carry_is (entry e j))) = ap (λ (xs : List model.Carry). cargo_of w xs m.number) more
      ∙ cargo_new w cs (meeting_is m) j none ∙ ap (λ (x : model.Carry). Some (column_of w x)) (sym entry_is) in
      let adds : Adds m.number cs cs' = record {
        more = carry_is (entry e j) ∷ [];
        is = refl;
        late =
            All-cons (λ (c : model.Carry). m.number ≤ c.packet) (carry_is (entry e j)) [] (let here : m.number ≤ m.number = omega arith in here)
            (All-nil (λ (c : model.Carry). m.number ≤ c.packet));
      } in
      record {
        carried = cs';
        chosen = rw visit.next (runs_more (IsPick picks w) (meetings_to w m.number (m.hop - 1)) (meeting_is m) start (offering ps cs)
            (offering (slice_set ps m.switch_at p') cs') is.chosen
            (rw more (answered t ps twin p p' (Some j) a start is)));
        before = All-push (IsBefore (m.number + 1)) cs (carry_is (entry e j))
            (before_more m.number cs (subst (λ (b : ℕ). All (IsBefore b) cs) (add-zero m.number) is.before))
            (let here : m.number < m.number + 1 = omega arith in here);
        few = omega (arith, is.few, length_push cs (carry_is (entry e j)));
        twins = put_all w (meeting_is m) counted cs cs' t.twins.items t'.twins.items now j is.twins inside a.some may.index more
            (put ∙ ap (λ (x : TwinsState). slice_set t.twins.items m.switch_at (with_put x j)) now_is);
        cargo_is = rw there (stands w cs is.mail.noted may);
        mail = mail_stays post w m.step_at m.number cs cs' t t' visit.inside visit.first adds (noted w cs is.mail.noted may) inboxes stays held_is is.mail;
      }

-- a packet that carries a column is offered none at the hops that are left
pub rides : {S O C : Type 0} (picks : Picks S) (post : Ghosts O C) (w : Scenario) (n k : ℕ) (counted : List Meeting) (t : Traffic O C) (start : Offering S)
    (ps : List S) (hand : Option C) (hop left : ℕ) → is_some hand ≡ true → reach (packet_at w k) ≤ length (packet_at w k).flow.path
    → hop + left ≡ length (meetings_of (k, packet_at w k)) →
    IsRun picks post w (at_hops w n k counted hop) start ps t hand → IsRun picks post w (at_hops w n k counted (hop + left)) start ps t hand
rides picks post w n k counted t start ps hand hop zero some inside all is =
    subst (λ (a : ℕ). IsRun picks post w (at_hops w n k counted a) start ps t hand) (let e : hop ≡ hop + 0 = omega arith in e) is
rides picks post w n k counted t start ps hand hop (suc left) some inside all is =
    let p : Packet = packet_at w k in
    let m : Meeting = meeting_of k p (hop, slice_index p.flow.path hop) in
    let low : hop < reach p = omega (arith, all, length_meetings k p inside) in
    let next : meetings_to w k (hop + 1) ≡ meetings_to w k hop ++ m ∷ [] = meetings_to_more w k hop m m (omega (arith, all)) (meeting_at k p hop m low inside) in
    let carries = in_hand_if (post.stands t.post) w is.carried k hand some is.cargo_is in
    let one : IsRun picks post w (at_hops w n k counted (hop + 1)) start ps t hand = record {
      carried = is.carried;
      chosen = rw next (runs_more (IsPick picks w) (meetings_to w k hop) m start (offering ps is.carried) (offering ps is.carried) is.chosen
          (pick_none picks w m ps is.carried (offer_no w m is.carried carries)));
      before = is.before;
      few = is.few;
      twins = is.twins;
      cargo_is = is.cargo_is;
      mail = is.mail;
    } in
    subst (λ (a : ℕ). IsRun picks post w (at_hops w n k counted a) start ps t hand) (let e : (hop + 1) + left ≡ hop + suc left = omega arith in e)
    (rides picks post w n k counted t start ps hand (hop + 1) left some inside (omega (arith, all)) one)
