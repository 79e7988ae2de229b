-- What becomes of a packet after its last hop.
use Rattle.std.specs.Prelude.{◌≡◌, ℕ, ◌+◌, cond, List, [], ◌∷◌, ◌++◌, length, reverse, slice_index_or, Option, Some, None, All, Result, Ok, Err, IfOk}
use Rattle.std.specs.Option.{option_map}
use Rattle.std.proofs.Common.{refl, sym, ap, ◌∙◌, subst, arith, append-nil, append_assoc}
use Rattle.std.proofs.lemmas.List.{get_or_append_left, length_push, reverse-append}
use Rattle.std.proofs.lemmas.List.Elements.{All-push}
use Rattle.lg_model.specs.declared.scenario.Fate.{Fate}
use Rattle.lg_model.specs.declared.scenario.Fate.TheVariants.{Straight, Lost, Twice, Late}
use Rattle.lg_model.specs.Scenario.{Scenario}
use Rattle.lg_model.specs.Trace.{Packet}
use Rattle.lg_model.specs.Matching.{MatchedOption}
use Rattle.lg_model.specs.Carrying as model
use Rattle.lg_model.specs.Arriving.{packet_at, arrives, is_late, cargo, brings, deliveries}
use Rattle.lg_model.specs.Columns.{Column}
use Rattle.lg_model.specs.Midway.{arrived_to, held_to, AreDelivered}
use Rattle.lg_model.proofs.Arrivals.{deliveries_append, arrived_more, held_one_more}
use Rattle.lg_model.proofs.Pairing.{matched_push, Parted, matched_pop, matched_none}
use Rattle.sketchlet_wire.specs.declared.packed.Packed.{Packed}
use Rattle.sketchlet_wire.specs.Packing.{IsPacked}
use Rattle.path_sim.specs.declared.inbox.Held.{Held}
use Rattle.path_sim.specs.declared.post.Post.{Ghosts}
use Rattle.path_sim.specs.declared.sending.Sent.{Sent}
use Rattle.path_sim.specs.declared.traffic.Traffic.{Traffic}
use Rattle.path_sim.specs.Holding.{IsHeld, AreHeld, IsInside}
use Rattle.path_sim.specs.Sending.{IsSending}
use Rattle.path_sim.specs.Running.{IsCargo, IsMail}
use Rattle.path_sim.proofs.Mailing.{held_still}
use Rattle.path_sim.proofs.Offers.{cargo_stays}

-- what a packet carries, as a delivery
pub record Brings {C : Type 0} (stands : C → Column → Type 0) (w : Scenario) (cs : List model.Carry) (n a : ℕ) (p : C) : Type 0 where
  pub column : Column
  pub brought : brings w cs n ≡ Some (a, column)
  pub of : stands p column

pub brings_some : {C : Type 0} (stands : C → Column → Type 0) (w : Scenario) (cs : List model.Carry) (n a : ℕ) (p : C)
    → (packet_at w n).flow.host_at ≡ a → MatchedOption stands (Some p) (cargo w cs n) → Brings stands w cs n a p
brings_some stands w cs n a p at h =
    (elim (cargo w cs n) as (λ (o : Option Column). cargo w cs n ≡ o → MatchedOption stands (Some p) o → Brings stands w cs n a p) [
      | None ↦ λ q bad. absurd bad
      | Some c ↦ λ q of. record {
        column = c;
        brought = ap (option_map (λ (x : Column). ((packet_at w n).flow.host_at, x))) q ∙ ap (λ (b : ℕ). Some (b, c)) at;
        of = of;
      }
    ]) refl h

pub brings_none : {C : Type 0} (stands : C → Column → Type 0) (w : Scenario) (cs : List model.Carry) (n : ℕ) → MatchedOption stands None (cargo w cs n)
    → brings w cs n ≡ None
brings_none stands w cs n h =
    (elim (cargo w cs n) as (λ (o : Option Column). cargo w cs n ≡ o → MatchedOption stands None o → brings w cs n ≡ None) [
      | None ↦ λ q _. ap (option_map (λ (x : Column). ((packet_at w n).flow.host_at, x))) q
      | Some c ↦ λ q bad. absurd bad
    ]) refl h

one_none : (w : Scenario) (cs : List model.Carry) (ks : List ℕ) (n : ℕ) → brings w cs n ≡ None → deliveries w cs (ks ++ n ∷ []) ≡ deliveries w cs ks
one_none w cs ks n none = deliveries_append w cs ks (n ∷ []) ∙ (rw none (append-nil (deliveries w cs ks)))

one_some : (w : Scenario) (cs : List model.Carry) (ks : List ℕ) (n : ℕ) (d : ℕ × Column) → brings w cs n ≡ Some d
    → deliveries w cs (ks ++ n ∷ []) ≡ deliveries w cs ks ++ d ∷ []
one_some w cs ks n d some = deliveries_append w cs ks (n ∷ []) ∙ (rw some refl)

-- a packet that carries nothing
pub nothing_arrives : (w : Scenario) (cs : List model.Carry) (ks : List ℕ) (n : ℕ) (fate : Fate) → brings w cs n ≡ None
    → deliveries w cs (ks ++ arrives fate n) ≡ deliveries w cs ks
nothing_arrives w cs ks n Straight none = one_none w cs ks n none
nothing_arrives w cs ks n (Lost k) none = ap (deliveries w cs) (append-nil ks)
nothing_arrives w cs ks n Twice none = ap (deliveries w cs) (sym (append_assoc ks (n ∷ []) (n ∷ []))) ∙ one_none w cs (ks ++ n ∷ []) n none
    ∙ one_none w cs ks n none
nothing_arrives w cs ks n Late none = ap (deliveries w cs) (append-nil ks)

pub nothing_held : (w : Scenario) (cs : List model.Carry) (ks : List ℕ) (n : ℕ) (fate : Fate) → brings w cs n ≡ None
    → deliveries w cs (ks ++ cond (is_late fate) (n ∷ []) []) ≡ deliveries w cs ks
nothing_held w cs ks n Straight none = ap (deliveries w cs) (append-nil ks)
nothing_held w cs ks n (Lost k) none = ap (deliveries w cs) (append-nil ks)
nothing_held w cs ks n Twice none = ap (deliveries w cs) (append-nil ks)
nothing_held w cs ks n Late none = one_none w cs ks n none

-- a packet that carries a column
pub one_arrives : {C : Type 0} (stands : C → Column → Type 0) (w : Scenario) (cs : List model.Carry) (ks : List ℕ) (n a : ℕ) (p : C)
    (hosts hosts' : List (List Packed)) → (packet_at w n).flow.host_at ≡ a → MatchedOption stands (Some p) (cargo w cs n) →
    ((c : Column) (ds : List (ℕ × Column)) → stands p c → AreDelivered IsPacked ds hosts → AreDelivered IsPacked (ds ++ (a, c) ∷ []) hosts') →
    AreDelivered IsPacked (deliveries w cs ks) hosts → AreDelivered IsPacked (deliveries w cs (ks ++ n ∷ [])) hosts'
one_arrives stands w cs ks n a p hosts hosts' at h step all =
    let b : Brings stands w cs n a p = brings_some stands w cs n a p at h in
    subst (λ (ds : List (ℕ × Column)). AreDelivered IsPacked ds hosts') (sym (one_some w cs ks n (a, b.column) b.brought))
    (step b.column (deliveries w cs ks) b.of all)

pub one_held : {C : Type 0} (stands : C → Column → Type 0) (w : Scenario) (cs : List model.Carry) (ks : List ℕ) (n : ℕ) (item : Held C)
    (hs hs' : List (Held C)) → (packet_at w n).flow.host_at ≡ item.host_at → MatchedOption stands (Some item.cargo) (cargo w cs n) → hs' ≡ hs ++ item ∷ [] →
    AreHeld stands (deliveries w cs ks) hs → AreHeld stands (deliveries w cs (ks ++ n ∷ [])) hs'
one_held stands w cs ks n item hs hs' at h pushed all =
    let b : Brings stands w cs n item.host_at item.cargo = brings_some stands w cs n item.host_at item.cargo at h in
    subst (λ (ds : List (ℕ × Column)). AreHeld stands ds hs') (sym (one_some w cs ks n (item.host_at, b.column) b.brought))
    (subst (AreHeld stands (deliveries w cs ks ++ (item.host_at, b.column) ∷ [])) (sym pushed)
    (matched_push (IsHeld stands) hs (deliveries w cs ks) item (item.host_at, b.column) all (refl, b.of)))

-- some of what was held, from the last on, has arrived, and the others are held
pub record Released {C : Type 0} (stands : C → Column → Type 0) (ds hs : List (ℕ × Column)) (held : List (Held C)) (hosts : List (List Packed)) : Type 0 where
  pub front : List (ℕ × Column)
  pub back : List (ℕ × Column)
  pub all : hs ≡ front ++ back
  pub waits : AreHeld stands front held
  pub came : AreDelivered IsPacked (ds ++ reverse back) hosts

pub released_start : {C : Type 0} (stands : C → Column → Type 0) (ds hs : List (ℕ × Column)) (held : List (Held C)) (hosts : List (List Packed))
    → AreHeld stands hs held → AreDelivered IsPacked ds hosts → Released stands ds hs held hosts
released_start stands ds hs held hosts waits came = record {
  front = hs;
  back = [];
  all = sym (append-nil hs);
  waits = waits;
  came = subst (λ (xs : List (ℕ × Column)). AreDelivered IsPacked xs hosts) (sym (append-nil ds)) came;
}

pub released_one : {C : Type 0} (stands stands' : C → Column → Type 0) (ds hs : List (ℕ × Column)) (held held' : List (Held C)) (item : Held C)
    (hosts hosts' : List (List Packed)) → held ≡ held' ++ item ∷ [] →
    ((c : C) (column : Column) → stands c column → stands' c column) →
    ((c : Column) (xs : List (ℕ × Column)) → stands item.cargo c → AreDelivered IsPacked xs hosts
    → AreDelivered IsPacked (xs ++ (item.host_at, c) ∷ []) hosts') →
    Released stands ds hs held hosts → Released stands' ds hs held' hosts'
released_one stands stands' ds hs held held' item hosts hosts' popped stays step r =
    let part : Parted (IsHeld stands) held' item r.front = matched_pop (IsHeld stands) held' item r.front (subst (AreHeld stands r.front) popped r.waits) in
    let d : ℕ × Column = part.last in
    let same : (item.host_at, d.1) ≡ d = λ i. (part.here.0 i, d.1) in
    let order : (ds ++ reverse r.back) ++ d ∷ [] ≡ ds ++ reverse (d ∷ r.back) = append_assoc ds (reverse r.back) (d ∷ [])
    ∙ ap (λ xs. ds ++ xs) (sym (reverse-append (d ∷ []) r.back)) in
    record {
      front = part.front;
      back = d ∷ r.back;
      all = r.all ∙ ap (λ xs. xs ++ r.back) part.is ∙ append_assoc part.front (d ∷ []) r.back;
      waits = held_still stands stands' held' part.front stays part.before;
      came = subst (λ (xs : List (ℕ × Column)). AreDelivered IsPacked xs hosts') (ap (λ (x : ℕ × Column). (ds ++ reverse r.back) ++ x ∷ []) same
          ∙ order) (step d.1 (ds ++ reverse r.back) part.here.1 r.came);
    }

pub released_all : {C : Type 0} (stands : C → Column → Type 0) (ds hs : List (ℕ × Column)) (held : List (Held C)) (hosts : List (List Packed))
    → held ≡ [] → Released stands ds hs held hosts → AreDelivered IsPacked (ds ++ reverse hs) hosts
released_all stands ds hs held hosts none r =
    let empty : r.front ≡ [] = matched_none (IsHeld stands) r.front (subst (AreHeld stands r.front) none r.waits) in
    let same : r.back ≡ hs = sym (r.all ∙ ap (λ xs. xs ++ r.back) empty) in
    subst (λ (xs : List (ℕ × Column)). AreDelivered IsPacked (ds ++ reverse xs) hosts) same r.came

pub inside_front : {C : Type 0} (n m : ℕ) (xs ys : List (Held C)) (x : Held C) → ys ≡ xs ++ x ∷ [] → m ≡ n → All (IsInside n) ys → All (IsInside m) xs
inside_front n m xs ys x popped same all k d h =
    let there : IsInside n (slice_index_or ys k d) = all k d (omega (arith, ap length popped, length_push xs x)) in
    let at : slice_index_or ys k d ≡ slice_index_or xs k d = ap (λ zs. slice_index_or zs k d) popped ∙ get_or_append_left xs (x ∷ []) d k h in
    subst (λ (a : ℕ). IsInside a (slice_index_or xs k d)) (sym same) (subst (IsInside n) at there)

-- the last item stands for a column, and it and the others are held for that delivery
pub last_held : {C : Type 0} (stands : C → Column → Type 0) (hs : List (ℕ × Column)) (held held' : List (Held C)) (item : Held C)
    → held ≡ held' ++ item ∷ [] → AreHeld stands hs held → Parted (IsHeld stands) held' item hs
last_held stands hs held held' item popped waits = matched_pop (IsHeld stands) held' item hs (subst (AreHeld stands hs) popped waits)

pub all_ok : {X E : Type 0} (r : Result X E) (A B C D F : X → Type 0) → ((x : X) → A x → B x → C x → D x → F x) → IfOk r A → IfOk r B → IfOk r C
    → IfOk r D → IfOk r F
all_ok (Ok x) A B C D F f a b c d = f x a b c d
all_ok (Err e) A B C D F f a b c d = tt

pub both_ok : {X E : Type 0} (r : Result X E) (A B F : X → Type 0) → ((x : X) → A x → B x → F x) → IfOk r A → IfOk r B → IfOk r F
both_ok (Ok x) A B F f a b = f x a b
both_ok (Err e) A B F f a b = tt

-- what a call that lets a cargo arrive says
pub record Arrives {O C : Type 0} (post : Ghosts O C) (o o' : O) (a : ℕ) (p : C) : Type 0 where
  pub arrived : (c : Column) (ds : List (ℕ × Column)) → post.stands o p c → AreDelivered IsPacked ds (post.inboxes o)
      → AreDelivered IsPacked (ds ++ (a, c) ∷ []) (post.inboxes o')
  pub hosts : length (post.inboxes o') ≡ length (post.inboxes o)
  pub stays : (q : C) (c : Column) → post.stands o q c → post.stands o' q c
  pub noted : (v : Scenario) (cs : List model.Carry) → post.notes o v cs → post.notes o' v cs

-- the packet of number k has settled
module _ {O C : Type 0} (post : Ghosts O C) (w : Scenario) (k : ℕ) (s : Sent) (its : IsSending w k s) (cs : List model.Carry) where
  more : (f : Fate) (t' : Traffic O C) → s.fate ≡ f → post.notes t'.post w cs → length (post.inboxes t'.post) ≡ length w.hosts →
      AreDelivered IsPacked (deliveries w cs (arrived_to w s.step_at k ++ arrives f k)) (post.inboxes t'.post) →
      AreHeld (post.stands t'.post) (deliveries w cs (held_to w s.step_at k ++ cond (is_late f) (k ∷ []) [])) t'.held.items
      → All (IsInside (length w.hosts)) t'.held.items →
      IsMail post w s.step_at (k + 1) cs t'
  more f t' fate noted hosts arrived held held_inside =
      let fate_is : (packet_at w k).fate ≡ f = ap (λ (p : Packet). p.fate) its.packet ∙ fate in
      let came : arrived_to w s.step_at (k + 1) ≡ arrived_to w s.step_at k ++ arrives f k =
      arrived_more w s.step_at k its.first its.number ∙ ap (λ (x : Fate). arrived_to w s.step_at k ++ arrives x k) fate_is in
      let waits : held_to w s.step_at (k + 1) ≡ held_to w s.step_at k ++ cond (is_late f) (k ∷ []) [] =
      held_one_more w s.step_at k its.first its.number ∙ ap (λ (x : Fate). held_to w s.step_at k ++ cond (is_late x) (k ∷ []) []) fate_is in
      record {
        noted = noted;
        hosts = hosts;
        arrived = rw came arrived;
        held = rw waits held;
        held_inside = held_inside;
      }

  host : (packet_at w k).flow.host_at ≡ s.flow.now.host_at
  host = ap (λ (p : Packet). p.flow.host_at) its.packet

  -- it carried nothing
  pub settled_none : (t : Traffic O C) (hand : Option C) → hand ≡ None → IsMail post w s.step_at k cs t → IsCargo post w k cs t hand
      → IsMail post w s.step_at (k + 1) cs t
  settled_none t hand empty is cargo_is =
      let none : brings w cs k ≡ None = brings_none (post.stands t.post) w cs k (subst (IsCargo post w k cs t) empty cargo_is) in
      more s.fate t refl is.noted is.hosts
      (rw (nothing_arrives w cs (arrived_to w s.step_at k) k s.fate none) is.arrived)
      (rw (nothing_held w cs (held_to w s.step_at k) k s.fate none) is.held) is.held_inside

  -- it is lost
  pub settled_lost : (t : Traffic O C) (hops : ℕ) → s.fate ≡ Lost hops → IsMail post w s.step_at k cs t → IsMail post w s.step_at (k + 1) cs t
  settled_lost t hops fate is =
      more (Lost hops) t fate is.noted is.hosts (rw (append-nil (arrived_to w s.step_at k)) is.arrived)
      (rw (append-nil (held_to w s.step_at k)) is.held) is.held_inside

  -- it arrives
  pub settled_straight : (t t' : Traffic O C) (hand : Option C) (p : C) → hand ≡ Some p → s.fate ≡ Straight → t'.held.items ≡ t.held.items
      → Arrives post t.post t'.post s.flow.now.host_at p →
      IsMail post w s.step_at k cs t → IsCargo post w k cs t hand → IsMail post w s.step_at (k + 1) cs t'
  settled_straight t t' hand p full fate held_is step is cargo_is =
      more Straight t' fate (step.noted w cs is.noted) (step.hosts ∙ is.hosts)
      (one_arrives (post.stands t.post) w cs (arrived_to w s.step_at k) k s.flow.now.host_at p (post.inboxes t.post) (post.inboxes t'.post) host
      (subst (IsCargo post w k cs t) full cargo_is) step.arrived is.arrived)
      (rw (append-nil (held_to w s.step_at k), held_is) (held_still (post.stands t.post) (post.stands t'.post) t.held.items
      (deliveries w cs (held_to w s.step_at k)) step.stays is.held)) (rw held_is is.held_inside)

  -- twice
  pub settled_twice : (t t' : Traffic O C) (o : O) (hand : Option C) (p : C) → hand ≡ Some p → s.fate ≡ Twice → t'.held.items ≡ t.held.items
      → Arrives post t.post o s.flow.now.host_at p → Arrives post o t'.post s.flow.now.host_at p →
      IsMail post w s.step_at k cs t → IsCargo post w k cs t hand → IsMail post w s.step_at (k + 1) cs t'
  settled_twice t t' o hand p full fate held_is first second is cargo_is =
      let its_cargo = subst (IsCargo post w k cs t) full cargo_is in
      let one = one_arrives (post.stands t.post) w cs (arrived_to w s.step_at k) k s.flow.now.host_at p (post.inboxes t.post)
      (post.inboxes o) host its_cargo first.arrived is.arrived in
      let two = one_arrives (post.stands o) w cs (arrived_to w s.step_at k ++ k ∷ []) k s.flow.now.host_at p (post.inboxes o) (post.inboxes t'.post) host
      (cargo_stays (post.stands t.post) (post.stands o) (Some p) (cargo w cs k) first.stays its_cargo) second.arrived one in
      more Twice t' fate (second.noted w cs (first.noted w cs is.noted)) (second.hosts ∙ first.hosts ∙ is.hosts)
      (subst (λ (js : List ℕ). AreDelivered IsPacked (deliveries w cs js) (post.inboxes t'.post))
      (append_assoc (arrived_to w s.step_at k) (k ∷ []) (k ∷ [])) two)
      (rw (append-nil (held_to w s.step_at k), held_is) (held_still (post.stands t.post) (post.stands t'.post) t.held.items
      (deliveries w cs (held_to w s.step_at k)) (λ q c h. second.stays q c (first.stays q c h)) is.held)) (rw held_is is.held_inside)

  -- it is held
  pub settled_late : (t t' : Traffic O C) (hand : Option C) (p : C) → hand ≡ Some p → s.fate ≡ Late → t'.post ≡ t.post
      → t'.held.items ≡ t.held.items ++ record { host_at = s.flow.now.host_at; cargo = p } ∷ [] →
      IsMail post w s.step_at k cs t → IsCargo post w k cs t hand → IsMail post w s.step_at (k + 1) cs t'
  settled_late t t' hand p full fate post_is pushed is cargo_is =
      let item : Held C = record { host_at = s.flow.now.host_at; cargo = p } in
      more Late t' fate (rw post_is is.noted) (rw post_is is.hosts) (rw (append-nil (arrived_to w s.step_at k), post_is) is.arrived)
      (rw post_is (one_held (post.stands t.post) w cs (held_to w s.step_at k) k item t.held.items t'.held.items host
      (subst (IsCargo post w k cs t) full cargo_is) pushed is.held))
      (rw pushed (All-push (IsInside (length w.hosts)) t.held.items item is.held_inside its.host))
