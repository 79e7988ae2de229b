-- What one line adds leaves parts that keep what every scenario keeps.
use Rattle.std.proofs.Common.{◌≡◌, ℕ, suc, zero, ◌+◌, ◌<◌, ◌≤◌, List, [], ◌∷◌, ◌++◌, length, length-append, get_or, length-set, refl, ap, ◌∙◌, arith, true}
use Rattle.std.proofs.Common.{false, cond, eqb, Bool, ◌⊎◌, inl, inr}
use Rattle.std.specs.Prelude.{slice_get, Option, Some, None, ◌&&◌, ◌==◌, nat_lt}
use Rattle.std.specs.List.{list_any}
use Rattle.std.proofs.lemmas.Bool.{cases_lt}
use Rattle.std.proofs.lemmas.List.{get_or_append_left}
use Rattle.std.proofs.lemmas.List.Elements.{All-push}
use Rattle.std.proofs.lemmas.List.Folds.{list_any-append}
use Rattle.lg_model.specs.declared.scenario.Flow.{Flow}
use Rattle.lg_model.specs.declared.scenario.Step.{Step}
use Rattle.lg_model.specs.declared.scenario.Step.TheVariants as steps
use Rattle.lg_model.specs.declared.scenario.Ask.{Ask}
use Rattle.lg_model.specs.declared.scenario.Pick.{Pick}
use Rattle.lg_model.specs.declared.scenario.HostLine.{HostLine}
use Rattle.lg_model.specs.declared.scenario.Letter.{Letter}
use Rattle.lg_model.specs.Placing.{Shape, IsShape}
use Rattle.lg_model.specs.Keeping.{IsHost, AreHosts, IsFlow, AreFlows, IsStep, AreSteps, IsAsk, names_of, ends_of}
use Rattle.lg_model.specs.Ranges.{IsHashRange, IsPickRange}
use Rattle.lg_model.specs.Scenario.{flow_at, no_flow, packet_count, burst_of, is_end_of}
use Rattle.scenario_lines.specs.declared.section.Section.{Section}
use Rattle.scenario_lines.specs.declared.section.Section.TheVariants as sections
use Rattle.scenario_lines.specs.declared.section.Section.TheVariants.{Declarations, Steps, Done}
use Rattle.scenario_lines.specs.declared.section.Keyword.TheVariants as words
use Rattle.scenario_lines.specs.Sections.{has_steps, admits, is_first}
use Rattle.scenario_lines.specs.Index.{IsIndexed}
use Rattle.scenario_lines.specs.Draft.{State, IsDraft}
use Rattle.scenario_lines.specs.Fields.{all_room}
use Rattle.scenario_lines.specs.Line.{linked, linked_at}
use Rattle.scenario_lines.proofs.NameLemmas.{apart_push, indexed_apart, hosts_apart, names_linked, hosts_set}
use Rattle.scenario_lines.proofs.CountLemmas.{ends_more, packets_more}

-- ---- sections

pub before_first : (x : Section) → is_first x ≡ true → has_steps x ≡ false
before_first sections.Version is = refl
before_first sections.Shape is = refl
before_first sections.Pick is = refl
before_first Declarations is = refl
before_first Steps is = absurd cc
before_first Done is = absurd cc

pub before_shape : (x : Section) → admits x words.Shape ≡ true → has_steps x ≡ false
before_shape sections.Version is = refl
before_shape sections.Shape is = refl
before_shape sections.Pick is = refl
before_shape Declarations is = refl
before_shape Steps is = absurd cc
before_shape Done is = absurd cc

pub before_pick : (x : Section) → admits x words.Pick ≡ true → has_steps x ≡ false
before_pick sections.Version is = refl
before_pick sections.Shape is = refl
before_pick sections.Pick is = refl
before_pick Declarations is = refl
before_pick Steps is = absurd cc
before_pick Done is = absurd cc

pub before_switch : (x : Section) → admits x words.Switch ≡ true → has_steps x ≡ false
before_switch sections.Version is = refl
before_switch sections.Shape is = refl
before_switch sections.Pick is = refl
before_switch Declarations is = refl
before_switch Steps is = absurd cc
before_switch Done is = absurd cc

-- ---- declarations

pub shaped : (s : State) (shape : Shape) (x : Section) → IsDraft s → has_steps s.section ≡ false → IsShape shape.rows shape.width → IsHashRange shape.hash
    → IsDraft (record s { section = x; parts = record s.parts { shape = shape } })
shaped s shape x ok early fits hash =
    let is = ok.scenario in
    record {
      scenario = record {
        shape = fits;
        hash = hash;
        pick = is.pick;
        hosts = is.hosts;
        switches = is.switches;
        flows = is.flows;
        steps = is.steps;
        asks = is.asks;
      };
      no_steps = λ _. ok.no_steps early;
    }

pub picked : (s : State) (p : Pick) (x : Section) → IsDraft s → has_steps s.section ≡ false → IsPickRange p
    → IsDraft (record s { section = x; parts = record s.parts { pick = p } })
picked s p x ok early pick =
    let is = ok.scenario in
    record {
      scenario = record {
        shape = is.shape;
        hash = is.hash;
        pick = pick;
        hosts = is.hosts;
        switches = is.switches;
        flows = is.flows;
        steps = is.steps;
        asks = is.asks;
      };
      no_steps = λ _. ok.no_steps early;
    }

-- Flows stay where hosts or switches come.
flows_stay : (hosts more switches wider : ℕ) (flows : List Flow) → hosts ≤ more → switches ≤ wider → AreFlows hosts switches flows → AreFlows more wider flows
flows_stay hosts more switches wider flows few wide ok = record {
  few = ok.few;
  each = λ i d lt. let f = ok.each i d lt in record {
    name = f.name;
    key = f.key;
    host = omega (arith, f.host, few);
    path = λ j e l. omega (arith, f.path j e l, wide);
    some_hops = f.some_hops;
    few_hops = f.few_hops;
    once = f.once;
  };
  own = ok.own;
}

hosts_kept : (s : State) (hosts : List HostLine) → IsDraft s → length s.parts.hosts ≤ length hosts → AreHosts hosts
    → IsDraft (record s { parts = record s.parts { hosts = hosts } })
hosts_kept s hosts ok more are =
    let is = ok.scenario in
    let n = length s.parts.switches in
    let flows = flows_stay (length s.parts.hosts) (length hosts) n n s.parts.flows more (omega arith) is.flows in
    record {
      scenario = record {
        shape = is.shape;
        hash = is.hash;
        pick = is.pick;
        hosts = are;
        switches = is.switches;
        flows = flows;
        steps = is.steps;
        asks = is.asks;
      };
      no_steps = ok.no_steps;
    }

pub host_more : (s : State) (hosts : List HostLine) (h : HostLine) → IsDraft s → hosts ≡ s.parts.hosts ++ h ∷ [] → length s.parts.hosts < 64 → IsHost h
    → list_any (λ g. g.name == h.name) s.parts.hosts ≡ false → IsDraft (record s { parts = record s.parts { hosts = hosts } })
host_more s hosts h ok is few line fresh =
    let len : length hosts ≡ length s.parts.hosts + 1 = ap length is ∙ length-append s.parts.hosts (h ∷ []) in
    let before = ok.scenario.hosts in
    hosts_kept s hosts ok (omega (arith, len)) record {
      few = omega (arith, len);
      each = rw is (All-push IsHost s.parts.hosts h before.each line);
      own = rw is (hosts_apart s.parts.hosts h before.own fresh);
    }

linked_len : (hosts : List HostLine) (at : ℕ) (ls : List Letter) (o : Option HostLine) → length (linked_at hosts at ls o) ≡ length hosts
linked_len hosts at ls None = refl
linked_len hosts at ls (Some h) = length-set hosts at (record h { letters = ls })

pub host_linked : (s : State) (hosts : List HostLine) (at : ℕ) (ls : List Letter) → IsDraft s → hosts ≡ linked s.parts.hosts at ls → length ls ≤ 4096
    → IsDraft (record s { parts = record s.parts { hosts = hosts } })
host_linked s hosts at ls ok is few =
    let len : length hosts ≡ length s.parts.hosts = ap length is ∙ linked_len s.parts.hosts at ls (slice_get s.parts.hosts at) in
    let before = ok.scenario.hosts in
    hosts_kept s hosts ok (omega (arith, len)) record {
      few = omega (arith, len, before.few);
      each = rw is (hosts_set s.parts.hosts at ls (slice_get s.parts.hosts at) refl before.each few);
      own = rw is (rw (names_linked s.parts.hosts at ls) before.own);
    }

still_declared : (switches : List ℕ) (n : ℕ) (flows : List Flow) (q : Ask) → IsAsk switches flows q → IsAsk (switches ++ n ∷ []) flows q
still_declared switches n flows q ok = record {
  flow = ok.flow;
  declared = rw (list_any-append (λ m. eqb m q.switch) switches (n ∷ []), ok.declared) refl;
  switch = ok.switch;
  epoch = ok.epoch;
}

no_steps_yet : (m n : ℕ) (flows : List Flow) (ts : List Step) → ts ≡ [] → AreSteps n flows ts
no_steps_yet m n flows ts none = rw none record { each = λ i d lt. absurd (omega (arith, lt)); few_packets = omega arith; few_ends = λ i lt. omega arith }

pub switch_more : (s : State) (switches : List ℕ) (n : ℕ) → IsDraft s → has_steps s.section ≡ false → switches ≡ s.parts.switches ++ n ∷ []
    → length s.parts.switches < 64 → n < 65536 → list_any (λ m. m == n) s.parts.switches ≡ false
    → IsDraft (record s { parts = record s.parts { switches = switches } })
switch_more s switches n ok early is few small fresh =
    let len : length switches ≡ length s.parts.switches + 1 = ap length is ∙ length-append s.parts.switches (n ∷ []) in
    let before = ok.scenario in
    let hosts = length s.parts.hosts in
    record {
      scenario = record {
        shape = before.shape;
        hash = before.hash;
        pick = before.pick;
        hosts = before.hosts;
        switches = record {
          few = omega (arith, len);
          each = rw is (All-push (λ m. m < 65536) s.parts.switches n before.switches.each small);
          own = rw is (apart_push s.parts.switches n before.switches.own fresh);
        };
        flows = flows_stay hosts hosts (length s.parts.switches) (length switches) s.parts.flows (omega arith) (omega (arith, len)) before.flows;
        steps = no_steps_yet (length s.parts.switches) (length switches) s.parts.flows s.parts.steps (ok.no_steps early);
        asks = record {
          few = before.asks.few;
          each = rw is (λ i d lt. still_declared s.parts.switches n s.parts.flows (get_or s.parts.asks i d) (before.asks.each i d lt));
        };
      };
      no_steps = ok.no_steps;
    }

same_flow : (flows now : List Flow) (f : Flow) (at : ℕ) → now ≡ flows ++ f ∷ [] → at < length flows → flow_at now at ≡ flow_at flows at
same_flow flows now f at is lt = ap (λ (fs : List Flow). flow_at fs at) is ∙ get_or_append_left flows (f ∷ []) no_flow at lt

step_kept : (n : ℕ) (flows now : List Flow) (f : Flow) (t : Step) → now ≡ flows ++ f ∷ [] → IsStep n flows t → IsStep n now t
step_kept n flows now f (steps.Packet at size delays burst fate) is ok =
    let same = same_flow flows now f at is ok.flow in
    record {
      flow = omega (arith, ok.flow, ap length is, length-append flows (f ∷ []));
      size = ok.size;
      each_delay = ok.each_delay;
      hops = rw same ok.hops;
      reach = rw same ok.reach;
      some = ok.some;
    }
step_kept n flows now f (steps.End at) is ok = ok
step_kept n flows now f steps.EndAll is ok = tt
step_kept n flows now f steps.Release is ok = tt

pub ask_kept : (switches : List ℕ) (flows now : List Flow) (f : Flow) (q : Ask) → now ≡ flows ++ f ∷ [] → IsAsk switches flows q → IsAsk switches now q
ask_kept switches flows now f q is ok = record {
  flow = omega (arith, ok.flow, ap length is, length-append flows (f ∷ []));
  declared = ok.declared;
  switch = ok.switch;
  epoch = ok.epoch;
}

pub flow_more : (s : State) (flows : List Flow) (f : Flow) (at : List ℕ) → IsDraft s → IsFlow (length s.parts.hosts) (length s.parts.switches) f
    → flows ≡ s.parts.flows ++ f ∷ [] → length s.parts.flows < 4096 → IsIndexed (names_of flows) at
    → IsDraft (record s { parts = record s.parts { flows = flows } })
flow_more s flows f at ok fits is few table =
    let before = ok.scenario in
    record {
      scenario = record {
        shape = before.shape;
        hash = before.hash;
        pick = before.pick;
        hosts = before.hosts;
        switches = before.switches;
        flows = record {
          few = omega (arith, ap length is, length-append s.parts.flows (f ∷ []), few);
          each = rw is (All-push (IsFlow (length s.parts.hosts) (length s.parts.switches)) s.parts.flows f before.flows.each fits);
          own = indexed_apart (names_of flows) at table;
        };
        steps = record {
          each = λ i d lt. step_kept (length s.parts.switches) s.parts.flows flows f (get_or s.parts.steps i d) is (before.steps.each i d lt);
          few_packets = before.steps.few_packets;
          few_ends = before.steps.few_ends;
        };
        asks = record {
          few = before.asks.few;
          each = λ i d lt. ask_kept s.parts.switches s.parts.flows flows f (get_or s.parts.asks i d) is (before.asks.each i d lt);
        };
      };
      no_steps = ok.no_steps;
    }

-- ---- steps and asks

pub step_more : (s : State) (ts : List Step) (t : Step) → IsDraft s → IsStep (length s.parts.switches) s.parts.flows t → ts ≡ s.parts.steps ++ t ∷ []
    → packet_count s.parts.steps + burst_of t ≤ 1000000
    → ((i : ℕ) → i < length s.parts.switches → ends_of i s.parts.steps + cond (is_end_of i t) 1 0 ≤ 65535)
    → IsDraft (record s { section = Steps; parts = record s.parts { steps = ts } })
step_more s ts t ok fits is packets ends =
    let before = ok.scenario in
    record {
      scenario = record {
        shape = before.shape;
        hash = before.hash;
        pick = before.pick;
        hosts = before.hosts;
        switches = before.switches;
        flows = before.flows;
        steps = record {
          each = rw is (All-push (IsStep (length s.parts.switches) s.parts.flows) s.parts.steps t before.steps.each fits);
          few_packets = rw is (omega (arith, packets, packets_more s.parts.steps t));
          few_ends = λ i lt. rw is (omega (arith, ends i lt, ends_more i s.parts.steps t));
        };
        asks = before.asks;
      };
      no_steps = λ e. absurd cc;
    }

pub ask_more : (s : State) (asks : List Ask) (q : Ask) → IsDraft s → IsAsk s.parts.switches s.parts.flows q → asks ≡ s.parts.asks ++ q ∷ []
    → length s.parts.asks < 10000 → IsDraft (record s { section = Steps; parts = record s.parts { asks = asks } })
ask_more s asks q ok fits is few =
    let before = ok.scenario in
    record {
      scenario = record {
        shape = before.shape;
        hash = before.hash;
        pick = before.pick;
        hosts = before.hosts;
        switches = before.switches;
        flows = before.flows;
        steps = before.steps;
        asks = record {
          few = omega (arith, ap length is, length-append s.parts.asks (q ∷ []), few);
          each = rw is (All-push (IsAsk s.parts.switches s.parts.flows) s.parts.asks q before.asks.each fits);
        };
      };
      no_steps = λ e. absurd cc;
    }

-- ---- ends

one_end : (b : Bool) (n : ℕ) → n < 65535 → n + cond b 1 0 ≤ 65535
one_end true n lt = omega arith
one_end false n lt = omega arith

-- An end of the switch at a position, where it has room.
pub end_fits : (s : State) (at i : ℕ) → IsDraft s → ends_of at s.parts.steps < 65535 → i < length s.parts.switches
    → ends_of i s.parts.steps + cond (is_end_of i (steps.End at)) 1 0 ≤ 65535
end_fits s at i ok room lt = by_case (is_end_of i (steps.End at)) refl where
  by_case : (b : Bool) → is_end_of i (steps.End at) ≡ b → ends_of i s.parts.steps + cond b 1 0 ≤ 65535
  by_case true e = let same : at ≡ i = grind arith in rw (← same) (omega (arith, room))
  by_case false e = omega (arith, ok.scenario.steps.few_ends i lt)

both : (b c : Bool) → (b && c) ≡ true → (b ≡ true) × (c ≡ true)
both true true e = (refl, refl)
both true false e = absurd cc
both false c e = absurd cc

under : (a b : ℕ) → nat_lt a b ≡ true → a < b
under a b e = grind arith

room_by : (ts : List Step) (n i : ℕ) → ends_of n ts < 65535 → (i < n → ends_of i ts < 65535) → (i < n) ⊎ (n ≤ i) → i < suc n → ends_of i ts < 65535
room_by ts n i here below (inl less) lt = below less
room_by ts n i here below (inr more) lt = let same : i ≡ n = omega (arith, more, lt) in rw same here

pub room_at : (ts : List Step) (n i : ℕ) → all_room ts n ≡ true → i < n → ends_of i ts < 65535
room_at ts zero i all lt = absurd (omega (arith, lt))
room_at ts (suc n) i all lt =
    let two = both (nat_lt (ends_of n ts) 65535) (all_room ts n) all in
    room_by ts n i (under (ends_of n ts) 65535 two.0) (room_at ts n i two.1) (cases_lt i n) lt
