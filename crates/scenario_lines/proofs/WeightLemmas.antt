-- What one line adds to the bytes that the parts take when they are printed.
use Rattle.std.proofs.Common.{◌≡◌, ℕ, suc, ◌+◌, ◌<◌, ◌≤◌, Bool, true, false, eqb, List, [], ◌∷◌, ◌++◌, length, get_or, set, map, refl, ap, ◌∙◌, arith, All}
use Rattle.std.specs.Prelude.{codes, slice_get, slice_index, sum_by, Option, Some, None, IfSome, Ok}
use Rattle.std.specs.Fmt.{decimal}
use Rattle.std.specs.List.{slice_split, onto_first}
use Rattle.std.proofs.lemmas.List.{get_or_append_left, get_or-map, map-append, length-map}
use Rattle.std.proofs.lemmas.List.Elements.{All-head, All-tail}
use Rattle.std.proofs.lemmas.List.Splits.{slice_split-cons_yes, slice_split-cons_no, length-slice_split}
use Rattle.std.proofs.lemmas.List.Sums.{sum_by-cons, sum_by_push, sum_by-set}
use Rattle.std.proofs.lemmas.Option.{slice_get_within, get_or_from_slice_get}
use Rattle.lg_model.specs.declared.scenario.Pick.{Pick}
use Rattle.lg_model.specs.declared.scenario.Letter.{Letter}
use Rattle.lg_model.specs.declared.scenario.HostLine.{HostLine}
use Rattle.lg_model.specs.declared.scenario.Flow.{Flow}
use Rattle.lg_model.specs.declared.scenario.Step.{Step}
use Rattle.lg_model.specs.declared.scenario.Step.TheVariants as steps
use Rattle.lg_model.specs.declared.scenario.Ask.{Ask}
use Rattle.lg_model.specs.Placing.{Shape}
use Rattle.lg_model.specs.Keeping.{IsFlow, IsStep, IsAsk, host_names}
use Rattle.lg_model.specs.Scenario.{no_flow}
use Rattle.scenario_lines.specs.declared.section.Section.{Section}
use Rattle.scenario_lines.specs.declared.section.Section.TheVariants as sections
use Rattle.scenario_lines.specs.declared.section.Section.TheVariants.{Declarations, Steps, Done}
use Rattle.scenario_lines.specs.declared.section.Keyword.{Keyword}
use Rattle.scenario_lines.specs.declared.section.Keyword.TheVariants as words
use Rattle.scenario_lines.specs.Sections.{admits, is_first}
use Rattle.text_out.specs.Words.{Words}
use Rattle.scenario_lines.specs.Spelling.{size, shape_line_words, pick_line_words, key_parts, host_words, switch_words, path_words, flow_words, byte_of}
use Rattle.scenario_lines.specs.Spelling.{step_words, ask_words}
use Rattle.scenario_lines.specs.Line.{linked, linked_at, no_letters, unlinked}
use Rattle.scenario_lines.specs.Draft.{State, IsDraft}
use Rattle.scenario_lines.specs.PrintedLen.{frame_size, link_size, printed_len, keyword_size, first_size}
use Rattle.scenario_lines.proofs.NameLemmas.{names_linked}

-- ---- the words of a line

size_onto : (b : ℕ) (ws : Words) → 0 < length ws → size (onto_first b ws) ≡ size ws + 1
size_onto b [] some = absurd (omega arith)
size_onto b (w ∷ ws) some = omega arith

split_size : (p : ℕ → Bool) (b : ℕ) (bs : List ℕ) (yes : Bool) → p b ≡ yes → size (slice_split p bs) ≡ length bs + 1
    → size (slice_split p (b ∷ bs)) ≡ suc (length bs) + 1
split_size p b bs true is rest = omega (arith, ap size (slice_split-cons_yes p b bs is), rest)
split_size p b bs false is rest =
    omega (arith, ap size (slice_split-cons_no p b bs is), size_onto b (slice_split p bs) (omega (arith, length-slice_split p bs)), rest)

-- The words of a text take its bytes, and one more where the last one ends.
pub words_size : (p : ℕ → Bool) (text : List ℕ) → size (slice_split p text) ≡ length text + 1
words_size p [] = refl
words_size p (b ∷ bs) = split_size p b bs (p b) refl (words_size p bs)

-- A first word is part of its line.
pub first_most : (word : Option Keyword) (first : List ℕ) → IfSome word (λ k. length first + 1 ≡ keyword_size k) → first_size word ≤ length first + 1
first_most None first taken = omega arith
first_most (Some k) first taken = omega (arith, taken)

-- ---- sums

pub sum_same : {X : Type 0} (f g : X → ℕ) (xs : List X) → All (λ x. f x ≡ g x) xs → sum_by f xs ≡ sum_by g xs
sum_same f g [] same = refl
sum_same f g (x ∷ xs) same =
    omega (arith, sum_by-cons f x xs, sum_by-cons g x xs, All-head (λ y. f y ≡ g y) x xs same, sum_same f g xs (All-tail (λ y. f y ≡ g y) x xs same))

map_same : {X Y : Type 0} (f g : X → Y) (xs : List X) → All (λ x. f x ≡ g x) xs → map f xs ≡ map g xs
map_same f g [] same = refl
map_same f g (x ∷ xs) same = let one = All-head (λ y. f y ≡ g y) x xs same in let rest = map_same f g xs (All-tail (λ y. f y ≡ g y) x xs same) in cc

sum_more : {X : Type 0} (f : X → ℕ) (now xs : List X) (x : X) → now ≡ xs ++ x ∷ [] → sum_by f now ≡ sum_by f xs + f x
sum_more f now xs x is = ap (sum_by f) is ∙ sum_by_push f xs x

-- ---- names that stand still

name_kept : {X : Type 0} (name : X → ℕ) (now xs : List X) (x : X) (at : ℕ) → now ≡ xs ++ x ∷ [] → at < length xs
    → slice_index (map name now) at ≡ slice_index (map name xs) at
name_kept name now xs x at is lt =
    ap (λ (ys : List _). slice_index (map name ys) at) is ∙ ap (λ (ns : List ℕ). slice_index ns at) (map-append name xs (x ∷ []))
    ∙ get_or_append_left (map name xs) (map name (x ∷ [])) 0 at (omega (arith, length-map xs name))

number_kept : (now ns : List ℕ) (n at : ℕ) → now ≡ ns ++ n ∷ [] → at < length ns → slice_index now at ≡ slice_index ns at
number_kept now ns n at is lt = ap (λ (ms : List ℕ). slice_index ms at) is ∙ get_or_append_left ns (n ∷ []) 0 at lt

flows_by_host : (now hosts : List HostLine) (h : HostLine) (switches : List ℕ) (flows : List Flow) → now ≡ hosts ++ h ∷ []
    → All (IsFlow (length hosts) (length switches)) flows
    → sum_by (λ f. size (flow_words now switches f)) flows ≡ sum_by (λ f. size (flow_words hosts switches f)) flows
flows_by_host now hosts h switches flows is ok = sum_same (λ f. size (flow_words now switches f)) (λ f. size (flow_words hosts switches f)) flows (λ k d lt.
    let f = get_or flows k d in
    let fit = ok k d lt in
    ap (λ (n : ℕ). size (codes "flow" ∷ decimal f.name ∷ key_parts f.key (codes "host" ∷ decimal n ∷ codes "path" ∷ path_words switches f.path)))
    (name_kept (λ (g : HostLine). g.name) now hosts h f.host_at is fit.host))

flows_by_switch : (hosts : List HostLine) (now switches : List ℕ) (n : ℕ) (flows : List Flow) → now ≡ switches ++ n ∷ []
    → All (IsFlow (length hosts) (length switches)) flows
    → sum_by (λ f. size (flow_words hosts now f)) flows ≡ sum_by (λ f. size (flow_words hosts switches f)) flows
flows_by_switch hosts now switches n flows is ok = sum_same (λ f. size (flow_words hosts now f)) (λ f. size (flow_words hosts switches f)) flows (λ k d lt.
    let f = get_or flows k d in
    let fit = ok k d lt in
    ap (λ (ws : Words). size
    (codes "flow" ∷ decimal f.name ∷ key_parts f.key (codes "host" ∷ decimal (slice_index (host_names hosts) f.host_at) ∷ codes "path" ∷ ws)))
    (map_same (λ at. decimal (slice_index now at)) (λ at. decimal (slice_index switches at)) f.path
    (λ j e l. ap decimal (number_kept now switches n (get_or f.path j e) is (fit.path j e l)))))

step_by_switch : (flows : List Flow) (now switches : List ℕ) (n : ℕ) (t : Step) → now ≡ switches ++ n ∷ [] → IsStep (length switches) flows t
    → size (step_words flows now t) ≡ size (step_words flows switches t)
step_by_switch flows now switches n (steps.Packet at bytes delays burst x) is ok = refl
step_by_switch flows now switches n (steps.End at) is ok = ap (λ (m : ℕ). size (codes "end" ∷ decimal m ∷ [])) (number_kept now switches n at is ok)
step_by_switch flows now switches n steps.EndAll is ok = refl
step_by_switch flows now switches n steps.Release is ok = refl

step_by_flow : (now flows : List Flow) (f : Flow) (switches : List ℕ) (t : Step) → now ≡ flows ++ f ∷ [] → IsStep (length switches) flows t
    → size (step_words now switches t) ≡ size (step_words flows switches t)
step_by_flow now flows f switches (steps.Packet at bytes delays burst x) is ok =
    ap (λ (n : ℕ). size (step_words (record { name = n; key = no_flow.key; host_at = 0; path = [] } ∷ []) switches (steps.Packet 0 bytes delays burst x)))
    (name_kept (λ (g : Flow). g.name) now flows f at is ok.flow)
step_by_flow now flows f switches (steps.End at) is ok = refl
step_by_flow now flows f switches steps.EndAll is ok = refl
step_by_flow now flows f switches steps.Release is ok = refl

asks_by_flow : (switches : List ℕ) (now flows : List Flow) (f : Flow) (asks : List Ask) → now ≡ flows ++ f ∷ [] → All (IsAsk switches flows) asks
    → sum_by (λ q. size (ask_words now q)) asks ≡ sum_by (λ q. size (ask_words flows q)) asks
asks_by_flow switches now flows f asks is ok = sum_same (λ q. size (ask_words now q)) (λ q. size (ask_words flows q)) asks (λ k d lt.
    let q = get_or asks k d in
    ap (λ (n : ℕ). size (codes "ask" ∷ decimal n ∷ decimal q.switch ∷ decimal q.epoch ∷ []))
    (name_kept (λ (g : Flow). g.name) now flows f q.flow_at is (ok k d lt).flow))

-- ---- the first lines and the last

frame_first : (x : Section) (shape : Shape) (pick : Pick) → is_first x ≡ true → frame_size x shape pick ≡ 0
frame_first sections.Version shape pick is = refl
frame_first sections.Shape shape pick is = absurd cc
frame_first sections.Pick shape pick is = absurd cc
frame_first Declarations shape pick is = absurd cc
frame_first Steps shape pick is = absurd cc
frame_first Done shape pick is = absurd cc

pub started_weighs : (s : State) → is_first s.section ≡ true → printed_len (record s { section = sections.Shape }) ≡ printed_len s + 11
unfolding printed_len
started_weighs s is = omega (arith, frame_first s.section s.parts.shape s.parts.pick is)

frame_second : (x : Section) (shape : Shape) (pick : Pick) → admits x words.Shape ≡ true → frame_size x shape pick ≡ 11
frame_second sections.Version shape pick is = absurd cc
frame_second sections.Shape shape pick is = refl
frame_second sections.Pick shape pick is = absurd cc
frame_second Declarations shape pick is = absurd cc
frame_second Steps shape pick is = absurd cc
frame_second Done shape pick is = absurd cc

pub shape_weighs : (s : State) (shape : Shape) → admits s.section words.Shape ≡ true
    → printed_len (record s { section = sections.Pick; parts = record s.parts { shape = shape } }) ≡ printed_len s + size (shape_line_words shape)
unfolding printed_len
shape_weighs s shape is = omega (arith, frame_second s.section s.parts.shape s.parts.pick is)

frame_third : (x : Section) (shape : Shape) (pick : Pick) → admits x words.Pick ≡ true → frame_size x shape pick ≡ 11 + size (shape_line_words shape)
frame_third sections.Version shape pick is = absurd cc
frame_third sections.Shape shape pick is = absurd cc
frame_third sections.Pick shape pick is = refl
frame_third Declarations shape pick is = absurd cc
frame_third Steps shape pick is = absurd cc
frame_third Done shape pick is = absurd cc

pub pick_weighs : (s : State) (pick : Pick) → admits s.section words.Pick ≡ true
    → printed_len (record s { section = Declarations; parts = record s.parts { pick = pick } }) ≡ printed_len s + size (pick_line_words pick)
unfolding printed_len
pick_weighs s pick is = omega (arith, frame_third s.section s.parts.shape s.parts.pick is)

-- A section in which steps may come.
abbrev pub IsOpen : Section → Type 0
IsOpen x = (shape : Shape) (pick : Pick) → frame_size x shape pick ≡ frame_size Steps shape pick

pub open_packet : (x : Section) → admits x words.Packet ≡ true → IsOpen x
open_packet sections.Version is shape pick = absurd cc
open_packet sections.Shape is shape pick = absurd cc
open_packet sections.Pick is shape pick = absurd cc
open_packet Declarations is shape pick = refl
open_packet Steps is shape pick = refl
open_packet Done is shape pick = absurd cc

pub open_end : (x : Section) → admits x words.End ≡ true → IsOpen x
open_end sections.Version is shape pick = absurd cc
open_end sections.Shape is shape pick = absurd cc
open_end sections.Pick is shape pick = absurd cc
open_end Declarations is shape pick = refl
open_end Steps is shape pick = refl
open_end Done is shape pick = absurd cc

pub open_release : (x : Section) → admits x words.Release ≡ true → IsOpen x
open_release sections.Version is shape pick = absurd cc
open_release sections.Shape is shape pick = absurd cc
open_release sections.Pick is shape pick = absurd cc
open_release Declarations is shape pick = refl
open_release Steps is shape pick = refl
open_release Done is shape pick = absurd cc

pub open_ask : (x : Section) → admits x words.Ask ≡ true → IsOpen x
open_ask sections.Version is shape pick = absurd cc
open_ask sections.Shape is shape pick = absurd cc
open_ask sections.Pick is shape pick = absurd cc
open_ask Declarations is shape pick = refl
open_ask Steps is shape pick = refl
open_ask Done is shape pick = absurd cc

pub open_done : (x : Section) → admits x words.Done ≡ true → IsOpen x
open_done sections.Version is shape pick = absurd cc
open_done sections.Shape is shape pick = absurd cc
open_done sections.Pick is shape pick = absurd cc
open_done Declarations is shape pick = refl
open_done Steps is shape pick = refl
open_done Done is shape pick = absurd cc

pub done_weighs : (s : State) → admits s.section words.Done ≡ true → printed_len (record s { section = Done }) ≡ printed_len s + 5
unfolding printed_len
done_weighs s is = omega (arith, open_done s.section is s.parts.shape s.parts.pick)

-- ---- declarations

pub host_weighs : (s : State) (hosts : List HostLine) (h : HostLine) → IsDraft s → hosts ≡ s.parts.hosts ++ h ∷ [] → length h.letters ≡ 0
    → printed_len (record s { parts = record s.parts { hosts = hosts } }) ≡ printed_len s + size (host_words h)
unfolding printed_len
host_weighs s hosts h ok is none =
    let link : link_size h ≡ 0 = rw none refl in
    omega (
      arith,
      sum_more (λ g. size (host_words g)) hosts s.parts.hosts h is,
      sum_more link_size hosts s.parts.hosts h is,
      flows_by_host hosts s.parts.hosts h s.parts.switches s.parts.flows is ok.scenario.flows.each,
      link,
    )

pub switch_weighs : (s : State) (switches : List ℕ) (n : ℕ) → IsDraft s → switches ≡ s.parts.switches ++ n ∷ []
    → printed_len (record s { parts = record s.parts { switches = switches } }) ≡ printed_len s + size (switch_words n)
unfolding printed_len
switch_weighs s switches n ok is =
    omega (
      arith,
      sum_more (λ m. size (switch_words m)) switches s.parts.switches n is,
      flows_by_switch s.parts.hosts switches s.parts.switches n s.parts.flows is ok.scenario.flows.each,
      sum_same (λ t. size (step_words s.parts.flows switches t)) (λ t. size (step_words s.parts.flows s.parts.switches t)) s.parts.steps
          (λ k d lt. step_by_switch s.parts.flows switches s.parts.switches n (get_or s.parts.steps k d) is (ok.scenario.steps.each k d lt)),
    )

pub flow_weighs : (s : State) (flows : List Flow) (f : Flow) → IsDraft s → flows ≡ s.parts.flows ++ f ∷ []
    → printed_len (record s { parts = record s.parts { flows = flows } }) ≡ printed_len s + size (flow_words s.parts.hosts s.parts.switches f)
unfolding printed_len
flow_weighs s flows f ok is =
    omega (
      arith,
      sum_more (λ g. size (flow_words s.parts.hosts s.parts.switches g)) flows s.parts.flows f is,
      asks_by_flow s.parts.switches flows s.parts.flows f s.parts.asks is ok.scenario.asks.each,
      sum_same (λ t. size (step_words flows s.parts.switches t)) (λ t. size (step_words s.parts.flows s.parts.switches t)) s.parts.steps
          (λ k d lt. step_by_flow flows s.parts.flows f s.parts.switches (get_or s.parts.steps k d) is (ok.scenario.steps.each k d lt)),
    )

-- ---- steps and asks

pub step_weighs : (s : State) (ts : List Step) (t : Step) → IsOpen s.section → ts ≡ s.parts.steps ++ t ∷ []
    → printed_len (record s { section = Steps; parts = record s.parts { steps = ts } }) ≡ printed_len s + size (step_words s.parts.flows s.parts.switches t)
unfolding printed_len
step_weighs s ts t free is =
    omega (arith, free s.parts.shape s.parts.pick, sum_more (λ u. size (step_words s.parts.flows s.parts.switches u)) ts s.parts.steps t is)

pub ask_weighs : (s : State) (asks : List Ask) (q : Ask) → admits s.section words.Ask ≡ true → asks ≡ s.parts.asks ++ q ∷ []
    → printed_len (record s { section = Steps; parts = record s.parts { asks = asks } }) ≡ printed_len s + size (ask_words s.parts.flows q)
unfolding printed_len
ask_weighs s asks q free is =
    omega (arith, open_ask s.section free s.parts.shape s.parts.pick, sum_more (λ r. size (ask_words s.parts.flows r)) asks s.parts.asks q is)

-- ---- letters

linked_sum : (f : HostLine → ℕ) (hosts : List HostLine) (at : ℕ) (ls : List Letter) (h : HostLine) → slice_get hosts at ≡ Some h
    → sum_by f (linked_at hosts at ls (Some h)) + f h ≡ sum_by f hosts + f (record h { letters = ls })
linked_sum f hosts at ls h is =
    let here : get_or hosts at h ≡ h = get_or_from_slice_get hosts at h h is in
    let sum : sum_by f (set hosts at (record h { letters = ls })) + f (get_or hosts at h) ≡ sum_by f hosts + f (record h { letters = ls }) =
    sum_by-set f hosts at (record h { letters = ls }) h (slice_get_within hosts at h is) in
    rw here at sum

flows_linked : (now hosts : List HostLine) (switches : List ℕ) (flows : List Flow) → host_names now ≡ host_names hosts
    → sum_by (λ f. size (flow_words now switches f)) flows ≡ sum_by (λ f. size (flow_words hosts switches f)) flows
flows_linked now hosts switches flows is =
    ap (λ (names : List ℕ). sum_by
    (λ f. size (codes "flow" ∷ decimal f.name ∷ key_parts f.key
    (codes "host" ∷ decimal (slice_index names f.host_at) ∷ codes "path" ∷ path_words switches f.path))) flows) is

-- The two sums over the hosts, and the bytes of a line of letters.
pub record Linked (hosts now : List HostLine) (name count : ℕ) : Type 0 where
  pub names : sum_by (λ g. size (host_words g)) now ≡ sum_by (λ g. size (host_words g)) hosts
  pub links : sum_by link_size now ≤ sum_by link_size hosts + (6 + length (decimal name) + (count + 1))

link_most : (h : HostLine) (b : Bool) → eqb (length h.letters) 0 ≡ b → link_size h ≤ 6 + length (decimal h.name) + (length h.letters + 1)
link_most h true is = rw is (omega arith)
link_most h false is = rw is (omega (arith, length-map h.letters byte_of))

no_link : (h : HostLine) (b : Bool) → eqb (length h.letters) 0 ≡ b → no_letters (Some h) ≡ Ok tt → link_size h ≡ 0
no_link h true is free = rw is refl
no_link h false is free = absurd (let e = rw is at free in cc)

link_sums : (hosts : List HostLine) (at : ℕ) (ls : List Letter) (o : Option HostLine) → slice_get hosts at ≡ o → no_letters o ≡ Ok tt
    → Linked hosts (linked_at hosts at ls o) (slice_index (host_names hosts) at) (length ls)
link_sums hosts at ls None is free = absurd cc
link_sums hosts at ls (Some h) is free =
    let lt : at < length hosts = slice_get_within hosts at h is in
    let name : slice_index (host_names hosts) at ≡ h.name = get_or-map (λ (g : HostLine). g.name) hosts at h 0 lt
    ∙ ap (λ (g : HostLine). g.name) (get_or_from_slice_get hosts at h h is) in
    rw name record {
      names = omega (arith, linked_sum (λ g. size (host_words g)) hosts at ls h is);
      links = omega (
        arith,
        linked_sum link_size hosts at ls h is,
        no_link h (eqb (length h.letters) 0) refl free,
        link_most (record h { letters = ls }) (eqb (length ls) 0) refl,
      );
    }

pub link_weighs : (s : State) (hosts : List HostLine) (at : ℕ) (ls : List Letter) → hosts ≡ linked s.parts.hosts at ls → unlinked s.parts.hosts at ≡ Ok tt
    → printed_len (record s { parts = record s.parts { hosts = hosts } }) ≤ printed_len s +
    (6 + length (decimal (slice_index (host_names s.parts.hosts) at)) + (length ls + 1))
unfolding printed_len unlinked
link_weighs s hosts at ls is free =
    let sums : Linked s.parts.hosts hosts (slice_index (host_names s.parts.hosts) at) (length ls) =
    rw is (link_sums s.parts.hosts at ls (slice_get s.parts.hosts at) refl free) in
    omega (arith, sums.names, sums.links, flows_linked hosts s.parts.hosts s.parts.switches s.parts.flows (ap host_names is ∙ names_linked s.parts.hosts at ls))
