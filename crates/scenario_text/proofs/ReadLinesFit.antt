-- A line that spells a part is read only where the part fits those before it.
use Rattle.std.proofs.Common.{◌≡◌, ℕ, suc, ◌+◌, ◌<◌, ◌≤◌, ◌^◌, ◌&&◌, Bool, true, false, cond, eqb, ltb, List, [], ◌∷◌, ◌++◌, length, length-append, map}
use Rattle.std.proofs.Common.{get_or, Some, None, refl, sym, ap, ◌∙◌, arith, All, lit<, append_assoc}
use Rattle.std.specs.Prelude.{Option, Result, Ok, Err, codes, nat_lt, nat_le, slice_index}
use Rattle.std.specs.List.{list_any, list_all, position_or_len}
use Rattle.std.specs.Str.{bytes_eq}
use Rattle.std.specs.Fmt.{decimal}
use Rattle.std.proofs.lemmas.Bool.{and_parts}
use Rattle.std.proofs.lemmas.List.{append-nil, length-map, map-append}
use Rattle.std.proofs.lemmas.List.Elements.{All-push}
use Rattle.std.proofs.lemmas.Slice.Eq.{bytes_eq-Decides}
use Rattle.flow_key.specs.Words.{number_to, is_number}
use Rattle.flow_key.proofs.KeyLemmas.{number_is, number_again}
use Rattle.lg_model.specs.declared.scenario.Letter.{Letter}
use Rattle.lg_model.specs.declared.scenario.HostLine.{HostLine}
use Rattle.lg_model.specs.declared.scenario.Flow.{Flow}
use Rattle.lg_model.specs.declared.scenario.Fate.{Fate}
use Rattle.lg_model.specs.declared.scenario.Fate.TheVariants as fates
use Rattle.lg_model.specs.declared.scenario.Step.{Step}
use Rattle.lg_model.specs.declared.scenario.Step.TheVariants as steps
use Rattle.lg_model.specs.declared.scenario.Ask.{Ask}
use Rattle.lg_model.specs.Keeping.{IsFlow, names_of, ends_of, AreApart, host_names}
use Rattle.lg_model.specs.Scenario.{Scenario, no_flow, packet_count, reached, path_at}
use Rattle.scenario_lines.specs.declared.why.Why.{Why}
use Rattle.scenario_lines.specs.declared.section.Section.TheVariants.{Declarations, Steps}
use Rattle.scenario_lines.specs.declared.section.Keyword.TheVariants as words
use Rattle.scenario_lines.specs.Sections.{keyword_of}
use Rattle.text_out.specs.Words.{Words, joined}
use Rattle.scenario_lines.specs.Spelling.{host_words, switch_words, key_parts, path_words, flow_words, byte_of, link_words, burst_words, fate_words}
use Rattle.scenario_lines.specs.Spelling.{step_words, ask_words}
use Rattle.scenario_lines.specs.Draft.{State, IsDraft}
use Rattle.scenario_lines.specs.Fields.{◌>>=◌, number, word, no_more, fresh_name, known_name, position_of, fresh_host, fresh_flow, host_position, room}
use Rattle.scenario_lines.specs.Fields.{room_to, all_room, room_for_all, hop, path, is_letter, letters_word, delays, burst, fate}
use Rattle.scenario_lines.specs.Line.{host_line, switch_line, flow_line, linked, unlinked, link_line, packet_line, end_one, end_all, end_line, ask_line}
use Rattle.scenario_lines.specs.Line.{line_of}
use Rattle.scenario_lines.proofs.NameLemmas.{apart_push}
use Rattle.scenario_lines.proofs.KeepingLemmas.{host_more, host_linked, switch_more, ask_kept, step_more, ask_more, end_fits, room_at}
use Rattle.lg_model.specs.Ranges.{IsFlowRange, IsFateRange, IsStepRange, IsAskRange}
use Rattle.scenario_parts.specs.Parts.{IsFlowInRange, IsStepInRange}
use Rattle.scenario_text.proofs.PrintedWordsAreRead.{AreWords, words_append, number_word_is, numbers_are_words, number_read}
use Rattle.scenario_text.proofs.PrintedNamesAreRead.{name_found, thing_found, list_any-map}
use Rattle.scenario_text.proofs.PrintedLinesAreRead.{at_state, section_of, form_read, bare, host_are_words, host_read, switch_are_words, switch_read, key_read}
use Rattle.scenario_text.proofs.PrintedLinesAreRead.{path_are_words, flow_are_words_of, FlowFits, flow_read, link_are_words, link_read, get_seam, set_seam}
use Rattle.scenario_text.proofs.PrintedLinesAreRead.{place_seam, later, placed, delays_read, burst_if, PacketFits, packet_read, flow_found, not_word, no_number}
use Rattle.scenario_text.proofs.PrintedLinesAreRead.{end_are_words, end_read, end_all_read, release_read, ask_are_words, ask_read}
use Rattle.scenario_text.proofs.PrintedTextIsRead.{names_small, things_fresh}

-- The words can make a line, and where that line is read at all, it leads to this state, and its parts fit each other.
abbrev pub Leads : State → Words → State → Type 0
Leads s ws t = AreWords ws × ((u : State) → line_of s (joined ws) ≡ Ok u → (line_of s (joined ws) ≡ Ok t) × IsDraft t)

-- ---- what was read of two fields, and of a test

-- What two calls in a row give is what the second gives of what the first gave.
both_read : {A B : Type 0} (r : Result A Why) (f : A → Result B Why) (u : B) → (r >>= f) ≡ Ok u → (x : A) × (r ≡ Ok x) × (f x ≡ Ok u)
both_read (Ok x) f u h = (x, refl, h)
both_read (Err e) f u h = absurd cc

if_read : {A : Type 0} (b : Bool) (a x : A) (e : Why) → cond b (Ok a) (Err e) ≡ Ok x → b ≡ true
if_read true a x e h = refl
if_read false a x e h = absurd cc

unless_read : {A : Type 0} (b : Bool) (r : Result A Why) (x : A) (e : Why) → cond b (Err e) r ≡ Ok x → (b ≡ false) × (r ≡ Ok x)
unless_read true r x e h = absurd cc
unless_read false r x e h = (refl, h)

under : (a b : ℕ) → nat_lt a b ≡ true → a < b
under a b e = grind arith

at_most : (a b : ℕ) → nat_le a b ≡ true → a ≤ b
at_most a b e = grind arith

room_left : (most held : ℕ) (x : Unit {0}) → room most held ≡ Ok x → held < most
unfolding room
room_left most held x h = under held most (if_read _ _ _ _ h)

-- ---- numbers

decimal_same : (n m : ℕ) → n < 2 ^ 64 → m < 2 ^ 64 → decimal n ≡ decimal m → n ≡ m
decimal_same n m small low same =
    let one : Some n ≡ Some m = sym (number_again 18446744073709551615 n (lit< tt) (omega (arith, small))) ∙ ap (number_to 18446744073709551615) same
    ∙ number_again 18446744073709551615 m (lit< tt) (omega (arith, low)) in
    cc

-- A number that is read is in the range of its field.
number_range : (low most n : ℕ) (ws : Words) (x : ℕ × Words) → n < 2 ^ 64 → most < 2 ^ 64 → number low most (decimal n ∷ ws) ≡ Ok x → (low ≤ n) × (n ≤ most)
unfolding number
number_range low most n ws x small few h = by (number_to most (decimal n)) refl where
  by : (o : Option ℕ) → number_to most (decimal n) ≡ o → (low ≤ n) × (n ≤ most)
  by None e = absurd (let bad = rw e at h in cc)
  by (Some m) e =
      let is = number_is most (decimal n) m few e in
      let same : n ≡ m = decimal_same n m small (omega (arith, is.1, few)) is.0 in
      let read = rw e at h in
      (omega (arith, same, at_most low m (if_read _ _ _ _ read)), omega (arith, same, is.1))

-- ---- hosts and switches

new_host : (hosts : List HostLine) (n : ℕ) (x : Unit {0}) → fresh_host hosts n ≡ Ok x → list_any (λ g. eqb g.name n) hosts ≡ false
unfolding fresh_host
new_host hosts n x h = let r = unless_read _ _ _ _ h in r.0

new_name : (names : List ℕ) (n : ℕ) (x : Unit {0}) → fresh_name names n ≡ Ok x → list_any (λ m. eqb m n) names ≡ false
unfolding fresh_name
new_name names n x h = let r = unless_read _ _ _ _ h in r.0

pub host_leads : (w : Scenario) (h : HostLine) → IsDraft (at_state Declarations w) → h.name < 65536
    → Leads (at_state Declarations w) (host_words h) (at_state Declarations (record w { hosts = w.hosts ++ bare h ∷ [] }))
unfolding keyword_of host_line no_more
host_leads w h ok small = (
  host_are_words h small,
  λ u line.
      let form = sym (form_read (at_state Declarations w) (codes "host") (decimal h.name ∷ []) words.Host refl refl refl refl (host_are_words h small))
      ∙ line in
      let named = rw (number_read 65535 h.name [] (lit< tt) (omega arith)) at form in
      let fresh = both_read _ _ u named in
      let room = both_read _ _ u fresh.2 in
      let new = new_host w.hosts h.name fresh.0 fresh.1 in
      let few = room_left 64 (length w.hosts) room.0 room.1 in (
        host_read w h small new few,
        host_more (at_state Declarations w) (w.hosts ++ bare h ∷ []) (bare h) ok refl few
            (record { name = small; few_letters = omega arith }) new,
      ),
)

pub switch_leads : (w : Scenario) (n : ℕ) → IsDraft (at_state Declarations w) → n < 65536
    → Leads (at_state Declarations w) (switch_words n) (at_state Declarations (record w { switches = w.switches ++ n ∷ [] }))
unfolding keyword_of switch_line no_more
switch_leads w n ok small = (
  switch_are_words n small,
  λ u line.
      let form = sym (form_read (at_state Declarations w) (codes "switch") (decimal n ∷ []) words.Switch refl refl refl refl (switch_are_words n small))
      ∙ line in
      let named = rw (number_read 65535 n [] (lit< tt) (omega arith)) at form in
      let fresh = both_read _ _ u named in
      let room = both_read _ _ u fresh.2 in
      let new = new_name w.switches n fresh.0 fresh.1 in
      let few = room_left 64 (length w.switches) room.0 room.1 in
      (switch_read w n small new few, switch_more (at_state Declarations w) (w.switches ++ n ∷ []) n ok refl refl few small new),
)

-- ---- flows

-- The hop after those so far goes by a switch that they don't go by, where they are fewer than 16.
hop_good : (switches sofar : List ℕ) (at x : ℕ) → AreApart switches → at < length switches → slice_index switches at < 65536
    → hop switches sofar (decimal (slice_index switches at)) ≡ Ok x → (x ≡ at) × (eqb (length sofar) 16 ≡ false) × (list_any (λ m. eqb m at) sofar ≡ false)
unfolding hop position_of
hop_good switches sofar at x own lt small h =
    let found = rw (number_read 65535 (slice_index switches at) [] (lit< tt) (omega arith), name_found switches at own lt) at h in
    let short = unless_read (eqb (length sofar) 16) _ x _ found in
    let fresh = both_read _ _ x short.1 in
    let same : ◌≡◌ {A = Result ℕ Why} (Ok at) (Ok x) = fresh.2 in
    (cc, short.0, new_name sofar at fresh.0 fresh.1)

-- The path that these switches make with those so far has 1 to 16, none twice.
path_good : (switches sofar ats x : List ℕ) → AreApart switches → All (λ n. n < 65536) switches → All (λ at. at < length switches) ats → AreApart sofar
    → length sofar ≤ 16 → path switches sofar (path_words switches ats) ≡ Ok x
    → (AreApart (sofar ++ ats)) × (length sofar + length ats ≤ 16) × (0 < length sofar + length ats)
unfolding path
path_good switches sofar [] x own small within once few h =
    let some : eqb (length sofar) 0 ≡ false = let r = unless_read _ _ _ _ h in r.0 in
    (rw append-nil once, omega arith, grind arith)
path_good switches sofar (at ∷ ats) x own small within once few h =
    let lt : at < length switches = within 0 0 (omega arith) in
    let next = both_read _ _ x h in
    let good = hop_good switches sofar at next.0 own lt (small at 0 lt) next.1 in
    let rest = rw good.0 at next.2 in
    let len = length-append sofar (at ∷ []) in
    let more : length (sofar ++ at ∷ []) ≤ 16 = let short = good.1 in grind (arith, len) in
    let all = path_good switches (sofar ++ at ∷ []) ats x own small (λ i d l. within (suc i) d (omega arith)) (apart_push sofar at once good.2) more rest in
    (rw append_assoc at all.0, omega (arith, all.1, len), omega (arith, all.2, len))

found_within : (p : ℕ → Bool) (names : List ℕ) → list_any p names ≡ true → position_or_len p names < length names
found_within p [] some = absurd cc
found_within p (m ∷ names) some = by (p m) refl (found_within p names) where
  by : (b : Bool) → p m ≡ b → (list_any p names ≡ true → position_or_len p names < length names) → position_or_len p (m ∷ names) < length (m ∷ names)
  by true e rest = rw e (omega arith)
  by false e rest = let later : list_any p names ≡ true = rw e at some in rw e (let lt = rest later in omega (arith, lt))

new_flow : (flows : List Flow) (n : ℕ) (x : Unit {0}) → fresh_flow flows n ≡ Ok x → list_any (λ m. eqb m n) (names_of flows) ≡ false
unfolding fresh_flow
new_flow flows n x h = by (list_any (λ m. eqb m n) (names_of flows)) refl where
  by : (b : Bool) → list_any (λ m. eqb m n) (names_of flows) ≡ b → b ≡ false
  by false e = refl
  by true e =
      let within = found_within (λ m. eqb m n) (names_of flows) e in
      let is : ltb (position_or_len (λ m. eqb m n) (names_of flows)) (length (names_of flows)) ≡ true = grind arith in
      absurd (let bad = rw is at h in cc)

-- One more flow fits where none has its name and there is room.
flow_draft : (w : Scenario) (f : Flow) → IsDraft (at_state Declarations w) → IsFlow (length w.hosts) (length w.switches) f
    → list_any (λ m. eqb m f.name) (names_of w.flows) ≡ false → length w.flows < 4096
    → IsDraft (at_state Declarations (record w { flows = w.flows ++ f ∷ [] }))
flow_draft w f ok fits new few =
    let len = length-append w.flows (f ∷ []) in
    let before = ok.scenario in
    record {
      scenario = record {
        shape = before.shape;
        hash = before.hash;
        pick = before.pick;
        hosts = before.hosts;
        switches = before.switches;
        flows = record {
          few = omega (arith, len, few);
          each = All-push (IsFlow (length w.hosts) (length w.switches)) w.flows f before.flows.each fits;
          own = rw (map-append (λ (g : Flow). g.name) w.flows (f ∷ [])) (apart_push (names_of w.flows) f.name before.flows.own new);
        };
        steps = record {
          each = rw (ok.no_steps refl) (λ i d lt. absurd (omega (arith, lt)));
          few_packets = before.steps.few_packets;
          few_ends = before.steps.few_ends;
        };
        asks = record {
          few = before.asks.few;
          each = λ i d lt. ask_kept w.switches w.flows (w.flows ++ f ∷ []) f (get_or w.asks i d) refl
              (before.asks.each i d lt);
        };
      };
      no_steps = ok.no_steps;
    }

pub flow_leads : (w : Scenario) (hosts : List HostLine) (f : Flow) → IsDraft (at_state Declarations w) → host_names w.hosts ≡ host_names hosts
    → IsFlowRange f → IsFlowInRange (length w.hosts) (length w.switches) f
    → Leads (at_state Declarations w) (flow_words hosts w.switches f) (at_state Declarations (record w { flows = w.flows ++ f ∷ [] }))
unfolding keyword_of flow_line host_position word
flow_leads w hosts f ok names range within = (words_ok, read) where
  host : slice_index (host_names w.hosts) f.host_at < 65536
  host = names_small (λ (g : HostLine). g.name) w.hosts (λ i d lt. let l = ok.scenario.hosts.each i d lt in l.name) f.host_at 0
      (omega (arith, within.0, length-map w.hosts (λ (g : HostLine). g.name)))

  words_ok : AreWords (flow_words hosts w.switches f)
  words_ok = flow_are_words_of w.switches f (slice_index (host_names hosts) f.host_at) (rw names at host) range.0 range.1
      (path_are_words w.switches f.path ok.scenario.switches.each within.1)

  good : (u : State) → flow_line (at_state Declarations w)
      (decimal f.name ∷ key_parts f.key
      (codes "host" ∷ decimal (slice_index (host_names w.hosts) f.host_at) ∷ codes "path" ∷ path_words w.switches f.path)) ≡ Ok u → FlowFits w hosts f
  good u line =
      let at_host = codes "host" ∷ decimal (slice_index (host_names w.hosts) f.host_at) ∷ codes "path" ∷ path_words w.switches f.path in
      let named = rw (number_read 65535 f.name (key_parts f.key at_host) (lit< tt) (omega (arith, range.0))) at line in
      let fresh = both_read (fresh_flow w.flows f.name) _ u named in
      let keyed = rw (
        key_read f.key at_host range.1,
        number_read 65535 (slice_index (host_names w.hosts) f.host_at)
            (codes "path" ∷ path_words w.switches f.path) (lit< tt) (omega (arith, host)),
        thing_found (λ (g : HostLine). g.name) w.hosts f.host_at ok.scenario.hosts.own within.0,
      ) at fresh.2 in
      let added : List ℕ → State =
      λ hops. at_state Declarations (record w { flows = w.flows ++ record { name = f.name; key = f.key; host_at = f.host_at; path = hops } ∷ [] }) in
      let hops = both_read (path w.switches [] (path_words w.switches f.path)) (λ hops. room 4096 (length w.flows) >>= (λ fits. Ok (added hops))) u keyed in
      let fits = both_read (room 4096 (length w.flows)) (λ fits. Ok (added hops.0)) u hops.2 in
      let way = path_good w.switches [] f.path hops.0 ok.scenario.switches.own ok.scenario.switches.each within.1
      (λ i j d less lt. absurd (omega (arith, lt))) (omega arith) hops.1 in
      record {
        names = names;
        fits = record {
          name = range.0;
          key = range.1;
          host = within.0;
          path = within.1;
          some_hops = omega (arith, way.2);
          few_hops = omega (arith, way.1);
          once = way.0;
        };
        own_hosts = ok.scenario.hosts.own;
        host_name = host;
        own_switches = ok.scenario.switches.own;
        small_switches = ok.scenario.switches.each;
        new_flow = new_flow w.flows f.name fresh.0 fresh.1;
        room_left = room_left 4096 (length w.flows) fits.0 fits.1;
      }

  read : (u : State) → line_of (at_state Declarations w) (joined (flow_words hosts w.switches f)) ≡ Ok u
      → (line_of (at_state Declarations w) (joined (flow_words hosts w.switches f)) ≡ Ok (at_state Declarations (record w { flows = w.flows ++ f ∷ [] })))
      × IsDraft (at_state Declarations (record w { flows = w.flows ++ f ∷ [] }))
  read u line =
      let form = sym (form_read (at_state Declarations w) (codes "flow")
      (decimal f.name ∷ key_parts f.key
      (codes "host" ∷ decimal
      (slice_index (host_names hosts) f.host_at) ∷ codes "path" ∷ path_words w.switches f.path)) words.Flow refl refl refl refl words_ok) ∙ line in
      let fit = good u (rw (← names) at form) in
      (flow_read w hosts f fit, flow_draft w f ok fit.fits fit.new_flow fit.room_left)

-- ---- letters

middle : (b c d : Bool) → (b && c && d) ≡ true → c ≡ true
middle b c d e = let two = and_parts (b && c) d e in let both = and_parts b c two.0 in both.1

few_letters : (ls : List Letter) (x : List Letter × Words) → letters_word (map byte_of ls ∷ []) ≡ Ok x → length ls ≤ 4096
unfolding letters_word
few_letters ls x h =
    let few = at_most (length (map byte_of ls)) 4096
    (middle (nat_le 1 (length (map byte_of ls))) (nat_le (length (map byte_of ls)) 4096) (list_all is_letter (map byte_of ls)) (if_read _ _ _ _ h)) in
    omega (arith, few, length-map ls byte_of)

pub link_leads : (w : Scenario) (done rest : List HostLine) (h : HostLine) → IsDraft (at_state Declarations (record w { hosts = done ++ bare h ∷ rest }))
    → h.name < 65536 → 0 < length h.letters
    → Leads (at_state Declarations (record w { hosts = done ++ bare h ∷ rest })) (link_words h) (at_state Declarations (record w { hosts = done ++ h ∷ rest }))
unfolding keyword_of link_line host_position unlinked no_more
link_leads w done rest h ok small some = (
  link_are_words h small,
  λ u line.
      let new : list_any (λ g. eqb g.name h.name) done ≡ false = sym (list_any-map (λ m. eqb m h.name) (λ (g : HostLine). g.name) done)
      ∙ things_fresh (λ (g : HostLine). g.name) done rest (bare h) ok.scenario.hosts.own in
      let form = sym (form_read (at_state Declarations (record w { hosts = done ++ bare h ∷ rest })) (codes "link")
      (decimal h.name ∷ map byte_of h.letters ∷ []) words.Link refl refl refl refl (link_are_words h small)) ∙ line in
      let named = rw (
        number_read 65535 h.name (map byte_of h.letters ∷ []) (lit< tt) (omega arith),
        place_seam done rest h new,
        get_seam done rest (bare h),
      ) at form in
      let letters = both_read _ _ u named in
      let few = few_letters h.letters letters.0 letters.1 in
      let is : done ++ h ∷ rest ≡ linked (done ++ bare h ∷ rest) (length done) h.letters =
      rw (get_seam done rest (bare h)) (sym (set_seam done rest (bare h) h)) in (
        link_read w done rest h small some few new,
        host_linked (at_state Declarations (record w { hosts = done ++ bare h ∷ rest })) (done ++ h ∷ rest)
            (length done) h.letters ok is few,
      ),
)

-- ---- steps

fate_words_are : (x : Fate) → IsFateRange x → AreWords (fate_words x)
fate_words_are fates.Straight range = tt
fate_words_are (fates.Lost k) range = (refl, (number_word_is k (omega (arith, range)), tt))
fate_words_are fates.Twice range = (refl, tt)
fate_words_are fates.Late range = (refl, tt)

burst_words_are : (n : ℕ) (b : Bool) → eqb n 1 ≡ b → n < 4294967296 → AreWords (burst_words n)
burst_words_are n true e small = rw e tt
burst_words_are n false e small = rw e (refl, (number_word_is n (omega arith), tt))

-- The words after the delays are no numbers.
no_delay : (n : ℕ) (b : Bool) (x : Fate) (y : ℕ × Words) → eqb n 1 ≡ b → number 0 4294967295 (burst_words n ++ fate_words x) ≡ Ok y → ⊥
unfolding number number_to is_number
no_delay n false x y e h = let bad = rw e at h in cc
no_delay n true fates.Straight y e h = let bad = rw e at h in cc
no_delay n true (fates.Lost k) y e h = let bad = rw e at h in cc
no_delay n true fates.Twice y e h = let bad = rw e at h in cc
no_delay n true fates.Late y e h = let bad = rw e at h in cc

-- A number is none of the words that may stand after the delays.
no_tail : (d : ℕ) (w : List ℕ) → d < 4294967296 → number_to 4294967295 w ≡ None → bytes_eq (decimal d) w ≡ false
no_tail d w small none = by (bytes_eq (decimal d) w) refl where
  by : (b : Bool) → bytes_eq (decimal d) w ≡ b → b ≡ false
  by false e = refl
  by true e =
      let is : ◌≡◌ {A = Option ℕ} (Some d) None = sym (number_again 4294967295 d (lit< tt) (omega arith))
      ∙ ap (number_to 4294967295) ((bytes_eq-Decides (decimal d) w).0 e) ∙ none in
      absurd cc

none_number : (number_to 4294967295 (codes "burst") ≡ None) × (number_to 4294967295 (codes "lost") ≡ None) × (number_to 4294967295 (codes "twice") ≡ None) ×
    (number_to 4294967295 (codes "late") ≡ None)
unfolding number_to is_number
none_number = (refl, refl, refl, refl)

-- After as many delays as there are hops no number may stand.
stray : {A : Type 0} (hops d : ℕ) (ws : Words) (g : (ℕ × Words) → Fate → Result A Why) (u : A) → d < 4294967296
    → (burst (decimal d ∷ ws) >>= (λ b. fate hops b.1 >>= g b)) ≡ Ok u → ⊥
unfolding burst fate
stray hops d ws g u small h =
    let bad = rw (
      no_tail d (codes "burst") small none_number.0,
      no_tail d (codes "lost") small none_number.1,
      no_tail d (codes "twice") small none_number.2,
      no_tail d (codes "late") small none_number.3,
    ) at h in
    cc

-- There are as many delays as hops: where one is missing stands a word that is no number.
as_many : {A : Type 0} (path sofar ds : List ℕ) (hops n : ℕ) (x : Fate) (g : (List ℕ × Words) → (ℕ × Words) → Fate → Result A Why) (u : A)
    → All (λ d. d < 4294967296) ds
    → (delays path sofar (map decimal ds ++ (burst_words n ++ fate_words x)) >>= (λ d. burst d.1 >>= (λ b. fate hops b.1 >>= g d b))) ≡ Ok u
    → length ds ≡ length path
unfolding delays
as_many [] sofar [] hops n x g u small h = refl
as_many [] sofar (d ∷ ds) hops n x g u small h =
    absurd (stray hops d (map decimal ds ++ (burst_words n ++ fate_words x)) (g (sofar, decimal d ∷ (map decimal ds ++ (burst_words n ++ fate_words x)))) u
    (small 0 0 (omega arith)) h)
as_many (hop ∷ path) sofar [] hops n x g u small h =
    let read = both_read (number 0 4294967295 (burst_words n ++ fate_words x) >>= (λ d. delays path (sofar ++ d.0 ∷ []) d.1)) _ u h in
    let one = both_read (number 0 4294967295 (burst_words n ++ fate_words x)) _ read.0 read.1 in
    absurd (no_delay n (eqb n 1) x one.0 refl one.1)
as_many (hop ∷ path) sofar (d ∷ ds) hops n x g u small h =
    let le : d ≤ 4294967295 = let l = small 0 0 (omega arith) in omega (arith, l) in
    let rest = rw (number_read 4294967295 d (map decimal ds ++ (burst_words n ++ fate_words x)) (lit< tt) le) at h in
    let len : length ds ≡ length path = as_many path (sofar ++ d ∷ []) ds hops n x g u (λ i e lt. small (suc i) e (omega arith)) rest in
    omega (arith, len)

burst_range : (n : ℕ) (x : Fate) (y : ℕ × Words) (b : Bool) → eqb n 1 ≡ b → n < 4294967296 → burst (burst_words n ++ fate_words x) ≡ Ok y
    → (1 ≤ n) × (n ≤ 1000000)
unfolding burst
burst_range n x y true e small h = let is : n ≡ 1 = grind arith in (omega arith, omega arith)
burst_range n x y false e small h = number_range 1 1000000 n (fate_words x) y (omega arith) (lit< tt) (rw e at h)

fate_reached : (hops : ℕ) (x y : Fate) → hops < 2 ^ 64 → IsFateRange x → fate hops (fate_words x) ≡ Ok y → reached x hops ≤ hops
unfolding fate
fate_reached hops fates.Straight y few range h = omega arith
fate_reached hops (fates.Lost k) y few range h =
    let read = both_read (number 0 hops (decimal k ∷ [])) _ y h in
    let k_range = number_range 0 hops k [] read.0 (omega (arith, range)) few read.1 in
    k_range.1
fate_reached hops fates.Twice y few range h = omega arith
fate_reached hops fates.Late y few range h = omega arith

room_left_to : (most held : ℕ) (x : Unit {0}) → room_to most held ≡ Ok x → held ≤ most
unfolding room_to
room_left_to most held x h = at_most held most (if_read _ _ _ _ h)

flow_name_small : (w : Scenario) (at : ℕ) → All (IsFlow (length w.hosts) (length w.switches)) w.flows → at < length w.flows
    → slice_index (names_of w.flows) at < 65536
flow_name_small w at lines lt =
    names_small (λ (f : Flow). f.name) w.flows (λ i d l. let line = lines i d l in line.name) at 0
    (omega (arith, lt, length-map w.flows (λ (f : Flow). f.name)))

packet_words_are : (name size : ℕ) (ds : List ℕ) (n : ℕ) (x : Fate) → name < 65536 → size < 65536 → All (λ d. d < 4294967296) ds → n < 4294967296
    → IsFateRange x → AreWords (codes "packet" ∷ decimal name ∷ decimal size ∷ (map decimal ds ++ (burst_words n ++ fate_words x)))
packet_words_are name size ds n x named small delays few range =
    let tail = words_append (burst_words n) (fate_words x) (burst_words_are n (eqb n 1) refl few) (fate_words_are x range) in (
      refl,
      (
        number_word_is name (omega arith),
        (number_word_is size (omega arith), words_append (map decimal ds) (burst_words n ++ fate_words x) (numbers_are_words ds delays) tail),
      ),
    )

packet_good : (b : Bool) (w : Scenario) (at size : ℕ) (ds : List ℕ) (n : ℕ) (x : Fate) (u : State) → IsDraft (at_state (section_of b) w)
    → at < length w.flows → IsStepRange (steps.Packet at size ds n x)
    → line_of (at_state (section_of b) w) (joined (step_words w.flows w.switches (steps.Packet at size ds n x))) ≡ Ok u → PacketFits w at size ds n x
unfolding keyword_of packet_line position_of
packet_good b w at size ds n x u ok lt range line =
    let name = flow_name_small w at ok.scenario.flows.each lt in
    let short : length (path_at w.flows at) ≤ 16 = let f = ok.scenario.flows.each at no_flow lt in f.few_hops in
    let form = sym (form_read (at_state (section_of b) w) (codes "packet")
    (decimal (slice_index (names_of w.flows) at) ∷ decimal size ∷ (map decimal ds ++ (burst_words n ++ fate_words x))) words.Packet refl (later b) refl
    (placed b words.Packet refl refl) (packet_words_are (slice_index (names_of w.flows) at) size ds n x name range.0 range.1 range.2 range.3)) ∙ line in
    let sized = rw (
      number_read 65535 (slice_index (names_of w.flows) at) (decimal size ∷ (map decimal ds ++ (burst_words n ++ fate_words x))) (lit< tt)
          (omega (arith, name)),
      flow_found w at ok.scenario.flows.own lt,
      number_read 65535 size (map decimal ds ++ (burst_words n ++ fate_words x))
          (lit< tt) (omega (arith, range.0)),
    ) at form in
    let hops = as_many (path_at w.flows at) [] ds (length (path_at w.flows at)) n x _ u range.1 sized in
    let delayed = rw (delays_read (path_at w.flows at) [] ds (burst_words n ++ fate_words x) range.1 hops) at sized in
    let some = both_read (burst (burst_words n ++ fate_words x)) _ u delayed in
    let sent = burst_range n x some.0 (eqb n 1) refl range.2 some.1 in
    let told = rw (burst_if n x (eqb n 1) refl sent.0 sent.1) at delayed in
    let last = both_read (fate (length (path_at w.flows at)) (fate_words x)) _ u told in
    let added : Fate → State = λ y. at_state Steps (record w { steps = w.steps ++ steps.Packet at size ds n y ∷ [] }) in
    let room = both_read (room_to 1000000 (packet_count w.steps + n)) (λ fits. Ok (added last.0)) u last.2 in
    record {
      flow = lt;
      own_flows = ok.scenario.flows.own;
      name = name;
      small = range.0;
      hops = hops;
      short = short;
      delays = range.1;
      some = sent.0;
      fate = fate_reached (length (path_at w.flows at)) x last.0 (omega (arith, short)) range.3 last.1;
      packets = room_left_to 1000000 (packet_count w.steps + n) room.0 room.1;
    }

packet_leads : (b : Bool) (w : Scenario) (at size : ℕ) (ds : List ℕ) (n : ℕ) (x : Fate) → IsDraft (at_state (section_of b) w) → at < length w.flows
    → IsStepRange (steps.Packet at size ds n x)
    → Leads (at_state (section_of b) w) (step_words w.flows w.switches (steps.Packet at size ds n x))
    (at_state Steps (record w { steps = w.steps ++ steps.Packet at size ds n x ∷ [] }))
packet_leads b w at size ds n x ok lt range = (
  packet_words_are (slice_index (names_of w.flows) at) size ds n x (flow_name_small w at ok.scenario.flows.each lt) range.0 range.1 range.2 range.3,
  λ u line.
      let good = packet_good b w at size ds n x u ok lt range line in (
        packet_read b w at size ds n x good,
        step_more (at_state (section_of b) w) (w.steps ++ steps.Packet at size ds n x ∷ [])
            (steps.Packet at size ds n x) ok
            (record { flow = lt; size = range.0; each_delay = range.1; hops = good.hops; reach = good.fate; some = good.some }) refl good.packets
            (λ i l. omega (arith, ok.scenario.steps.few_ends i l)),
      ),
)

end_leads : (b : Bool) (w : Scenario) (at : ℕ) → IsDraft (at_state (section_of b) w) → at < length w.switches
    → Leads (at_state (section_of b) w) (step_words w.flows w.switches (steps.End at)) (at_state Steps (record w { steps = w.steps ++ steps.End at ∷ [] }))
unfolding keyword_of end_line end_one position_of no_more
end_leads b w at ok lt = let small : slice_index w.switches at < 65536 = ok.scenario.switches.each at 0 lt in (
  end_are_words (slice_index w.switches at) small,
  λ u line.
      let form = sym (form_read (at_state (section_of b) w) (codes "end") (decimal (slice_index w.switches at) ∷ []) words.End refl (later b) refl
      (placed b words.End refl refl) (end_are_words (slice_index w.switches at) small)) ∙ line in
      let found = rw (
        not_word (slice_index w.switches at) (codes "all")
            (bytes_eq (decimal (slice_index w.switches at)) (codes "all")) refl small no_number,
        number_read 65535 (slice_index w.switches at) [] (lit< tt)
            (omega (arith, small)),
        name_found w.switches at ok.scenario.switches.own lt,
      ) at form in
      let room = both_read (room 65535 (ends_of at w.steps)) _ u found in
      let few = room_left 65535 (ends_of at w.steps) room.0 room.1 in (
        end_read b w at lt ok.scenario.switches.own small few,
        step_more (at_state (section_of b) w) (w.steps ++ steps.End at ∷ []) (steps.End at) ok lt refl
            (omega (arith, ok.scenario.steps.few_packets)) (λ i l. end_fits (at_state (section_of b) w) at i ok few l),
      ),
)

all_have_room : (ts : List Step) (n : ℕ) (x : Unit {0}) → room_for_all ts n ≡ Ok x → all_room ts n ≡ true
unfolding room_for_all
all_have_room ts n x h = if_read _ _ _ _ h

end_all_leads : (b : Bool) (w : Scenario) → IsDraft (at_state (section_of b) w)
    → Leads (at_state (section_of b) w) (step_words w.flows w.switches steps.EndAll) (at_state Steps (record w { steps = w.steps ++ steps.EndAll ∷ [] }))
unfolding keyword_of end_line end_all no_more
end_all_leads b w ok = (
  (refl, (refl, tt)),
  λ u line.
      let form = sym (form_read (at_state (section_of b) w) (codes "end") (codes "all" ∷ []) words.End refl (later b) refl (placed b words.End refl refl)
      (refl, (refl, tt))) ∙ line in
      let room = both_read (room_for_all w.steps (length w.switches)) _ u form in
      let few : (i : ℕ) → i < length w.switches
      → ends_of i w.steps < 65535 = λ i l. room_at w.steps (length w.switches) i (all_have_room w.steps (length w.switches) room.0 room.1) l in (
        end_all_read b w few,
        step_more (at_state (section_of b) w) (w.steps ++ steps.EndAll ∷ []) steps.EndAll ok tt refl
            (omega (arith, ok.scenario.steps.few_packets)) (λ i l. omega (arith, few i l)),
      ),
)

release_leads : (b : Bool) (w : Scenario) → IsDraft (at_state (section_of b) w)
    → Leads (at_state (section_of b) w) (step_words w.flows w.switches steps.Release) (at_state Steps (record w { steps = w.steps ++ steps.Release ∷ [] }))
release_leads b w ok = (
  (refl, tt),
  λ u line. (
    release_read b w,
    step_more (at_state (section_of b) w) (w.steps ++ steps.Release ∷ []) steps.Release ok tt refl
        (omega (arith, ok.scenario.steps.few_packets)) (λ i l. omega (arith, ok.scenario.steps.few_ends i l)),
  ),
)

pub step_leads : (b : Bool) (w : Scenario) (t : Step) → IsDraft (at_state (section_of b) w) → IsStepRange t
    → IsStepInRange (length w.flows) (length w.switches) t
    → Leads (at_state (section_of b) w) (step_words w.flows w.switches t) (at_state Steps (record w { steps = w.steps ++ t ∷ [] }))
step_leads b w (steps.Packet at size ds n x) ok range within = packet_leads b w at size ds n x ok within range
step_leads b w (steps.End at) ok range within = end_leads b w at ok within
step_leads b w steps.EndAll ok range within = end_all_leads b w ok
step_leads b w steps.Release ok range within = release_leads b w ok

-- ---- asks

declared : (names : List ℕ) (n : ℕ) (x : Unit {0}) → known_name names n ≡ Ok x → list_any (λ m. eqb m n) names ≡ true
unfolding known_name
declared names n x h = if_read _ _ _ _ h

pub ask_leads : (b : Bool) (w : Scenario) (q : Ask) → IsDraft (at_state (section_of b) w) → IsAskRange q → q.flow_at < length w.flows
    → Leads (at_state (section_of b) w) (ask_words w.flows q) (at_state Steps (record w { asks = w.asks ++ q ∷ [] }))
unfolding keyword_of ask_line position_of no_more
ask_leads b w q ok range lt = let name = flow_name_small w q.flow_at ok.scenario.flows.each lt in (
  ask_are_words w q name range.0 range.1,
  λ u line.
      let form = sym (form_read (at_state (section_of b) w) (codes "ask")
      (decimal (slice_index (names_of w.flows) q.flow_at) ∷ decimal q.switch ∷ decimal q.epoch ∷ []) words.Ask refl (later b) refl
      (placed b words.Ask refl refl) (ask_are_words w q name range.0 range.1)) ∙ line in
      let found = rw (
        number_read 65535 (slice_index (names_of w.flows) q.flow_at) (decimal q.switch ∷ decimal q.epoch ∷ []) (lit< tt)
            (omega (arith, name)),
        flow_found w q.flow_at ok.scenario.flows.own lt,
        number_read 65535 q.switch (decimal q.epoch ∷ []) (lit< tt)
            (omega (arith, range.0)),
      ) at form in
      let here = both_read (known_name w.switches q.switch) _ u found in
      let timed = rw (number_read 4294967295 q.epoch [] (lit< tt) (omega (arith, range.1))) at here.2 in
      let room = both_read (room 10000 (length w.asks)) _ u timed in
      let is = declared w.switches q.switch here.0 here.1 in
      let few = room_left 10000 (length w.asks) room.0 room.1 in (
        ask_read b w q lt ok.scenario.flows.own name is range.0 range.1 few,
        ask_more (at_state (section_of b) w) (w.asks ++ q ∷ []) q ok
            (record { flow = lt; declared = is; switch = range.0; epoch = range.1 }) refl few,
      ),
)
