-- The lines of the parts of a scenario are read again.
use Rattle.std.proofs.Common.{◌≡◌, ℕ, suc, zero, ◌+◌, ◌<◌, ◌≤◌, ◌^◌, Bool, true, false, eqb, List, [], ◌∷◌, ◌++◌, length, length-append, set, map, Some}
use Rattle.std.proofs.Common.{None, Ok, refl, sym, ap, ◌∙◌, arith, All, lit<, append_assoc}
use Rattle.std.specs.Prelude.{codes, slice_get, slice_index}
use Rattle.std.specs.List.{list_any, list_all, position}
use Rattle.std.specs.Str.{bytes_eq}
use Rattle.std.specs.Fmt.{decimal}
use Rattle.std.proofs.Math.Seq.{get_or-append_seam}
use Rattle.std.proofs.lemmas.Bool.{le-leb, lt-ltb}
use Rattle.std.proofs.lemmas.List.{append-nil, get_or_append_left, length-map}
use Rattle.std.proofs.lemmas.Slice.Eq.{bytes_eq-Decides}
use Rattle.flow_key.specs.declared.key.FlowKey.{FlowKey}
use Rattle.flow_key.specs.KeyText.{Fits}
use Rattle.flow_key.specs.Words.{number_to, is_number}
use Rattle.flow_key.proofs.KeyLemmas.{number_again, address_again}
use Rattle.lg_model.specs.declared.scenario.Hash.{Hash}
use Rattle.lg_model.specs.declared.scenario.Hash.TheVariants as hashes
use Rattle.lg_model.specs.declared.scenario.Pick.{Pick}
use Rattle.lg_model.specs.declared.scenario.Pick.TheVariants as picks
use Rattle.lg_model.specs.declared.scenario.Letter.{Letter}
use Rattle.lg_model.specs.declared.scenario.Letter.TheVariants as letters
use Rattle.lg_model.specs.declared.scenario.HostLine.{HostLine}
use Rattle.lg_model.specs.declared.scenario.Flow.{Flow}
use Rattle.lg_model.specs.declared.scenario.Fate.{Fate}
use Rattle.lg_model.specs.declared.scenario.Fate.TheVariants as fates
use Rattle.lg_model.specs.declared.scenario.Step.{Step}
use Rattle.lg_model.specs.declared.scenario.Step.TheVariants as steps
use Rattle.lg_model.specs.declared.scenario.Ask.{Ask}
use Rattle.lg_model.specs.Placing.{Shape, IsShape}
use Rattle.lg_model.specs.Keeping.{IsFlow, names_of, ends_of, AreApart, host_names}
use Rattle.lg_model.specs.Scenario.{Scenario, packet_count, reached, path_at}
use Rattle.scenario_lines.specs.declared.section.Section.{Section}
use Rattle.scenario_lines.specs.declared.section.Section.TheVariants as sections
use Rattle.scenario_lines.specs.declared.section.Section.TheVariants.{Declarations, Steps, Done}
use Rattle.scenario_lines.specs.declared.section.Keyword.{Keyword}
use Rattle.scenario_lines.specs.declared.section.Keyword.TheVariants as words
use Rattle.scenario_lines.specs.Sections.{is_first, admits, keyword_of}
use Rattle.lg_model.specs.Ranges.{IsHashRange, IsPickRange}
use Rattle.text_out.specs.Words.{Words, joined}
use Rattle.text_out.specs.Shapes.{hash_words}
use Rattle.scenario_lines.specs.Spelling.{guardian_words, shape_line_words, pick_words, pick_line_words, host_words, switch_words, key_parts, path_words}
use Rattle.scenario_lines.specs.Spelling.{flow_words, byte_of, link_words, burst_words, fate_words, step_words, ask_words, done_words}
use Rattle.scenario_lines.specs.Draft.{State}
use Rattle.scenario_lines.specs.Fields.{word, no_more, fresh_name, known_name, position_of, fresh_host, host_position, fresh_flow, room, room_to, all_room}
use Rattle.scenario_lines.specs.Fields.{room_for_all, key_address, key_number, key, hop, path, hash, pick, is_letter, letter_of, letters_word, delays}
use Rattle.scenario_lines.specs.Fields.{burst, fate, fate_ended}
use Rattle.scenario_lines.specs.Line.{shape_line, pick_line, host_line, switch_line, flow_line, unlinked, link_line, packet_line, end_one, end_all}
use Rattle.scenario_lines.specs.Line.{end_line, release_line, ask_line, done_line, form_of, words_line, is_skipped, line_of}
use Rattle.scenario_lines.proofs.IndexLemmas.{position_none}
use Rattle.scenario_lines.proofs.NameLemmas.{absent}
use Rattle.scenario_text.proofs.PrintedWordsAreRead.{AreWords, is_word, words_append, split_words, number_word_is, key_words_are, numbers_are_words}
use Rattle.scenario_text.proofs.PrintedWordsAreRead.{number_read}
use Rattle.scenario_text.proofs.PrintedWordsAreRead.{number_from_read}
use Rattle.scenario_text.proofs.PrintedNamesAreRead.{position_is, name_found, thing_found, name_fresh}

-- The state of a text that has said these parts and is in this section.
abbrev pub at_state : Section → Scenario → State
at_state x w = record { section = x; parts = w }

-- The section of declarations, or that of steps where one came.
abbrev pub section_of : Bool → Section
section_of true = Steps
section_of false = Declarations

-- A line that isn't the first goes by its form.
pub form_read : (s : State) (w : List ℕ) (ws : Words) (k : Keyword) → is_skipped (joined (w ∷ ws)) ≡ false → is_first s.section ≡ false
    → keyword_of w ≡ Some k → admits s.section k ≡ true → AreWords (w ∷ ws) → line_of s (joined (w ∷ ws)) ≡ form_of k s ws
unfolding line_of
form_read s w ws k plain later is placed ok = rw (plain, later) (ap (words_line s) (split_words w ws ok) ∙ rw (is, placed) refl)

-- ---- the first three lines

pub guardian_read : (w : Scenario) → line_of (at_state sections.Version w) (joined guardian_words) ≡ Ok (at_state sections.Shape w)
unfolding line_of
guardian_read w = refl

hash_read : (x : Hash) → IsHashRange x → hash (hash_words x) ≡ Ok (x, [])
unfolding hash
hash_read hashes.Ports ok = refl
hash_read (hashes.Seed n) ok = rw (number_read 18446744073709551615 n [] (lit< tt) (omega (arith, ok))) refl

hash_are_words : (x : Hash) → IsHashRange x → AreWords (hash_words x)
hash_are_words hashes.Ports ok = (refl, tt)
hash_are_words (hashes.Seed n) ok = (refl, (number_word_is n ok, tt))

pub shape_are_words : (x : Shape) → IsShape x.rows x.width → IsHashRange x.hash → AreWords (shape_line_words x)
shape_are_words x fits ok =
    (refl, (number_word_is x.rows (omega (arith, fits.few_rows)), (number_word_is x.width (omega (arith, fits.few_width)), hash_are_words x.hash ok)))

pub shape_read : (w : Scenario) (x : Shape) → IsShape x.rows x.width → IsHashRange x.hash
    → line_of (at_state sections.Shape w) (joined (shape_line_words x)) ≡ Ok (at_state sections.Pick (record w { shape = x }))
unfolding keyword_of shape_line no_more
shape_read w x fits ok =
    form_read (at_state sections.Shape w) (codes "shape") (decimal x.rows ∷ decimal x.width ∷ hash_words x.hash) words.Shape refl refl refl refl
    (shape_are_words x fits ok)
    ∙ rw (
      number_from_read 1 8 x.rows (decimal x.width ∷ hash_words x.hash) (lit< tt) fits.some_rows fits.few_rows,
      number_from_read 1 4096 x.width (hash_words x.hash) (lit< tt) fits.some_width fits.few_width,
      hash_read x.hash ok,
    ) refl

pick_words_read : (x : Pick) → IsPickRange x → pick (pick_words x) ≡ Ok (x, [])
unfolding pick
pick_words_read picks.Turns ok = refl
pick_words_read (picks.Chance n) ok = rw (number_read 18446744073709551615 n [] (lit< tt) (omega (arith, ok))) refl

pub pick_are_words : (x : Pick) → IsPickRange x → AreWords (pick_line_words x)
pick_are_words picks.Turns ok = (refl, (refl, tt))
pick_are_words (picks.Chance n) ok = (refl, (refl, (number_word_is n ok, tt)))

pub pick_read : (w : Scenario) (x : Pick) → IsPickRange x
    → line_of (at_state sections.Pick w) (joined (pick_line_words x)) ≡ Ok (at_state Declarations (record w { pick = x }))
unfolding keyword_of pick_line no_more
pick_read w x ok = form_read (at_state sections.Pick w) (codes "pick") (pick_words x) words.Pick refl refl refl refl (pick_are_words x ok)
    ∙ rw (pick_words_read x ok) refl

-- ---- hosts and switches

-- A host without its letters.
abbrev pub bare : HostLine → HostLine
bare h = record { name = h.name; letters = [] }

pub host_are_words : (h : HostLine) → h.name < 65536 → AreWords (host_words h)
host_are_words h small = (refl, (number_word_is h.name (omega arith), tt))

pub host_read : (w : Scenario) (h : HostLine) → h.name < 65536 → list_any (λ g. eqb g.name h.name) w.hosts ≡ false → length w.hosts < 64
    → line_of (at_state Declarations w) (joined (host_words h)) ≡ Ok (at_state Declarations (record w { hosts = w.hosts ++ bare h ∷ [] }))
unfolding keyword_of host_line fresh_host no_more room
host_read w h small new few =
    form_read (at_state Declarations w) (codes "host") (decimal h.name ∷ []) words.Host refl refl refl refl (host_are_words h small)
    ∙ rw (number_read 65535 h.name [] (lit< tt) (omega arith), new, lt-ltb (length w.hosts) 64 few) refl

pub switch_are_words : (n : ℕ) → n < 65536 → AreWords (switch_words n)
switch_are_words n small = (refl, (number_word_is n (omega arith), tt))

pub switch_read : (w : Scenario) (n : ℕ) → n < 65536 → list_any (λ m. eqb m n) w.switches ≡ false → length w.switches < 64
    → line_of (at_state Declarations w) (joined (switch_words n)) ≡ Ok (at_state Declarations (record w { switches = w.switches ++ n ∷ [] }))
unfolding keyword_of switch_line fresh_name no_more room
switch_read w n small new few =
    form_read (at_state Declarations w) (codes "switch") (decimal n ∷ []) words.Switch refl refl refl refl (switch_are_words n small)
    ∙ rw (number_read 65535 n [] (lit< tt) (omega arith), new, lt-ltb (length w.switches) 64 few) refl

-- ---- flows

pub key_read : (k : FlowKey) (ws : Words) → Fits k → key (key_parts k ws) ≡ Ok (k, ws)
unfolding key key_address key_number
key_read k ws h = rw (
  address_again k.src h.src,
  address_again k.dst h.dst,
  number_again 255 k.proto (lit< tt) (omega (arith, h.proto)),
  number_again 65535 k.sport (lit< tt) (omega (arith, h.sport)),
  number_again 65535 k.dport (lit< tt) (omega (arith, h.dport)),
) refl

pub path_read : (switches sofar ats : List ℕ) → AreApart switches → All (λ n. n < 65536) switches → All (λ at. at < length switches) ats
    → AreApart (sofar ++ ats) → length sofar + length ats ≤ 16 → 0 < length sofar + length ats
    → path switches sofar (path_words switches ats) ≡ Ok (sofar ++ ats)
unfolding path hop position_of fresh_name
path_read switches sofar [] own small within once few some =
    let e : eqb (length sofar) 0 ≡ false = grind arith in
    rw (e, append-nil) refl
path_read switches sofar (at ∷ ats) own small within once few some =
    let e : eqb (length sofar) 16 ≡ false = grind arith in
    let lt : at < length switches = within 0 0 (omega arith) in
    let le : slice_index switches at ≤ 65535 = let l = small at 0 lt in omega (arith, l) in
    let again : AreApart ((sofar ++ at ∷ []) ++ ats) = rw (append_assoc sofar (at ∷ []) ats) once in
    rw (e, number_read 65535 (slice_index switches at) [] (lit< tt) le, name_found switches at own lt, name_fresh sofar ats at once)
    (path_read switches (sofar ++ at ∷ []) ats own small (λ i d l. within (suc i) d (omega arith)) again (omega (arith, length-append sofar (at ∷ [])))
    (omega (arith, length-append sofar (at ∷ []))) ∙ ap (λ (xs : List ℕ). Ok xs) (append_assoc sofar (at ∷ []) ats))

pub path_are_words : (switches ats : List ℕ) → All (λ n. n < 65536) switches → All (λ at. at < length switches) ats → AreWords (path_words switches ats)
path_are_words switches [] small within = tt
path_are_words switches (at ∷ ats) small within = (
  number_word_is (slice_index switches at) (let l = small at 0 (within 0 0 (omega arith)) in omega (arith, l)),
  path_are_words switches ats small (λ i d l. within (suc i) d (omega arith)),
)

-- What a flow's line needs of the parts before it: the hosts' names are those of these hosts.
pub record FlowFits (w : Scenario) (hosts : List HostLine) (f : Flow) : Type 0 where
  pub names : host_names w.hosts ≡ host_names hosts
  pub fits : IsFlow (length w.hosts) (length w.switches) f
  pub own_hosts : AreApart (host_names w.hosts)
  pub host_name : slice_index (host_names w.hosts) f.host_at < 65536
  pub own_switches : AreApart w.switches
  pub small_switches : All (λ n. n < 65536) w.switches
  pub new_flow : list_any (λ m. eqb m f.name) (names_of w.flows) ≡ false
  pub room_left : length w.flows < 4096

pub flow_are_words_of : (switches : List ℕ) (f : Flow) (host : ℕ) → host < 65536 → f.name < 65536 → Fits f.key → AreWords (path_words switches f.path)
    → AreWords (codes "flow" ∷ decimal f.name ∷ key_parts f.key (codes "host" ∷ decimal host ∷ codes "path" ∷ path_words switches f.path))
flow_are_words_of switches f host small name fits hops = (
  refl,
  (
    number_word_is f.name (omega arith),
    key_words_are f.key (codes "host" ∷ decimal host ∷ codes "path" ∷ path_words switches f.path) fits
        (refl, (number_word_is host (omega arith), (refl, hops))),
  ),
)

pub flow_are_words : (w : Scenario) (hosts : List HostLine) (f : Flow) → FlowFits w hosts f → AreWords (flow_words hosts w.switches f)
flow_are_words w hosts f h = flow_are_words_of w.switches f (slice_index (host_names hosts) f.host_at) (rw h.names at h.host_name) h.fits.name h.fits.key
    (path_are_words w.switches f.path h.small_switches h.fits.path)

flow_line_read : (w : Scenario) (hosts : List HostLine) (f : Flow) → FlowFits w hosts f →
    flow_line (at_state Declarations w)
    (decimal f.name ∷ key_parts f.key
    (codes "host" ∷ decimal (slice_index (host_names w.hosts) f.host_at) ∷ codes "path" ∷ path_words w.switches f.path)) ≡ Ok
    (at_state Declarations (record w { flows = w.flows ++ f ∷ [] }))
unfolding flow_line word host_position fresh_flow room
flow_line_read w hosts f h =
    let none : position (λ m. eqb m f.name) (names_of w.flows) ≡ None =
    position_none (λ m. eqb m f.name) (names_of w.flows) (λ k lt. absent (λ m. eqb m f.name) (names_of w.flows) h.new_flow k 0 lt) in
    rw (
      number_read 65535 f.name _ (lit< tt) (omega (arith, h.fits.name)),
      none,
      key_read f.key _ h.fits.key,
      number_read 65535 (slice_index (host_names w.hosts) f.host_at) _ (lit< tt) (omega (arith, h.host_name)),
      thing_found (λ (g : HostLine). g.name) w.hosts f.host_at h.own_hosts h.fits.host,
      path_read w.switches [] f.path h.own_switches h.small_switches h.fits.path h.fits.once (omega (arith, h.fits.few_hops))
          (omega (arith, h.fits.some_hops)),
      lt-ltb (length w.flows) 4096 h.room_left,
    ) refl

pub flow_read : (w : Scenario) (hosts : List HostLine) (f : Flow) → FlowFits w hosts f
    → line_of (at_state Declarations w) (joined (flow_words hosts w.switches f)) ≡ Ok (at_state Declarations (record w { flows = w.flows ++ f ∷ [] }))
unfolding keyword_of
flow_read w hosts f h =
    form_read (at_state Declarations w) (codes "flow")
    (decimal f.name ∷ key_parts f.key
    (codes "host" ∷ decimal (slice_index (host_names hosts) f.host_at) ∷ codes "path" ∷ path_words w.switches f.path)) words.Flow refl refl refl refl
    (flow_are_words w hosts f h)
    ∙ rw (← h.names) (flow_line_read w hosts f h)

-- ---- letters

letters_back : (ls : List Letter) → map letter_of (map byte_of ls) ≡ ls
letters_back [] = refl
letters_back (letters.Deliver ∷ ls) = ap (λ (xs : List Letter). letters.Deliver ∷ xs) (letters_back ls)
letters_back (letters.Lose ∷ ls) = ap (λ (xs : List Letter). letters.Lose ∷ xs) (letters_back ls)
letters_back (letters.LoseReply ∷ ls) = ap (λ (xs : List Letter). letters.LoseReply ∷ xs) (letters_back ls)
letters_back (letters.Twice ∷ ls) = ap (λ (xs : List Letter). letters.Twice ∷ xs) (letters_back ls)
letters_back (letters.Hold ∷ ls) = ap (λ (xs : List Letter). letters.Hold ∷ xs) (letters_back ls)

all_letters : (ls : List Letter) → list_all is_letter (map byte_of ls) ≡ true
all_letters [] = refl
all_letters (letters.Deliver ∷ ls) = all_letters ls
all_letters (letters.Lose ∷ ls) = all_letters ls
all_letters (letters.LoseReply ∷ ls) = all_letters ls
all_letters (letters.Twice ∷ ls) = all_letters ls
all_letters (letters.Hold ∷ ls) = all_letters ls

letters_word_is : (ls : List Letter) → is_word (map byte_of ls) ≡ true
letters_word_is [] = refl
letters_word_is (letters.Deliver ∷ ls) = letters_word_is ls
letters_word_is (letters.Lose ∷ ls) = letters_word_is ls
letters_word_is (letters.LoseReply ∷ ls) = letters_word_is ls
letters_word_is (letters.Twice ∷ ls) = letters_word_is ls
letters_word_is (letters.Hold ∷ ls) = letters_word_is ls

pub get_seam : {X : Type 0} (done rest : List X) (x : X) → slice_get (done ++ x ∷ rest) (length done) ≡ Some x
get_seam [] rest x = refl
get_seam (y ∷ done) rest x = get_seam done rest x

pub set_seam : {X : Type 0} (done rest : List X) (x y : X) → set (done ++ x ∷ rest) (length done) y ≡ done ++ y ∷ rest
set_seam [] rest x y = refl
set_seam (z ∷ done) rest x y = ap (λ (xs : List _). z ∷ xs) (set_seam done rest x y)

same : (n : ℕ) → eqb n n ≡ true
same n = grind arith

pub place_seam : (done rest : List HostLine) (h : HostLine) → list_any (λ g. eqb g.name h.name) done ≡ false
    → position (λ g. eqb g.name h.name) (done ++ bare h ∷ rest) ≡ Some (length done)
place_seam done rest h new =
    position_is (λ g. eqb g.name h.name) (done ++ bare h ∷ rest) (length done) (bare h) (omega (arith, length-append done (bare h ∷ rest)))
    (rw (get_or-append_seam done (bare h) rest (bare h)) (same h.name))
    (λ k lt. rw (get_or_append_left done (bare h ∷ rest) (bare h) k lt) (absent (λ g. eqb g.name h.name) done new k (bare h) lt))

pub link_are_words : (h : HostLine) → h.name < 65536 → AreWords (link_words h)
link_are_words h small = (refl, (number_word_is h.name (omega arith), (letters_word_is h.letters, tt)))

letters_read : (ls : List Letter) → 0 < length ls → length ls ≤ 4096 → letters_word (map byte_of ls ∷ []) ≡ Ok (ls, [])
unfolding letters_word
letters_read ls some few =
    rw (length-map ls byte_of, le-leb 1 (length ls) some, le-leb (length ls) 4096 few, all_letters ls, letters_back ls) refl

pub link_read : (w : Scenario) (done rest : List HostLine) (h : HostLine) → h.name < 65536 → 0 < length h.letters → length h.letters ≤ 4096
    → list_any (λ g. eqb g.name h.name) done ≡ false →
    line_of (at_state Declarations (record w { hosts = done ++ bare h ∷ rest })) (joined (link_words h)) ≡ Ok
    (at_state Declarations (record w { hosts = done ++ h ∷ rest }))
unfolding keyword_of link_line host_position unlinked no_more
link_read w done rest h small some few new =
    form_read (at_state Declarations (record w { hosts = done ++ bare h ∷ rest })) (codes "link")
    (decimal h.name ∷ map byte_of h.letters ∷ []) words.Link refl refl refl refl (link_are_words h small)
    ∙ rw (
      number_read 65535 h.name (map byte_of h.letters ∷ []) (lit< tt) (omega arith),
      place_seam done rest h new,
      get_seam done rest (bare h),
      letters_read h.letters some few,
      set_seam done rest (bare h) h,
    ) refl

-- ---- steps

pub later : (b : Bool) → is_first (section_of b) ≡ false
later true = refl
later false = refl

pub placed : (b : Bool) (k : Keyword) → admits Steps k ≡ true → admits Declarations k ≡ true → admits (section_of b) k ≡ true
placed true k one two = one
placed false k one two = two

pub delays_read : (path sofar ds : List ℕ) (rest : Words) → All (λ d. d < 4294967296) ds → length ds ≡ length path
    → delays path sofar (map decimal ds ++ rest) ≡ Ok (sofar ++ ds, rest)
unfolding delays
delays_read [] sofar [] rest small len = rw append-nil refl
delays_read [] sofar (d ∷ ds) rest small len = absurd (omega arith)
delays_read (hop ∷ path) sofar [] rest small len = absurd (omega arith)
delays_read (hop ∷ path) sofar (d ∷ ds) rest small len =
    rw (number_read 4294967295 d (map decimal ds ++ rest) (lit< tt) (let l = small 0 0 (omega arith) in omega (arith, l)))
    (delays_read path (sofar ++ d ∷ []) ds rest (λ i x lt. small (suc i) x (omega arith)) (omega arith)
    ∙ ap (λ (xs : List ℕ). Ok (xs, rest)) (append_assoc sofar (d ∷ []) ds))

not_burst : (x : Fate) → burst (fate_words x) ≡ Ok (1, fate_words x)
unfolding burst
not_burst fates.Straight = refl
not_burst (fates.Lost k) = refl
not_burst fates.Twice = refl
not_burst fates.Late = refl

pub burst_if : (n : ℕ) (x : Fate) (b : Bool) → eqb n 1 ≡ b → 1 ≤ n → n ≤ 1000000 → burst (burst_words n ++ fate_words x) ≡ Ok (n, fate_words x)
unfolding burst
burst_if n x true e ge le = let is : n ≡ 1 = grind arith in rw is (not_burst x)
burst_if n x false e ge le = rw e (number_from_read 1 1000000 n (fate_words x) (lit< tt) ge le)

fate_read : (hops : ℕ) (x : Fate) → hops < 2 ^ 64 → reached x hops ≤ hops → fate hops (fate_words x) ≡ Ok x
unfolding fate fate_ended
fate_read hops fates.Straight small fits = refl
fate_read hops (fates.Lost k) small fits = rw (number_read hops k [] small fits) refl
fate_read hops fates.Twice small fits = refl
fate_read hops fates.Late small fits = refl

fate_are_words : (hops : ℕ) (x : Fate) → hops < 65536 → reached x hops ≤ hops → AreWords (fate_words x)
fate_are_words hops fates.Straight small fits = tt
fate_are_words hops (fates.Lost k) small fits = (refl, (number_word_is k (omega (arith, fits)), tt))
fate_are_words hops fates.Twice small fits = (refl, tt)
fate_are_words hops fates.Late small fits = (refl, tt)

burst_are_words : (n : ℕ) (b : Bool) → eqb n 1 ≡ b → n ≤ 1000000 → AreWords (burst_words n)
burst_are_words n true e le = rw e tt
burst_are_words n false e le = rw e (refl, (number_word_is n (omega arith), tt))

pub record PacketFits (w : Scenario) (at size : ℕ) (ds : List ℕ) (b : ℕ) (x : Fate) : Type 0 where
  pub flow : at < length w.flows
  pub own_flows : AreApart (names_of w.flows)
  pub name : slice_index (names_of w.flows) at < 65536
  pub small : size < 65536
  pub hops : length ds ≡ length (path_at w.flows at)
  pub short : length (path_at w.flows at) ≤ 16
  pub delays : All (λ d. d < 4294967296) ds
  pub some : 1 ≤ b
  pub fate : reached x (length (path_at w.flows at)) ≤ length (path_at w.flows at)
  pub packets : packet_count w.steps + b ≤ 1000000

pub packet_are_words : (w : Scenario) (at size : ℕ) (ds : List ℕ) (b : ℕ) (x : Fate) → PacketFits w at size ds b x
    → AreWords (step_words w.flows w.switches (steps.Packet at size ds b x))
packet_are_words w at size ds b x h =
    let tail = words_append (burst_words b) (fate_words x) (burst_are_words b (eqb b 1) refl (omega (arith, h.packets)))
    (fate_are_words (length (path_at w.flows at)) x (omega (arith, h.short)) h.fate) in (
      refl,
      (
        number_word_is (slice_index (names_of w.flows) at) (omega (arith, h.name)),
        (number_word_is size (omega (arith, h.small)), words_append (map decimal ds) (burst_words b ++ fate_words x) (numbers_are_words ds h.delays) tail),
      ),
    )

pub flow_found : (w : Scenario) (at : ℕ) → AreApart (names_of w.flows) → at < length w.flows
    → position (λ m. eqb m (slice_index (names_of w.flows) at)) (names_of w.flows) ≡ Some at
flow_found w at own lt = name_found (names_of w.flows) at own (omega (arith, length-map w.flows (λ (f : Flow). f.name)))

pub packet_read : (b : Bool) (w : Scenario) (at size : ℕ) (ds : List ℕ) (n : ℕ) (x : Fate) → PacketFits w at size ds n x
    → line_of (at_state (section_of b) w) (joined (step_words w.flows w.switches (steps.Packet at size ds n x))) ≡ Ok
    (at_state Steps (record w { steps = w.steps ++ steps.Packet at size ds n x ∷ [] }))
unfolding keyword_of packet_line position_of room_to
packet_read b w at size ds n x h =
    form_read (at_state (section_of b) w) (codes "packet")
    (decimal (slice_index (names_of w.flows) at) ∷ decimal size ∷ (map decimal ds ++ (burst_words n ++ fate_words x))) words.Packet refl (later b) refl
    (placed b words.Packet refl refl) (packet_are_words w at size ds n x h)
    ∙ rw (
      number_read 65535 (slice_index (names_of w.flows) at) _ (lit< tt) (omega (arith, h.name)),
      flow_found w at h.own_flows h.flow,
      number_read 65535 size _ (lit< tt) (omega (arith, h.small)),
      delays_read (path_at w.flows at) [] ds (burst_words n ++ fate_words x) h.delays h.hops,
      burst_if n x (eqb n 1) refl h.some (omega (arith, h.packets)),
      fate_read (length (path_at w.flows at)) x (omega (arith, h.short)) h.fate,
      le-leb (packet_count w.steps + n) 1000000 h.packets,
    ) refl

differ : (d : ℕ) → Some d ≡ None → ⊥
differ d e = cc

-- A number is none of the fixed words.
pub not_word : (d : ℕ) (w : List ℕ) (b : Bool) → bytes_eq (decimal d) w ≡ b → d < 65536 → number_to 65535 w ≡ None → b ≡ false
not_word d w false is small none = refl
not_word d w true is small none =
    let one : decimal d ≡ w = (bytes_eq-Decides (decimal d) w).0 is in
    absurd (differ d (sym (number_again 65535 d (lit< tt) (omega arith)) ∙ ap (number_to 65535) one ∙ none))

pub no_number : number_to 65535 (codes "all") ≡ None
unfolding number_to is_number
no_number = refl

pub end_are_words : (n : ℕ) → n < 65536 → AreWords (codes "end" ∷ decimal n ∷ [])
end_are_words n small = (refl, (number_word_is n (omega arith), tt))

pub end_read : (b : Bool) (w : Scenario) (at : ℕ) → at < length w.switches → AreApart w.switches → slice_index w.switches at < 65536
    → ends_of at w.steps < 65535
    → line_of (at_state (section_of b) w) (joined (step_words w.flows w.switches (steps.End at))) ≡ Ok
    (at_state Steps (record w { steps = w.steps ++ steps.End at ∷ [] }))
unfolding keyword_of end_line end_one position_of no_more room
end_read b w at lt own small few =
    form_read (at_state (section_of b) w) (codes "end") (decimal (slice_index w.switches at) ∷ []) words.End refl (later b) refl
    (placed b words.End refl refl) (end_are_words (slice_index w.switches at) small)
    ∙ rw (
      not_word (slice_index w.switches at) (codes "all") (bytes_eq (decimal (slice_index w.switches at)) (codes "all")) refl small no_number,
      number_read 65535 (slice_index w.switches at) [] (lit< tt) (omega (arith, small)),
      name_found w.switches at own lt,
      lt-ltb (ends_of at w.steps) 65535 few,
    ) refl

all_have_room : (ts : List Step) (n : ℕ) → ((i : ℕ) → i < n → ends_of i ts < 65535) → all_room ts n ≡ true
all_have_room ts zero few = refl
all_have_room ts (suc n) few = rw (lt-ltb (ends_of n ts) 65535 (few n (omega arith)), all_have_room ts n (λ i lt. few i (omega arith))) refl

pub end_all_read : (b : Bool) (w : Scenario) → ((i : ℕ) → i < length w.switches → ends_of i w.steps < 65535)
    → line_of (at_state (section_of b) w) (joined (step_words w.flows w.switches steps.EndAll)) ≡ Ok
    (at_state Steps (record w { steps = w.steps ++ steps.EndAll ∷ [] }))
unfolding keyword_of end_line end_all no_more room_for_all
end_all_read b w few =
    form_read (at_state (section_of b) w) (codes "end") (codes "all" ∷ []) words.End refl (later b) refl (placed b words.End refl refl) (refl, (refl, tt))
    ∙ rw (all_have_room w.steps (length w.switches) few) refl

pub release_read : (b : Bool) (w : Scenario)
    → line_of (at_state (section_of b) w) (joined (step_words w.flows w.switches steps.Release)) ≡ Ok
    (at_state Steps (record w { steps = w.steps ++ steps.Release ∷ [] }))
unfolding keyword_of release_line no_more
release_read b w = form_read (at_state (section_of b) w) (codes "release") [] words.Release refl (later b) refl (placed b words.Release refl refl) (refl, tt)

-- ---- asks and the last line

pub ask_are_words : (w : Scenario) (q : Ask) → slice_index (names_of w.flows) q.flow_at < 65536 → q.switch < 65536 → q.epoch < 4294967296
    → AreWords (ask_words w.flows q)
ask_are_words w q name switch epoch = (
  refl,
  (
    number_word_is (slice_index (names_of w.flows) q.flow_at) (omega arith),
    (number_word_is q.switch (omega arith), (number_word_is q.epoch (omega arith), tt)),
  ),
)

pub ask_read : (b : Bool) (w : Scenario) (q : Ask) → q.flow_at < length w.flows → AreApart (names_of w.flows)
    → slice_index (names_of w.flows) q.flow_at < 65536 → list_any (λ m. eqb m q.switch) w.switches ≡ true → q.switch < 65536 → q.epoch < 4294967296
    → length w.asks < 10000
    → line_of (at_state (section_of b) w) (joined (ask_words w.flows q)) ≡ Ok (at_state Steps (record w { asks = w.asks ++ q ∷ [] }))
unfolding keyword_of ask_line position_of known_name no_more room
ask_read b w q lt own name declared switch epoch few =
    form_read (at_state (section_of b) w) (codes "ask")
    (decimal (slice_index (names_of w.flows) q.flow_at) ∷ decimal q.switch ∷ decimal q.epoch ∷ []) words.Ask refl (later b) refl
    (placed b words.Ask refl refl) (ask_are_words w q name switch epoch)
    ∙ rw (
      number_read 65535 (slice_index (names_of w.flows) q.flow_at) _ (lit< tt) (omega arith),
      flow_found w q.flow_at own lt,
      number_read 65535 q.switch _ (lit< tt) (omega arith),
      declared,
      number_read 4294967295 q.epoch _ (lit< tt) (omega arith),
      lt-ltb (length w.asks) 10000 few,
    ) refl

pub done_read : (b : Bool) (w : Scenario) → line_of (at_state (section_of b) w) (joined done_words) ≡ Ok (at_state Done w)
unfolding keyword_of done_line no_more
done_read b w = form_read (at_state (section_of b) w) (codes "done") [] words.Done refl (later b) refl (placed b words.Done refl refl) (refl, tt)
