-- A line is never refused because the text is unfinished or too long.
use Rattle.std.proofs.Common.{◌≡◌, ℕ, Bool, true, false, eqb, ◌&&◌, List, [], ◌∷◌, ◌++◌, length, Option, Some, None, Result, Ok, Err, refl}
use Rattle.std.specs.Prelude.{if◌then◌else◌, slice_get, codes, nat_le, nat_lt}
use Rattle.std.specs.List.{list_any, list_all, position}
use Rattle.std.specs.Str.{bytes_eq}
use Rattle.flow_key.specs.KeyText.{address_of}
use Rattle.flow_key.specs.Words.{words_at, number_to}
use Rattle.lg_model.specs.declared.limits.TheConstants.{MOST_ROWS, MOST_WIDTH, MOST_HOSTS, MOST_SWITCHES, MOST_FLOWS, MOST_PACKETS, MOST_ENDS, MOST_ASKS}
use Rattle.lg_model.specs.declared.limits.TheConstants.{MOST_HOPS, MOST_LETTERS}
use Rattle.lg_model.specs.declared.scenario.HostLine.{HostLine}
use Rattle.lg_model.specs.declared.scenario.Flow.{Flow}
use Rattle.lg_model.specs.declared.scenario.Step.{Step}
use Rattle.scenario_lines.specs.declared.why.Why.{Why}
use Rattle.scenario_lines.specs.declared.why.Why.TheVariants as whys
use Rattle.scenario_lines.specs.declared.section.Keyword.{Keyword}
use Rattle.scenario_lines.specs.declared.section.Keyword.TheVariants as words
use Rattle.scenario_lines.specs.Sections.{is_first, keyword_of, admits}
use Rattle.lg_model.specs.Keeping.{names_of, ends_of}
use Rattle.lg_model.specs.Scenario.{path_at}
use Rattle.text_out.specs.Words.{Words}
use Rattle.scenario_lines.specs.Draft.{State}
use Rattle.scenario_lines.specs.Fields.{◌>>=◌, number, word, no_more, fresh_name, known_name, position_of, fresh_host, host_position, fresh_flow, room}
use Rattle.scenario_lines.specs.Fields.{room_to, all_room, room_for_all, or_bad_key, key_address, key_number, key, hop, path, hash, pick, is_letter}
use Rattle.scenario_lines.specs.Fields.{letters_word, delays, burst, fate_ended, fate}
use Rattle.scenario_lines.specs.Line.{shape_line, pick_line, host_line, switch_line, flow_line, no_letters, unlinked, link_line, packet_line, end_one}
use Rattle.scenario_lines.specs.Line.{end_all, end_line, release_line, ask_line, done_line, form_of, known_line, words_line, is_skipped, line_of}

-- A why of a line, and not of a whole text.
abbrev pub IsOfALine : Why → Type 0
IsOfALine whys.NoDone = ⊥
IsOfALine whys.TooLong = ⊥
IsOfALine _ = Unit {0}

abbrev pub LineWhy : {X : Type 0} → Result X Why → Type 0
LineWhy (Ok x) = Unit {0}
LineWhy (Err why) = IsOfALine why

pub record OfALine {X : Type 0} (r : Result X Why) : Type 0 where
  pub why : LineWhy r

good : {X : Type 0} (x : X) → OfALine (Ok x)
good x = record { why = tt }

bad : {X : Type 0} (why : Why) → IsOfALine why → OfALine {X = X} (Err why)
bad why is = record { why = is }

step : {A B : Type 0} (r : Result A Why) (f : A → Result B Why) → OfALine r → ((x : A) → OfALine (f x)) → OfALine (r >>= f)
step (Ok x) f a b = b x
step (Err why) f a b = record { why = a.why }

branch : {A : Type 0} (c : Bool) (x y : Result A Why) → OfALine x → OfALine y → OfALine (if c then x else y)
branch true x y a b = a
branch false x y a b = b

-- ---- fields

number_why : (low most : ℕ) (ws : Words) → OfALine (number low most ws)
unfolding number
number_why low most [] = bad whys.WordCount tt
number_why low most (w ∷ ws) = by (number_to most w) refl where
  by : (o : Option ℕ) → number_to most w ≡ o → OfALine (number low most (w ∷ ws))
  by None e = rw e (bad whys.BadNumber tt)
  by (Some n) e = rw e (branch (nat_le low n) _ _ (good _) (bad whys.BadNumber tt))

word_why : (text : List ℕ) (ws : Words) → OfALine (word text ws)
unfolding word
word_why text [] = bad whys.WordCount tt
word_why text (w ∷ ws) = (branch (bytes_eq w text) _ _ (good _) (bad whys.BadWord tt))

no_more_why : (ws : Words) → OfALine (no_more ws)
unfolding no_more
no_more_why [] = good _
no_more_why (w ∷ ws) = bad whys.WordCount tt

fresh_name_why : (names : List ℕ) (n : ℕ) → OfALine (fresh_name names n)
unfolding fresh_name
fresh_name_why names n = (branch (list_any (λ m. eqb m n) names) _ _ (bad whys.Repeated tt) (good _))

known_name_why : (names : List ℕ) (n : ℕ) → OfALine (known_name names n)
unfolding known_name
known_name_why names n = (branch (list_any (λ m. eqb m n) names) _ _ (good _) (bad whys.UnknownName tt))

position_why : (names : List ℕ) (n : ℕ) → OfALine (position_of names n)
unfolding position_of
position_why names n = by (position (λ m. eqb m n) names) refl where
  by : (o : Option ℕ) → position (λ m. eqb m n) names ≡ o → OfALine (position_of names n)
  by None e = rw e (bad whys.UnknownName tt)
  by (Some i) e = rw e (good _)

fresh_host_why : (hosts : List HostLine) (n : ℕ) → OfALine (fresh_host hosts n)
unfolding fresh_host
fresh_host_why hosts n = (branch (list_any (λ (h : HostLine). eqb h.name n) hosts) _ _ (bad whys.Repeated tt) (good _))

host_position_why : (hosts : List HostLine) (n : ℕ) → OfALine (host_position hosts n)
unfolding host_position
host_position_why hosts n = by (position (λ (h : HostLine). eqb h.name n) hosts) refl where
  by : (o : Option ℕ) → position (λ (h : HostLine). eqb h.name n) hosts ≡ o → OfALine (host_position hosts n)
  by None e = rw e (bad whys.UnknownName tt)
  by (Some i) e = rw e (good _)

fresh_flow_why : (flows : List Flow) (n : ℕ) → OfALine (fresh_flow flows n)
unfolding fresh_flow
fresh_flow_why flows n = by (position (λ m. eqb m n) (names_of flows)) refl where
  by : (o : Option ℕ) → position (λ m. eqb m n) (names_of flows) ≡ o → OfALine (fresh_flow flows n)
  by None e = rw e (good _)
  by (Some i) e = rw e (bad whys.Repeated tt)

room_why : (most count : ℕ) → OfALine (room most count)
unfolding room
room_why most count = (branch (nat_lt count most) _ _ (good _) (bad whys.TooMany tt))

room_to_why : (most count : ℕ) → OfALine (room_to most count)
unfolding room_to
room_to_why most count = (branch (nat_le count most) _ _ (good _) (bad whys.TooMany tt))

room_for_all_why : (ts : List Step) (n : ℕ) → OfALine (room_for_all ts n)
unfolding room_for_all
room_for_all_why ts n = (branch (all_room ts n) _ _ (good _) (bad whys.TooMany tt))

or_bad_key_why : {A : Type 0} (ws : Words) (o : Option A) → OfALine (or_bad_key ws o)
or_bad_key_why ws None = bad whys.BadKey tt
or_bad_key_why ws (Some x) = good _

key_address_why : (ws : Words) → OfALine (key_address ws)
unfolding key_address
key_address_why [] = bad whys.WordCount tt
key_address_why (w ∷ ws) = or_bad_key_why ws (address_of w)

key_number_why : (most : ℕ) (ws : Words) → OfALine (key_number most ws)
unfolding key_number
key_number_why most [] = bad whys.WordCount tt
key_number_why most (w ∷ ws) = or_bad_key_why ws (number_to most w)

key_why : (ws : Words) → OfALine (key ws)
unfolding key
key_why ws = (step _ _ (key_address_why ws)
    (λ src. (step _ _ (key_address_why src.1)
    (λ dst. (step _ _ (key_number_why 255 dst.1)
    (λ proto. (step _ _ (key_number_why 65535 proto.1) (λ sport. (step _ _ (key_number_why 65535 sport.1) (λ dport. (good _)))))))))))

hop_why : (switches sofar w : List ℕ) → OfALine (hop switches sofar w)
unfolding hop
hop_why switches sofar w =
    (branch (eqb (length sofar) MOST_HOPS) _ _ (bad whys.BadPath tt)
    (step _ _ (number_why 0 65535 (w ∷ [])) (λ x. (step _ _ (position_why switches x.0) (λ at. (step _ _ (fresh_name_why sofar at) (λ new. (good _))))))))

path_why : (switches sofar : List ℕ) (ws : Words) → OfALine (path switches sofar ws)
unfolding path
path_why switches sofar [] = (branch (eqb (length sofar) 0) _ _ (bad whys.WordCount tt) (good _))
path_why switches sofar (w ∷ ws) = (step _ _ (hop_why switches sofar w) (λ at. (path_why switches (sofar ++ at ∷ []) ws)))

hash_why : (ws : Words) → OfALine (hash ws)
unfolding hash
hash_why [] = bad whys.WordCount tt
hash_why (w ∷ ws) = (branch (bytes_eq w (codes "ports")) _ _ (good _)
    (branch (bytes_eq w (codes "seed")) _ _ (step _ _ (number_why 0 18446744073709551615 ws) (λ n. (good _))) (bad whys.BadWord tt)))

pick_why : (ws : Words) → OfALine (pick ws)
unfolding pick
pick_why [] = bad whys.WordCount tt
pick_why (w ∷ ws) = (branch (bytes_eq w (codes "turns")) _ _ (good _)
    (branch (bytes_eq w (codes "chance")) _ _ (step _ _ (number_why 0 18446744073709551615 ws) (λ n. (good _))) (bad whys.BadWord tt)))

letters_why : (ws : Words) → OfALine (letters_word ws)
unfolding letters_word
letters_why [] = bad whys.WordCount tt
letters_why (w ∷ ws) = (branch (nat_le 1 (length w) && nat_le (length w) MOST_LETTERS && list_all is_letter w) _ _ (good _) (bad whys.BadLetters tt))

delays_why : (hops sofar : List ℕ) (ws : Words) → OfALine (delays hops sofar ws)
unfolding delays
delays_why [] sofar ws = good _
delays_why (hop ∷ hops) sofar ws = (step _ _ (number_why 0 4294967295 ws) (λ d. (delays_why hops (sofar ++ d.0 ∷ []) d.1)))

burst_why : (ws : Words) → OfALine (burst ws)
unfolding burst
burst_why [] = good _
burst_why (w ∷ ws) = (branch (bytes_eq w (codes "burst")) _ _ (number_why 1 MOST_PACKETS ws) (good _))

fate_ended_why : (ws : Words) → OfALine (fate_ended ws)
unfolding fate_ended
fate_ended_why [] = good _
fate_ended_why (w ∷ ws) = (branch (bytes_eq w (codes "burst")) _ _ (bad whys.BadWord tt) (bad whys.WordCount tt))

fate_why : (hops : ℕ) (ws : Words) → OfALine (fate hops ws)
unfolding fate
fate_why hops [] = good _
fate_why hops (w ∷ ws) =
    (branch (bytes_eq w (codes "lost")) _ _ (step _ _ (number_why 0 hops ws) (λ k. (step _ _ (fate_ended_why k.1) (λ e. (good _)))))
    (branch (bytes_eq w (codes "twice")) _ _ (step _ _ (fate_ended_why ws) (λ e. (good _)))
    (branch (bytes_eq w (codes "late")) _ _ (step _ _ (fate_ended_why ws) (λ e. (good _))) (bad whys.BadWord tt))))

-- ---- lines

shape_line_why : (s : State) (ws : Words) → OfALine (shape_line s ws)
unfolding shape_line
shape_line_why s ws = (step _ _ (number_why 1 MOST_ROWS ws)
    (λ rows. (step _ _ (number_why 1 MOST_WIDTH rows.1)
    (λ width. (step _ _ (hash_why width.1) (λ hashed. (step _ _ (no_more_why hashed.1) (λ end. (good _)))))))))

pick_line_why : (s : State) (ws : Words) → OfALine (pick_line s ws)
unfolding pick_line
pick_line_why s ws = (step _ _ (pick_why ws) (λ x. (step _ _ (no_more_why x.1) (λ end. (good _)))))

host_line_why : (s : State) (ws : Words) → OfALine (host_line s ws)
unfolding host_line
host_line_why s ws = (step _ _ (number_why 0 65535 ws)
    (λ h. (step _ _ (fresh_host_why s.parts.hosts h.0)
    (λ new. (step _ _ (no_more_why h.1) (λ end. (step _ _ (room_why MOST_HOSTS (length s.parts.hosts)) (λ fits. (good _)))))))))

switch_line_why : (s : State) (ws : Words) → OfALine (switch_line s ws)
unfolding switch_line
switch_line_why s ws = (step _ _ (number_why 0 65535 ws)
    (λ x. (step _ _ (fresh_name_why s.parts.switches x.0)
    (λ new. (step _ _ (no_more_why x.1) (λ end. (step _ _ (room_why MOST_SWITCHES (length s.parts.switches)) (λ fits. (good _)))))))))

flow_line_why : (s : State) (ws : Words) → OfALine (flow_line s ws)
unfolding flow_line
flow_line_why s ws = (step _ _ (number_why 0 65535 ws)
    (λ f. (step _ _ (fresh_flow_why s.parts.flows f.0)
    (λ new. (step _ _ (key_why f.1)
    (λ k. (step _ _ (word_why (codes "host") k.1)
    (λ h. (step _ _ (number_why 0 65535 h)
    (λ host. (step _ _ (host_position_why s.parts.hosts host.0)
    (λ at. (step _ _ (word_why (codes "path") host.1)
    (λ p. (step _ _ (path_why s.parts.switches [] p) (λ hops. (step _ _ (room_why MOST_FLOWS (length s.parts.flows)) (λ fits. (good _)))))))))))))))))))

no_letters_why : (o : Option HostLine) → OfALine (no_letters o)
no_letters_why None = bad whys.UnknownName tt
no_letters_why (Some h) = (branch (eqb (length h.letters) 0) _ _ (good _) (bad whys.Repeated tt))

unlinked_why : (hosts : List HostLine) (at : ℕ) → OfALine (unlinked hosts at)
unfolding unlinked
unlinked_why hosts at = no_letters_why (slice_get hosts at)

link_line_why : (s : State) (ws : Words) → OfALine (link_line s ws)
unfolding link_line
link_line_why s ws = (step _ _ (number_why 0 65535 ws)
    (λ h. (step _ _ (host_position_why s.parts.hosts h.0)
    (λ at. (step _ _ (unlinked_why s.parts.hosts at) (λ new. (step _ _ (letters_why h.1) (λ x. (step _ _ (no_more_why x.1) (λ end. (good _)))))))))))

packet_line_why : (s : State) (ws : Words) → OfALine (packet_line s ws)
unfolding packet_line
packet_line_why s ws = (step _ _ (number_why 0 65535 ws)
    (λ f. (step _ _ (position_why (names_of s.parts.flows) f.0)
    (λ at. (step _ _ (number_why 0 65535 f.1)
    (λ size. (step _ _ (delays_why (path_at s.parts.flows at) [] size.1)
    (λ d. (step _ _ (burst_why d.1)
    (λ b. (step _ _ (fate_why (length (path_at s.parts.flows at)) b.1) (λ x. (step _ _ (room_to_why MOST_PACKETS _) (λ fits. (good _)))))))))))))))

end_one_why : (s : State) (ws : Words) → OfALine (end_one s ws)
unfolding end_one
end_one_why s ws = (step _ _ (number_why 0 65535 ws)
    (λ x. (step _ _ (position_why s.parts.switches x.0)
    (λ at. (step _ _ (no_more_why x.1) (λ end. (step _ _ (room_why MOST_ENDS (ends_of at s.parts.steps)) (λ fits. (good _)))))))))

end_all_why : (s : State) (ws : Words) → OfALine (end_all s ws)
unfolding end_all
end_all_why s ws = (step _ _ (no_more_why ws) (λ end. (step _ _ (room_for_all_why s.parts.steps (length s.parts.switches)) (λ fits. (good _)))))

end_line_why : (s : State) (ws : Words) → OfALine (end_line s ws)
unfolding end_line
end_line_why s [] = bad whys.WordCount tt
end_line_why s (w ∷ ws) = (branch (bytes_eq w (codes "all")) _ _ (end_all_why s ws) (end_one_why s (w ∷ ws)))

release_line_why : (s : State) (ws : Words) → OfALine (release_line s ws)
unfolding release_line
release_line_why s ws = (step _ _ (no_more_why ws) (λ end. (good _)))

ask_line_why : (s : State) (ws : Words) → OfALine (ask_line s ws)
unfolding ask_line
ask_line_why s ws = (step _ _ (number_why 0 65535 ws)
    (λ f. (step _ _ (position_why (names_of s.parts.flows) f.0)
    (λ at. (step _ _ (number_why 0 65535 f.1)
    (λ x. (step _ _ (known_name_why s.parts.switches x.0)
    (λ here. (step _ _ (number_why 0 4294967295 x.1)
    (λ e. (step _ _ (no_more_why e.1) (λ end. (step _ _ (room_why MOST_ASKS (length s.parts.asks)) (λ fits. (good _)))))))))))))))

done_line_why : (s : State) (ws : Words) → OfALine (done_line s ws)
unfolding done_line
done_line_why s ws = (step _ _ (no_more_why ws) (λ end. (good _)))

form_why : (k : Keyword) (s : State) (ws : Words) → OfALine (form_of k s ws)
form_why words.Guardian s ws = bad whys.OutOfPlace tt
form_why words.Shape s ws = shape_line_why s ws
form_why words.Pick s ws = pick_line_why s ws
form_why words.Host s ws = host_line_why s ws
form_why words.Switch s ws = switch_line_why s ws
form_why words.Flow s ws = flow_line_why s ws
form_why words.Link s ws = link_line_why s ws
form_why words.Packet s ws = packet_line_why s ws
form_why words.End s ws = end_line_why s ws
form_why words.Release s ws = release_line_why s ws
form_why words.Ask s ws = ask_line_why s ws
form_why words.Done s ws = done_line_why s ws

known_line_why : (o : Option Keyword) (s : State) (ws : Words) → OfALine (known_line o s ws)
known_line_why None s ws = bad whys.UnknownWord tt
known_line_why (Some k) s ws = branch (admits s.section k) _ _ (form_why k s ws) (bad whys.OutOfPlace tt)

words_line_why : (s : State) (ws : Words) → OfALine (words_line s ws)
words_line_why s [] = bad whys.UnknownWord tt
words_line_why s (w ∷ ws) = known_line_why (keyword_of w) s ws

pub line_why : (s : State) (line : List ℕ) → OfALine (line_of s line)
unfolding line_of
line_why s line = (branch (is_skipped line) _ _ (good _)
    (branch (is_first s.section) _ _ (branch (bytes_eq line (codes "guardian 1")) _ _ (good _) (bad whys.Version tt))
    (words_line_why s (words_at 32 line))))
