-- The fields of a line: what the words from a position on say, and the words after them, or why they say nothing.
use Rattle.std.specs.Prelude.{◌≡◌, ℕ, Bool, true, List, [], ◌∷◌, ◌++◌, length, Option, Some, None, Result, Ok, Err, codes, nat_le, nat_lt, ◌==◌, ◌&&◌, ◌||◌}
use Rattle.std.specs.Prelude.{suc, zero, map, if◌then◌else◌}
use Rattle.std.specs.List.{list_any, list_all, position}
use Rattle.std.specs.Str.{bytes_eq}
use Rattle.flow_key.specs.declared.key.FlowKey.{FlowKey}
use Rattle.flow_key.specs.KeyText.{address_of}
use Rattle.flow_key.specs.Words.{number_to}
use Rattle.lg_model.specs.declared.limits.TheConstants.{MOST_HOPS, MOST_PACKETS, MOST_ENDS, MOST_LETTERS}
use Rattle.lg_model.specs.declared.scenario.Hash.{Hash}
use Rattle.lg_model.specs.declared.scenario.Hash.TheVariants as hashes
use Rattle.lg_model.specs.declared.scenario.Pick.{Pick}
use Rattle.lg_model.specs.declared.scenario.Pick.TheVariants as picks
use Rattle.lg_model.specs.declared.scenario.Letter.{Letter}
use Rattle.lg_model.specs.declared.scenario.Letter.TheVariants as letters
use Rattle.lg_model.specs.declared.scenario.Fate.{Fate}
use Rattle.lg_model.specs.declared.scenario.Fate.TheVariants as fates
use Rattle.lg_model.specs.declared.scenario.HostLine.{HostLine}
use Rattle.lg_model.specs.declared.scenario.Flow.{Flow}
use Rattle.lg_model.specs.declared.scenario.Step.{Step}
use Rattle.scenario_lines.specs.declared.why.Why.{Why}
use Rattle.scenario_lines.specs.declared.why.Why.TheVariants.{WordCount, BadNumber, BadKey, Repeated, UnknownName, BadPath, BadWord, BadLetters, TooMany}
use Rattle.scenario_lines.specs.declared.fault.LineFault.{LineFault}
use Rattle.scenario_lines.specs.declared.fault.LineFault.TheVariants as faults
use Rattle.lg_model.specs.Keeping.{names_of, ends_of}
use Rattle.text_out.specs.Words.{Words}
use Rattle.scenario_lines.specs.Draft.{State}

infixl 10 ◌>>=◌
abbrev pub ◌>>=◌ : {A B : Type 0} → Result A Why → (A → Result B Why) → Result B Why
(Ok x) >>= f = f x
(Err e) >>= f = Err e

-- A fault is the why of the reading; running out of memory says nothing of it.
abbrev pub Fails : {Y : Type 0} → LineFault → Result Y Why → Type 0
Fails faults.Memory read = Unit {0}
Fails (faults.Bad w) read = read ≡ Err w

-- What a function returned, seen by `view`, is what reading gives, unless memory ran out.
abbrev pub GivesField : {X Y : Type 0} → (X → Y) → Result X LineFault → Result Y Why → Type 0
GivesField view (Ok x) read = read ≡ Ok (view x)
GivesField view (Err e) read = Fails e read

-- The same of a call that leaves a state.
abbrev pub LeavesState : {X : Type 0} → Result X LineFault → State → Result State Why → Type 0
LeavesState (Ok x) new read = read ≡ Ok new
LeavesState (Err e) new read = Fails e read

-- ---- words and numbers

-- A number from low to most.
unfoldable pub number : ℕ → ℕ → Words → Result (ℕ × Words) Why
number low most [] = Err WordCount
number low most (w ∷ ws) = number_from low (number_to most w) ws where
  number_from : ℕ → Option ℕ → Words → Result (ℕ × Words) Why
  number_from low None ws = Err BadNumber
  number_from low (Some n) ws = if nat_le low n then Ok (n, ws) else Err BadNumber

-- The word itself.
unfoldable pub word : List ℕ → Words → Result Words Why
word text [] = Err WordCount
word text (w ∷ ws) = if bytes_eq w text then Ok ws else Err BadWord

-- No word more.
unfoldable pub no_more : Words → Result (Unit {0}) Why
no_more [] = Ok tt
no_more (w ∷ ws) = Err WordCount

-- ---- names and limits

-- A name that none of these is.
unfoldable pub fresh_name : List ℕ → ℕ → Result (Unit {0}) Why
fresh_name names n = if list_any (λ m. m == n) names then Err Repeated else Ok tt

-- A name that one of these is.
unfoldable pub known_name : List ℕ → ℕ → Result (Unit {0}) Why
known_name names n = if list_any (λ m. m == n) names then Ok tt else Err UnknownName

-- The position of a name.
unfoldable pub position_of : List ℕ → ℕ → Result ℕ Why
position_of names n = positioned (position (λ m. m == n) names) where
  positioned : Option ℕ → Result ℕ Why
  positioned None = Err UnknownName
  positioned (Some i) = Ok i

-- A name that no host has.
unfoldable pub fresh_host : List HostLine → ℕ → Result (Unit {0}) Why
fresh_host hosts n = if list_any (λ h. h.name == n) hosts then Err Repeated else Ok tt

-- The position of a host's name.
unfoldable pub host_position : List HostLine → ℕ → Result ℕ Why
host_position hosts n = host_positioned (position (λ h. h.name == n) hosts) where
  host_positioned : Option ℕ → Result ℕ Why
  host_positioned None = Err UnknownName
  host_positioned (Some i) = Ok i

-- A name that no flow has.
unfoldable pub fresh_flow : List Flow → ℕ → Result (Unit {0}) Why
fresh_flow flows n = absent (position (λ m. m == n) (names_of flows)) where
  absent : Option ℕ → Result (Unit {0}) Why
  absent None = Ok tt
  absent (Some i) = Err Repeated

-- One more fits where at most `most` may be.
unfoldable pub room : ℕ → ℕ → Result (Unit {0}) Why
room most count = if nat_lt count most then Ok tt else Err TooMany

-- This many fit where at most `most` may be.
unfoldable pub room_to : ℕ → ℕ → Result (Unit {0}) Why
room_to most count = if nat_le count most then Ok tt else Err TooMany

-- Each of the first n switches may end an epoch more.
abbrev pub all_room : List Step → ℕ → Bool
all_room steps zero = true
all_room steps (suc n) = nat_lt (ends_of n steps) MOST_ENDS && all_room steps n

unfoldable pub room_for_all : List Step → ℕ → Result (Unit {0}) Why
room_for_all steps n = if all_room steps n then Ok tt else Err TooMany

-- ---- keys: five places, read from left to right

abbrev pub or_bad_key : {X : Type 0} → Words → Option X → Result (X × Words) Why
or_bad_key ws None = Err BadKey
or_bad_key ws (Some x) = Ok (x, ws)

-- The place of an address.
unfoldable pub key_address : Words → Result (List ℕ × Words) Why
key_address [] = Err WordCount
key_address (w ∷ ws) = or_bad_key ws (address_of w)

-- The place of a number from 0 to most.
unfoldable pub key_number : ℕ → Words → Result (ℕ × Words) Why
key_number most [] = Err WordCount
key_number most (w ∷ ws) = or_bad_key ws (number_to most w)

-- The five words of a key.
unfoldable pub key : Words → Result (FlowKey × Words) Why
key ws = do
  src ← key_address ws
  dst ← key_address src.1
  proto ← key_number 255 dst.1
  sport ← key_number 65535 proto.1
  dport ← key_number 65535 sport.1
  Ok (record { src = src.0; dst = dst.0; proto = proto.0; sport = sport.0; dport = dport.0 }, dport.1)

-- ---- paths

-- A word that names the next switch of a path, which isn't in it yet.
unfoldable pub hop : List ℕ → List ℕ → List ℕ → Result ℕ Why
hop switches sofar w = if length sofar == MOST_HOPS then Err BadPath else (do
  x ← number 0 65535 (w ∷ [])
  at ← position_of switches x.0
  new ← fresh_name sofar at
  Ok at)

-- The positions of one to sixteen switches, each once, after those so far, up to the end of the line.
unfoldable pub path : List ℕ → List ℕ → Words → Result (List ℕ) Why
path switches sofar [] = if length sofar == 0 then Err WordCount else Ok sofar
path switches sofar (w ∷ ws) = do
  at ← hop switches sofar w
  path switches (sofar ++ at ∷ []) ws

-- ---- hashes, picks, letters

-- `ports`, or `seed N`.
unfoldable pub hash : Words → Result (Hash × Words) Why
hash [] = Err WordCount
hash (w ∷ ws) =
    if bytes_eq w (codes "ports") then Ok (hashes.Ports, ws) else (
    if bytes_eq w (codes "seed") then (number 0 18446744073709551615 ws >>= λ n. Ok (hashes.Seed n.0, n.1)) else Err BadWord)

-- `turns`, or `chance N`.
unfoldable pub pick : Words → Result (Pick × Words) Why
pick [] = Err WordCount
pick (w ∷ ws) =
    if bytes_eq w (codes "turns") then Ok (picks.Turns, ws) else (
    if bytes_eq w (codes "chance") then (number 0 18446744073709551615 ws >>= λ n. Ok (picks.Chance n.0, n.1)) else Err BadWord)

-- One of `d`, `x`, `a`, `r`, `h`.
abbrev pub is_letter : ℕ → Bool
is_letter b = b == 100 || b == 120 || b == 97 || b == 114 || b == 104

abbrev pub letter_of : ℕ → Letter
letter_of b =
    if b == 100 then letters.Deliver else (
    if b == 120 then letters.Lose else (
    if b == 97 then letters.LoseReply else (
    if b == 114 then letters.Twice else letters.Hold)))

-- A word of 1 to 4,096 letters.
unfoldable pub letters_word : Words → Result (List Letter × Words) Why
letters_word [] = Err WordCount
letters_word (w ∷ ws) = if nat_le 1 (length w) && nat_le (length w) MOST_LETTERS && list_all is_letter w then Ok (map letter_of w, ws) else Err BadLetters

-- ---- the rest of a `packet` line after the size

-- One delay for each hop, after those so far.
unfoldable pub delays : List ℕ → List ℕ → Words → Result (List ℕ × Words) Why
delays [] sofar ws = Ok (sofar, ws)
delays (hop ∷ hops) sofar ws = do
  d ← number 0 4294967295 ws
  delays hops (sofar ++ d.0 ∷ []) d.1

-- `burst N`, or nothing, which is 1.
unfoldable pub burst : Words → Result (ℕ × Words) Why
burst [] = Ok (1, [])
burst (w ∷ ws) = if bytes_eq w (codes "burst") then number 1 MOST_PACKETS ws else Ok (1, w ∷ ws)

-- The end of the line after a fate.
unfoldable pub fate_ended : Words → Result (Unit {0}) Why
fate_ended [] = Ok tt
fate_ended (w ∷ ws) = if bytes_eq w (codes "burst") then Err BadWord else Err WordCount

-- The fate of a packet over this many hops, and the end of the line.
unfoldable pub fate : ℕ → Words → Result Fate Why
fate hops [] = Ok fates.Straight
fate hops (w ∷ ws) =
    if bytes_eq w (codes "lost") then (number 0 hops ws >>= λ k. fate_ended k.1 >>= λ e. Ok (fates.Lost k.0)) else (
    if bytes_eq w (codes "twice") then (fate_ended ws >>= λ e. Ok fates.Twice) else (
    if bytes_eq w (codes "late") then (fate_ended ws >>= λ e. Ok fates.Late) else Err BadWord))
