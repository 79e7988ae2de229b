-- What each line means: the words that it has, from left to right, and the state after it, or the first why.
use Rattle.std.specs.Prelude.{ℕ, Bool, true, List, [], ◌∷◌, ◌++◌, length, Option, Some, None, Result, Ok, Err, codes, ◌==◌, ◌+◌, if◌then◌else◌, slice_get}
use Rattle.std.specs.Prelude.{slice_set}
use Rattle.std.specs.Str.{bytes_eq}
use Rattle.flow_key.specs.Words.{words_at}
use Rattle.lg_model.specs.declared.limits.TheConstants.{MOST_ROWS, MOST_WIDTH, MOST_HOSTS, MOST_SWITCHES, MOST_FLOWS, MOST_PACKETS, MOST_ENDS, MOST_ASKS}
use Rattle.lg_model.specs.declared.scenario.Letter.{Letter}
use Rattle.lg_model.specs.declared.scenario.HostLine.{HostLine}
use Rattle.lg_model.specs.declared.scenario.Step.TheVariants as steps
use Rattle.lg_model.specs.Scenario.{packet_count, path_at}
use Rattle.scenario_lines.specs.declared.why.Why.{Why}
use Rattle.scenario_lines.specs.declared.why.Why.TheVariants.{Version, OutOfPlace, UnknownWord, WordCount, Repeated, UnknownName}
use Rattle.scenario_lines.specs.declared.section.Section.TheVariants as sections
use Rattle.scenario_lines.specs.declared.section.Section.TheVariants.{Declarations, Steps, Done}
use Rattle.scenario_lines.specs.declared.section.Keyword.{Keyword}
use Rattle.scenario_lines.specs.declared.section.Keyword.TheVariants as words
use Rattle.scenario_lines.specs.Sections.{is_first, keyword_of, admits}
use Rattle.lg_model.specs.Keeping.{names_of, ends_of}
use Rattle.text_out.specs.Words.{Words}
use Rattle.scenario_lines.specs.Draft.{State}
use Rattle.scenario_lines.specs.Fields.{◌>>=◌, number, word, no_more, fresh_name, known_name, position_of, fresh_host, host_position, fresh_flow, room}
use Rattle.scenario_lines.specs.Fields.{room_to, room_for_all, key, path, hash, pick, letters_word, delays, burst, fate}

-- ---- the second and the third line

unfoldable pub shape_line : State → Words → Result State Why
shape_line s ws = do
  rows ← number 1 MOST_ROWS ws
  width ← number 1 MOST_WIDTH rows.1
  hashed ← hash width.1
  end ← no_more hashed.1
  Ok (record s { section = sections.Pick; parts = record s.parts { shape = record { rows = rows.0; width = width.0; hash = hashed.0 } } })

unfoldable pub pick_line : State → Words → Result State Why
pick_line s ws = do
  x ← pick ws
  end ← no_more x.1
  Ok (record s { section = Declarations; parts = record s.parts { pick = x.0 } })

-- ---- declarations

unfoldable pub host_line : State → Words → Result State Why
host_line s ws = do
  h ← number 0 65535 ws
  new ← fresh_host s.parts.hosts h.0
  end ← no_more h.1
  fits ← room MOST_HOSTS (length s.parts.hosts)
  Ok (record s { parts = record s.parts { hosts = s.parts.hosts ++ record { name = h.0; letters = [] } ∷ [] } })

unfoldable pub switch_line : State → Words → Result State Why
switch_line s ws = do
  x ← number 0 65535 ws
  new ← fresh_name s.parts.switches x.0
  end ← no_more x.1
  fits ← room MOST_SWITCHES (length s.parts.switches)
  Ok (record s { parts = record s.parts { switches = s.parts.switches ++ x.0 ∷ [] } })

unfoldable pub flow_line : State → Words → Result State Why
flow_line s ws = do
  f ← number 0 65535 ws
  new ← fresh_flow s.parts.flows f.0
  k ← key f.1
  h ← word (codes "host") k.1
  host ← number 0 65535 h
  at ← host_position s.parts.hosts host.0
  p ← word (codes "path") host.1
  hops ← path s.parts.switches [] p
  fits ← room MOST_FLOWS (length s.parts.flows)
  Ok (record s { parts = record s.parts { flows = s.parts.flows ++ record { name = f.0; key = k.0; host_at = at; path = hops } ∷ [] } })

-- The host at this position has no letters yet.
abbrev pub no_letters : Option HostLine → Result (Unit {0}) Why
no_letters None = Err UnknownName
no_letters (Some h) = if length h.letters == 0 then Ok tt else Err Repeated

unfoldable pub unlinked : List HostLine → ℕ → Result (Unit {0}) Why
unlinked hosts at = no_letters (slice_get hosts at)

-- The hosts, with these letters at this position.
abbrev pub linked_at : List HostLine → ℕ → List Letter → Option HostLine → List HostLine
linked_at hosts at ls None = hosts
linked_at hosts at ls (Some h) = slice_set hosts at (record h { letters = ls })

abbrev pub linked : List HostLine → ℕ → List Letter → List HostLine
linked hosts at ls = linked_at hosts at ls (slice_get hosts at)

unfoldable pub link_line : State → Words → Result State Why
link_line s ws = do
  h ← number 0 65535 ws
  at ← host_position s.parts.hosts h.0
  new ← unlinked s.parts.hosts at
  x ← letters_word h.1
  end ← no_more x.1
  Ok (record s { parts = record s.parts { hosts = linked s.parts.hosts at x.0 } })

-- ---- steps

unfoldable pub packet_line : State → Words → Result State Why
packet_line s ws = do
  f ← number 0 65535 ws
  at ← position_of (names_of s.parts.flows) f.0
  size ← number 0 65535 f.1
  d ← delays (path_at s.parts.flows at) [] size.1
  b ← burst d.1
  x ← fate (length (path_at s.parts.flows at)) b.1
  fits ← room_to MOST_PACKETS (packet_count s.parts.steps + b.0)
  Ok (record s { section = Steps; parts = record s.parts { steps = s.parts.steps ++ steps.Packet at size.0 d.0 b.0 x ∷ [] } })

unfoldable pub end_one : State → Words → Result State Why
end_one s ws = do
  x ← number 0 65535 ws
  at ← position_of s.parts.switches x.0
  end ← no_more x.1
  fits ← room MOST_ENDS (ends_of at s.parts.steps)
  Ok (record s { section = Steps; parts = record s.parts { steps = s.parts.steps ++ steps.End at ∷ [] } })

unfoldable pub end_all : State → Words → Result State Why
end_all s ws = do
  end ← no_more ws
  fits ← room_for_all s.parts.steps (length s.parts.switches)
  Ok (record s { section = Steps; parts = record s.parts { steps = s.parts.steps ++ steps.EndAll ∷ [] } })

unfoldable pub end_line : State → Words → Result State Why
end_line s [] = Err WordCount
end_line s (w ∷ ws) = if bytes_eq w (codes "all") then end_all s ws else end_one s (w ∷ ws)

unfoldable pub release_line : State → Words → Result State Why
release_line s ws = do
  end ← no_more ws
  Ok (record s { section = Steps; parts = record s.parts { steps = s.parts.steps ++ steps.Release ∷ [] } })

unfoldable pub ask_line : State → Words → Result State Why
ask_line s ws = do
  f ← number 0 65535 ws
  at ← position_of (names_of s.parts.flows) f.0
  x ← number 0 65535 f.1
  here ← known_name s.parts.switches x.0
  e ← number 0 4294967295 x.1
  end ← no_more e.1
  fits ← room MOST_ASKS (length s.parts.asks)
  Ok (record s { section = Steps; parts = record s.parts { asks = s.parts.asks ++ record { flow_at = at; switch = x.0; epoch = e.0 } ∷ [] } })

unfoldable pub done_line : State → Words → Result State Why
done_line s ws = do
  end ← no_more ws
  Ok (record s { section = Done })

-- ---- the table

abbrev pub form_of : Keyword → State → Words → Result State Why
form_of words.Guardian s ws = Err OutOfPlace
form_of words.Shape s ws = shape_line s ws
form_of words.Pick s ws = pick_line s ws
form_of words.Host s ws = host_line s ws
form_of words.Switch s ws = switch_line s ws
form_of words.Flow s ws = flow_line s ws
form_of words.Link s ws = link_line s ws
form_of words.Packet s ws = packet_line s ws
form_of words.End s ws = end_line s ws
form_of words.Release s ws = release_line s ws
form_of words.Ask s ws = ask_line s ws
form_of words.Done s ws = done_line s ws

abbrev pub known_line : Option Keyword → State → Words → Result State Why
known_line None s ws = Err UnknownWord
known_line (Some k) s ws = if admits s.section k then form_of k s ws else Err OutOfPlace

-- ---- lines

abbrev pub words_line : State → Words → Result State Why
words_line s [] = Err UnknownWord
words_line s (w ∷ ws) = known_line (keyword_of w) s ws

abbrev pub first_line : State → List ℕ → Result State Why
first_line s line = if bytes_eq line (codes "guardian 1") then Ok (record s { section = sections.Shape }) else Err Version

-- A line that is empty or begins with `#` is skipped.
abbrev pub is_skipped : List ℕ → Bool
is_skipped [] = true
is_skipped (c ∷ cs) = c == 35

-- The state after a line, given without its end, or why there is none.
unfoldable pub line_of : State → List ℕ → Result State Why
line_of s line =
    if is_skipped line then Ok s else (if is_first s.section then first_line s line else words_line s (words_at 32 line))
