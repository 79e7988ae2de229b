-- Which packets carry which columns.
use Rattle.std.specs.Prelude.{◌≡◌, ℕ, ◌+◌, ◌-◌, ◌*◌, ◌%◌, ◌^◌, ◌<◌, ◌≤◌, Bool, true, false, not, ◌&&◌, ◌==◌, nat_lt, List, [], ◌∷◌, ◌++◌, map, replicate, Option, None, Some, slice_index, if◌then◌else◌, count_by, fold, All, Any}
use Rattle.std.specs.List.Sorted.{IsStrictlyIncreasing}
use Rattle.std.specs.List.{list_any, range_with_len}
use Rattle.std.specs.Int.{w16, w64, to_be_bytes}
use Rattle.rand_chacha.specs.ChaCha.{ChaCha, word_at, of_seed}
use Rattle.lg_model.specs.declared.scenario.Pick.{Pick}
use Rattle.lg_model.specs.declared.scenario.Pick.TheVariants.{Turns, Chance}
use Rattle.lg_model.specs.Scenario.{Scenario}
use Rattle.lg_model.specs.Trace.{Meeting, meetings, ended_before}

-- From that hop on a packet carries the column of that index of the sketch that the switch, named by its position,
-- froze last.
pub record Carry : Type 0 where
  pub packet : ℕ
  pub hop : ℕ
  pub switch_at : ℕ
  pub epoch : ℕ
  pub index : ℕ

-- The packet of a meeting may be given that column there.
pub record IsCarriedAt (w : Scenario) (c : Carry) (m : Meeting) : Type 0 where
  pub packet : m.number ≡ c.packet
  pub hop : m.hop ≡ c.hop
  pub switch : m.switch_at ≡ c.switch_at
  pub epoch : ended_before w m ≡ c.epoch + 1
  pub index : c.index < w.shape.width

-- Allowed carrying, however the columns are chosen: no packet carries two, each column is of the last epoch that its
-- switch ended, and a packet that comes to the last hop of its path carries one if there is one to be had.
pub record IsAllowed (w : Scenario) (cs : List Carry) : Type 0 where
  pub rising : IsStrictlyIncreasing (map (λ (c : Carry). c.packet) cs)
  pub each : All (λ c. Any (IsCarriedAt w c) (meetings w)) cs
  pub last : All (λ m. m.hop ≡ m.hops → 0 < ended_before w m → Any (λ (c : Carry). c.packet ≡ m.number) cs) (meetings w)

-- How many hops a packet has left at a meeting, that one included.
abbrev pub hops_left : Meeting → ℕ
hops_left m = m.hops - m.hop + 1

-- Whether the packet of that number carries a column.
abbrev pub carries : List Carry → ℕ → Bool
carries cs n = list_any (λ (c : Carry). c.packet == n) cs

-- A packet is offered a column where the switch has a frozen sketch and the packet carries nothing.
abbrev pub is_offered : Scenario → List Carry → Meeting → Bool
is_offered w cs m = nat_lt 0 (ended_before w m) && not (carries cs m.number)

-- Whether a carried column is of the sketch that the switch at position s froze with its e-th end.
abbrev pub is_out : (s e : ℕ) → Carry → Bool
is_out s e c = c.switch_at == s && c.epoch + 1 == e

-- Whether it is the column of that sketch at index j.
abbrev pub is_out_at : (s e j : ℕ) → Carry → Bool
is_out_at s e j c = is_out s e c && c.index == j

-- What a picker is offered: the width, how many columns of the frozen sketch are put out, and how often each index is.
pub record Offer : Type 0 where
  pub width : ℕ
  pub put : ℕ
  pub times : List ℕ

-- How often each index of that sketch is put out.
abbrev pub times_of : ℕ → (s e : ℕ) → List Carry → List ℕ
times_of width s e cs = map (λ j. count_by (is_out_at s e j) cs) (range_with_len 0 width)

abbrev pub offer_at : Scenario → List Carry → Meeting → Offer
offer_at w cs m = record {
  width = w.shape.width;
  put = count_by (is_out m.switch_at (ended_before w m)) cs;
  times = times_of w.shape.width m.switch_at (ended_before w m) cs;
}

abbrev pub carry_at : Scenario → Meeting → ℕ → Carry
carry_at w m j = record { packet = m.number; hop = m.hop; switch_at = m.switch_at; epoch = ended_before w m - 1; index = j }

-- What is carried after an answer at a meeting.
abbrev pub with_choice : Scenario → Meeting → List Carry → Option ℕ → List Carry
with_choice w m cs None = cs
with_choice w m cs (Some j) = cs ++ carry_at w m j ∷ []

-- What the meetings of the packet of number n add to the carried list: entries of it or of later packets, after the others.
pub record Adds (n : ℕ) (old new : List Carry) : Type 0 where
  pub more : List Carry
  pub is : new ≡ old ++ more
  pub late : All (λ (c : Carry). n ≤ c.packet) more

-- By turns: at an offer whose number the hops left divide, the indexes one after the other.
abbrev pub turns_answer : (offers hops : ℕ) → Offer → Option ℕ
turns_answer offers hops offer = if offers % hops == 0 then Some (offer.put % offer.width) else None

-- The seed of a switch, 32 bytes: the number N, the switch's name, and zeros.
abbrev pub chance_seed : (n name : ℕ) → List ℕ
chance_seed n name = to_be_bytes w64 n ++ (to_be_bytes w16 name ++ replicate 22 0)

-- The words of ChaCha8 at a place of its stream, and the stream some words on. (A round of the definition is two.)
unfoldable pub chance_word : ChaCha → ℕ
chance_word g = word_at 4 g.key g.stream g.word_pos

abbrev pub words_on : ℕ → ChaCha → ChaCha
words_on k g = record g { word_pos = (g.word_pos + k) % 2 ^ 68 }

-- The word of that number, from 0, of the stream of the switch of that name.
abbrev pub word_of : (n name k : ℕ) → ℕ
word_of n name k = chance_word (words_on k (of_seed (chance_seed n name)))

-- Of two candidates the one that is put out less often, and the first where they are level.
abbrev pub candidate : Offer → (y z : ℕ) → ℕ
candidate offer y z =
    if nat_lt (slice_index offer.times (z % offer.width)) (slice_index offer.times (y % offer.width)) then z % offer.width else y % offer.width

-- By chance, from three words.
abbrev pub chance_answer : (hops : ℕ) → Offer → (x y z : ℕ) → Option ℕ
chance_answer hops offer x y z = if x % hops == 0 then Some (candidate offer y z) else None

-- The answer of the switch of that name at its offer of that number, from 0, with that many hops left.
-- By chance the offer of number a has the words 3a, 3a + 1 and 3a + 2.
abbrev pub chosen : Pick → (name offers hops : ℕ) → Offer → Option ℕ
chosen Turns name offers hops offer = turns_answer offers hops offer
chosen (Chance n) name offers hops offer =
    chance_answer hops offer (word_of n name (3 * offers)) (word_of n name (3 * offers + 1)) (word_of n name (3 * offers + 2))

-- The switches that were offered so far, by position, and what is carried so far.
pub record Picking : Type 0 where
  pub offered : List ℕ
  pub carried : List Carry

abbrev pub chosen_at : Scenario → Picking → Meeting → Option ℕ
chosen_at w now m = chosen w.pick (slice_index w.switches m.switch_at) (count_by (λ s. s == m.switch_at) now.offered) (hops_left m) (offer_at w now.carried m)

abbrev pub pick_at : Scenario → Picking → Meeting → Picking
pick_at w now m =
    if is_offered w now.carried m
    then record { offered = now.offered ++ m.switch_at ∷ []; carried = with_choice w m now.carried (chosen_at w now m) }
    else now

-- The picked list: what the scenario's own pickers let the packets carry, by packet and then by hop.
abbrev pub picked : Scenario → List Carry
picked w = (fold (pick_at w) (record { offered = []; carried = [] }) (meetings w)).carried

-- The picked list is allowed, whatever the scenario's pickers are.
abbrev pub LawOfThePickedList : Type 0
LawOfThePickedList = (w : Scenario) → 0 < w.shape.width → IsAllowed w (picked w)
