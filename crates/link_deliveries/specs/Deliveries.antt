-- The order in which a link brings a host's uploads to the analyser. Nothing here knows a book, a lock or a frame.
use Rattle.std.specs.Prelude.{◌≡◌, ℕ, zero, suc, ◌+◌, ◌-◌, ◌<◌, Bool, true, false, nat_lt, nat_eq, List, [], ◌∷◌, ◌++◌, map, length, drop, fold, replicate, slice_set, if◌then◌else◌}
use Rattle.lg_model.specs.declared.limits.TheConstants.{MOST_OUTSTANDING}
use Rattle.lg_model.specs.declared.scenario.Letter.{Letter}
use Rattle.lg_model.specs.declared.scenario.Letter.TheVariants.{Deliver, Lose, LoseReply, Twice, Hold}
use Rattle.uploader_core.specs.declared.state.SeqState.{SeqState}
use Rattle.uploader_core.specs.declared.state.SeqState.TheVariants.{Idle, Outstanding, Acknowledged}
use Rattle.uploader_core.specs.States.{outstanding, state_at, ticked}
use Rattle.link_deliveries.specs.Waiting.{idle_from, all_acknowledged}

-- An upload that is sent, by its number, and what the link does to it.
pub record Send : Type 0 where
  pub seq : ℕ
  pub letter : Letter

-- An upload that comes to the analyser, and whether its reply comes back.
pub record Delivery : Type 0 where
  pub seq : ℕ
  pub heard : Bool

abbrev pub send : ℕ → Letter → Send
send q l = record { seq = q; letter = l }

abbrev pub delivery : ℕ → Bool → Delivery
delivery q b = record { seq = q; heard = b }

abbrev pub heard : ℕ → Delivery
heard q = delivery q true

abbrev pub unheard : ℕ → Delivery
unheard q = delivery q false

-- ---- what a round sends

-- The letters are taken one after the other; past the last one each upload is delivered.
abbrev pub letter_of : List Letter → Letter
letter_of [] = Deliver
letter_of (l ∷ ls) = l

abbrev pub offered : List ℕ → List Letter → List Send
offered [] ls = []
offered (q ∷ qs) ls = send q (letter_of ls) ∷ offered qs (drop 1 ls)

-- How many are outstanding after a send, where `out` were before it, the last `held` of them held by the link.
abbrev pub out_after : Letter → (out held : ℕ) → ℕ
out_after Deliver out held = out - held
out_after Lose out held = out + 1
out_after LoseReply out held = out - held + 1
out_after Twice out held = out - held
out_after Hold out held = out + 1

abbrev pub count_held : Letter → ℕ → ℕ
count_held Deliver held = 0
count_held Lose held = held
count_held LoseReply held = 0
count_held Twice held = 0
count_held Hold held = held + 1

-- The window: a round sends while fewer than 8 are outstanding.
abbrev pub window : (out held : ℕ) → List Send → List Send
window out held [] = []
window out held (s ∷ ss) =
    if nat_lt out MOST_OUTSTANDING then s ∷ window (out_after s.letter out held) (count_held s.letter held) ss else []

-- The sends of a round: the uploads that are to be sent, the least first, each with the next letter.
abbrev pub sends : List SeqState → List Letter → List Send
sends ss ls = window (outstanding ss) 0 (offered (idle_from 0 ss) ls)

-- ---- what they bring

-- What a letter brings at once.
abbrev pub at_once : Letter → ℕ → List Delivery
at_once Deliver q = heard q ∷ []
at_once Lose q = []
at_once LoseReply q = unheard q ∷ []
at_once Twice q = heard q ∷ heard q ∷ []
at_once Hold q = []

-- Of the uploads that are held, those that come right after it.
abbrev pub let_go : Letter → List ℕ → List ℕ
let_go Deliver held = held
let_go Lose held = []
let_go LoseReply held = held
let_go Twice held = held
let_go Hold held = []

-- What is held from then on.
abbrev pub held_after : Letter → ℕ → List ℕ → List ℕ
held_after Deliver q held = []
held_after Lose q held = held
held_after LoseReply q held = []
held_after Twice q held = []
held_after Hold q held = held ++ q ∷ []

abbrev pub brings : Send → List ℕ → List Delivery
brings s held = at_once s.letter s.seq ++ map heard (let_go s.letter held)

-- What the sends of a round bring, in order; what is held at their end comes then.
abbrev pub brought : List ℕ → List Send → List Delivery
brought held [] = map heard held
brought held (s ∷ ss) = brings s held ++ brought (held_after s.letter s.seq held) ss

abbrev pub round : List SeqState → List Letter → List Delivery
round ss ls = brought [] (sends ss ls)

-- ---- what they leave, and all rounds

-- An upload whose reply comes back is acknowledged.
abbrev pub acknowledge_one : List SeqState → Delivery → List SeqState
acknowledge_one ss d = if d.heard then slice_set ss d.seq Acknowledged else ss

abbrev pub acknowledge : List SeqState → List Delivery → List SeqState
acknowledge ss ds = fold acknowledge_one ss ds

-- After a round all that is outstanding is to be sent again.
abbrev pub after_round : List SeqState → List Letter → List SeqState
after_round ss ls = acknowledge (ticked ss) (round ss ls)

abbrev pub letters_after : List SeqState → List Letter → List Letter
letters_after ss ls = drop (length (sends ss ls)) ls

-- At most n rounds, until all are acknowledged.
abbrev pub rounds : ℕ → List SeqState → List Letter → List Delivery
rounds zero ss ls = []
rounds (suc n) ss ls =
    if all_acknowledged ss then [] else (round ss ls ++ rounds n (after_round ss ls) (letters_after ss ls))

-- All rounds: the first may find the window full, each later one takes a letter, and the last one needs none.
unfoldable pub brought_in_all : List SeqState → List Letter → List Delivery
brought_in_all ss ls = rounds (length ls + 2) ss ls

-- The numbers of the uploads in the order in which they come to the analyser.
abbrev pub deliveries : List SeqState → List Letter → List ℕ
deliveries ss ls = map (λ (d : Delivery). d.seq) (brought_in_all ss ls)

-- The same for a host with that many uploads, none of which was sent yet.
abbrev pub delivered : (count : ℕ) → List Letter → List ℕ
delivered count ls = deliveries (replicate count Idle) ls

-- ---- words for the middle of a round

-- The uploads that the link holds: each is outstanding until it is acknowledged, in order.
abbrev pub IsHeld : List SeqState → List ℕ → Type 0
IsHeld ss [] = Unit {0}
IsHeld ss (h ∷ hs) = (h < length ss) × (state_at ss h ≡ Outstanding) × IsHeld (slice_set ss h Acknowledged) hs

-- At most how many rounds are left.
abbrev pub rounds_left : List SeqState → List Letter → ℕ
rounds_left ss ls = if all_acknowledged ss then 0 else (length ls + (if nat_eq (outstanding ss) 0 then 1 else 2))

-- What a round leaves, before the tick: its states, and the letters that are left.
pub record EndsRound (ss0 : List SeqState) (ls0 : List Letter) (ss : List SeqState) (ls : List Letter) : Type 0 where
  pub states : ticked ss ≡ after_round ss0 ls0
  pub letters : ls ≡ letters_after ss0 ls0

-- The states after a send: it is outstanding, and what comes is acknowledged.
abbrev pub after_send : List SeqState → ℕ → Letter → List ℕ → List SeqState
after_send ss q l held = acknowledge (slice_set ss q Outstanding) (brings (send q l) held)
