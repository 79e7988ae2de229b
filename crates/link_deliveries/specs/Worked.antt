-- The definitions at worked links, by computation.
use Rattle.std.specs.Prelude.{◌≡◌, ℕ, ◌+◌, List, [], ◌∷◌, ◌++◌, map, replicate, length}
use Rattle.lg_model.specs.declared.scenario.Letter.{Letter}
use Rattle.lg_model.specs.declared.scenario.Letter.TheVariants.{Deliver, Lose, LoseReply, Twice, Hold}
use Rattle.uploader_core.specs.declared.state.SeqState.{SeqState}
use Rattle.uploader_core.specs.declared.state.SeqState.TheVariants.{Idle, Outstanding, Acknowledged}
use Rattle.link_deliveries.specs.Deliveries.{rounds, Delivery}

-- the deliveries by their definition, unfolded
abbrev pub worked : List SeqState → List Letter → List ℕ
worked ss ls = map (λ (d : Delivery). d.seq) (rounds (length ls + 2) ss ls)

abbrev pub idle : ℕ → List SeqState
idle n = replicate n Idle

pub record WorkedDeliveries : Type 0 where
  -- lost; stored with its reply lost; twice; held to the end of the round; then the first two again
  pub one_of_each : worked (idle 4) (Lose ∷ LoseReply ∷ Twice ∷ Hold ∷ []) ≡ 1 ∷ 2 ∷ 2 ∷ 3 ∷ 0 ∷ 1 ∷ []
  pub no_letters : worked (idle 3) [] ≡ 0 ∷ 1 ∷ 2 ∷ []
  pub nothing_sent : worked [] (Lose ∷ []) ≡ []
  -- a held upload comes right after the next that comes, and passes over a lost one
  pub held_past_a_loss : worked (idle 3) (Hold ∷ Lose ∷ Deliver ∷ []) ≡ 2 ∷ 0 ∷ 1 ∷ []
  pub held_in_order : worked (idle 3) (Hold ∷ Hold ∷ LoseReply ∷ []) ≡ 2 ∷ 0 ∷ 1 ∷ 2 ∷ []
  -- eight lost uploads close the window
  pub window_closes : worked (idle 9) (replicate 8 Lose) ≡ 0 ∷ 1 ∷ 2 ∷ 3 ∷ 4 ∷ 5 ∷ 6 ∷ 7 ∷ 8 ∷ []
  pub window_of_held : worked (idle 9) (replicate 9 Hold) ≡ 0 ∷ 1 ∷ 2 ∷ 3 ∷ 4 ∷ 5 ∷ 6 ∷ 7 ∷ 8 ∷ []
  -- an upload that is outstanding at the start waits for the first tick
  pub outstanding_waits : worked (Outstanding ∷ Idle ∷ Acknowledged ∷ []) [] ≡ 1 ∷ 0 ∷ []
  -- a full window at the start: the first round sends nothing
  pub full_at_start : worked (replicate 8 Outstanding ++ Idle ∷ []) (Twice ∷ []) ≡ 0 ∷ 0 ∷ 1 ∷ 2 ∷ 3 ∷ 4 ∷ 5 ∷ 6 ∷ 7 ∷ 8 ∷ []
