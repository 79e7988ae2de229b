use Rattle.std.specs.Prelude.{◌≡◌, ◌<◌, ◌≤◌, ℕ, slice_index_or}
use Rattle.lg_model.specs.TwinsState.{TwinsState, with_end}
use Rattle.path_sim.proofs.stepping.end_all.Given as goal

abbrev pub invariant-loop-s : goal.invariant-loop-s
invariant-loop-s l = record {
  done : (j : ℕ) (d : TwinsState) → j < l.s → slice_index_or l.twins j d ≡ with_end (slice_index_or l.fn.twins j d);
  rest : (j : ℕ) (d : TwinsState) → l.s ≤ j → slice_index_or l.twins j d ≡ slice_index_or l.fn.twins j d;
}
