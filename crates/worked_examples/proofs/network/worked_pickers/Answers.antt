use Rattle.lg_model.specs.Carrying.{chance_word}
use Rattle.rand_chacha.specs.Block.{block_word, double_rounds, diagonal_round, column_round, quarter_round}
use Rattle.rand_core.specs.Steps.{u32_at}
use Rattle.std.proofs.Common.{refl}
use Rattle.worked_examples.proofs.network.worked_pickers.Goals as goal

pub returns : goal.returns
unfolding chance_word block_word double_rounds diagonal_round column_round quarter_round u32_at
returns c = record {
  left = refl;
  turns = refl;
  turns_by_one = refl;
  put_out = refl;
  by_turns = refl;
  second_alone = refl;
  seed = refl;
  words = refl;
  second_block = refl;
  level_first = refl;
  rarer_second = refl;
  rarer_first = refl;
  chance_gives = refl;
  chosen_ones = refl;
  chance_run = refl;
}
