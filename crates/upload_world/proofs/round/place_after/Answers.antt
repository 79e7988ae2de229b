use Rattle.std.proofs.Common.{sym, drop-drop}
use Rattle.upload_world.proofs.round.place_after.Goals as goal

pub returns-then-at-letters : goal.returns-then-at-letters
returns-then-at-letters c = sym (drop-drop 1 c.args.at c.args.letters.now)
