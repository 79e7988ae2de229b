use Rattle.std.proofs.Common.{◌≡◌, ◌≤◌, take, vec_len, vec_capacity}
use Rattle.lg_model.specs.declared.limits.TheConstants.{MOST_UPLOAD_COLUMNS}
use Rattle.upload_world.proofs.steps.copy_into.Given as goal

abbrev pub invariant-loop-column : goal.invariant-loop-column
invariant-loop-column l = (l.columns.items ≡ take l.column-index l.from) × (vec_len l.columns ≡ l.column-index) × (MOST_UPLOAD_COLUMNS ≤ vec_capacity l.columns)
