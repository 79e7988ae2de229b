use Rattle.std.specs.Prelude.{option_copied}
use Rattle.std.proofs.Common.{ap, ◌∙◌}
use Rattle.column_book.proofs.Alike.{same_buckets, inner}
use Rattle.column_book.proofs.comparing.with.Goals as goal

pub returns-then-found-clause-same : goal.returns-then-found-clause-same
returns-then-found-clause-same c = λ e. (
  c.if-found.true,
  λ bs is.
      inner (option_copied c.args.kept) bs c.in-Some.buckets.now is (ap option_copied c.in-Some.is)
      ∙ same_buckets c.in-Some.buckets.now c.filled.result.now c.eq.result c.eq.ensures e ∙ c.filled.ensures,
)
