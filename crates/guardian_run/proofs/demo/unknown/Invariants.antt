use Rattle.std.specs.Prelude.{◌≡◌, ◌≤◌, take, count_by}
use Rattle.column_book.specs.Entries.{content}
use Rattle.guardian_run.specs.Showing.{is_unknown}
use Rattle.guardian_run.proofs.demo.unknown.Given as goal

abbrev pub invariant-loop-ask : goal.invariant-loop-ask
invariant-loop-ask l = record {
  count : l.count ≡ count_by (is_unknown (content l.book.entries) l.scenario) (take l.ask-index l.scenario.asks);
  few : l.count ≤ l.ask-index;
}
