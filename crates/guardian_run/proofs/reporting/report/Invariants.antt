use Rattle.std.specs.Prelude.{◌≡◌, take}
use Rattle.std.specs.List.{flat_map}
use Rattle.column_book.specs.Entries.{content}
use Rattle.report_text.specs.Report.{asked_line}
use Rattle.guardian_run.proofs.reporting.report.Given as goal

abbrev pub invariant-loop-ask : goal.invariant-loop-ask
invariant-loop-ask l = l.text.items ≡ flat_map (asked_line (content l.book.entries) l.scenario) (take l.ask-index l.scenario.asks)
