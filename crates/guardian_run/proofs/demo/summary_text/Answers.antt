use Rattle.std.specs.Prelude.{◌≡◌, ℕ, ◌+◌, ◌*◌, List, ◌++◌, length, count_by}
use Rattle.std.proofs.Common.{sym, ap, ◌∙◌}
use Rattle.lg_model.specs.Scenario.{Scenario, packet_count}
use Rattle.lg_model.specs.Carrying.{picked}
use Rattle.lg_model.specs.Arriving.{brought_to_all}
use Rattle.lg_model.specs.Answer.{Content}
use Rattle.column_book.specs.Entries.{content}
use Rattle.report_text.specs.declared.summary.Summary.{Summary}
use Rattle.report_text.specs.Summary.{summary_lines}
use Rattle.guardian_run.specs.Showing.{is_unknown, summary_of}
use Rattle.guardian_run.proofs.demo.summary_text.Goals as goal

abbrev figures : (rounds packets arrived columns asks unknown : ℕ) → Summary
figures rounds packets arrived columns asks unknown =
    record { rounds = rounds; packets = packets; arrived = arrived; columns = columns; asks = asks; unknown = unknown }

figures_are : (rounds packets arrived columns asks unknown : ℕ) (content : Content) (w : Scenario) → packets ≡ packet_count w.steps →
    arrived ≡ length (brought_to_all w (picked w)) → columns ≡ length content → asks ≡ length w.asks → unknown ≡ count_by (is_unknown content w) w.asks →
    figures rounds packets arrived columns asks unknown ≡ summary_of rounds content w
figures_are rounds packets arrived columns asks unknown content w p a c q u = λ j. figures rounds (p j) (a j) (c j) (q j) (u j)

pub returns : goal.returns
returns c =
    let w = c.args.scenario.now in
    let n = c.args.rounds in
    let law = c.generated_are_scenarios.ensures n c.requires.few in
    let packets : 160 * n + 256 ≡ packet_count w.steps = sym law.packets ∙ ap (λ (v : Scenario). packet_count v.steps) (sym c.requires.generated) in
    let mine = figures n (160 * n + 256) c.arrived.result c.count.result (length c.asks.result.now) c.unknown.result in
    c.in_ok-put_summary.ensures ∙ ap (λ (xs : List ℕ). xs ++ summary_lines mine) c.new-text.ensures.items
    ∙ ap summary_lines (figures_are n (160 * n + 256) c.arrived.result c.count.result (length c.asks.result.now) c.unknown.result
    (content c.args.book.now.entries) w
    packets c.arrived.ensures c.count.ensures.content (ap length c.asks.ensures.value) c.unknown.ensures)
