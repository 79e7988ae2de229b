-- The lines of the summary of a demonstration.
use Rattle.std.specs.Prelude.{ℕ, List, ◌++◌, codes}
use Rattle.std.specs.Fmt.{decimal}
use Rattle.text_out.specs.Words.{line}
use Rattle.report_text.specs.declared.summary.Summary.{Summary}
use Rattle.report_text.specs.Report.{columns_line}

-- `demo N`
unfoldable pub demo_line : ℕ → List ℕ
demo_line n = line (codes "demo " ++ decimal n)

-- `packets P`
unfoldable pub packets_line : ℕ → List ℕ
packets_line n = line (codes "packets " ++ decimal n)

-- `arrived A`
unfoldable pub arrived_line : ℕ → List ℕ
arrived_line n = line (codes "arrived " ++ decimal n)

-- `asks Q unknown U`
unfoldable pub asks_line : (asks unknown : ℕ) → List ℕ
asks_line asks unknown = line (codes "asks " ++ decimal asks ++ codes " unknown " ++ decimal unknown)

-- The lines of what was sent, of the network with what arrived, and of the book.
abbrev pub sent_lines : Summary → List ℕ
sent_lines s = demo_line s.rounds ++ packets_line s.packets

abbrev pub network_lines : Summary → List ℕ
network_lines s = sent_lines s ++ arrived_line s.arrived

abbrev pub book_lines : Summary → List ℕ
book_lines s = columns_line s.columns ++ asks_line s.asks s.unknown

-- All five, in this order.
abbrev pub summary_lines : Summary → List ℕ
summary_lines s = network_lines s ++ book_lines s
