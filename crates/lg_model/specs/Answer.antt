-- The content of a book, and the answer that it gives for a flow.
use Rattle.std.specs.Prelude.{ℕ, ◌==◌, List, [], ◌∷◌, map, length, min, fold, Option, None, Some, if◌then◌else◌}
use Rattle.std.specs.List.{filter_map, range_with_len}
use Rattle.std.specs.Ordering.{nat_cmp, ordering_then}
use Rattle.std.specs.declared.cmp.Ordering.{Ordering}
use Rattle.std.specs.BTreeMap.{insert_entry, is_at}
use Rattle.std.specs.Map.{lookup}
use Rattle.std.specs.Option.{option_map}
use Rattle.flow_key.specs.declared.key.FlowKey.{FlowKey}
use Rattle.lg_model.specs.declared.answer.Answer.{Answer}
use Rattle.lg_model.specs.declared.scenario.Ask.{Ask}
use Rattle.lg_model.specs.declared.answer.Value.{Value}
use Rattle.lg_model.specs.declared.answer.Value.TheVariants.{Unknown, AtMost, Saturated}
use Rattle.lg_model.specs.declared.column.Bucket.{Bucket}
use Rattle.lg_model.specs.declared.column.Key.{Key}
use Rattle.lg_model.specs.declared.limits.TheConstants.{LAST_BYTES, LAST_DELAY}
use Rattle.lg_model.specs.Placing.{Shape, place}
use Rattle.lg_model.specs.Scenario.{Scenario, flow_at}
use Rattle.lg_model.specs.Sketch.{bucket_in}
use Rattle.lg_model.specs.Columns.{Cells, Column}

-- Keys are ordered by switch, then by epoch, then by index.
abbrev pub key_cmp : Key → Key → Ordering
key_cmp a b = ordering_then (nat_cmp a.switch b.switch) (ordering_then (nat_cmp a.epoch b.epoch) (nat_cmp a.index b.index))

-- The content of a book: a finite map from keys to counters, as the list of its pairs in the order of their keys.
abbrev pub Content : Type 0
Content = List (Key × Cells)

abbrev pub with_column : Content → Column → Content
with_column content c = insert_entry key_cmp content c.key c.cells

-- The content made of these columns. (Columns with one key have the same counters, wherever it is used; else the last counts.)
abbrev pub content_of : List Column → Content
content_of cs = fold with_column [] cs

-- The counters under a key.
abbrev pub found : Content → Key → Option Cells
found content k = lookup (is_at (key_cmp k)) content

-- What is kept under a switch, an epoch and an index.
abbrev pub Look : Type 0
Look = ℕ → ℕ → ℕ → Option Cells

abbrev pub look_in : Content → Look
look_in content s e j = found content (record { switch = s; epoch = e; index = j })

-- The bucket of a flow in row i, if the column at its place there is kept.
abbrev pub known_at : Look → Shape → ℕ → ℕ → FlowKey → ℕ → Option Bucket
known_at look shape s e f i = option_map (λ (x : Cells). bucket_in x.buckets i) (look s e (place shape f i))

-- The known buckets of a flow, in the order of the rows.
abbrev pub known : Look → Shape → ℕ → ℕ → FlowKey → List Bucket
known look shape s e f = filter_map (known_at look shape s e f) (range_with_len 0 shape.rows)

-- What is told of counters whose last value is `limit`: the least of them, if there is one.
abbrev pub value_of : ℕ → List ℕ → Value
value_of limit [] = Unknown
value_of limit (x ∷ xs) = if fold min x xs == limit then Saturated else AtMost (fold min x xs)

-- The answer for a flow at the switch of that name and in that epoch.
abbrev pub answer : Look → Shape → ℕ → ℕ → FlowKey → Answer
answer look shape s e f = let rows = known look shape s e f in
    record { rows_known = length rows; bytes = value_of LAST_BYTES (map (λ (b : Bucket). b.bytes) rows); delay = value_of LAST_DELAY (map (λ (b : Bucket). b.delay) rows) }

-- The answer of a content to an ask.
abbrev pub answered : Content → Scenario → Ask → Answer
answered content w ask = answer (look_in content) w.shape ask.switch ask.epoch (flow_at w.flows ask.flow_at).key
