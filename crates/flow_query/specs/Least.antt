-- The least counters of known buckets.
use Rattle.std.specs.Prelude.{ℕ, List, [], ◌∷◌, length, fold, min, Option, None, Some}
use Rattle.std.specs.List.{filter_map, range_with_len}
use Rattle.flow_key.specs.declared.key.FlowKey.{FlowKey}
use Rattle.lg_model.specs.declared.column.Bucket.{Bucket}
use Rattle.lg_model.specs.Placing.{Shape}
use Rattle.lg_model.specs.Answer.{Look, known_at}
use Rattle.flow_query.specs.declared.least.Known.{Known}

-- The lower counters of two buckets.
abbrev pub lower : Bucket → Bucket → Bucket
lower a b = record { bytes = min a.bytes b.bytes; delay = min a.delay b.delay }

-- The least counters of buckets, if there is one.
abbrev pub least_of : List Bucket → Option Bucket
least_of [] = None
least_of (b ∷ bs) = Some (fold lower b bs)

-- How many buckets are known, and their least counters.
abbrev pub known_of : List Bucket → Known
known_of bs = record { rows = length bs; least = least_of bs }

-- The known buckets of a flow in the first n rows.
abbrev pub known_to : Look → Shape → (s e : ℕ) → FlowKey → (n : ℕ) → List Bucket
known_to look shape s e f n = filter_map (known_at look shape s e f) (range_with_len 0 n)
