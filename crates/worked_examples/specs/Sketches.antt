-- What packets do to a sketch, and what a switch freezes, by computation.
use Rattle.std.specs.Prelude.{◌≡◌, ℕ, ◌+◌, List, [], ◌∷◌, map, replicate, slice_index}
use Rattle.std.specs.List.{range_with_len}
use Rattle.lg_model.specs.declared.scenario.Hash.TheVariants.{Ports}
use Rattle.lg_model.specs.Placing.{Shape}
use Rattle.lg_model.specs.Columns.{dims_of}
use Rattle.lg_model.specs.Sketch.{Table, zero_table, bucket_at, column_at, raise, table_of, frozen, frozen_cells}
use Rattle.lg_model.specs.TwinsState.{TwinsState, new_twins, with_seen, with_put, with_end, offer_of}
use Rattle.worked_examples.specs.Networks.{bucket, cells}
use Rattle.worked_examples.specs.Packets.{saw, traffic}

-- Three rows of one bucket, with the sums 5, 9 and 2 and the maxima 4, 9 and 1.
abbrev pub three_rows : Table
three_rows = (bucket 5 4 ∷ []) ∷ (bucket 9 9 ∷ []) ∷ (bucket 2 1 ∷ []) ∷ []

-- Two rows of three buckets.
abbrev pub two_rows : Table
two_rows = (bucket 1 1 ∷ bucket 10 2 ∷ bucket 3 3 ∷ []) ∷ (bucket 4 4 ∷ bucket 5 5 ∷ bucket 20 6 ∷ []) ∷ []

abbrev pub at : List ℕ → ℕ → ℕ
at places = slice_index places

abbrev pub one_bucket : (bytes delay : ℕ) → Table
one_bucket bytes delay = (bucket bytes delay ∷ []) ∷ []

abbrev pub shape : Shape
shape = record { rows = 2; width = 3; hash = Ports }

-- Flow (2, 1) has the places 2 and 0, flow (3, 2) the places 0 and 2.
abbrev pub counted : Table
counted = (bucket 9 90 ∷ bucket 0 0 ∷ bucket 150 5 ∷ []) ∷ (bucket 150 5 ∷ bucket 0 0 ∷ bucket 9 90 ∷ []) ∷ []

abbrev pub seen_three : TwinsState
seen_three = with_seen (with_seen (with_seen (new_twins shape) (saw 2 1 100 5)) (saw 3 2 9 90)) (saw 2 1 50 3)

abbrev pub ended_once : TwinsState
ended_once = with_put (with_put (with_put (with_end seen_three) 1) 2) 1

pub record WorkedSketches : Type 0 where
  pub zeros : zero_table shape ≡ replicate 2 (replicate 3 (bucket 0 0))
  -- a row adds to the least old sum of the rows up to it, itself included, and never falls
  pub least_so_far : raise (at (0 ∷ 0 ∷ 0 ∷ [])) 3 5 three_rows
      ≡ (bucket 8 5 ∷ []) ∷ (bucket 9 9 ∷ []) ∷ (bucket 5 5 ∷ []) ∷ []
  -- one bucket of each row, and no other
  pub places : raise (at (1 ∷ 2 ∷ [])) 7 4 two_rows
      ≡ (bucket 1 1 ∷ bucket 17 4 ∷ bucket 3 3 ∷ []) ∷ (bucket 4 4 ∷ bucket 5 5 ∷ bucket 20 6 ∷ []) ∷ []
  -- the last value but one, the last one, and past it
  pub limits : map (λ size. raise (at (0 ∷ [])) size (size + 65234) (one_bucket 4294967000 0)) (294 ∷ 295 ∷ 302 ∷ [])
      ≡ one_bucket 4294967294 65528 ∷ one_bucket 4294967295 65529 ∷ one_bucket 4294967295 65535 ∷ []
  pub past_limits : raise (at (0 ∷ [])) 4294967296 65536 (one_bucket 0 0) ≡ one_bucket 4294967295 65535
  pub all_of_them : table_of shape (saw 2 1 100 5 ∷ saw 3 2 9 90 ∷ saw 2 1 50 3 ∷ []) ≡ counted
  pub column : column_at counted 2 ≡ bucket 150 5 ∷ bucket 9 90 ∷ []
  pub bucket_there : bucket_at counted 1 0 ≡ bucket 150 5
  pub dims : dims_of shape ≡ record { rows = 2; width = 3 }
  -- what the first switch froze in its first epoch and in its second, and what the second one did
  pub frozen_ones : map (frozen traffic 0) (range_with_len 0 2)
      ≡ ((bucket 200 5 ∷ bucket 0 0 ∷ []) ∷ (bucket 0 0 ∷ bucket 200 5 ∷ []) ∷ [])
      ∷ ((bucket 200 7 ∷ bucket 0 0 ∷ []) ∷ (bucket 0 0 ∷ bucket 200 7 ∷ []) ∷ []) ∷ []
  pub frozen_there : map (frozen_cells traffic 1 0) (range_with_len 0 2)
      ≡ cells (bucket 200 6 ∷ bucket 0 0 ∷ []) ∷ cells (bucket 0 0 ∷ bucket 200 6 ∷ []) ∷ []
  -- the twins of a switch: before an end, with columns put out after it, and after the next end
  pub current : seen_three ≡ record {
    shape = shape;
    epoch = 0;
    current = counted;
    frozen = zero_table shape;
    put = 0;
    times = 0 ∷ 0 ∷ 0 ∷ [];
  }
  pub swapped : ended_once ≡ record {
    shape = shape;
    epoch = 1;
    current = zero_table shape;
    frozen = counted;
    put = 3;
    times = 0 ∷ 2 ∷ 1 ∷ [];
  }
  pub offered : offer_of ended_once ≡ record { width = 3; put = 3; times = 0 ∷ 2 ∷ 1 ∷ [] }
  pub anew : with_end ended_once
      ≡ record {
        shape = shape;
        epoch = 2;
        current = zero_table shape;
        frozen = zero_table shape;
        put = 0;
        times = 0 ∷ 0 ∷ 0 ∷ [];
      }
