-- A flow's buckets stay above what was counted of it.
use Rattle.std.specs.Prelude.{◌≡◌, ◌≢◌, ℕ, ◌+◌, ◌<◌, ◌≤◌, ◌⊎◌, Bool, true, false, cond, List, [], ◌∷◌, length, fold, min, max, slice_index_or, replicate, filter, sum_by, slice_index}
use Rattle.std.proofs.lemmas.List.FromFn.{get_or-map-range_with_len}
use Rattle.std.proofs.Common.{refl, sym, ap, ◌∙◌, subst, arith, inl, inr, mod-lt, zero-add, add-zero}
use Rattle.std.proofs.lemmas.List.{length-replicate, get_or-replicate}
use Rattle.std.proofs.lemmas.List.Sums.{sum_by-cons}
use Rattle.std.proofs.lemmas.Bool.Decides.{eqb_tells}
use Rattle.flow_key.specs.declared.key.FlowKey.{FlowKey}
use Rattle.lg_model.specs.Placing.{Shape, place, places_of, same_key}
use Rattle.lg_model.specs.Trace.{Observation, sum_of, most_of, of_flow}
use Rattle.lg_model.specs.Sketch.{Table, IsTable, bucket_at, zero_bucket, zero_table, least_to, raised, raise, raise_by, table_of}
use Rattle.lg_model.specs.declared.limits.TheConstants.{LAST_BYTES, LAST_DELAY}
use Rattle.lg_model.specs.Bound.{IsBound, LawOfTheBound}
use Rattle.lg_model.proofs.Keys.{same_key-true}
use Rattle.lg_model.proofs.Raising.{row_of, bucket_raised_same, bucket_raised_other, length-raise, width-raise, least_to_is_above}

-- the place of a flow as the list of its places has it
abbrev pub at : Shape → FlowKey → ℕ → ℕ
at shape f = slice_index (places_of shape f)

pub at_is : (shape : Shape) (f : FlowKey) (i : ℕ) → i < shape.rows → at shape f i ≡ place shape f i
at_is shape f i h = get_or-map-range_with_len (place shape f) 0 shape.rows i i 0 h (zero-add i)

-- a flow's buckets are not below these
pub record IsAbove (shape : Shape) (f : FlowKey) (sum most : ℕ) (t : Table) : Type 0 where
  pub bytes : (i : ℕ) → i < shape.rows → min LAST_BYTES sum ≤ (bucket_at t i (at shape f i)).bytes
  pub delay : (i : ℕ) → i < shape.rows → min LAST_DELAY most ≤ (bucket_at t i (at shape f i)).delay

pub IsTable-raise : (shape : Shape) (at : ℕ → ℕ) (v d : ℕ) (t : Table) → IsTable shape t → IsTable shape (raise at v d t)
IsTable-raise shape at v d t is = record {
  rows = length-raise at v d t ∙ is.rows;
  width = λ i h. let in_t : i < length t = subst (λ n. i < n) (sym is.rows) h in width-raise at v d t i in_t ∙ is.width i h;
}

-- no counter falls
rises : (at : ℕ → ℕ) (v d : ℕ) (t : Table) (i j : ℕ) → i < length t → at i < length (row_of t i) →
    ((bucket_at t i j).bytes ≤ (bucket_at (raise at v d t) i j).bytes) × ((bucket_at t i j).delay ≤ (bucket_at (raise at v d t) i j).delay)
rises at v d t i j h inside =
    elim (eqb_tells j (at i)) [
      | inl same ↦ rw same.1 (let e = bucket_raised_same at v d t i h inside in rw e (omega arith, omega arith))
      | inr other ↦ let e = bucket_raised_other at v d t i j h other.1 in rw e (omega arith, omega arith)
    ]

-- each bucket of a table at a flow's place is inside
inside_row : (shape : Shape) (f : FlowKey) (t : Table) (i : ℕ) → 0 < shape.width → IsTable shape t → i < length t → at shape f i < length (row_of t i)
inside_row shape f t i wide is h =
    let in_shape : i < shape.rows = subst (λ n. i < n) is.rows h in
    let small : at shape f i < shape.width = rw (at_is shape f i in_shape) (mod-lt _ wide) in
    subst (λ n. at shape f i < n) (sym (is.width i in_shape)) small

-- after a packet of another flow
above_other : (shape : Shape) (f g : FlowKey) (v d s m : ℕ) (t : Table) → 0 < shape.width → IsTable shape t → IsAbove shape f s m t →
    IsAbove shape f s m (raise (at shape g) v d t)
above_other shape f g v d s m t wide is above = record {
  bytes = λ i h. let in_t : i < length t = subst (λ n. i < n) (sym is.rows) h in
      let up = rises (at shape g) v d t i (at shape f i) in_t (inside_row shape g t i wide is in_t) in
      let low = above.bytes i h in omega arith;
  delay = λ i h. let in_t : i < length t = subst (λ n. i < n) (sym is.rows) h in
      let up = rises (at shape g) v d t i (at shape f i) in_t (inside_row shape g t i wide is in_t) in
      let low = above.delay i h in omega arith;
}

-- after a packet of the flow
above_same : (shape : Shape) (f : FlowKey) (v d s m : ℕ) (t : Table) → 0 < shape.width → IsTable shape t → IsAbove shape f s m t →
    IsAbove shape f (s + v) (max m d) (raise (at shape f) v d t)
above_same shape f v d s m t wide is above = record {
  bytes = λ i h. let in_t : i < length t = subst (λ n. i < n) (sym is.rows) h in
      let e = bucket_raised_same (at shape f) v d t i in_t (inside_row shape f t i wide is in_t) in
      let least : min LAST_BYTES s ≤ least_to (at shape f) t i =
      least_to_is_above (at shape f) t i (min LAST_BYTES s) (omega arith) (λ k in_k. above.bytes k (subst (λ n. k < n) is.rows in_k)) in
      rw e (omega arith);
  delay = λ i h. let in_t : i < length t = subst (λ n. i < n) (sym is.rows) h in
      let e = bucket_raised_same (at shape f) v d t i in_t (inside_row shape f t i wide is in_t) in
      let low = above.delay i h in
      rw e (omega arith);
}

-- along a list of packets
above_all : (shape : Shape) (f : FlowKey) (xs : List Observation) (s m : ℕ) (t : Table) → 0 < shape.width → IsTable shape t → IsAbove shape f s m t →
    IsAbove shape f (s + sum_of xs f) (fold (λ most x. max most x.delay) m (of_flow f xs)) (fold (raise_by shape) t xs)
above_all shape f [] s m t wide is above = rw add-zero above
above_all shape f (x ∷ xs) s m t wide is above =
    elim (same_key x.key f) as (λ b. same_key x.key f ≡ b →
    IsAbove shape f (s + sum_by (λ (y : Observation). y.size) (cond b (x ∷ of_flow f xs) (of_flow f xs)))
    (fold (λ most (y : Observation). max most y.delay) m (cond b (x ∷ of_flow f xs) (of_flow f xs))) (fold (raise_by shape) (raise_by shape t x) xs)) [
      | true ↦ λ e.
          let same = same_key-true x.key f e in
          let first : IsAbove shape f (s + x.size) (max m x.delay) (raise_by shape t x) =
          subst (λ g. IsAbove shape f (s + x.size) (max m x.delay) (raise (at shape g) x.size x.delay t)) (sym same) (above_same shape f x.size x.delay s m t wide is above) in
          let all = above_all shape f xs (s + x.size) (max m x.delay) (raise_by shape t x) wide (IsTable-raise shape (at shape x.key) x.size x.delay t is) first in
          let more : s + sum_by (λ (y : Observation). y.size) (x ∷ of_flow f xs) ≡ (s + x.size) + sum_by (λ (y : Observation). y.size) (of_flow f xs) =
          omega (arith, sum_by-cons (λ (y : Observation). y.size) x (of_flow f xs)) in
          rw more all
      | false ↦ λ e. above_all shape f xs s m (raise_by shape t x) wide (IsTable-raise shape (at shape x.key) x.size x.delay t is)
          (above_other shape f x.key x.size x.delay s m t wide is above)
    ] refl

is_table_zero : (shape : Shape) → IsTable shape (zero_table shape)
is_table_zero shape = record {
  rows = length-replicate shape.rows (replicate shape.width zero_bucket);
  width = λ i h. rw (get_or-replicate shape.rows i (replicate shape.width zero_bucket) [] h) (length-replicate shape.width zero_bucket);
}

pub bound : LawOfTheBound
bound shape xs f i h wide =
    let none : IsAbove shape f 0 0 (zero_table shape) = record { bytes = λ k in_k. omega arith; delay = λ k in_k. omega arith } in
    let all = above_all shape f xs 0 0 (zero_table shape) wide (is_table_zero shape) none in
    let is = at_is shape f i h in
    record { bytes = rw (zero-add (sum_of xs f), is) at (all.bytes i h); delay = rw is at (all.delay i h) }
