-- Columns that are kept once.
use Rattle.std.specs.Prelude.{◌≡◌, ℕ, zero, suc, ◌+◌, ◌*◌, ◌%◌, ◌<◌, ◌≤◌, List, [], ◌∷◌, ◌++◌, length, replicate, slice_set, slice_index_or, All}
use Rattle.std.proofs.Common.{refl, sym, ap, ◌∙◌, subst, arith, length-append, inl, inr}
use Rattle.std.proofs.lemmas.List.{length-map, length-set, map-set, map-append, get_or-map, get_or_append_left, get_or-set_same, get_or-set_other}
use Rattle.std.proofs.lemmas.List.{get_or-replicate, length-replicate}
use Rattle.std.proofs.Math.Seq.{get_or-append_seam}
use Rattle.std.proofs.Math.Nat.{mod-eq_of_lt, mul-add-mod_self_right, div-eq_of_eq-mul_left, mul-le-mul_right, mul_comm}
use Rattle.std.proofs.lemmas.List.Elements.{All-push, All-weaker, All-head, All-tail, All-nil, All-cons, All-replicate}
use Rattle.std.proofs.lemmas.Bool.Decides.{eqb_tells}
use Rattle.lg_model.specs.declared.limits.TheConstants.{MOST_SKETCHLET_BYTES}
use Rattle.lg_model.specs.Scenario.{Scenario}
use Rattle.lg_model.specs.Columns.{Column}
use Rattle.lg_model.specs.Carrying as model
use Rattle.lg_model.specs.Arriving.{column_of}
use Rattle.lg_model.specs.Midway.{AreDelivered}
use Rattle.lg_model.specs.TwinsState.{TwinsState}
use Rattle.lg_model.proofs.Arrivals.{deliver_one}
use Rattle.sketchlet_wire.specs.declared.packed.Packed.{Packed}
use Rattle.sketchlet_wire.specs.Packing.{IsPacked}
use Rattle.path_sim.specs.declared.carry.Carry.{Carry}
use Rattle.path_sim.specs.declared.slot.Slot.{Slot}
use Rattle.path_sim.specs.Parts.{carry_is, frozen_column}
use Rattle.path_sim.specs.Taking.{MayTake}
use Rattle.path_sim.specs.Pooling.{no_item, item_at, items_at, pooled, IsKept, column_at, no_slot, slot_at, AreSlots, AreInside, IsPoolOf}

-- ---- one column more is kept

pub kept_more : (pool : List Packed) (x : Packed) (k : ℕ) (c : Column) → IsKept pool k c → IsKept (pool ++ x ∷ []) k c
kept_more pool x k c is = (
  omega (arith, is.0, length-append pool (x ∷ [])),
  subst (λ (p : Packed). IsPacked p c) (sym (get_or_append_left pool (x ∷ []) no_item k is.0)) is.1,
)

pub kept_new : (pool : List Packed) (x : Packed) (c : Column) → IsPacked x c → IsKept (pool ++ x ∷ []) (length pool) c
kept_new pool x c is = (
  omega (arith, length-append pool (x ∷ [])),
  subst (λ (p : Packed). IsPacked p c) (sym (get_or-append_seam pool x [] no_item)) is,
)

items_same : (pool : List Packed) (x : Packed) (row : List ℕ) → All (λ (k : ℕ). k < length pool) row → items_at (pool ++ x ∷ []) row ≡ items_at pool row
items_same pool x [] inside = refl
items_same pool x (k ∷ ks) inside =
    let In = λ (n : ℕ). n < length pool in
    ap (λ (p : Packed). p ∷ items_at (pool ++ x ∷ []) ks) (get_or_append_left pool (x ∷ []) no_item k (All-head In k ks inside))
    ∙ ap (λ (ps : List Packed). item_at pool k ∷ ps) (items_same pool x ks (All-tail In k ks inside))

pub pooled_same : (pool : List Packed) (x : Packed) (rows : List (List ℕ)) → AreInside pool rows → pooled (pool ++ x ∷ []) rows ≡ pooled pool rows
pooled_same pool x [] inside = refl
pooled_same pool x (row ∷ rows) inside =
    ap (λ (ps : List Packed). ps ∷ pooled (pool ++ x ∷ []) rows) (items_same pool x row (All-head (All (λ (k : ℕ). k < length pool)) row rows inside))
    ∙ ap (λ (rest : List (List Packed)). items_at pool row ∷ rest) (pooled_same pool x rows (All-tail (All (λ (k : ℕ). k < length pool)) row rows inside))

inside_more : (pool : List Packed) (x : Packed) (rows : List (List ℕ)) → AreInside pool rows → AreInside (pool ++ x ∷ []) rows
inside_more pool x rows inside =
    let size = length-append pool (x ∷ []) in
    All-weaker (All (λ (k : ℕ). k < length pool)) (All (λ (k : ℕ). k < length (pool ++ x ∷ []))) (λ row here.
    All-weaker (λ (k : ℕ). k < length pool) (λ (k : ℕ). k < length (pool ++ x ∷ [])) (λ k low. omega (arith, low, size)) row here) rows inside

-- ---- slots

-- Places of different indexes, or of different switches, differ.
same_index : (w s t i j : ℕ) → i < w → j < w → s * w + i ≡ t * w + j → i ≡ j
same_index w s t i j low-i low-j same =
    sym (mod-eq_of_lt low-i) ∙ sym (mul-add-mod_self_right s w i) ∙ ap (λ (n : ℕ). n % w) same ∙ mul-add-mod_self_right t w j ∙ mod-eq_of_lt low-j

same_switch : (w s t i j : ℕ) → i < w → j < w → s * w + i ≡ t * w + j → s ≡ t
same_switch w s t i j low-i low-j same =
    let some : 0 < w = omega (arith, low-i) in
    let rows : s * w ≡ t * w = omega (arith, same, same_index w s t i j low-i low-j same) in
    sym (div-eq_of_eq-mul_left {n = w} {m = s * w} {k = s} some refl) ∙ div-eq_of_eq-mul_left {n = w} {m = s * w} {k = t} some rows

pub slots_more : (w : Scenario) (pool : List Packed) (x : Packed) (slots : List Slot) → AreSlots w pool slots → AreSlots w (pool ++ x ∷ []) slots
slots_more w pool x slots are = record {
  count = are.count;
  each = λ s j e switch index ended. kept_more pool x (slot_at slots w.shape.width s j).place (column_at w s e j) (are.each s j e switch index ended);
}

inside_slots : (w : Scenario) (slots : List Slot) (pool : List Packed) (s j : ℕ) → AreSlots w pool slots → s < length w.switches → j < w.shape.width
    → s * w.shape.width + j < length slots
inside_slots w slots pool s j are switch index =
    let rows : (s + 1) * w.shape.width ≤ length w.switches * w.shape.width =
    mul-le-mul_right w.shape.width (let h : s + 1 ≤ length w.switches = omega (arith, switch) in h) in
    omega (arith, are.count, rows, index)

pub slots_set : (w : Scenario) (pool : List Packed) (slots : List Slot) (s j e : ℕ) (new : Slot) → AreSlots w pool slots → s < length w.switches
    → j < w.shape.width
    → new.ended ≡ e + 1 → IsKept pool new.place (column_at w s e j) → AreSlots w pool (slice_set slots (s * w.shape.width + j) new)
slots_set w pool slots s j e new are switch index ended kept =
    let W : ℕ = w.shape.width in
    let at : ℕ = s * W + j in
    let inside : at < length slots = inside_slots w slots pool s j are switch index in
    let changed : List Slot = slice_set slots at new in
    record {
      count = length-set slots at new ∙ are.count;
      each = λ t i f low-t low-i says. elim (eqb_tells (t * W + i) at) [
        | inl same ↦
            let here : slot_at changed W t i ≡ new = ap (λ (n : ℕ). slice_index_or changed n no_slot) same.1 ∙ get_or-set_same slots at new no_slot inside in
            let i_is : i ≡ j = same_index W t s i j low-i index same.1 in
            let t_is : t ≡ s = same_switch W t s i j low-i index same.1 in
            let f_is : f ≡ e = omega (arith, says, ap (λ (x : Slot). x.ended) here, ended) in
            subst (λ (x : Slot). IsKept pool x.place (column_at w t f i)) (sym here)
            (subst (λ (n : ℕ). IsKept pool new.place (column_at w n f i)) (sym t_is)
            (subst (λ (n : ℕ). IsKept pool new.place (column_at w s n i)) (sym f_is)
            (subst (λ (n : ℕ). IsKept pool new.place (column_at w s e n)) (sym i_is) kept)))
        | inr other ↦
            let here : slot_at changed W t i ≡ slot_at slots W t i = get_or-set_other slots at (t * W + i) new no_slot other.1 in
            subst (λ (x : Slot). IsKept pool x.place (column_at w t f i)) (sym here) (are.each t i f low-t low-i (ap (λ (x : Slot). x.ended) (sym here) ∙ says))
      ];
    }

-- ---- taking a column

pub found : (w : Scenario) (cs : List model.Carry) (pool : List Packed) (slots : List Slot) (rows : List (List ℕ)) (t : TwinsState) (c : Carry) (x : Slot)
    → IsPoolOf w cs pool slots rows → MayTake w cs t c → x ≡ slot_at slots w.shape.width c.switch_at c.index → x.ended ≡ t.epoch
    → IsKept pool x.place (column_of w (carry_is c))
found w cs pool slots rows t c x is may here ended =
    subst (λ (y : Slot). IsKept pool y.place (column_of w (carry_is c))) (sym here)
    (is.slots_are.each c.switch_at c.index c.epoch may.switch may.index (ap (λ (y : Slot). y.ended) (sym here) ∙ ended ∙ may.epoch))

pub longer : (w : Scenario) (cs : List model.Carry) (e : model.Carry) (pool : List Packed) (slots : List Slot) (rows : List (List ℕ))
    → IsPoolOf w cs pool slots rows
    → IsPoolOf w (cs ++ e ∷ []) pool slots rows
longer w cs e pool slots rows is = record {
  few = omega (arith, is.few, length-append cs (e ∷ []));
  short = is.short;
  slots_are = is.slots_are;
  inside = is.inside;
}

pub took : (w : Scenario) (cs : List model.Carry) (pool : List Packed) (slots : List Slot) (rows : List (List ℕ)) (t : TwinsState) (c : Carry)
    (x : Packed) (new : Slot)
    → IsPoolOf w cs pool slots rows → MayTake w cs t c → IsPacked x (frozen_column t c.switch c.index) → new.ended ≡ t.epoch → new.place ≡ length pool
    → IsPoolOf w (cs ++ carry_is c ∷ []) (pool ++ x ∷ []) (slice_set slots (c.switch_at * w.shape.width + c.index) new) rows
took w cs pool slots rows t c x new is may packs ended place =
    let column : IsPacked x (column_of w (carry_is c)) = subst (IsPacked x) may.column packs in
    let kept : IsKept (pool ++ x ∷ []) new.place (column_of w (carry_is c)) =
    subst (λ (n : ℕ). IsKept (pool ++ x ∷ []) n (column_of w (carry_is c))) (sym place) (kept_new pool x (column_of w (carry_is c)) column) in
    record {
      few = omega (arith, is.few, length-append cs (carry_is c ∷ []), length-append pool (x ∷ []));
      short = All-push (λ (p : Packed). p.len ≤ MOST_SKETCHLET_BYTES) pool x is.short column.short;
      slots_are = slots_set w (pool ++ x ∷ []) slots c.switch_at c.index c.epoch new (slots_more w pool x slots is.slots_are) may.switch may.index
          (ended ∙ may.epoch) kept;
      inside = inside_more pool x rows is.inside;
    }

-- ---- arriving

pub came : (pool : List Packed) (rows : List (List ℕ)) (ds : List (ℕ × Column)) (h k : ℕ) (c : Column) (d row : List ℕ) → h < length rows → IsKept pool k c
    → row ≡ slice_index_or rows h d ++ k ∷ [] → AreDelivered IsPacked ds (pooled pool rows)
    → AreDelivered IsPacked (ds ++ (h, c) ∷ []) (pooled pool (slice_set rows h row))
came pool rows ds h k c d row low kept row_is all =
    let old : List ℕ = slice_index_or rows h d in
    let size : length (pooled pool rows) ≡ length rows = length-map rows (items_at pool) in
    let there : items_at pool old ≡ slice_index_or (pooled pool rows) h [] = sym (get_or-map (items_at pool) rows h d [] low) in
    let one : AreDelivered IsPacked (ds ++ (h, c) ∷ []) (slice_set (pooled pool rows) h (items_at pool old ++ item_at pool k ∷ [])) =
    deliver_one IsPacked ds (pooled pool rows) h c (items_at pool old) (item_at pool k) (omega (arith, low, size)) there kept.1 all in
    let new : pooled pool (slice_set rows h row) ≡ slice_set (pooled pool rows) h (items_at pool old ++ item_at pool k ∷ []) =
    map-set (items_at pool) rows h row ∙ ap (slice_set (pooled pool rows) h) (ap (items_at pool) row_is ∙ map-append (item_at pool) old (k ∷ [])) in
    subst (AreDelivered IsPacked (ds ++ (h, c) ∷ [])) (sym new) one

set_each : (pool : List Packed) (rows : List (List ℕ)) (h : ℕ) (row : List ℕ) → AreInside pool rows → All (λ (k : ℕ). k < length pool) row
    → AreInside pool (slice_set rows h row)
set_each pool [] h row inside here = inside
set_each pool (r ∷ rows) zero row inside here = All-cons (All (λ (k : ℕ). k < length pool)) row rows here
    (All-tail (All (λ (k : ℕ). k < length pool)) r rows inside)
set_each pool (r ∷ rows) (suc h) row inside here = All-cons (All (λ (k : ℕ). k < length pool)) r (slice_set rows h row)
    (All-head (All (λ (k : ℕ). k < length pool)) r rows inside)
    (set_each pool rows h row (All-tail (All (λ (k : ℕ). k < length pool)) r rows inside) here)

each_at : (pool : List Packed) (rows : List (List ℕ)) (h : ℕ) (d : List ℕ) → h < length rows → AreInside pool rows
    → All (λ (k : ℕ). k < length pool) (slice_index_or rows h d)
each_at pool rows h d low inside = inside h d low

pub arrived : (w : Scenario) (cs : List model.Carry) (pool : List Packed) (slots : List Slot) (rows : List (List ℕ)) (h k : ℕ) (c : Column)
    (d row : List ℕ) → h < length rows → IsKept pool k c
    → row ≡ slice_index_or rows h d ++ k ∷ [] → IsPoolOf w cs pool slots rows → IsPoolOf w cs pool slots (slice_set rows h row)
arrived w cs pool slots rows h k c d row low kept row_is is = record {
  few = is.few;
  short = is.short;
  slots_are = is.slots_are;
  inside = set_each pool rows h row is.inside (subst (All (λ (n : ℕ). n < length pool)) (sym row_is)
      (All-push (λ (n : ℕ). n < length pool) (slice_index_or rows h d) k (each_at pool rows h d low is.inside) kept.0));
}

-- ---- nothing was taken

no_rows : (n : ℕ) (pool : List Packed) → pooled pool (replicate n []) ≡ replicate n []
no_rows zero pool = refl
no_rows (suc n) pool = ap (λ (rest : List (List Packed)). [] ∷ rest) (no_rows n pool)

pub started : (w : Scenario) (pool : List Packed) (slots : List Slot) (rows : List (List ℕ)) (n : ℕ) → pool ≡ []
    → slots ≡ replicate (w.shape.width * length w.switches) no_slot
    → rows ≡ replicate n [] → n ≡ length w.hosts → IsPoolOf w [] pool slots rows × (pooled pool rows ≡ replicate (length w.hosts) [])
started w pool slots rows n none empty quiet hosts = (
  record {
    few = omega (arith, ap length none);
    short = subst (All (λ (p : Packed). p.len ≤ MOST_SKETCHLET_BYTES)) (sym none) (All-nil (λ (p : Packed). p.len ≤ MOST_SKETCHLET_BYTES));
    slots_are = record {
      count = ap length empty ∙ length-replicate (w.shape.width * length w.switches) no_slot
          ∙ (let e : w.shape.width * length w.switches ≡ length w.switches * w.shape.width = mul_comm w.shape.width (length w.switches) in e);
      each = λ s j e switch index ended.
          let rows_in : (s + 1) * w.shape.width ≤ length w.switches * w.shape.width =
          mul-le-mul_right w.shape.width (let h : s + 1 ≤ length w.switches = omega (arith, switch) in h) in
          let low : s * w.shape.width + j < w.shape.width * length w.switches = omega (arith, rows_in, index, mul_comm w.shape.width (length w.switches)) in
          let slot : slot_at slots w.shape.width s j ≡ no_slot = ap (λ (xs : List Slot). slot_at xs w.shape.width s j) empty
          ∙ get_or-replicate (w.shape.width * length w.switches) (s * w.shape.width + j) no_slot no_slot low in
          absurd (omega (arith, ended, ap (λ (x : Slot). x.ended) slot));
    };
    inside = subst (AreInside pool) (sym quiet) (All-replicate (All (λ (k : ℕ). k < length pool)) n [] (All-nil (λ (k : ℕ). k < length pool)));
  },
  ap (pooled pool) quiet ∙ no_rows n pool ∙ ap (λ (m : ℕ). replicate m []) hosts,
)
