-- What came to a host, by the places of its columns.
use Rattle.std.specs.Prelude.{◌≡◌, ℕ, ◌<◌, ◌≤◌, ◌^◌, List, [], All, length, slice_index_or}
use Rattle.std.proofs.Common.{sym, ap, ◌∙◌, subst, arith}
use Rattle.std.proofs.lemmas.List.{length-map, get_or-map}
use Rattle.lg_model.specs.Scenario.{Scenario, packet_count}
use Rattle.lg_model.specs.Columns.{Column}
use Rattle.lg_model.specs.Matching.{Matched}
use Rattle.lg_model.specs.Carrying.{picked}
use Rattle.lg_model.specs.Arriving.{brought}
use Rattle.lg_model.proofs.Pairing.{matched_length}
use Rattle.sketchlet_wire.specs.declared.packed.Packed.{Packed}
use Rattle.sketchlet_wire.specs.Packing.{IsPacked}
use Rattle.path_sim.specs.Pooling.{no_item, item_at, items_at, pooled, PooledOutcome}
use Rattle.host_collect.specs.PackedUploads.{PackColumns}
use Rattle.host_collect.proofs.PackedParts.{columns_are}
use Rattle.guardian_run.specs.Arrived.{HavePooled}
use Rattle.guardian_run.proofs.Keeping.{no_column, packed_is}

-- The places of a host are inside, and their items are what it was brought.
pub record CameTo (w : Scenario) (kept : List Packed) (places : List ℕ) (at : ℕ) : Type 0 where
  pub inside : All (λ (k : ℕ). k < length kept) places
  pub packed : Matched IsPacked (items_at kept places) (brought w (picked w) at)

pub came_to : (w : Scenario) (a : PooledOutcome) (places : List ℕ) (at : ℕ) → HavePooled w a → at < length w.hosts → places ≡ slice_index_or a.places at []
    → CameTo w a.kept places at
came_to w a places at has low are =
    let rows : length (pooled a.kept a.places) ≡ length a.places = length-map a.places (items_at a.kept) in
    let here : at < length a.places = omega (arith, low, rows, has.arrived.hosts) in
    let row : slice_index_or (pooled a.kept a.places) at [] ≡ items_at a.kept (slice_index_or a.places at []) =
    get_or-map (items_at a.kept) a.places at [] [] here in
    record {
      inside = subst (All (λ (k : ℕ). k < length a.kept)) (sym are) (has.inside at [] here);
      packed = subst (λ (ps : List Packed). Matched IsPacked ps (brought w (picked w) at)) (row ∙ ap (items_at a.kept) (sym are))
          (has.arrived.each at (omega (arith, here, rows)));
    }

pub host_inside : (w : Scenario) (a : PooledOutcome) (at : ℕ) → HavePooled w a → at < length w.hosts → at < length a.places
host_inside w a at has low = omega (arith, low, length-map a.places (items_at a.kept), has.arrived.hosts)

pub places_len : (w : Scenario) (kept : List Packed) (places : List ℕ) (at : ℕ) → CameTo w kept places at → length places ≡ length (brought w (picked w) at)
places_len w kept places at came =
    sym (length-map places (item_at kept)) ∙ matched_length IsPacked (items_at kept places) (brought w (picked w) at) came.packed

-- So they can be cut into uploads.
pub pack : (w : Scenario) (a : PooledOutcome) (kept : List Packed) (places : List ℕ) (at : ℕ) → HavePooled w a → kept ≡ a.kept
    → CameTo w a.kept places at → PackColumns kept places
pack w a kept places at has same came =
    subst (λ (ps : List Packed). PackColumns ps places) (sym same) (record {
      inside = came.inside;
      short = has.short;
      packed = subst (Matched IsPacked (items_at a.kept places)) (sym (columns_are (items_at a.kept places) (brought w (picked w) at) came.packed)) came.packed;
    })

-- They are few.
pub few_came : (w : Scenario) (a : PooledOutcome) (places : List ℕ) (at : ℕ) → packet_count w.steps ≤ 1000000 → HavePooled w a → at < length w.hosts
    → places ≡ slice_index_or a.places at [] → length places < 2 ^ 32
few_came w a places at packets has low are =
    let rows : length (pooled a.kept a.places) ≡ length a.places = length-map a.places (items_at a.kept) in
    let here : at < length a.places = host_inside w a at has low in
    let row : slice_index_or (pooled a.kept a.places) at [] ≡ items_at a.kept places =
    get_or-map (items_at a.kept) a.places at [] [] here ∙ ap (items_at a.kept) (sym are) in
    let most = has.arrived.few at (omega (arith, here, rows)) in
    omega (arith, most, packets, ap length row, length-map places (item_at a.kept))

-- The item at a place of a host packs the column that it was brought there.
pub item_is : (kept : List Packed) (places : List ℕ) (cs : List Column) (i : ℕ) → Matched IsPacked (items_at kept places) cs → i < length places
    → IsPacked (item_at kept (slice_index_or places i 0)) (slice_index_or cs i no_column)
item_is kept places cs i all low =
    subst (λ (p : Packed). IsPacked p (slice_index_or cs i no_column)) (get_or-map (item_at kept) places i 0 no_item low)
    (packed_is (items_at kept places) cs i all (omega (arith, low, length-map places (item_at kept))))
