-- The uploads of packed columns: each is whole, and each is a range of what came.
use Rattle.std.specs.Prelude.{◌≡◌, ℕ, zero, suc, ◌+◌, ◌-◌, ◌<◌, ◌≤◌, ◌^◌, List, [], ◌∷◌, ◌++◌, length, map, take, drop, slice_index_or, slice_get, Option, Some, None, All}
use Rattle.std.specs.List.{AllByRecursion, enumerate_from, flat_map}
use Rattle.std.proofs.Common.{refl, sym, ap, ◌∙◌, subst, arith, length-append}
use Rattle.std.proofs.lemmas.List.{take-map, drop-map, take_all, take_more, map-append, get_or-map, length-map}
use Rattle.std.proofs.lemmas.List.Elements.{All-push}
use Rattle.lg_model.specs.declared.limits.TheConstants.{MOST_SKETCHLET_BYTES, MOST_UPLOAD_COLUMNS}
use Rattle.lg_model.specs.Columns.{Column}
use Rattle.lg_model.specs.Matching.{Matched}
use Rattle.sketchlet_wire.specs.declared.packed.Packed.{Packed}
use Rattle.sketchlet_wire.specs.Spelling.{IsColumn}
use Rattle.sketchlet_wire.specs.Packing.{IsPacked}
use Rattle.sketchlet_wire.specs.Uploads.{UploadData, IsUpload, IsFull, upload_of}
use Rattle.uploader_core.specs.Uploader.{AreOwn}
use Rattle.upload_frame.specs.Pooled.{no_item, item_at, items_at}
use Rattle.lg_model.proofs.Pairing.{matched_push, matched_at}
use Rattle.host_collect.specs.Cutting.{Piece, cut, numbered}
use Rattle.host_collect.specs.PackedUploads.{column_in, column_or_none, columns_at, pieces, start_of, AreEnds, PackColumns, uploads_at}
use Rattle.host_collect.proofs.Cutters.{numbered_len}
use Rattle.host_collect.proofs.Cutting.{cut_law}
use Rattle.host_collect.proofs.Items.{packed_read}
use Rattle.host_collect.proofs.PackedCuts.{pieces_len}

-- ---- whole uploads

abbrev flat : List Piece → List Column
flat ps = flat_map (λ (p : Piece). p) ps

each_front : (xs ys : List Column) → AllByRecursion IsColumn (xs ++ ys) → AllByRecursion IsColumn xs × AllByRecursion IsColumn ys
each_front [] ys all = (tt, all)
each_front (x ∷ xs) ys all = let rest = each_front xs ys all.1 in ((all.0, rest.0), rest.1)

each_piece : (ps : List Piece) → AllByRecursion IsColumn (flat ps) → AllByRecursion (AllByRecursion IsColumn) ps
each_piece [] all = tt
each_piece (p ∷ ps) all = let parts = each_front p (flat ps) all in (parts.0, each_piece ps parts.1)

few_pieces : (ps : List Piece) → AllByRecursion IsUpload ps → length ps ≤ length (flat ps)
few_pieces [] all = omega arith
few_pieces (p ∷ ps) all = omega (arith, all.0.some, few_pieces ps all.1, length-append p (flat ps))

whole_from : (host a : ℕ) (ps : List Piece) → host < 2 ^ 16 → a + length ps ≤ 2 ^ 32 → AllByRecursion IsUpload ps → AllByRecursion (AllByRecursion IsColumn) ps
    → AllByRecursion IsFull (map (λ (p : ℕ × Piece). upload_of host p.0 p.1) (enumerate_from a ps))
whole_from host a [] named few uploads each = tt
whole_from host a (p ∷ ps) named few uploads each = (
  record { host = named; seq = omega (arith, few); columns = uploads.0; each = each.0 },
  whole_from host (a + 1) ps named (omega (arith, few)) uploads.1 each.1,
)

each_packed : (items : List Packed) (cs : List Column) → Matched IsPacked items cs → AllByRecursion IsColumn cs
each_packed [] [] all = tt
each_packed [] (c ∷ cs) all = absurd all
each_packed (p ∷ ps) [] all = absurd all
each_packed (p ∷ ps) (c ∷ cs) all = (all.0.column, each_packed ps cs all.1)

pub whole : (host : ℕ) (items : List Packed) (cs : List Column) → host < 2 ^ 16 → length cs < 2 ^ 32 → Matched IsPacked items cs
    → AllByRecursion IsFull (numbered host (cut cs))
whole host items cs named few all =
    let is = cut_law cs in
    let count : length (cut cs) ≤ length cs = omega (arith, few_pieces (cut cs) is.uploads, ap length is.whole) in
    whole_from host 0 (cut cs) named (omega (arith, count, few)) is.uploads
    (each_piece (cut cs) (subst (AllByRecursion IsColumn) (sym is.whole) (each_packed items cs all)))

-- The columns that items pack are those that they are read as.
packs_are : (p : Packed) (c : Column) → IsPacked p c → column_in p ≡ c
packs_are p c is = ap column_or_none (packed_read p c is)

pub columns_are : (items : List Packed) (cs : List Column) → Matched IsPacked items cs → map column_in items ≡ cs
columns_are [] [] all = refl
columns_are [] (c ∷ cs) all = absurd all
columns_are (p ∷ ps) [] all = absurd all
columns_are (p ∷ ps) (c ∷ cs) all =
    ap (λ (x : Column). x ∷ map column_in ps) (packs_are p c all.0) ∙ ap (λ (xs : List Column). c ∷ xs) (columns_are ps cs all.1)

-- ---- the upload at a position

pub start_first : (from : ℕ) (ends : List ℕ) → start_of from ends 0 ≡ from
start_first from [] = refl
start_first from (e ∷ es) = refl

pub start_next : (from : ℕ) (ends : List ℕ) (k : ℕ) → suc k < length ends → start_of from ends (suc k) ≡ slice_index_or ends k 0
start_next from [] k low = absurd (omega (arith, low))
start_next from (e ∷ es) zero low = start_first e es
start_next from (e ∷ es) (suc k) low = start_next e es k (omega (arith, low))

pub start_before : (from : ℕ) (ends : List ℕ) (k : ℕ) → (k ≡ 0 → ⊥) → k < length ends → start_of from ends k ≡ slice_index_or ends (k - 1) 0
start_before from ends zero some low = absurd (some refl)
start_before from ends (suc k) some low = start_next from ends k low ∙ ap (λ (n : ℕ). slice_index_or ends n 0) (let e : k ≡ suc k - 1 = omega arith in e)

piece_at : (from : ℕ) (ends : List ℕ) (cs : List Column) (k : ℕ) → k < length ends
    → slice_index_or (pieces from ends cs) k [] ≡ take (slice_index_or ends k 0 - start_of from ends k) (drop (start_of from ends k) cs)
piece_at from [] cs k low = absurd (omega (arith, low))
piece_at from (e ∷ es) cs zero low = refl
piece_at from (e ∷ es) cs (suc k) low = piece_at e es cs k (omega (arith, low))

pub range_at : (from : ℕ) (ends : List ℕ) (len k : ℕ) → AreEnds from ends len → k < length ends
    → (start_of from ends k ≤ slice_index_or ends k 0) × (slice_index_or ends k 0 ≤ start_of from ends k + MOST_UPLOAD_COLUMNS)
    × (slice_index_or ends k 0 ≤ len)
range_at from [] len k is low = absurd (omega (arith, low))
range_at from (e ∷ es) len zero is low = (is.0, is.1, is.2)
range_at from (e ∷ es) len (suc k) is low = range_at e es len k is.3 (omega (arith, low))

upload_from : (host a : ℕ) (ps : List Piece) (k : ℕ) (u : UploadData)
    → slice_get (map (λ (p : ℕ × Piece). upload_of host p.0 p.1) (enumerate_from a ps)) k ≡ Some u
    → u ≡ upload_of host (a + k) (slice_index_or ps k [])
upload_from host a [] k u here = absurd (let h : (let o : Option UploadData = None in o) ≡ Some u = here in cc)
upload_from host a (p ∷ ps) zero u here =
    (let h : Some (upload_of host a p) ≡ Some u = here in let e : upload_of host a p ≡ u = cc in sym e) ∙ ap (λ (n : ℕ). upload_of host n p) (omega arith)
upload_from host a (p ∷ ps) (suc k) u here =
    upload_from host (a + 1) ps k u here ∙ ap (λ (n : ℕ). upload_of host n (slice_index_or ps k [])) (let e : a + 1 + k ≡ a + suc k = omega arith in e)

-- The upload at a position has it as its number, and the columns from its start to its end.
pub upload_is : (host : ℕ) (ends : List ℕ) (cs : List Column) (k : ℕ) (u : UploadData) → k < length ends
    → slice_get (numbered host (pieces 0 ends cs)) k ≡ Some u
    → u ≡ upload_of host k (take (slice_index_or ends k 0 - start_of 0 ends k) (drop (start_of 0 ends k) cs))
upload_is host ends cs k u low here =
    upload_from host 0 (pieces 0 ends cs) k u here ∙ ap (λ (n : ℕ). upload_of host n (slice_index_or (pieces 0 ends cs) k []))
    (let e : 0 + k ≡ k = omega arith in e)
    ∙ ap (upload_of host k) (piece_at 0 ends cs k low)

small_from : (host a : ℕ) (ps : List Piece) (k : ℕ) → AllByRecursion IsFull (map (λ (p : ℕ × Piece). upload_of host p.0 p.1) (enumerate_from a ps))
    → k < length ps → a + k < 2 ^ 32
small_from host a [] k all low = absurd (omega (arith, low))
small_from host a (p ∷ ps) zero all low = omega (arith, all.0.seq)
small_from host a (p ∷ ps) (suc k) all low = omega (arith, small_from host (a + 1) ps k all.1 (omega (arith, low)))

-- The uploads of a host have their positions as their numbers, and there are at most as many as columns.
pub own : (host : ℕ) (cs : List Column) → length cs < 2 ^ 32 → AreOwn host (numbered host (cut cs)) × (length (numbered host (cut cs)) ≤ length cs)
own host cs few =
    let is = cut_law cs in
    let count : length (numbered host (cut cs)) ≤ length cs = omega (arith, few_pieces (cut cs) is.uploads, ap length is.whole, numbered_len host (cut cs)) in (
      record {
        few = omega (arith, count, few);
        each = λ q u here.
            let same = upload_from host 0 (cut cs) q u here in
            (ap (λ (x : UploadData). x.host) same, ap (λ (x : UploadData). x.seq) same ∙ (let e : 0 + q ≡ q = omega arith in e));
      },
      count,
    )

pub small : (host : ℕ) (ps : List Piece) (k : ℕ) → AllByRecursion IsFull (numbered host ps) → k < length ps → k < 2 ^ 32
small host ps k all low = omega (arith, small_from host 0 ps k all low)

matched_take : (n : ℕ) (ps : List Packed) (cs : List Column) → Matched IsPacked ps cs → Matched IsPacked (take n ps) (take n cs)
matched_take zero ps cs all = tt
matched_take (suc n) [] [] all = tt
matched_take (suc n) [] (c ∷ cs) all = absurd all
matched_take (suc n) (p ∷ ps) [] all = absurd all
matched_take (suc n) (p ∷ ps) (c ∷ cs) all = (all.0, matched_take n ps cs all.1)

matched_drop : (n : ℕ) (ps : List Packed) (cs : List Column) → Matched IsPacked ps cs → Matched IsPacked (drop n ps) (drop n cs)
matched_drop zero ps cs all = all
matched_drop (suc n) [] [] all = tt
matched_drop (suc n) [] (c ∷ cs) all = absurd all
matched_drop (suc n) (p ∷ ps) [] all = absurd all
matched_drop (suc n) (p ∷ ps) (c ∷ cs) all = matched_drop n ps cs all.1

-- Items between two places pack the columns between these.
pub between : (pool : List Packed) (places : List ℕ) (from count : ℕ) → PackColumns pool places
    → Matched IsPacked (items_at pool (take count (drop from places))) (take count (drop from (columns_at pool places)))
between pool places from count columns =
    let same : items_at pool (take count (drop from places)) ≡ take count (drop from (items_at pool places)) =
    sym (take-map (item_at pool) count (drop from places)) ∙ ap (take count) (sym (drop-map (item_at pool) from places)) in
    subst (λ (ps : List Packed). Matched IsPacked ps (take count (drop from (columns_at pool places)))) (sym same)
    (matched_take count (drop from (items_at pool places)) (drop from (columns_at pool places))
    (matched_drop from (items_at pool places) (columns_at pool places) columns.packed))

pub uploads_len : (host : ℕ) (pool : List Packed) (places ends : List ℕ) → length (uploads_at host pool places ends) ≡ length ends
uploads_len host pool places ends = numbered_len host (pieces 0 ends (columns_at pool places)) ∙ pieces_len 0 ends (columns_at pool places)

-- ---- places that pack columns

pub all_short : (i : ℕ) (pool : List Packed) → length pool ≤ i → All (λ (p : Packed). p.len ≤ MOST_SKETCHLET_BYTES) (take i pool)
    → All (λ (p : Packed). p.len ≤ MOST_SKETCHLET_BYTES) pool
all_short i pool all short = subst (All (λ (p : Packed). p.len ≤ MOST_SKETCHLET_BYTES)) (take_all i pool all) short

abbrev pub PackHere : List Packed → ℕ → Type 0
PackHere pool k = (k < length pool) × IsPacked (item_at pool k) (column_in (item_at pool k))

abbrev pub PackFirst : List Packed → List ℕ → Type 0
PackFirst pool places = All (λ (k : ℕ). k < length pool) places × Matched IsPacked (items_at pool places) (columns_at pool places)

pub pack_more : (pool : List Packed) (places : List ℕ) (i d : ℕ) → i < length places → PackFirst pool (take i places)
    → PackHere pool (slice_index_or places i d) → PackFirst pool (take (i + 1) places)
pack_more pool places i d low first here =
    let k : ℕ = slice_index_or places i d in
    let items : items_at pool (take i places ++ k ∷ []) ≡ items_at pool (take i places) ++ item_at pool k ∷ [] =
    map-append (item_at pool) (take i places) (k ∷ []) in
    let columns : columns_at pool (take i places ++ k ∷ []) ≡ columns_at pool (take i places) ++ column_in (item_at pool k) ∷ [] =
    ap (map column_in) items ∙ map-append column_in (items_at pool (take i places)) (item_at pool k ∷ []) in
    subst (PackFirst pool) (sym (take_more places i d low)) (
      All-push (λ (n : ℕ). n < length pool) (take i places) k first.0 here.0,
      subst (λ (ps : List Packed). Matched IsPacked ps (columns_at pool (take i places ++ k ∷ []))) (sym items)
          (subst (λ (cs : List Column). Matched IsPacked (items_at pool (take i places) ++ item_at pool k ∷ []) cs) (sym columns)
          (matched_push IsPacked (items_at pool (take i places)) (columns_at pool (take i places)) (item_at pool k)
          (column_in (item_at pool k)) first.1 here.1)),
    )

pub packs_there : (pool : List Packed) (places : List ℕ) (i d : ℕ) → i < length places → PackColumns pool places → PackHere pool (slice_index_or places i d)
packs_there pool places i d low is =
    let inside : i < length (items_at pool places) = omega (arith, low, length-map places (item_at pool)) in
    let item : slice_index_or (items_at pool places) i no_item ≡ item_at pool (slice_index_or places i d) = get_or-map (item_at pool) places i d no_item low in
    let column : slice_index_or (columns_at pool places) i (column_in no_item) ≡ column_in (item_at pool (slice_index_or places i d)) =
    get_or-map column_in (items_at pool places) i no_item (column_in no_item) inside ∙ ap column_in item in
    let k : ℕ = slice_index_or places i d in
    let there = matched_at IsPacked (items_at pool places) (columns_at pool places) i no_item (column_in no_item) is.packed inside in (
      is.inside i d low,
      subst (λ (p : Packed). IsPacked p (column_in (item_at pool k))) item
          (subst (IsPacked (slice_index_or (items_at pool places) i no_item)) column there),
    )
