-- Where uploads end, as items are taken one after the other.
use Rattle.std.specs.Prelude.{◌≡◌, ℕ, suc, ◌+◌, ◌-◌, ◌<◌, ◌≤◌, List, [], ◌∷◌, ◌++◌, true, false, length, map, take, drop, slice_index_or, Some, None}
use Rattle.std.proofs.Common.{refl, sym, ap, ◌∙◌, subst, arith, length-append}
use Rattle.std.proofs.lemmas.List.{take_more, take_all, append-nil, map-append, length-map, length-take, length-drop, get_or-drop, get_or-map}
use Rattle.lg_model.specs.declared.column.Key.{Key}
use Rattle.lg_model.specs.declared.limits.TheConstants.{MOST_UPLOAD_COLUMNS}
use Rattle.lg_model.specs.Columns.{Column}
use Rattle.lg_model.proofs.Pairing.{matched_at}
use Rattle.sketchlet_wire.specs.declared.packed.Packed.{Packed}
use Rattle.sketchlet_wire.specs.Packing.{IsPacked}
use Rattle.sketchlet_wire.specs.Uploads.{UploadData, upload_of, no_column}
use Rattle.upload_frame.specs.Pooled.{no_item, item_at, items_at}
use Rattle.host_collect.specs.Cutting.{Piece, can_join, cut, numbered}
use Rattle.host_collect.specs.Collecting.{CutterData, cutter_of, with_item, list_of, held_upload, HasCut}
use Rattle.host_collect.specs.PackedUploads.{column_in, columns_at, pieces, last_end, AreEnds, PackColumns}
use Rattle.host_collect.proofs.Cutters.{law, numbered_more}
use Rattle.host_collect.proofs.Cutting.{join_room}

-- ---- one end more

pieces_push : (from : ℕ) (ends : List ℕ) (e : ℕ) (cs : List Column)
    → pieces from (ends ++ e ∷ []) cs ≡ pieces from ends cs ++ take (e - last_end from ends) (drop (last_end from ends) cs) ∷ []
pieces_push from [] e cs = refl
pieces_push from (x ∷ xs) e cs = ap (λ (ps : List Piece). take (x - from) (drop from cs) ∷ ps) (pieces_push x xs e cs)

last_push : (from : ℕ) (ends : List ℕ) (e : ℕ) → last_end from (ends ++ e ∷ []) ≡ e
last_push from [] e = refl
last_push from (x ∷ xs) e = last_push x xs e

ends_push : (from : ℕ) (ends : List ℕ) (e len : ℕ) → AreEnds from ends len → last_end from ends ≤ e → e ≤ last_end from ends + MOST_UPLOAD_COLUMNS → e ≤ len
    → AreEnds from (ends ++ e ∷ []) len
ends_push from [] e len is low near inside = (low, near, inside, tt)
ends_push from (x ∷ xs) e len is low near inside = (is.0, is.1, is.2, ends_push x xs e len is.3 low near inside)

pub pieces_len : (from : ℕ) (ends : List ℕ) (cs : List Column) → length (pieces from ends cs) ≡ length ends
pieces_len from [] cs = refl
pieces_len from (x ∷ xs) cs = ap (λ (n : ℕ). suc n) (pieces_len x xs cs)

-- ---- the items taken

-- The columns that wait for the next end.
abbrev pub waiting : List Column → ℕ → List ℕ → List Column
waiting cs i ends = take (i - last_end 0 ends) (drop (last_end 0 ends) cs)

abbrev pub keys_of : List Column → List Key
keys_of cs = map (λ (c : Column). c.key) cs

-- The first i columns were taken: the pieces up to these ends and what waits are their cut.
pub record HasEnds (cs : List Column) (i : ℕ) (ends : List ℕ) (held : List Key) : Type 0 where
  pub inside : i ≤ length cs
  pub within : AreEnds 0 ends (length cs)
  pub last : last_end 0 ends ≤ i
  pub near : i ≤ last_end 0 ends + MOST_UPLOAD_COLUMNS
  pub keys : held ≡ keys_of (waiting cs i ends)
  pub is_cut : (host : ℕ) → HasCut (take i cs) (numbered host (pieces 0 ends cs)) (cutter_of host i (length ends) (waiting cs i ends))

pub nothing : (cs : List Column) → HasEnds cs 0 [] []
nothing cs = record { inside = omega arith; within = tt; last = omega arith; near = omega arith; keys = refl; is_cut = λ host. law.start host }

abbrev column_of : List Column → ℕ → Column
column_of cs i = slice_index_or cs i no_column

waits_more : (cs : List Column) (i last : ℕ) → i < length cs → last ≤ i
    → take (i + 1 - last) (drop last cs) ≡ take (i - last) (drop last cs) ++ column_of cs i ∷ []
waits_more cs i last low before =
    let inside : i - last < length (drop last cs) = omega (arith, low, before, length-drop last cs) in
    let here : slice_index_or (drop last cs) (i - last) no_column ≡ column_of cs i =
    get_or-drop last cs (i - last) no_column ∙ ap (λ (n : ℕ). slice_index_or cs n no_column) (omega (arith, before)) in
    ap (λ (n : ℕ). take n (drop last cs)) (omega (arith, before)) ∙ take_more (drop last cs) (i - last) no_column inside
    ∙ ap (λ (c : Column). take (i - last) (drop last cs) ++ c ∷ []) here

waits_len : (cs : List Column) (i last : ℕ) → i ≤ length cs → last ≤ i → length (take (i - last) (drop last cs)) ≡ i - last
waits_len cs i last low before = omega (arith, length-take (i - last) (drop last cs), length-drop last cs, low, before)

with_join : (r : CutterData) (c : Column) → can_join r.held c ≡ true → with_item r c ≡ (None, record r { taken = r.taken + 1; held = r.held ++ c ∷ [] })
with_join r c can = rw can refl

with_end : (r : CutterData) (c : Column) → can_join r.held c ≡ false
    → with_item r c ≡ (Some (upload_of r.host r.given r.held), record r { taken = r.taken + 1; given = r.given + 1; held = c ∷ [] })
with_end r c can = rw can refl

-- The next column joins those that wait.
pub joined : (cs : List Column) (i : ℕ) (ends : List ℕ) (held : List Key) → HasEnds cs i ends held → i < length cs
    → can_join (waiting cs i ends) (column_of cs i) ≡ true → HasEnds cs (i + 1) ends (held ++ (column_of cs i).key ∷ [])
joined cs i ends held has low can =
    let c = column_of cs i in
    let more = waits_more cs i (last_end 0 ends) low has.last in
    let room = join_room (waiting cs i ends) c can in
    record {
      inside = omega (arith, low);
      within = has.within;
      last = omega (arith, has.last);
      near = omega (arith, room, waits_len cs i (last_end 0 ends) has.inside has.last);
      keys = ap (λ (ks : List Key). ks ++ c.key ∷ []) has.keys ∙ sym (map-append (λ (x : Column). x.key) (waiting cs i ends) (c ∷ []))
          ∙ ap keys_of (sym more);
      is_cut = λ host.
          let r = cutter_of host i (length ends) (waiting cs i ends) in
          let given = numbered host (pieces 0 ends cs) in
          let next : HasCut (take i cs ++ c ∷ []) (given ++ []) (cutter_of host (i + 1) (length ends) (waiting cs i ends ++ c ∷ [])) =
          law.more (take i cs) given r _ c None (has.is_cut host) (with_join r c can) in
          rw (take_more cs i no_column low, more) (subst (λ (g : List UploadData). HasCut (take i cs ++ c ∷ []) g
          (cutter_of host (i + 1) (length ends) (waiting cs i ends ++ c ∷ []))) (append-nil given) next);
    }

-- It begins the next piece.
pub begun : (cs : List Column) (i : ℕ) (ends : List ℕ) (held : List Key) → HasEnds cs i ends held → i < length cs
    → can_join (waiting cs i ends) (column_of cs i) ≡ false → HasEnds cs (i + 1) (ends ++ i ∷ []) ((column_of cs i).key ∷ [])
begun cs i ends held has low can =
    let c = column_of cs i in
    let end = last_push 0 ends i in
    let one : waiting cs (i + 1) (ends ++ i ∷ []) ≡ c ∷ [] =
    ap (λ (n : ℕ). take (i + 1 - n) (drop n cs)) end ∙ waits_more cs i i low (omega arith)
    ∙ ap (λ (n : ℕ). take n (drop i cs) ++ c ∷ []) (let e : i - i ≡ 0 = omega arith in e) in
    record {
      inside = omega (arith, low);
      within = ends_push 0 ends i (length cs) has.within has.last has.near has.inside;
      last = omega (arith, end);
      near = omega (arith, end);
      keys = ap keys_of (sym one);
      is_cut = λ host.
          let r = cutter_of host i (length ends) (waiting cs i ends) in
          let given = numbered host (pieces 0 ends cs) in
          let u = upload_of host (length ends) (waiting cs i ends) in
          let next : HasCut (take i cs ++ c ∷ []) (given ++ u ∷ []) (cutter_of host (i + 1) (length ends + 1) (c ∷ [])) =
          law.more (take i cs) given r _ c (Some u) (has.is_cut host) (with_end r c can) in
          let gave : numbered host (pieces 0 (ends ++ i ∷ []) cs) ≡ given ++ u ∷ [] =
          ap (numbered host) (pieces_push 0 ends i cs) ∙ numbered_more host (pieces 0 ends cs) (waiting cs i ends)
          ∙ ap (λ (n : ℕ). given ++ upload_of host n (waiting cs i ends) ∷ []) (pieces_len 0 ends cs) in
          let count : length (ends ++ i ∷ []) ≡ length ends + 1 = omega (arith, length-append ends (i ∷ [])) in
          rw (take_more cs i no_column low, gave, count, one) next;
    }

-- All were taken, and the last piece ends here.
held_is : (host count : ℕ) (hs : List Column) → 0 < length hs → held_upload (cutter_of host 0 count hs) ≡ Some (upload_of host count hs)
held_is host count [] some = absurd (omega (arith, some))
held_is host count (h ∷ hs) some = refl

some_wait : (host taken given : ℕ) (cs : List Column) (us : List UploadData) (hs : List Column) → 0 < length cs
    → HasCut cs us (cutter_of host taken given hs) → 0 < length hs
some_wait host taken given cs us [] some has = absurd (omega (arith, some, ap length (has.holds refl)))
some_wait host taken given cs us (h ∷ hs) some has = omega arith

pub finished : (cs : List Column) (i : ℕ) (ends : List ℕ) (held : List Key) → HasEnds cs i ends held → i ≡ length cs → 0 < i
    → AreEnds 0 (ends ++ i ∷ []) (length cs) × ((host : ℕ) → numbered host (pieces 0 (ends ++ i ∷ []) cs) ≡ numbered host (cut cs))
finished cs i ends held has all some = (
  ends_push 0 ends i (length cs) has.within has.last has.near has.inside,
  λ host.
      let whole : take i cs ≡ cs = take_all i cs (omega (arith, all)) in
      let wait = some_wait host i (length ends) (take i cs) (numbered host (pieces 0 ends cs)) (waiting cs i ends)
      (omega (arith, ap length whole, all, some)) (has.is_cut host) in
      ap (numbered host) (pieces_push 0 ends i cs) ∙ numbered_more host (pieces 0 ends cs) (waiting cs i ends)
      ∙ ap (λ (n : ℕ). numbered host (pieces 0 ends cs) ++ upload_of host n (waiting cs i ends) ∷ []) (pieces_len 0 ends cs)
      ∙ ap (λ o. numbered host (pieces 0 ends cs) ++ list_of o) (sym (held_is host (length ends) (waiting cs i ends) wait))
      ∙ (has.is_cut host).cut ∙ ap (λ (xs : List Column). numbered host (cut xs)) whole,
)

-- Nothing came.
pub empty : (cs : List Column) (i : ℕ) (ends : List ℕ) (held : List Key) → HasEnds cs i ends held → i ≡ length cs → i ≡ 0
    → AreEnds 0 ends (length cs) × ((host : ℕ) → numbered host (pieces 0 ends cs) ≡ numbered host (cut cs))
empty cs i ends held has all none = (
  has.within,
  λ host.
      let whole : take i cs ≡ cs = take_all i cs (omega (arith, all)) in
      let wait : waiting cs i ends ≡ [] = ap (λ (n : ℕ). take (n - last_end 0 ends) (drop (last_end 0 ends) cs)) none
      ∙ ap (λ (n : ℕ). take n (drop (last_end 0 ends) cs)) (let e : 0 - last_end 0 ends ≡ 0 = omega arith in e) in
      sym (append-nil (numbered host (pieces 0 ends cs)))
      ∙ ap (λ (hs : List Column). numbered host (pieces 0 ends cs) ++ list_of (held_upload (cutter_of host i (length ends) hs))) (sym wait)
      ∙ (has.is_cut host).cut ∙ ap (λ (xs : List Column). numbered host (cut xs)) whole,
)

-- ---- the column of an item

pub columns_len : (pool : List Packed) (places : List ℕ) → length (columns_at pool places) ≡ length places
columns_len pool places = length-map (items_at pool places) column_in ∙ length-map places (item_at pool)

pub packs : (pool : List Packed) (places : List ℕ) (i : ℕ) → PackColumns pool places → i < length places
    → IsPacked (item_at pool (slice_index_or places i 0)) (slice_index_or (columns_at pool places) i no_column)
packs pool places i columns low =
    let inside : i < length (items_at pool places) = omega (arith, low, length-map places (item_at pool)) in
    subst (λ (p : Packed). IsPacked p (slice_index_or (columns_at pool places) i no_column)) (get_or-map (item_at pool) places i 0 no_item low)
    (matched_at IsPacked (items_at pool places) (columns_at pool places) i no_item no_column columns.packed inside)
