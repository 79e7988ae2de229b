-- Lists of packed columns.
use Rattle.std.specs.Prelude.{◌≡◌, ℕ, zero, suc, ◌+◌, ◌<◌, List, [], ◌∷◌, ◌++◌, Bool, true, false}
use Rattle.std.specs.Prelude.{cond, length, take, slice_index_or, Option, None, Some, Result, Ok, Err, IfOk, IfErr}
use Rattle.std.specs.Global.{Vec}
use Rattle.std.proofs.Common.{refl, sym, ap, ◌∙◌, subst, arith, append_assoc}
use Rattle.std.proofs.lemmas.List.{take_more, append-nil}
use Rattle.lg_model.specs.Columns.{Column}
use Rattle.lg_model.specs.Matching.{Matched}
use Rattle.lg_model.proofs.Pairing.{matched_push, matched_at}
use Rattle.sketchlet_wire.specs.declared.fault.WireFault.{WireFault}
use Rattle.sketchlet_wire.specs.declared.packed.Packed.{Packed}
use Rattle.sketchlet_wire.specs.Reading.{column_reading}
use Rattle.sketchlet_wire.specs.Packing.{IsPacked, packed_bytes}
use Rattle.sketchlet_wire.specs.Uploads.{UploadData, upload_of, no_column}
use Rattle.sketchlet_wire.proofs.Columns.{is_whole}
use Rattle.host_collect.specs.declared.fault.CollectFault.{CollectFault}
use Rattle.host_collect.specs.declared.fault.CollectFault.TheVariants.{Bad, Longer, Memory}
use Rattle.host_collect.specs.Cutting.{can_join, cut, numbered}
use Rattle.host_collect.specs.Collecting.{CutterData, with_item, held_upload, list_of, HasCut, IsRefused, IsFirstRefused, AreRefused, Collected, no_item}
use Rattle.host_collect.proofs.Cutters.{law}

-- ---- what packs a column

abbrev read : Column × ℕ → Result (Column × ℕ) WireFault
read x = Ok x

read_same : (x y : Column × ℕ) → read x ≡ read y → x ≡ y
read_same x y e = cc

pub packed_read : (p : Packed) (c : Column) → IsPacked p c → column_reading (packed_bytes p) ≡ Ok (c, length (packed_bytes p))
packed_read p c is = is_whole (packed_bytes p) c is.column is.bytes

pub packed_same : (p : Packed) (c d : Column) → IsPacked p c → IsPacked p d → c ≡ d
packed_same p c d a b =
    ap (λ (x : Column × ℕ). x.0) (read_same (c, length (packed_bytes p)) (d, length (packed_bytes p)) (sym (packed_read p c a) ∙ packed_read p d b))

no_fault : (x : Column × ℕ) (f : WireFault) → read x ≡ Err f → ⊥
no_fault x f e = absurd cc

-- It is not refused.
pub packed_passes : (p : Packed) (c : Column) (n : ℕ) (f : CollectFault) → IsPacked p c → IsRefused n p f → f ≡ Memory
packed_passes p c n (Bad k f) is h = absurd (no_fault (c, length (packed_bytes p)) f (sym (packed_read p c is) ∙ h.1))
packed_passes p c n (Longer k) is h =
    let same = read_same (c, length (packed_bytes p)) (h.1, h.2) (sym (packed_read p c is) ∙ h.3) in
    absurd (omega (arith, ap (λ (x : Column × ℕ). x.1) same, h.4))
packed_passes p c n Memory is h = refl

pub matched_same : (items : List Packed) (cs ds : List Column) → Matched IsPacked items cs → Matched IsPacked items ds → cs ≡ ds
matched_same [] [] [] a b = refl
matched_same [] [] (d ∷ ds) a b = absurd b
matched_same [] (c ∷ cs) ds a b = absurd a
matched_same (p ∷ items) [] ds a b = absurd a
matched_same (p ∷ items) (c ∷ cs) [] a b = absurd b
matched_same (p ∷ items) (c ∷ cs) (d ∷ ds) a b =
    ap (λ (x : Column). x ∷ cs) (packed_same p c d a.0 b.0) ∙ ap (λ (x : List Column). d ∷ x) (matched_same items cs ds a.1 b.1)

-- The columns of the first items are the first columns.
pub front_is : (items : List Packed) (n : ℕ) (cs ds : List Column) → Matched IsPacked items cs → Matched IsPacked (take n items) ds
    → (more : List Column) × (cs ≡ ds ++ more)
front_is items n cs [] all front = (cs, refl)
front_is items zero cs (d ∷ ds) all front = absurd front
front_is [] (suc n) cs (d ∷ ds) all front = absurd front
front_is (p ∷ items) (suc n) [] (d ∷ ds) all front = absurd all
front_is (p ∷ items) (suc n) (c ∷ cs) (d ∷ ds) all front =
    let rest = front_is items n cs ds all.1 front.1 in
    (rest.0, ap (λ (x : Column). x ∷ cs) (packed_same p c d all.0 front.0) ∙ ap (λ (x : List Column). d ∷ x) rest.1)

-- ---- what the uploads of spellings are

first_passes : (items : List Packed) (cs : List Column) (n : ℕ) (f : CollectFault) → Matched IsPacked items cs → IsFirstRefused items n f → f ≡ Memory
first_passes items cs n f all first =
    packed_passes (slice_index_or items n no_item) (slice_index_or cs n no_column) n f
    (matched_at IsPacked items cs n no_item no_column all first.inside) first.refused

pub only : (host : ℕ) (items : List Packed) (cs : List Column) (r : Result (Vec UploadData) CollectFault) → Collected host items r → Matched IsPacked items cs
    → IfOk r (λ us. us.items ≡ numbered host (cut cs))
only host items cs (Ok us) h all = h.2 ∙ ap (λ (x : List Column). numbered host (cut x)) (matched_same items h.0 cs h.1 all)
only host items cs (Err f) h all = tt

pub memory : (host : ℕ) (items : List Packed) (cs : List Column) (r : Result (Vec UploadData) CollectFault) → Collected host items r → Matched IsPacked items cs
    → IfErr r (λ f. f ≡ Memory)
memory host items cs (Ok us) h all = tt
memory host items cs (Err (Bad n f)) h all = first_passes items cs n (Bad n f) all h
memory host items cs (Err (Longer n)) h all = first_passes items cs n (Longer n) all h
memory host items cs (Err Memory) h all = refl

-- ---- what a loop over items keeps

one_more : (items : List Packed) (i : ℕ) (cs : List Column) (c : Column) → i < length items → Matched IsPacked (take i items) cs
    → IsPacked (slice_index_or items i no_item) c
    → Matched IsPacked (take (i + 1) items) (cs ++ c ∷ [])
one_more items i cs c low all one =
    subst (λ (x : List Packed). Matched IsPacked x (cs ++ c ∷ [])) (sym (take_more items i no_item low))
    (matched_push IsPacked (take i items) cs (slice_index_or items i no_item) c all one)

pub same_host : (r : CutterData) (c : Column) → (with_item r c).1.host ≡ r.host
same_host r c = by (can_join r.held c)
  where
    by : (b : Bool) → (let x : Option UploadData
        × CutterData = cond b (None, record r { taken = r.taken + 1; held = r.held ++ c ∷ [] })
        (Some (upload_of r.host r.given r.held), record r { taken = r.taken + 1; given = r.given + 1; held = c ∷ [] }) in x).1.host ≡ r.host
    by true = refl
    by false = refl

-- What a cutter gave stays, whatever it takes next.
pub goes_on : (cs : List Column) (given : List UploadData) (r : CutterData) (more : List Column) → HasCut cs given r
    → (rest : List UploadData) × (numbered r.host (cut (cs ++ more)) ≡ given ++ rest)
goes_on cs given r [] has =
    (list_of (held_upload r), ap (λ (x : List Column). numbered r.host (cut x)) (append-nil cs) ∙ sym has.cut)
goes_on cs given r (c ∷ more) has =
    let x = with_item r c in
    let on = goes_on (cs ++ c ∷ []) (given ++ list_of x.0) x.1 more (law.more cs given r x.1 c x.0 has refl) in (
      list_of x.0 ++ on.0,
      ap (λ (l : List Column). numbered r.host (cut l)) (sym (append_assoc cs (c ∷ []) more))
          ∙ ap (λ (h : ℕ). numbered h (cut ((cs ++ c ∷ []) ++ more))) (sym (same_host r c)) ∙ on.1 ∙ append_assoc given (list_of x.0) on.0,
    )

abbrev pub Keeps : ℕ → List Packed → List UploadData → CutterData → Type 0
Keeps host items given r = (cs : List Column) × Matched IsPacked items cs × HasCut cs given r × (r.host ≡ host)

pub kept_more : (host : ℕ) (items : List Packed) (i : ℕ) (given : List UploadData) (r new : CutterData) (o : Option UploadData) → i < length items
    → Keeps host (take i items) given r
    → (x : Column) × IsPacked (slice_index_or items i no_item) x × (with_item r x ≡ (o, new)) → Keeps host (take (i + 1) items) (given ++ list_of o) new
kept_more host items i given r new o low keeps step = (
  keeps.0 ++ step.0 ∷ [],
  one_more items i keeps.0 step.0 low keeps.1 step.1,
  law.more keeps.0 given r new step.0 o keeps.2 step.2,
  ap (λ (x : Option UploadData × CutterData). x.1.host) (sym step.2) ∙ same_host r step.0 ∙ keeps.3,
)

pub refused : (items : List Packed) (i n : ℕ) (cs : List Column) (f : CollectFault) → i < length items → Matched IsPacked (take i items) cs → n ≡ i
    → IsRefused n (slice_index_or items i no_item) f → AreRefused items f
refused items i n cs (Bad k f) low all n-is h =
    let k-is : i ≡ k = sym (h.0 ∙ n-is) in
    subst (λ (m : ℕ). IsFirstRefused items m (Bad k f)) k-is (record { inside = low; before = (cs, all); refused = (sym k-is, h.1) })
refused items i n cs (Longer k) low all n-is h =
    let k-is : i ≡ k = sym (h.0 ∙ n-is) in
    subst (λ (m : ℕ). IsFirstRefused items m (Longer k)) k-is (record { inside = low; before = (cs, all); refused = (sym k-is, h.1, h.2, h.3, h.4) })
refused items i n cs Memory low all n-is h = tt
