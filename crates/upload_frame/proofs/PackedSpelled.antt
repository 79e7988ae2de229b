-- The bytes of the items at some places.
use Rattle.std.specs.Prelude.{◌≡◌, ℕ, suc, ◌+◌, ◌<◌, List, [], ◌∷◌, ◌++◌, length, take, slice_index_or}
use Rattle.std.specs.List.{flat_map}
use Rattle.std.specs.Int.{w16, w32, to_be_bytes}
use Rattle.std.proofs.Common.{refl, sym, ap, ◌∙◌, arith, length-append, append_assoc}
use Rattle.std.proofs.lemmas.List.{take_more, append-nil}
use Rattle.lg_model.specs.Columns.{Column}
use Rattle.lg_model.specs.Matching.{Matched}
use Rattle.sketchlet_wire.specs.declared.packed.Packed.{Packed}
use Rattle.sketchlet_wire.specs.Packing.{IsPacked}
use Rattle.sketchlet_wire.specs.Spelling.{spelling}
use Rattle.sketchlet_wire.specs.Uploads.{upload_of}
use Rattle.upload_frame.specs.Front.{framed}
use Rattle.upload_frame.specs.Frames.{frame_of}
use Rattle.upload_frame.specs.Pooled.{items_at, bytes_at}

texts_append : {X : Type 0} (f : X → List ℕ) (xs : List X) (x : X) → flat_map f (xs ++ x ∷ []) ≡ flat_map f xs ++ f x
texts_append f [] x = append-nil (f x)
texts_append f (y ∷ ys) x = ap (λ (t : List ℕ). f y ++ t) (texts_append f ys x) ∙ sym (append_assoc (f y) (flat_map f ys) (f x))

-- One place more.
pub bytes_more : (pool : List Packed) (places : List ℕ) (i d : ℕ) → i < length places
    → flat_map (bytes_at pool) (take (i + 1) places) ≡ flat_map (bytes_at pool) (take i places) ++ bytes_at pool (slice_index_or places i d)
bytes_more pool places i d low =
    ap (flat_map (bytes_at pool)) (take_more places i d low) ∙ texts_append (bytes_at pool) (take i places) (slice_index_or places i d)

-- The items at these places pack columns: their bytes are the columns' spellings.
pub bytes_are : (pool : List Packed) (places : List ℕ) (cs : List Column) → Matched IsPacked (items_at pool places) cs
    → (length places ≡ length cs) × (flat_map (bytes_at pool) places ≡ flat_map spelling cs)
bytes_are pool [] [] all = (refl, refl)
bytes_are pool [] (c ∷ cs) all = absurd all
bytes_are pool (k ∷ ks) [] all = absurd all
bytes_are pool (k ∷ ks) (c ∷ cs) all =
    let rest = bytes_are pool ks cs all.1 in (
      ap (λ (n : ℕ). suc n) rest.0,
      ap (λ (t : List ℕ). t ++ flat_map (bytes_at pool) ks) all.0.bytes ∙ ap (λ (t : List ℕ). spelling c ++ t) rest.1,
    )

-- The head of a frame and these bytes are the frame of the columns.
pub frame_is : (host seq : ℕ) (cs : List Column) (count len : ℕ) (text : List ℕ) → count ≡ length cs → text ≡ flat_map spelling cs → len ≡ length text + 8
    → (to_be_bytes w16 len ++ 2 ∷ (to_be_bytes w16 host ++ (to_be_bytes w32 seq ++ count ∷ []))) ++ text ≡ frame_of (upload_of host seq cs)
unfolding framed
frame_is host seq cs count len text count_is text_is len_is =
    let fields : List ℕ = to_be_bytes w16 host ++ (to_be_bytes w32 seq ++ count ∷ text) in
    let size : len ≡ length fields + 1 =
    omega (arith, len_is, length-append (to_be_bytes w16 host) (to_be_bytes w32 seq ++ count ∷ text), length-append (to_be_bytes w32 seq) (count ∷ text)) in
    let inner : (to_be_bytes w16 host ++ (to_be_bytes w32 seq ++ count ∷ [])) ++ text ≡ fields =
    append_assoc (to_be_bytes w16 host) (to_be_bytes w32 seq ++ count ∷ []) text
    ∙ ap (λ (t : List ℕ). to_be_bytes w16 host ++ t) (append_assoc (to_be_bytes w32 seq) (count ∷ []) text) in
    append_assoc (to_be_bytes w16 len) (2 ∷ (to_be_bytes w16 host ++ (to_be_bytes w32 seq ++ count ∷ []))) text
    ∙ ap (λ (t : List ℕ). to_be_bytes w16 len ++ 2 ∷ t) inner
    ∙ ap (λ (n : ℕ). to_be_bytes w16 n ++ 2 ∷ fields) size
    ∙ ap (λ (n : ℕ). framed 2 (to_be_bytes w16 host ++ (to_be_bytes w32 seq ++ n ∷ text))) count_is
    ∙ ap (λ (t : List ℕ). framed 2 (to_be_bytes w16 host ++ (to_be_bytes w32 seq ++ length cs ∷ t))) text_is
