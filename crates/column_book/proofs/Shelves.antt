-- What is kept in blocks after one was made, and after a column was put.
use Rattle.std.specs.Prelude.{◌≡◌, ℕ, ◌%◌, ◌==◌, ◌&&◌, Bool, true, false, cond, List, Option, None, Some, Box, IsSome, if◌then◌else◌}
use Rattle.std.specs.Global.{Global}
use Rattle.std.specs.Option.{option_map, option_and_then}
use Rattle.std.specs.BTreeMap.{is_at}
use Rattle.std.specs.Map.{lookup}
use Rattle.std.proofs.Common.{refl, sym, ap, ◌∙◌, subst}
use Rattle.std.proofs.lemmas.Nat.Bits.{bit_at-zero}
use Rattle.lg_model.specs.declared.column.Bucket.{Bucket}
use Rattle.lg_model.specs.declared.column.Key.{Key}
use Rattle.sketchlet_wire.specs.Uploads.{same_column_key}
use Rattle.column_book.specs.declared.block.Block.{Block}
use Rattle.column_book.specs.declared.block.Spot.{Spot}
use Rattle.column_book.specs.Blocks.{spot, spot_cmp, kept_in, block_at, kept_at, Made, IsMade}
use Rattle.column_book.proofs.Keys.{one_spot, spot_itself, one_key, same_place}

abbrev pub Boxed : Type 0
Boxed = Box Block Global

abbrev pub at_spot : Made → Spot → Option Boxed
at_spot es s = lookup (is_at (spot_cmp s)) es

-- what an insertion, or a write through a borrow, leaves
pub record IsUpdated (old new : Made) (s : Spot) (w : Boxed) : Type 0 where
  pub at : (q : Spot) → at_spot new q ≡ cond (is_at (spot_cmp s) q) (Some w) (at_spot old q)

abbrev pub in_box : ℕ → Boxed → Option (List Bucket)
in_box j b = kept_in b.value j

-- blocks that were made stay
pub made_stays : (old new : Made) (s : Spot) (w : Boxed) → IsUpdated old new s w → (q : Spot) → IsMade old q → IsMade new q
made_stays old new s w up q had = rw (up.at q) ((elim (is_at (spot_cmp s) q) as (λ b. IsSome (cond b (Some w) (at_spot old q))) [
  | true ↦ refl
  | false ↦ had
]))

-- a block that is made where none was brings no column
pub kept_make : (old new : Made) (s : Spot) (w : Boxed) → IsUpdated old new s w → at_spot old s ≡ None → ((j : ℕ) → kept_in w.value j ≡ None) → (q : Key) → kept_at new q ≡ kept_at old q
kept_make old new s w up none empty q =
    rw (up.at (spot q)) ((elim (is_at (spot_cmp s) (spot q)) as (λ b. is_at (spot_cmp s) (spot q) ≡ b →
    option_and_then (in_box (q.index % 16)) (cond b (Some w) (at_spot old (spot q))) ≡ option_and_then (in_box (q.index % 16)) (at_spot old (spot q))) [
      | true ↦ λ h. empty (q.index % 16) ∙ sym (ap (option_and_then (in_box (q.index % 16))) (subst (λ (t : Spot). at_spot old t ≡ None) (one_spot s (spot q) h) none))
      | false ↦ λ h. refl
    ]) refl)

and_false : (r : Bool) → (r && false) ≡ false
and_false true = refl
and_false false = refl

-- a column that is put under a key, if it is, is there, and the others stay
pub kept_put : (old new : Made) (k : Key) (b w : Boxed) (bs : List Bucket) (r : Bool) → IsUpdated old new (spot k) w → at_spot old (spot k) ≡ Some b →
    ((j : ℕ) → kept_in w.value j ≡ (if r && k.index % 16 == j then Some bs else kept_in b.value j)) →
    (q : Key) → kept_at new q ≡ (if r && same_column_key k q then Some bs else kept_at old q)
kept_put old new k b w bs r up had puts q =
    rw (up.at (spot q)) ((elim (is_at (spot_cmp (spot k)) (spot q)) as (λ t. is_at (spot_cmp (spot k)) (spot q) ≡ t →
    option_and_then (in_box (q.index % 16)) (cond t (Some w) (at_spot old (spot q))) ≡ (if r && same_column_key k q then Some bs else option_and_then (in_box (q.index % 16)) (at_spot old (spot q)))) [
      | true ↦ λ h. let one = one_spot (spot k) (spot q) h in
          let there : at_spot old (spot q) ≡ Some b = subst (λ (t : Spot). at_spot old t ≡ Some b) one had in
          rw (puts (q.index % 16), same_place k q one, there) refl
      | false ↦ λ h. let other : same_column_key k q ≡ false = (elim (same_column_key k q) as (λ t. same_column_key k q ≡ t → t ≡ false) [
        | true ↦ λ same. sym (spot_itself (spot q)) ∙ subst (λ (x : Key). is_at (spot_cmp (spot x)) (spot q) ≡ false) (one_key k q same) h
        | false ↦ λ same. refl
      ]) refl in rw (other, and_false r) refl
    ]) refl)

-- what is kept under a key is what its block has at its place
pub kept_in_block : (es : Made) (k : Key) → option_and_then (λ (b : Block). kept_in b (k.index % 16)) (block_at es (spot k)) ≡ kept_at es k
kept_in_block es k = elim (at_spot es (spot k)) as (λ (o : Option Boxed). option_and_then (λ (b : Block). kept_in b (k.index % 16)) (option_map (λ (b : Boxed). b.value) o) ≡ option_and_then (in_box (k.index % 16)) o) [
  | None ↦ refl
  | Some b ↦ refl
]

-- a block is made where it is made if nothing is kept
pub made_here : (es : Made) (k : Key) → (kept_at es k ≡ None → IsMade es (spot k)) → IsMade es (spot k)
made_here es k h = (elim (at_spot es (spot k)) as (λ (o : Option Boxed). (option_and_then (in_box (k.index % 16)) o ≡ None → IsSome o) → IsSome o) [
  | None ↦ λ f. f refl
  | Some b ↦ λ f. refl
]) h

-- a block whose mask is 0 holds no column
pub empty_mask : (b : Block) (j : ℕ) → b.mask ≡ 0 → kept_in b j ≡ None
empty_mask b j h = rw (h, bit_at-zero j) refl

-- a block that holds no column is dropped, and no column goes
pub kept_remove : (old new : Made) (s : Spot) (b : Boxed) → ((q : Spot) → at_spot new q ≡ cond (is_at (spot_cmp s) q) None (at_spot old q)) → at_spot old s ≡ Some b → b.value.mask ≡ 0 → (q : Key) → kept_at new q ≡ kept_at old q
kept_remove old new s b up had empty q =
    rw (up (spot q)) ((elim (is_at (spot_cmp s) (spot q)) as (λ t. is_at (spot_cmp s) (spot q) ≡ t →
    option_and_then (in_box (q.index % 16)) (cond t None (at_spot old (spot q))) ≡ option_and_then (in_box (q.index % 16)) (at_spot old (spot q))) [
      | true ↦ λ h. sym (ap (option_and_then (in_box (q.index % 16))) (subst (λ (t : Spot). at_spot old t ≡ Some b) (one_spot s (spot q) h) had) ∙ empty_mask b.value (q.index % 16) empty)
      | false ↦ λ h. refl
    ]) refl)
