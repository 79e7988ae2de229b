-- Keys and spots that are told to be the same are one.
use Rattle.std.specs.Prelude.{◌≡◌, ℕ, ◌/◌, ◌%◌, ◌==◌, true}
use Rattle.std.specs.Bool.{Decides}
use Rattle.std.specs.Cmp.{nat_cmp_is, IsEquivalence}
use Rattle.std.specs.Ordering.{nat_cmp, ordering_then, is_eq}
use Rattle.std.specs.declared.cmp.Ordering.{Ordering}
use Rattle.std.specs.declared.cmp.Ordering.TheVariants.{Less, Equal, Greater}
use Rattle.std.specs.BTreeMap.{is_at}
use Rattle.std.proofs.Common.{refl, sym, ap, subst, arith}
use Rattle.std.proofs.lemmas.Bool.Decides.{Decides-and, Decides-eqb, same_from_decides}
use Rattle.std.proofs.lemmas.Map.Lookups.{exact_pairs, exact_unsigned}
use Rattle.lg_model.specs.declared.column.Key.{Key}
use Rattle.lg_model.specs.Answer.{key_cmp}
use Rattle.sketchlet_wire.specs.Uploads.{same_column_key}
use Rattle.column_book.specs.declared.block.Spot.{Spot}
use Rattle.column_book.specs.Blocks.{spot, spot_cmp}

-- three numbers, compared one after the other
three_cmp : ℕ × (ℕ × ℕ) → ℕ × (ℕ × ℕ) → Ordering
three_cmp a b = ordering_then (nat_cmp a.0 b.0) (ordering_then (nat_cmp a.1.0 b.1.0) (nat_cmp a.1.1 b.1.1))

abbrev Three : Type 0
Three = ℕ × (ℕ × ℕ)

one_three : (a b : Three) → ordering_then (nat_cmp a.0 b.0) (ordering_then (nat_cmp a.1.0 b.1.0) (nat_cmp a.1.1 b.1.1)) ≡ Equal → a ≡ b
one_three a b h = exact_pairs nat_cmp (λ (x y : ℕ × ℕ). ordering_then (nat_cmp x.0 y.0) (nat_cmp x.1 y.1)) exact_unsigned (exact_pairs nat_cmp nat_cmp exact_unsigned exact_unsigned) a b h

equal_to_itself : (n : ℕ) → nat_cmp n n ≡ Equal
equal_to_itself n = sym (nat_cmp_is n n Equal refl)

same_three : (a : Three) → ordering_then (nat_cmp a.0 a.0) (ordering_then (nat_cmp a.1.0 a.1.0) (nat_cmp a.1.1 a.1.1)) ≡ Equal
same_three a = λ j. ordering_then (equal_to_itself a.0 j) (ordering_then (equal_to_itself a.1.0 j) (equal_to_itself a.1.1 j))

is_equal : (o : Ordering) → is_eq o ≡ true → o ≡ Equal
is_equal Less h = absurd (cc)
is_equal Equal h = refl
is_equal Greater h = absurd (cc)

-- ---- spots

pub one_spot : (a b : Spot) → is_at (spot_cmp a) b ≡ true → a ≡ b
one_spot a b h =
    let same : (a.switch, (a.epoch, a.nth)) ≡ (b.switch, (b.epoch, b.nth)) = one_three (a.switch, (a.epoch, a.nth)) (b.switch, (b.epoch, b.nth)) (is_equal (spot_cmp a b) h) in
    ap {B = Spot} (λ (p : Three). record { switch = p.0; epoch = p.1.0; nth = p.1.1 }) same

pub spot_itself : (a : Spot) → is_at (spot_cmp a) a ≡ true
spot_itself a = ap is_eq (same_three (a.switch, (a.epoch, a.nth)))

-- ---- keys

pub same_column_key-Decides : (a b : Key) → Decides (same_column_key a b) (a ≡ b)
same_column_key-Decides a b =
    let all = Decides-and _ _ (Decides-eqb a.switch b.switch) (Decides-and _ _ (Decides-eqb a.epoch b.epoch) (Decides-eqb a.index b.index)) in (
      (λ h. let same = all.0 h in λ i. record { switch = same.0 i; epoch = same.1.0 i; index = same.1.1 i }),
      (λ e. all.1 (ap (λ (k : Key). k.switch) e, (ap (λ (k : Key). k.epoch) e, ap (λ (k : Key). k.index) e))),
    )

pub one_key : (a b : Key) → same_column_key a b ≡ true → a ≡ b
one_key a b h = (same_column_key-Decides a b).0 h

pub key_itself : (a : Key) → same_column_key a a ≡ true
key_itself a = (same_column_key-Decides a a).1 refl

key_cmp-Decides : (a b : Key) → Decides (is_at (key_cmp a) b) (a ≡ b)
key_cmp-Decides a b = (
  (λ h. let same : (a.switch, (a.epoch, a.index)) ≡ (b.switch, (b.epoch, b.index)) = one_three (a.switch, (a.epoch, a.index)) (b.switch, (b.epoch, b.index)) (is_equal (key_cmp a b) h) in
      ap {B = Key} (λ (p : Three). record { switch = p.0; epoch = p.1.0; index = p.1.1 }) same),
  (λ e. subst (λ (k : Key). is_at (key_cmp a) k ≡ true) e (ap is_eq (same_three (a.switch, (a.epoch, a.index))))),
)

-- the order finds a key exactly where the keys are one
pub is_at_key : (a b : Key) → is_at (key_cmp a) b ≡ same_column_key a b
is_at_key a b = same_from_decides (is_at (key_cmp a) b) (same_column_key a b) (key_cmp-Decides a b) (same_column_key-Decides a b)

pub same_column_key-flip : (a b : Key) → same_column_key a b ≡ same_column_key b a
same_column_key-flip a b =
    same_from_decides (same_column_key a b) (same_column_key b a) (same_column_key-Decides a b) ((λ h. sym (one_key b a h)), (λ e. (same_column_key-Decides b a).1 (sym e)))

-- keys of one block are one exactly where their places are
pub same_place : (a b : Key) → spot a ≡ spot b → same_column_key a b ≡ (a.index % 16 == b.index % 16)
same_place a b e =
    let nth : a.index / 16 ≡ b.index / 16 = ap (λ (s : Spot). s.nth) e in
    same_from_decides (same_column_key a b) (a.index % 16 == b.index % 16) (same_column_key-Decides a b) (
      (λ h. let place : a.index % 16 ≡ b.index % 16 = (Decides-eqb (a.index % 16) (b.index % 16)).0 h in
          let index : a.index ≡ b.index = omega (arith, nth, place) in
          λ i. record { switch = ap (λ (s : Spot). s.switch) e i; epoch = ap (λ (s : Spot). s.epoch) e i; index = index i }),
      (λ same. (Decides-eqb (a.index % 16) (b.index % 16)).1 (ap (λ (k : Key). k.index % 16) same)),
    )

both_alike : (a b c : Key) → same_column_key a b ≡ true → same_column_key a c ≡ same_column_key b c
both_alike a b c h = ap (λ (k : Key). same_column_key k c) (one_key a b h)

pub keys_equiv : IsEquivalence same_column_key
keys_equiv = record { refl = key_itself; symm = same_column_key-flip; congr = both_alike }
