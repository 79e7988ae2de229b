-- A walk over blocks in the order of their spots.
use Rattle.std.specs.Prelude.{◌≡◌, ℕ, suc, ◌+◌, ◌*◌, ◌/◌, ◌%◌, ◌<◌, ◌≤◌, Bool, true, false, ◌&&◌, cond, ◌⊎◌, List, [], ◌∷◌, filter, Option, None, Some, IsSome, is_some, if◌then◌else◌}
use Rattle.std.specs.List.{AllByRecursion}
use Rattle.std.specs.List.Sorted.{IsStrictlySortedBy}
use Rattle.std.specs.Option.{option_and_then}
use Rattle.std.specs.Ordering.{nat_cmp, ordering_then, is_eq, is_lt, is_le}
use Rattle.std.specs.declared.cmp.Ordering.{Ordering}
use Rattle.std.specs.declared.cmp.Ordering.TheVariants.{Less, Equal, Greater}
use Rattle.std.specs.Cmp.{nat_cmp_is}
use Rattle.std.specs.BTreeMap.{is_at}
use Rattle.std.specs.Map.{keys_of}
use Rattle.std.proofs.Common.{refl, sym, ap, ◌∙◌, subst, arith, inl, inr}
use Rattle.std.proofs.lemmas.Bool.Decides.{eqb_tells, leb_tells, Decides-and, Decides-eqb}
use Rattle.std.proofs.lemmas.Map.Keys.{sorted_head, sorted_tail}
use Rattle.std.proofs.lemmas.Map.Entries.{lookup-filter-keys}
use Rattle.std.proofs.lemmas.List.Elements.{filter_agree}
use Rattle.std.proofs.lemmas.List.Kept.{IsStrictlySortedBy-filter}
use Rattle.lg_model.specs.declared.column.Key.{Key}
use Rattle.lg_model.specs.Answer.{key_cmp}
use Rattle.column_book.specs.declared.block.Spot.{Spot}
use Rattle.column_book.specs.Blocks.{spot, spot_cmp, kept_in, kept_at, Made}
use Rattle.column_book.specs.Order.{comes_after, same_spot, first_spot, place_from, key_in, IsNext}
use Rattle.column_book.proofs.Keys.{one_spot, spot_itself}
use Rattle.column_book.proofs.Shelves.{at_spot, Boxed, in_box}

-- ---- three numbers, compared one after the other

abbrev Lex : (a1 a2 a3 b1 b2 b3 : ℕ) → Type 0
Lex a1 a2 a3 b1 b2 b3 = (a1 < b1) ⊎ ((a1 ≡ b1) × ((a2 < b2) ⊎ ((a2 ≡ b2) × (a3 < b3))))

abbrev lex_cmp : (a1 a2 a3 b1 b2 b3 : ℕ) → Ordering
lex_cmp a1 a2 a3 b1 b2 b3 = ordering_then (nat_cmp a1 b1) (ordering_then (nat_cmp a2 b2) (nat_cmp a3 b3))

three_ways : (a b : ℕ) → ((nat_cmp a b ≡ Less) × (a < b)) ⊎ (((nat_cmp a b ≡ Equal) × (a ≡ b)) ⊎ ((nat_cmp a b ≡ Greater) × (b < a)))
three_ways a b = elim (leb_tells (suc a) b) [
  | inl low ↦ inl (sym (nat_cmp_is a b Less low.1), low.1)
  | inr high ↦ elim (eqb_tells a b) [
    | inl same ↦ inr (inl (sym (nat_cmp_is a b Equal same.1), same.1))
    | inr other ↦ let h = high.1 in let o = other.1 in let more : b < a = omega (arith, h, o) in inr (inr (sym (nat_cmp_is a b Greater more), more))
  ]
]

less_is : (a1 a2 a3 b1 b2 b3 : ℕ) → lex_cmp a1 a2 a3 b1 b2 b3 ≡ Less → Lex a1 a2 a3 b1 b2 b3
less_is a1 a2 a3 b1 b2 b3 h = elim (three_ways a1 b1) [
  | inl x ↦ inl x.1
  | inr y ↦ elim y [
    | inl x ↦ elim (three_ways a2 b2) [
      | inl z ↦ inr (x.1, inl z.1)
      | inr u ↦ elim u [
        | inl z ↦ elim (three_ways a3 b3) [
          | inl v ↦ inr (x.1, inr (z.1, v.1))
          | inr w ↦ elim w [
            | inl v ↦ let no : ordering_then Equal (ordering_then Equal Equal) ≡ Less = rw (x.0, z.0, v.0) at h in absurd (cc)
            | inr v ↦ let no : ordering_then Equal (ordering_then Equal Greater) ≡ Less = rw (x.0, z.0, v.0) at h in absurd (cc)
          ]
        ]
        | inr z ↦ let no : ordering_then Equal (ordering_then Greater (nat_cmp a3 b3)) ≡ Less = rw (x.0, z.0) at h in absurd (cc)
      ]
    ]
    | inr x ↦ let no : ordering_then Greater (ordering_then (nat_cmp a2 b2) (nat_cmp a3 b3)) ≡ Less = rw x.0 at h in absurd (cc)
  ]
]

is_less : (a1 a2 a3 b1 b2 b3 : ℕ) → Lex a1 a2 a3 b1 b2 b3 → lex_cmp a1 a2 a3 b1 b2 b3 ≡ Less
is_less a1 a2 a3 b1 b2 b3 h = elim h [
  | inl x ↦ rw (sym (nat_cmp_is a1 b1 Less x)) refl
  | inr y ↦ elim y.1 [
    | inl x ↦ rw (sym (nat_cmp_is a1 b1 Equal y.0), sym (nat_cmp_is a2 b2 Less x)) refl
    | inr x ↦ rw (sym (nat_cmp_is a1 b1 Equal y.0), sym (nat_cmp_is a2 b2 Equal x.0), sym (nat_cmp_is a3 b3 Less x.1)) refl
  ]
]

abbrev KeyLex : Key → Key → Type 0
KeyLex a b = Lex a.switch a.epoch a.index b.switch b.epoch b.index

abbrev SpotLex : Spot → Spot → Type 0
SpotLex a b = Lex a.switch a.epoch a.nth b.switch b.epoch b.nth

lt_is_less : (o : Ordering) → is_lt o ≡ true → o ≡ Less
lt_is_less Less h = refl
lt_is_less Equal h = absurd (cc)
lt_is_less Greater h = absurd (cc)

key_less : (a b : Key) → is_lt (key_cmp a b) ≡ true → KeyLex a b
key_less a b h = less_is a.switch a.epoch a.index b.switch b.epoch b.index (lt_is_less (key_cmp a b) h)

less_key : (a b : Key) → KeyLex a b → is_lt (key_cmp a b) ≡ true
less_key a b h = ap is_lt (is_less a.switch a.epoch a.index b.switch b.epoch b.index h)

not_less : (a b : Key) → (KeyLex a b → ⊥) → is_lt (key_cmp a b) ≡ false
not_less a b never = (elim (is_lt (key_cmp a b)) as (λ t. is_lt (key_cmp a b) ≡ t → t ≡ false) [
  | true ↦ λ h. absurd (never (key_less a b h))
  | false ↦ λ h. refl
]) refl

-- a key of an earlier block is less, and the other way round is not
lex_down : (k q : Key) → SpotLex (spot k) (spot q) → KeyLex k q
lex_down k q h = elim h [
  | inl x ↦ inl x
  | inr y ↦ inr (
    y.0,
    elim y.1 [
      | inl x ↦ inl x
      | inr x ↦ let low = x.1 in inr (x.0, omega (arith, low))
    ],
  )
]

lex_apart : (a b : Key) → KeyLex a b → KeyLex b a → ⊥
lex_apart a b h g = elim h [
  | inl x ↦ elim g [
    | inl y ↦ omega (arith, x, y)
    | inr y ↦ let e = y.0 in omega (arith, x, e)
  ]
  | inr x ↦ let e = x.0 in elim g [
    | inl y ↦ omega (arith, y, e)
    | inr y ↦ elim x.1 [
      | inl z ↦ elim y.1 [
        | inl w ↦ omega (arith, z, w)
        | inr w ↦ let f = w.0 in omega (arith, z, f)
      ]
      | inr z ↦ let f = z.0 in let low = z.1 in elim y.1 [
        | inl w ↦ omega (arith, w, f)
        | inr w ↦ let high = w.1 in omega (arith, low, high)
      ]
    ]
  ]
]

-- keys of one block, by their places
lex_place : (a b : Key) → spot a ≡ spot b → KeyLex a b → a.index % 16 < b.index % 16
lex_place a b e h =
    let switch = ap (λ (s : Spot). s.switch) e in
    let epoch = ap (λ (s : Spot). s.epoch) e in
    let nth = ap (λ (s : Spot). s.nth) e in
    elim h [
      | inl x ↦ absurd (omega (arith, x, switch))
      | inr y ↦ elim y.1 [
        | inl x ↦ absurd (omega (arith, x, epoch))
        | inr x ↦ let low = x.1 in omega (arith, low, nth)
      ]
    ]

place_lex : (a b : Key) → spot a ≡ spot b → a.index % 16 < b.index % 16 → KeyLex a b
place_lex a b e h =
    let nth = ap (λ (s : Spot). s.nth) e in
    inr (ap (λ (s : Spot). s.switch) e, inr (ap (λ (s : Spot). s.epoch) e, omega (arith, nth, h)))

-- a key comes no earlier than another only in its block or a later one
start_le : (a q : Key) → KeyLex a q → is_le (spot_cmp (spot a) (spot q)) ≡ true
start_le a q h = elim h [
  | inl x ↦ ap is_le (is_less a.switch a.epoch (a.index / 16) q.switch q.epoch (q.index / 16) (inl x))
  | inr y ↦ elim y.1 [
    | inl x ↦ ap is_le (is_less a.switch a.epoch (a.index / 16) q.switch q.epoch (q.index / 16) (inr (y.0, inl x)))
    | inr x ↦ rw (sym (nat_cmp_is a.switch q.switch Equal y.0), sym (nat_cmp_is a.epoch q.epoch Equal x.0)) (elim (three_ways (a.index / 16) (q.index / 16)) [
      | inl z ↦ rw z.0 refl
      | inr u ↦ elim u [
        | inl z ↦ rw z.0 refl
        | inr z ↦ let low = x.1 in let high = z.1 in absurd (omega (arith, low, high))
      ]
    ])
  ]
]

-- ---- the blocks that are left

-- Of blocks in order, those that are left: they hold each column that comes after the given key, and lie in no earlier block.
pub record IsLeft (es : Made) (given : Option Key) (rest : Made) : Type 0 where
  pub left : (q : Key) → IsSome (kept_at es q) → comes_after given q ≡ true → at_spot rest (spot q) ≡ at_spot es (spot q)
  pub part : (s : Spot) (b : Boxed) → at_spot rest s ≡ Some b → at_spot es s ≡ Some b
  pub sorted : IsStrictlySortedBy spot_cmp (keys_of rest)
  pub from : AllByRecursion (λ (e : Spot × Boxed). is_le (spot_cmp (first_spot given) e.0) ≡ true) rest

all_pass : (p : Spot → Bool) (es : Made) → AllByRecursion (λ (e : Spot × Boxed). p e.0 ≡ true) (filter (λ (e : Spot × Boxed). p e.0) es)
all_pass p [] = tt
all_pass p (e ∷ es) = (elim (p e.0) as (λ b. p e.0 ≡ b → AllByRecursion (λ (x : Spot × Boxed). p x.0 ≡ true) (cond b (e ∷ filter (λ (x : Spot × Boxed). p x.0) es) (filter (λ (x : Spot × Boxed). p x.0) es))) [
  | true ↦ λ h. (h, all_pass p es)
  | false ↦ λ h. all_pass p es
]) refl

keys_filter : (p : Spot → Bool) (es : Made) → keys_of (filter (λ (e : Spot × Boxed). p e.0) es) ≡ filter p (keys_of es)
keys_filter p [] = refl
keys_filter p (e ∷ es) = (elim (p e.0) as (λ b. keys_of (cond b (e ∷ filter (λ (x : Spot × Boxed). p x.0) es) (filter (λ (x : Spot × Boxed). p x.0) es)) ≡ cond b (e.0 ∷ filter p (keys_of es)) (filter p (keys_of es))) [
  | true ↦ ap (λ (ks : List Spot). e.0 ∷ ks) (keys_filter p es)
  | false ↦ keys_filter p es
])

zero_le : (n : ℕ) → (nat_cmp 0 n ≡ Less) ⊎ (nat_cmp 0 n ≡ Equal)
zero_le n = elim (three_ways 0 n) [
  | inl x ↦ inl x.0
  | inr y ↦ elim y [
    | inl x ↦ inr x.0
    | inr x ↦ let low = x.1 in absurd (omega (arith, low))
  ]
]

first_le : (s e n : ℕ) → is_le (lex_cmp 0 0 0 s e n) ≡ true
first_le s e n = elim (zero_le s) [
  | inl x ↦ rw x refl
  | inr x ↦ elim (zero_le e) [
    | inl y ↦ rw (x, y) refl
    | inr y ↦ elim (zero_le n) [
      | inl z ↦ rw (x, y, z) refl
      | inr z ↦ rw (x, y, z) refl
    ]
  ]
]

begins_before : (given : Option Key) (q : Key) → comes_after given q ≡ true → is_le (spot_cmp (first_spot given) (spot q)) ≡ true
begins_before None q h = first_le q.switch q.epoch (q.index / 16)
begins_before (Some a) q h = start_le a q (key_less a q h)

-- all blocks from the first one on
pub left_start : (es : Made) (given : Option Key) (start : Spot) → start ≡ first_spot given → IsStrictlySortedBy spot_cmp (keys_of es) →
    IsLeft es given (filter (λ (e : Spot × Boxed). is_le (spot_cmp start e.0)) es)
left_start es given start at sorted =
    let p : Spot → Bool = λ (s : Spot). is_le (spot_cmp start s) in
    record {
      left = λ q kept later.
          let passes : p (spot q) ≡ true = subst (λ (s : Spot). is_le (spot_cmp s (spot q)) ≡ true) (sym at) (begins_before given q later) in
          lookup-filter-keys (is_at (spot_cmp (spot q))) p true (λ s h. subst (λ (t : Spot). p t ≡ true) (one_spot (spot q) s h) passes) es;
      part = λ s b h.
          (elim (p s) as (λ t. p s ≡ t → at_spot es s ≡ Some b) [
            | true ↦ λ is. sym (lookup-filter-keys (is_at (spot_cmp s)) p true (λ r g. subst (λ (t : Spot). p t ≡ true) (one_spot s r g) is) es) ∙ h
            | false ↦ λ is. let none = lookup-filter-keys (is_at (spot_cmp s)) p false (λ r g. subst (λ (t : Spot). p t ≡ false) (one_spot s r g) is) es in
                let bad : None ≡ Some b = sym none ∙ h in absurd (cc)
          ]) refl;
      sorted = subst (IsStrictlySortedBy spot_cmp) (sym (keys_filter p es)) (IsStrictlySortedBy-filter spot_cmp p (keys_of es) sorted);
      from = subst (λ (s : Spot). AllByRecursion (λ (e : Spot × Boxed). is_le (spot_cmp s e.0) ≡ true) (filter (λ (e : Spot × Boxed). p e.0) es)) at (all_pass p es);
    }

-- a block that is found among the others comes later
later_spot : (e : Spot × Boxed) (rest : Made) (s : Spot) (b : Boxed) → AllByRecursion (λ (y : Spot). spot_cmp e.0 y ≡ Less) (keys_of rest) → at_spot rest s ≡ Some b → spot_cmp e.0 s ≡ Less
later_spot e [] s b all h = absurd (cc)
later_spot e (f ∷ fs) s b all h = (elim (is_at (spot_cmp s) f.0) as (λ t. is_at (spot_cmp s) f.0 ≡ t → cond t (Some f.1) (at_spot fs s) ≡ Some b → spot_cmp e.0 s ≡ Less) [
  | true ↦ λ same g. subst (λ (x : Spot). spot_cmp e.0 x ≡ Less) (sym (one_spot s f.0 same)) all.0
  | false ↦ λ same g. later_spot e fs s b all.1 g
]) refl h

-- the first block that is left isn't among the others
head_apart : (e : Spot × Boxed) (rest : Made) (s : Spot) (b : Boxed) → IsStrictlySortedBy spot_cmp (keys_of (e ∷ rest)) → at_spot rest s ≡ Some b → is_at (spot_cmp s) e.0 ≡ false
head_apart e rest s b sorted h =
    (elim (is_at (spot_cmp s) e.0) as (λ t. is_at (spot_cmp s) e.0 ≡ t → t ≡ false) [
      | true ↦ λ same. let here : spot_cmp e.0 s ≡ Less = later_spot e rest s b (sorted_head spot_cmp e.0 (keys_of rest) sorted) h in
          let one = one_spot s e.0 same in
          let equal : is_at (spot_cmp e.0) e.0 ≡ true = spot_itself e.0 in
          let less : spot_cmp e.0 e.0 ≡ Less = subst (λ (t : Spot). spot_cmp e.0 t ≡ Less) one here in
          let false_here : is_at (spot_cmp e.0) e.0 ≡ false = ap is_eq less in absurd (cc)
      | false ↦ λ same. refl
    ]) refl

-- ---- one block more

at_head : (e : Spot × Boxed) (rest : Made) → at_spot (e ∷ rest) e.0 ≡ Some e.1
at_head e rest = rw (spot_itself e.0) refl

kept_here : (es : Made) (q : Key) (b : Boxed) → at_spot es (spot q) ≡ Some b → kept_at es q ≡ kept_in b.value (q.index % 16)
kept_here es q b h = ap (option_and_then (in_box (q.index % 16))) h

same_spot-Decides : (a b : Spot) → same_spot a b ≡ true → a ≡ b
same_spot-Decides a b h =
    let all = Decides-and _ _ (Decides-eqb a.switch b.switch) (Decides-and _ _ (Decides-eqb a.epoch b.epoch) (Decides-eqb a.nth b.nth)) in
    let same = all.0 h in λ i. record { switch = same.0 i; epoch = same.1.0 i; nth = same.1.1 i }

spot_same : (a b : Spot) → a ≡ b → same_spot a b ≡ true
spot_same a b e =
    let all = Decides-and _ _ (Decides-eqb a.switch b.switch) (Decides-and _ _ (Decides-eqb a.epoch b.epoch) (Decides-eqb a.nth b.nth)) in
    all.1 (ap (λ (s : Spot). s.switch) e, (ap (λ (s : Spot). s.epoch) e, ap (λ (s : Spot). s.nth) e))

-- a key that comes after the given one stands at a place from there on
from_low : (given : Option Key) (s : Spot) (q : Key) → comes_after given q ≡ true → spot q ≡ s → place_from given s ≤ q.index % 16
from_low None s q later at = omega arith
from_low (Some a) s q later at = (elim (same_spot s (spot a)) as (λ t. same_spot s (spot a) ≡ t → (if t then a.index % 16 + 1 else 0) ≤ q.index % 16) [
  | true ↦ λ same. let low = lex_place a q (sym (same_spot-Decides s (spot a) same) ∙ sym at) (key_less a q later) in omega (arith, low)
  | false ↦ λ same. omega arith
]) refl

-- a key at such a place comes after the given one
from_high : (given : Option Key) (k : Key) → is_le (spot_cmp (first_spot given) (spot k)) ≡ true → place_from given (spot k) ≤ k.index % 16 → comes_after given k ≡ true
from_high None k le low = refl
from_high (Some a) k le low = (elim (same_spot (spot k) (spot a)) as (λ t. same_spot (spot k) (spot a) ≡ t → (if t then a.index % 16 + 1 else 0) ≤ k.index % 16 → is_lt (key_cmp a k) ≡ true) [
  | true ↦ λ same more. less_key a k (place_lex a k (sym (same_spot-Decides (spot k) (spot a) same)) (omega (arith, more)))
  | false ↦ λ same more. less_key a k (lex_down a k (less_is a.switch a.epoch (a.index / 16) k.switch k.epoch (k.index / 16)
      ((elim (spot_cmp (spot a) (spot k)) as (λ o. spot_cmp (spot a) (spot k) ≡ o → is_le o ≡ true → o ≡ Less) [
        | Less ↦ λ is g. refl
        | Equal ↦ λ is g. let one = one_spot (spot a) (spot k) (ap is_eq is) in let yes = spot_same (spot k) (spot a) (sym one) in absurd (cc)
        | Greater ↦ λ is g. absurd (cc)
      ]) refl le)))
]) refl low

module _ (es : Made) (given : Option Key) (e : Spot × Boxed) (rest : Made) (h : IsLeft es given (e ∷ rest)) where
  in_block : (q : Key) → spot q ≡ e.0 → kept_at es q ≡ kept_in e.1.value (q.index % 16)
  in_block q at = kept_here es q e.1 (h.part (spot q) e.1 (subst (λ (s : Spot). at_spot (e ∷ rest) s ≡ Some e.1) (sym at) (at_head e rest)))

  -- a column that comes after the given key is in this block or in a later one
  apart_or_here : (q : Key) → (is_at (spot_cmp (spot q)) e.0 ≡ true → ⊥) → IsSome (kept_at es q) → comes_after given q ≡ true → at_spot rest (spot q) ≡ at_spot es (spot q)
  apart_or_here q other kept later = (elim (is_at (spot_cmp (spot q)) e.0) as (λ t. is_at (spot_cmp (spot q)) e.0 ≡ t → cond t (Some e.1) (at_spot rest (spot q)) ≡ at_spot es (spot q) → at_spot rest (spot q) ≡ at_spot es (spot q)) [
    | true ↦ λ same g. absurd (other same)
    | false ↦ λ same g. g
  ]) refl (h.left q kept later)

  -- a block with no column after the given key
  pub left_next : ((i : ℕ) → place_from given e.0 ≤ i → i < 16 → kept_in e.1.value i ≡ None) → IsLeft es given rest
  left_next none = record {
    left = λ q kept later. apart_or_here q
        (λ same. let at = one_spot (spot q) e.0 same in
        let empty : kept_at es q ≡ None = in_block q at ∙ none (q.index % 16) (from_low given e.0 q later at) (omega arith) in
        let some : is_some (kept_at es q) ≡ true = kept in
        let bad : is_some (kept_at es q) ≡ false = ap is_some empty in absurd (cc)) kept later;
    part = λ s b g. h.part s b (rw (head_apart e rest s b h.sorted g) g);
    sorted = sorted_tail spot_cmp e.0 (keys_of rest) h.sorted;
    from = h.from.1;
  }

  -- the first column after the given key in this block is the next
  pub next_is : (p : ℕ) (k : Key) → k ≡ key_in e.0 p → p < 16 → place_from given e.0 ≤ p → is_some (kept_in e.1.value p) ≡ true → ((i : ℕ) → place_from given e.0 ≤ i → i < p → kept_in e.1.value i ≡ None) →
      (is_some (kept_at es k) ≡ true) × (comes_after given k ≡ true) × ((q : Key) → IsSome (kept_at es q) → comes_after given q ≡ true → is_lt (key_cmp q k) ≡ false)
  next_is p k is few low some none =
      let index : k.index ≡ e.0.nth * 16 + p = ap (λ (x : Key). x.index) is in
      let place : k.index % 16 ≡ p = omega (arith, index, few) in
      let nth : k.index / 16 ≡ e.0.nth = omega (arith, index, few) in
      let at : spot k ≡ e.0 = λ i. record { switch = ap (λ (x : Key). x.switch) is i; epoch = ap (λ (x : Key). x.epoch) is i; nth = nth i } in
      let here : is_some (kept_at es k) ≡ true = ap is_some (in_block k at ∙ ap (kept_in e.1.value) place) ∙ some in
      let later_k : comes_after given k ≡ true = from_high given k (subst (λ (s : Spot). is_le (spot_cmp (first_spot given) s) ≡ true) (sym at) h.from.0)
      (subst (λ n. place_from given (spot k) ≤ n) (sym place) (subst (λ (s : Spot). place_from given s ≤ p) (sym at) low)) in (
        here,
        later_k,
        λ q kept later. not_less q k (λ less.
            (elim (is_at (spot_cmp (spot q)) e.0) as (λ t. is_at (spot_cmp (spot q)) e.0 ≡ t → ⊥) [
              | true ↦ λ same. let same_block = one_spot (spot q) e.0 same in
                  let before = lex_place q k (same_block ∙ sym at) less in
                  let empty : kept_at es q ≡ None = in_block q same_block ∙ none (q.index % 16) (from_low given e.0 q later same_block) (omega (arith, before, place)) in
                  let yes : is_some (kept_at es q) ≡ true = kept in
                  let bad : is_some (kept_at es q) ≡ false = ap is_some empty in absurd (cc)
              | false ↦ λ same. let found_later = apart_or_here q (λ yes. absurd (cc)) kept later in
                  lex_apart k q (lex_down k q (subst (λ (s : Spot). SpotLex s (spot q)) (sym at) (after_head q found_later kept))) less
            ]) refl),
      )
    where
      after_head : (q : Key) → at_spot rest (spot q) ≡ at_spot es (spot q) → IsSome (kept_at es q) → SpotLex e.0 (spot q)
      after_head q found kept = (elim (at_spot es (spot q)) as (λ (o : Option Boxed). at_spot rest (spot q) ≡ o → is_some (option_and_then (in_box (q.index % 16)) o) ≡ true → SpotLex e.0 (spot q)) [
        | None ↦ λ g some_here. absurd (cc)
        | Some b ↦ λ g some_here. less_is e.0.switch e.0.epoch e.0.nth q.switch q.epoch (q.index / 16) (later_spot e rest (spot q) b (sorted_head spot_cmp e.0 (keys_of rest) h.sorted) g)
      ]) found kept

-- ---- what `range` gives

and_true : (b : Bool) → (b && true) ≡ b
and_true true = refl
and_true false = refl

pub from_start : (start : Spot) (es : Made) → filter (λ (e : Spot × Boxed). is_le (spot_cmp start e.0) && true) es ≡ filter (λ (e : Spot × Boxed). is_le (spot_cmp start e.0)) es
from_start start es = filter_agree (λ (e : Spot × Boxed). is_le (spot_cmp start e.0) && true) (λ (e : Spot × Boxed). is_le (spot_cmp start e.0)) (λ e. and_true (is_le (spot_cmp start e.0))) es

-- the next key under which something is kept, by another look-up that finds at the same keys
pub next_same : {A B : Type 0} (look : Key → Option A) (other : Key → Option B) → ((q : Key) → is_some (other q) ≡ is_some (look q)) → (given r : Option Key) → IsNext look given r → IsNext other given r
next_same look other alike given None h = λ q kept later. h q (sym (alike q) ∙ kept) later
next_same look other alike given (Some k) h = record { there = alike k ∙ h.there; later = h.later; least = λ q kept later. h.least q (sym (alike q) ∙ kept) later }
