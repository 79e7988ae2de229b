-- What is left on a disk, at any moment and in the end.
use Rattle.std.specs.Prelude.{◌≡◌, ◌⊎◌, ℕ, ◌+◌, ◌≤◌, List, [], length, slice_index}
use Rattle.std.specs.List.{IsDistinct}
use Rattle.std.proofs.Common.{sym, ap, ◌∙◌, subst, arith, inl, inr, ⊎_elim}
use Rattle.std.proofs.lemmas.Bool.{cases_lt}
use Rattle.std.proofs.lemmas.Bool.Decides.{eqb_tells}
use mathlib.Core.List.{IsPrefix}
use Rattle.lg_model.specs.Placing.{Shape}
use Rattle.lg_model.specs.Scenario.{Scenario}
use Rattle.sketchlet_wire.specs.Uploads.{UploadData}
use Rattle.book_file.specs.Between.{Files, Standing}
use Rattle.book_file.specs.File.{IsBlank, StandsFor}
use Rattle.book_file.proofs.Law as files
use Rattle.book_laws.specs.Legal.{Order, IsLegal}
use Rattle.book_laws.specs.Keeping.{HasKeysOnce}
use Rattle.book_laws.specs.Leaving.{IsSettled, IsLeft, IsLeftByFiles}
use Rattle.book_laws.specs.Laws.{LawOfStanding, LawOfFilesLeft}
use Rattle.book_laws.proofs.Growing.{legal_between}
use Rattle.book_laws.proofs.Lists.{front_length, shorter_front}

-- ---- what a file stands for

blank_or_not : (file : List ℕ) → IsBlank file ⊎ (IsBlank file → ⊥)
blank_or_not file = elim (cases_lt 1 (length file)) as (λ _. IsBlank file ⊎ (IsBlank file → ⊥)) [
  | inr short ↦ inl (inl (omega (arith, short)))
  | inl long ↦ elim (cases_lt 18 (length file)) as (λ _. IsBlank file ⊎ (IsBlank file → ⊥)) [
    | inl longer ↦ inr (λ b. ⊎_elim (λ le. omega (arith, le, long)) (λ p. let le = p.0 in omega (arith, le, longer)) b)
    | inr few ↦ elim (eqb_tells (slice_index file 0) 1) as (λ _. IsBlank file ⊎ (IsBlank file → ⊥)) [
      | inl gate ↦ inr (λ b. ⊎_elim (λ le. omega (arith, le, long)) (λ p. p.1 gate.1) b)
      | inr shut ↦ inl (inr (omega (arith, few), shut.1))
    ]
  ]
]

pub one_list : (shape : Shape) (file : List ℕ) (l m : List UploadData) → StandsFor shape l file → StandsFor shape m file → l ≡ m
one_list shape file l m a b = elim (blank_or_not file) as (λ _. l ≡ m) [
  | inl blank ↦ files.blank_law file shape l blank a ∙ sym (files.blank_law file shape m blank b)
  | inr not ↦ (files.law file shape shape l m not a b).1
]

none_once : HasKeysOnce []
unfolding IsDistinct
none_once = tt

pub keys_once : (shape : Shape) (file : List ℕ) (l : List UploadData) → StandsFor shape l file → HasKeysOnce l
keys_once shape file l (inl blank) = subst HasKeysOnce (sym blank.1) none_once
keys_once shape file l (inr spelled) = spelled.records_fit.apart

pub standing : LawOfStanding
standing = record { one = one_list; once = keys_once }

module _ (stands : Standing) (order : Order) (w : Scenario) (before kept full : List UploadData) (was now since : Files) where
  -- file by file, where a file stands for one list
  pub by_files : ((c : List ℕ) (l m : List UploadData) → stands l c → stands m c → l ≡ m)
      → IsLeft stands order w before was now since kept full →
      IsLeftByFiles stands order w before was now since
  by_files one left = record {
    each = λ c s. elim (left.moments c s) as (λ _. was c ⊎ ((l : List UploadData) × stands l c × IsLegal order w before l)) [
      | inl old ↦ inl old
      | inr b ↦ inr (b.list, b.is, legal_between order w before b.list full left.legal b.begins b.ends)
    ];
    legal = λ set c l s is.
        let b = left.settled set c s in
        subst (IsLegal order w before) (one c b.list l b.is is) (legal_between order w before b.list full left.legal b.begins b.ends);
    chain = λ set c d l m s t is js.
        let p = front_of set c l s is in
        let q = front_of set d m t js in
        elim (cases_lt (length m) (length l)) as (λ _. IsPrefix l m ⊎ IsPrefix m l) [
          | inl less ↦ inr (shorter_front m l full q p (omega (arith, less)))
          | inr more ↦ inl (shorter_front l m full p q (omega (arith, more)))
        ];
    near = λ set c d l m s t is js.
        let p = front_length l full (front_of set c l s is) in
        let most = left.one_more in
        elim (left.now_is d t) as (λ _. length l ≤ length m + 1) [
          | inl k ↦ let same = ap (λ (x : List UploadData). length x) (one d kept m k js) in omega (arith, p, most, same)
          | inr f ↦ let same = ap (λ (x : List UploadData). length x) (one d full m f js) in omega (arith, p, same)
        ];
  }
    where
      front_of : IsSettled stands before was → (c : List ℕ) (l : List UploadData) → since c → stands l c → IsPrefix l full
      front_of set c l s is = let b = left.settled set c s in
          subst (λ (x : List UploadData). IsPrefix x full) (one c b.list l b.is is) b.ends

pub law : (was now since : Files) → LawOfFilesLeft was now since
law was now since order w before kept full left = by_files (StandsFor w.shape) order w before kept full was now since
    (λ c l m is js. one_list w.shape c l m is js) left
