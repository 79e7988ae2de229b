-- Counting the ends of steps, one step after the other.
use Rattle.std.proofs.Common.{◌≡◌, ℕ, ◌+◌, ◌<◌, ◌≤◌, List, [], ◌∷◌, ◌++◌, length, get_or, cond, take, refl, sym, ap, ◌∙◌, arith, false, ◌⊎◌, inl, inr}
use Rattle.std.specs.Prelude.{Decides, All}
use Rattle.std.proofs.lemmas.Bool.{cases_lt}
use Rattle.std.proofs.lemmas.List.{take_more, take_all, length-take-le}
use Rattle.std.proofs.lemmas.List.Sums.{count_by-le-length}
use Rattle.lg_model.specs.declared.scenario.Step.{Step}
use Rattle.lg_model.specs.declared.scenario.Step.TheVariants.{End}
use Rattle.lg_model.specs.Scenario.{is_end_of}
use Rattle.lg_model.specs.Keeping.{ends_of}
use Rattle.scenario_lines.proofs.CountLemmas.{ends_more}
use Rattle.scenario_parts.specs.Parts.{IsEndInRange}

-- The steps so far and one more.
pub one_more : (ts : List Step) (i : ℕ) (t : Step) → i < length ts → t ≡ get_or ts i t → take (i + 1) ts ≡ take i ts ++ t ∷ []
one_more ts i t lt is = rw (take_more ts i t lt, ← is) refl

-- A step that is no end of one switch.
pub other_counted : (ts : List Step) (i k : ℕ) (t : Step) (n m : ℕ) → i < length ts → t ≡ get_or ts i t → n ≡ ends_of k (take i ts)
    → m ≡ n + cond (is_end_of k t) 1 0 → m ≡ ends_of k (take (i + 1) ts)
other_counted ts i k t n m lt is so more = more ∙ rw (one_more ts i t lt is, so) (sym (ends_more k (take i ts) t))

-- The switch of an end is there.
pub end_in_range : (switches : ℕ) (ts : List Step) (i at : ℕ) (t : Step) → All (IsEndInRange switches) ts → i < length ts → t ≡ get_or ts i t → t ≡ End at
    → at < switches
end_in_range switches ts i at t all lt is end = let here : IsEndInRange switches t = rw is (all i t lt) in rw end at here

-- One switch has too many ends.
pub too_many : (switches : ℕ) (ts : List Step) (at : ℕ) → at < switches → 65535 < ends_of at ts → Decides false ((s : ℕ) → s < switches → ends_of s ts ≤ 65535)
too_many switches ts at lt over = (λ e. absurd cc, λ few. absurd (omega (arith, few at lt, over)))

-- One switch more has few ends.
pub few_more : (ts : List Step) (at : ℕ) → ((s : ℕ) → s < at → ends_of s ts ≤ 65535) → ends_of at ts ≤ 65535 → (s : ℕ) → s < at + 1 → ends_of s ts ≤ 65535
few_more ts at before here s lt = by_place (cases_lt s at) where
  by_place : (s < at) ⊎ (at ≤ s) → ends_of s ts ≤ 65535
  by_place (inl less) = before s less
  by_place (inr more) = let same : s ≡ at = omega (arith, more, lt) in rw same here

-- After the last step all are counted.
pub all_counted : (ts : List Step) (n k m : ℕ) → length ts ≤ n → m ≡ ends_of k (take n ts) → m ≡ ends_of k ts
all_counted ts n k m le so = so ∙ ap (ends_of k) (take_all n ts le)

-- There are no more ends than steps.
pub ends_few : (ts : List Step) (n k : ℕ) → n ≤ length ts → ends_of k (take n ts) ≤ n
ends_few ts n k le = omega (arith, count_by-le-length (is_end_of k) (take n ts), length-take-le n ts le)
