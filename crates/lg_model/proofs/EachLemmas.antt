-- What holds of each element, from the first to the last.
use Rattle.std.proofs.Common.{◌≡◌, ℕ, ◌+◌, ◌<◌, ◌≤◌, List, length, get_or, take, refl, All, true}
use Rattle.std.specs.Prelude.{Decides}
use Rattle.std.proofs.lemmas.List.{take_all, take_more}
use Rattle.std.proofs.lemmas.List.Elements.{All-push}

-- One element more.
pub each_more : {X : Type 0} (P : X → Type 0) (xs : List X) (i : ℕ) (d : X) → i < length xs → All P (take i xs) → P (get_or xs i d) → All P (take (i + 1) xs)
each_more P xs i d lt all p = rw (take_more xs i d lt) (All-push P (take i xs) (get_or xs i d) all p)

-- The same of an element by its own name.
pub each_more_item : {X : Type 0} (P : X → Type 0) (xs : List X) (i : ℕ) (x : X) → i < length xs → x ≡ get_or xs i x → All P (take i xs) → P x → All P (take (i + 1) xs)
each_more_item P xs i x lt is all p = each_more P xs i x lt all (rw (← is) p)

-- The last element was the last.
pub each_done : {X : Type 0} (P : X → Type 0) (xs : List X) (n : ℕ) → length xs ≤ n → All P (take n xs) → All P xs
each_done P xs n le all = rw (take_all n xs le) at all

pub all_found : {X : Type 0} (P : X → Type 0) (xs : List X) (n : ℕ) → length xs ≤ n → All P (take n xs) → Decides true (All P xs)
all_found P xs n le all = (λ _. each_done P xs n le all, λ _. refl)
