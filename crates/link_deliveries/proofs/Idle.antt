-- The uploads that are to be after_send, and counts of states, after one of them changed.
use Rattle.std.proofs.Common.{◌≡◌, ℕ, zero, suc, ◌+◌, ◌<◌, Bool, true, false, cond, List, [], ◌∷◌, length, get_or, set, refl, ap, ◌∙◌, arith}
use Rattle.std.specs.List.{count_by}
use Rattle.std.proofs.lemmas.List.Sums.{sum_by-set, sum_by-cons}
use Rattle.uploader_core.specs.declared.state.SeqState.{SeqState}
use Rattle.uploader_core.specs.declared.state.SeqState.TheVariants.{Refused}
use Rattle.uploader_core.specs.States.{is_idle}
use Rattle.link_deliveries.specs.Waiting.{idle_from}

-- the least idle upload heads the list, and no other changes when it is after_send
pub idle_head : (ss : List SeqState) (n q : ℕ) (d x : SeqState) → q < length ss → is_idle (get_or ss q d) ≡ true
    → ((k : ℕ) → k < q → is_idle (get_or ss k d) ≡ false) → is_idle x ≡ false
    → idle_from n ss ≡ (n + q) ∷ idle_from n (set ss q x)
idle_head [] n q d x short here below not = absurd (omega arith)
idle_head (s ∷ ss) n zero d x short here below not =
    rw (here, not) (ap (λ (k : ℕ). k ∷ idle_from (n + 1) ss) (omega arith))
idle_head (s ∷ ss) n (suc q) d x short here below not =
    let first : is_idle s ≡ false = below 0 (omega arith) in
    let rest = idle_head ss (n + 1) q d x (omega arith) here (λ k less. below (suc k) (omega arith)) not in
    rw first (rest ∙ ap (λ (k : ℕ). k ∷ idle_from (n + 1) (set ss q x)) (omega arith))

-- none is added or taken where one that is not idle becomes another that is not idle
pub idle_same : (ss : List SeqState) (n q : ℕ) (d x : SeqState) → q < length ss → is_idle (get_or ss q d) ≡ false → is_idle x ≡ false
    → idle_from n (set ss q x) ≡ idle_from n ss
idle_same [] n q d x short here not = absurd (omega arith)
idle_same (s ∷ ss) n zero d x short here not = rw (here, not) refl
idle_same (s ∷ ss) n (suc q) d x short here not =
    ap (λ (rest : List ℕ). cond (is_idle s) (n ∷ rest) rest) (idle_same ss (n + 1) q d x (omega arith) here not)

-- a count after a change
pub count-set : (p : SeqState → Bool) (ss : List SeqState) (q : ℕ) (d x : SeqState) → q < length ss
    → count_by p (set ss q x) + cond {A = ℕ} (p (get_or ss q d)) 1 0 ≡ count_by p ss + cond {A = ℕ} (p x) 1 0
count-set p ss q d x short = sum_by-set (λ (s : SeqState). cond {A = ℕ} (p s) 1 0) ss q x d short

pub count-cons : (p : SeqState → Bool) (s : SeqState) (ss : List SeqState) → count_by p (s ∷ ss) ≡ cond {A = ℕ} (p s) 1 0 + count_by p ss
count-cons p s ss = sum_by-cons (λ (s : SeqState). cond {A = ℕ} (p s) 1 0) s ss

-- where none is idle none is to be after_send
pub none_idle : (ss : List SeqState) (n : ℕ) → ((k : ℕ) → k < length ss → is_idle (get_or ss k Refused) ≡ false) → idle_from n ss ≡ []
none_idle [] n none = refl
none_idle (s ∷ ss) n none =
    let first : is_idle s ≡ false = none 0 (omega arith) in
    rw first (none_idle ss (n + 1) (λ k short. none (suc k) (omega arith)))
