-- Counting the ends and packets of steps.
use Rattle.std.proofs.Common.{◌≡◌, ℕ, suc, zero, ◌+◌, ◌<◌, Bool, true, false, cond, eqb, List, [], ◌∷◌, ◌++◌, length, get_or, set, replicate, refl, sym, ap}
use Rattle.std.proofs.Common.{◌∙◌, arith}
use Rattle.std.proofs.lemmas.List.Sums.{sum_by_push}
use Rattle.std.proofs.lemmas.Grind.{common_steps}
use Rattle.lg_model.specs.declared.scenario.Step.{Step}
use Rattle.lg_model.specs.declared.scenario.Step.TheVariants.{End}
use Rattle.lg_model.specs.Scenario.{burst_of, is_end_of, packet_count}
use Rattle.lg_model.specs.Keeping.{ends_of}

pub ends_more : (i : ℕ) (ts : List Step) (t : Step) → ends_of i (ts ++ t ∷ []) ≡ ends_of i ts + cond (is_end_of i t) 1 0
ends_more i ts t = sum_by_push (λ x. cond (is_end_of i x) 1 0) ts t

pub packets_more : (ts : List Step) (t : Step) → packet_count (ts ++ t ∷ []) ≡ packet_count ts + burst_of t
packets_more ts t = sum_by_push burst_of ts t

pub zeros : (n i : ℕ) → get_or (replicate n zero) i zero ≡ zero
zeros zero i = refl
zeros (suc n) zero = refl
zeros (suc n) (suc i) = zeros n i

one_end : (ends : List ℕ) (all at i n : ℕ) (b : Bool) → eqb at i ≡ b → at < length ends → get_or ends i 0 + all ≡ n
    → get_or (set ends at (get_or ends at 0 + 1)) i 0 + all ≡ n + cond b 1 0
one_end ends all at i n true e lt h = grind (arith, common_steps)
one_end ends all at i n false e lt h = grind (arith, common_steps)

pub end_counted : (ends : List ℕ) (all at i : ℕ) (ts now : List Step) → now ≡ ts ++ End at ∷ [] → at < length ends → get_or ends i 0 + all ≡ ends_of i ts
    → get_or (set ends at (get_or ends at 0 + 1)) i 0 + all ≡ ends_of i now
end_counted ends all at i ts now is lt h = one_end ends all at i (ends_of i ts) (eqb at i) refl lt h ∙ sym (ap (ends_of i) is ∙ ends_more i ts (End at))
