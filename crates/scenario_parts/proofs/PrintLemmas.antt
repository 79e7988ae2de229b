-- A line written in two parts.
use Rattle.std.proofs.Common.{◌≡◌, ◌<◌, ℕ, true, All, List, [], ◌∷◌, ◌++◌, refl, sym, ap, ◌∙◌, append_assoc, arith}
use Rattle.std.specs.Prelude.{nat_lt}
use Rattle.std.specs.List.{list_all}
use Rattle.std.proofs.lemmas.List.Sums.{list_all-from_AllPass}
use Rattle.text_out.specs.Growing.{Kind, grown}
use Rattle.text_out.proofs.Putting.{grown_on}
use Rattle.text_out.specs.Words.{Words, spaced, joined}
use Rattle.scenario_lines.specs.Spelling.{line_text}

spaced_append : (ws vs : Words) → spaced (ws ++ vs) ≡ spaced ws ++ spaced vs
spaced_append [] vs = refl
spaced_append (w ∷ ws) vs = rw (spaced_append ws vs, append_assoc w (spaced ws) (spaced vs)) refl

pub two_parts : (old one two : Kind) (w : List ℕ) (ws vs : Words) → one ≡ grown old (joined (w ∷ ws)) → two ≡ grown one (spaced vs)
    → two ≡ grown old (joined (w ∷ (ws ++ vs)))
two_parts old one two w ws vs a b = b ∙ ap (λ (k : Kind). grown k (spaced vs)) a ∙ grown_on old (w ++ spaced ws) (spaced vs)
    ∙ ap (λ (text : List ℕ). grown old text) (append_assoc w (spaced ws) (spaced vs) ∙ ap (λ (text : List ℕ). w ++ text) (sym (spaced_append ws vs)))

pub with_end : (old two three : Kind) (ws : Words) → two ≡ grown old (joined ws) → three ≡ grown two (10 ∷ []) → three ≡ grown old (line_text ws)
with_end old two three ws a b = b ∙ ap (λ (k : Kind). grown k (10 ∷ [])) a ∙ grown_on old (joined ws) (10 ∷ [])

-- ---- paths

under : (a b : ℕ) → a < b → nat_lt a b ≡ true
under a b lt = grind arith

pub path_within : (n : ℕ) (path : List ℕ) → All (λ s. s < n) path → list_all (λ at. nat_lt at n) path ≡ true
path_within n path within = list_all-from_AllPass (λ at. nat_lt at n) path (λ i d lt. under _ n (within i d lt))

-- ---- the whole text

pub in_three : (none one two three : Kind) (a b c : List ℕ) → one ≡ grown none a → two ≡ grown one b → three ≡ grown two c → three ≡ grown none (a ++ (b ++ c))
in_three none one two three a b c first second third =
    third ∙ ap (λ (k : Kind). grown k c) second ∙ grown_on one b c ∙ ap (λ (k : Kind). grown k (b ++ c)) first ∙ grown_on none a (b ++ c)
