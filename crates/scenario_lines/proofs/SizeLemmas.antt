-- How many bytes words take.
use Rattle.std.proofs.Common.{◌≡◌, ℕ, ◌+◌, List, [], ◌∷◌, ◌++◌, length, map, ap, ◌∙◌, arith}
use Rattle.std.specs.Prelude.{slice_index}
use Rattle.std.specs.Fmt.{decimal}
use Rattle.std.proofs.lemmas.List.{map-append}
use Rattle.text_out.specs.Words.{Words}
use Rattle.scenario_lines.specs.Spelling.{size, path_words}

pub size_append : (ws vs : Words) → size (ws ++ vs) ≡ size ws + size vs
size_append [] vs = omega arith
size_append (w ∷ ws) vs = omega (arith, size_append ws vs)

pub size_push : (ds : List ℕ) (d : ℕ) → size (map decimal (ds ++ d ∷ [])) ≡ size (map decimal ds) + (length (decimal d) + 1)
size_push ds d = ap size (map-append decimal ds (d ∷ [])) ∙ size_append (map decimal ds) (decimal d ∷ []) ∙ omega arith

-- One hop more.
pub hop_more : (switches hops : List ℕ) (at : ℕ)
    → size (path_words switches (hops ++ at ∷ [])) ≡ size (path_words switches hops) + (length (decimal (slice_index switches at)) + 1)
hop_more switches hops at = ap size (map-append (λ i. decimal (slice_index switches i)) hops (at ∷ []))
    ∙ size_append (path_words switches hops) (decimal (slice_index switches at) ∷ []) ∙ omega arith
