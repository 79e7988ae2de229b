-- A path and its delays, hop by hop.
use Rattle.std.proofs.Common.{◌≡◌, ℕ, suc, ◌+◌, ◌<◌, length, get_or, drop, add-one, drop-cons, List, [], ◌∷◌, ◌++◌, Result, Ok, Err, refl, sym, ap, ◌∙◌}
use Rattle.scenario_lines.specs.declared.why.Why.{Why}
use Rattle.scenario_lines.specs.declared.fault.LineFault.{LineFault}
use Rattle.scenario_lines.specs.declared.fault.LineFault.TheVariants as faults
use Rattle.scenario_lines.specs.Fields.{Fails, number, hop, path, delays}
use Rattle.text_out.specs.Words.{Words}

pub path_more : (switches sofar w : List ℕ) (ws words : List (List ℕ)) (at : ℕ) (total : Result (List ℕ) Why) → words ≡ w ∷ ws
    → hop switches sofar w ≡ Ok at → path switches sofar words ≡ total → path switches (sofar ++ at ∷ []) ws ≡ total
unfolding path
path_more switches sofar w ws words at total is h so_far =
    let one : path switches sofar (w ∷ ws) ≡ path switches (sofar ++ at ∷ []) ws = rw h refl in
    sym one ∙ ap (path switches sofar) (sym is) ∙ so_far

pub path_bad : (e : LineFault) (switches sofar w : List ℕ) (ws words : List (List ℕ)) (total : Result (List ℕ) Why) → words ≡ w ∷ ws
    → Fails e (hop switches sofar w) → path switches sofar words ≡ total → Fails e total
unfolding path
path_bad faults.Memory switches sofar w ws words total is h so_far = tt
path_bad (faults.Bad why) switches sofar w ws words total is h so_far =
    let one : path switches sofar (w ∷ ws) ≡ Err why = rw h refl in
    sym so_far ∙ ap (path switches sofar) is ∙ one

-- One delay more.
pub delays_more : (hops : List ℕ) (i : ℕ) (sofar : List ℕ) (ws : Words) (x : ℕ × Words) (total : Result (List ℕ × Words) Why) → i < length hops
    → number 0 4294967295 ws ≡ Ok x → delays (drop i hops) sofar ws ≡ total → delays (drop (i + 1) hops) (sofar ++ x.0 ∷ []) x.1 ≡ total
unfolding delays
delays_more hops i sofar ws x total lt h so_far =
    let one : delays (get_or hops i 0 ∷ drop (suc i) hops) sofar ws ≡ delays (drop (suc i) hops) (sofar ++ x.0 ∷ []) x.1 = rw h refl in
    rw add-one (sym one ∙ ap (λ (hs : List ℕ). delays hs sofar ws) (sym (drop-cons hops i 0 lt)) ∙ so_far)

pub delays_bad : (e : LineFault) (hops : List ℕ) (i : ℕ) (sofar : List ℕ) (ws : Words) (total : Result (List ℕ × Words) Why) → i < length hops
    → Fails e (number 0 4294967295 ws) → delays (drop i hops) sofar ws ≡ total → Fails e total
unfolding delays
delays_bad faults.Memory hops i sofar ws total lt h so_far = tt
delays_bad (faults.Bad why) hops i sofar ws total lt h so_far =
    let one : delays (get_or hops i 0 ∷ drop (suc i) hops) sofar ws ≡ Err why = rw h refl in
    sym so_far ∙ ap (λ (hs : List ℕ). delays hs sofar ws) (drop-cons hops i 0 lt) ∙ one
