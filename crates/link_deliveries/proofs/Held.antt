-- Uploads that are held, and what acknowledging them does.
use Rattle.std.proofs.Common.{◌≡◌, ◌≢◌, ℕ, ◌+◌, ◌<◌, cond, List, [], ◌∷◌, ◌++◌, length, get_or, set, map, refl, sym, ap, subst, ◌∙◌, arith, length-set, get_or-set_other, get_or-set_same}
use Rattle.std.proofs.lemmas.List.{set_comm}
use Rattle.uploader_core.specs.declared.state.SeqState.{SeqState}
use Rattle.uploader_core.specs.declared.state.SeqState.TheVariants.{Idle, Outstanding, Acknowledged, Refused}
use Rattle.uploader_core.specs.States.{is_idle, is_outstanding, outstanding}
use Rattle.link_deliveries.specs.Waiting.{idle_from}
use Rattle.link_deliveries.specs.Deliveries.{heard, acknowledge, IsHeld}
use Rattle.link_deliveries.proofs.Idle.{idle_same, count-set}

-- an upload that is idle is not among the held ones
apart : (ss : List SeqState) (h q : ℕ) → get_or ss h Refused ≡ Outstanding → get_or ss q Refused ≡ Idle → h ≢ q
apart ss h q out idle same = let e : Outstanding ≡ Idle = sym out ∙ ap (λ (k : ℕ). get_or ss k Refused) same ∙ idle in cc

-- what becomes of an idle upload changes nothing of the held ones
pub held_else : (ss : List SeqState) (q : ℕ) (x : SeqState) (hs : List ℕ) → get_or ss q Refused ≡ Idle → IsHeld ss hs → IsHeld (set ss q x) hs
held_else ss q x [] idle held = tt
held_else ss q x (h ∷ hs) idle held =
    let far = apart ss h q held.1 idle in (
      simp length-set held.0,
      get_or-set_other ss q h x Refused far ∙ held.1,
      subst (λ (l : List SeqState). IsHeld l hs) (set_comm ss h q Acknowledged x far)
          (held_else (set ss h Acknowledged) q x hs (get_or-set_other ss h q Acknowledged Refused (λ e. far (sym e)) ∙ idle) held.2),
    )

-- one more is held
pub held_more : (ss : List SeqState) (q : ℕ) (hs : List ℕ) → q < length ss → get_or ss q Refused ≡ Idle → IsHeld ss hs
    → IsHeld (set ss q Outstanding) (hs ++ q ∷ [])
held_more ss q [] short idle held = (simp length-set short, get_or-set_same ss q Outstanding Refused short, tt)
held_more ss q (h ∷ hs) short idle held =
    let far = apart ss h q held.1 idle in (
      simp length-set held.0,
      get_or-set_other ss q h Outstanding Refused far ∙ held.1,
      subst (λ (l : List SeqState). IsHeld l (hs ++ q ∷ [])) (set_comm ss h q Acknowledged Outstanding far)
          (held_more (set ss h Acknowledged) q hs (simp length-set short) (get_or-set_other ss h q Acknowledged Refused (λ e. far (sym e)) ∙ idle) held.2),
    )

-- acknowledging the held ones sends none, and each is outstanding no more
pub held_idle : (ss : List SeqState) (hs : List ℕ) → IsHeld ss hs → idle_from 0 (acknowledge ss (map heard hs)) ≡ idle_from 0 ss
held_idle ss [] held = refl
held_idle ss (h ∷ hs) held =
    held_idle (set ss h Acknowledged) hs held.2 ∙ idle_same ss 0 h Refused Acknowledged held.0 (ap is_idle held.1) refl

pub held_out : (ss : List SeqState) (hs : List ℕ) → IsHeld ss hs → outstanding (acknowledge ss (map heard hs)) + length hs ≡ outstanding ss
held_out ss [] held = omega arith
held_out ss (h ∷ hs) held =
    let rest = held_out (set ss h Acknowledged) hs held.2 in
    let one = count-set is_outstanding ss h Refused Acknowledged held.0 in
    let was : cond {A = ℕ} (is_outstanding (get_or ss h Refused)) 1 0 ≡ 1 = ap (λ (s : SeqState). cond {A = ℕ} (is_outstanding s) 1 0) held.1 in
    omega arith
