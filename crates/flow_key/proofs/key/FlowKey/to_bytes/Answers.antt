use Rattle.std.proofs.Common.{◌≡◌, ◌∙◌, ap, ℕ, List, [], ◌∷◌, ◌++◌, length, get_or, refl, arith}
use Rattle.flow_key.proofs.key.FlowKey.to_bytes.Goals as goal

four_on : (s tail : List ℕ) → length s ≡ 4 → get_or s 0 0 ∷ get_or s 1 0 ∷ get_or s 2 0 ∷ get_or s 3 0 ∷ tail ≡ s ++ tail
four_on [] tail h = absurd (omega arith)
four_on (a ∷ []) tail h = absurd (omega arith)
four_on (a ∷ b ∷ []) tail h = absurd (omega arith)
four_on (a ∷ b ∷ c ∷ []) tail h = absurd (omega arith)
four_on (a ∷ b ∷ c ∷ d ∷ []) tail h = refl
four_on (a ∷ b ∷ c ∷ d ∷ e ∷ s) tail h = absurd (omega arith)

pub returns : goal.returns
returns c =
    let src : length c.args.self.now.src ≡ 4 = omega arith in
    let dst : length c.args.self.now.dst ≡ 4 = omega arith in
    rw (c.to_be_bytes.ensures, c.to_be_bytes-2.ensures) (four_on c.args.self.now.src _ src ∙ ap (λ (t : List ℕ). c.args.self.now.src ++ t) (four_on c.args.self.now.dst _ dst))
