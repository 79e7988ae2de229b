use Rattle.std.proofs.Common.{◌≡◌, ℕ, zero, suc, refl, arith, replicate}
use Rattle.uploader_core.specs.declared.state.SeqState.TheVariants.{Idle}
use Rattle.link_deliveries.specs.Waiting.{is_refused, refusals}
use Rattle.link_deliveries.proofs.Idle.{count-cons}

none_refused : (n : ℕ) → refusals (replicate n Idle) ≡ 0
none_refused zero = refl
none_refused (suc n) =
    let one = count-cons is_refused Idle (replicate n Idle) in
    let rest = none_refused n in
    omega arith
