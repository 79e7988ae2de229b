use Rattle.std.proofs.Common.{List, ℕ, refl, ◌∙◌, ap, subst}
use Rattle.lg_disk.specs.Model.{State, IsWritten}
use Rattle.lg_disk.proofs.replay.Replay.byte_at.Goals as goal

pub returns-then-is_written : goal.returns-then-is_written
returns-then-is_written c =
    let ranges = c.deref.ensures.value ∙ ap (λ (s : State). s.written) c.self.view_is in
    let written = subst (λ (l : List (ℕ × ℕ)). IsWritten l c.args.i) ranges (c.is_written.ensures.0 c.if-is_written.true) in
    record { free = λ w. refl; kept = λ short free. absurd (free written) }
