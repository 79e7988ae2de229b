use Rattle.std.proofs.Common.{rules, sym, ap, ◌∙◌, ◌∷◌, Some}
use Rattle.atomic_table.specs.Table.{rest}
use Rattle.shared_book.proofs.turns.take_out.Goals as goal

pub exchange-requires : goal.exchange-requires
exchange-requires g c =
    let held = c.requires.held in
    (search rules, (Some held.0, held.1 ∙ ap (λ r. (0, Some held.0) ∷ r) (sym (ap rest held.1))))
