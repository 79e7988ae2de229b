use Rattle.std.proofs.Common.{◌≡◌, ◌∙◌, ap, true, nat_lt, length, not, refl, rules, tests}
use Rattle.host_collect.proofs.PackedKeys.{can_by_keys}
use Rattle.host_collect.proofs.packed_uploads.joins.Goals as goal

pub returns-then-held-lt-MOST_UPLOAD_COLUMNS : goal.returns-then-held-lt-MOST_UPLOAD_COLUMNS
returns-then-held-lt-MOST_UPLOAD_COLUMNS c = λ cs x held_is key_is.
    let few : nat_lt (length c.args.held.now) 16 ≡ true = search (rules, tests) in
    ap not c.has_key.ensures ∙ rw few refl ∙ can_by_keys c.args.held.now c.args.key.now cs x held_is key_is
