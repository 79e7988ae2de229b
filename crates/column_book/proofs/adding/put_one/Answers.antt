use Rattle.std.specs.Prelude.{◌≡◌, ◌&&◌, ◌++◌, ◌∷◌, [], Some, None, cond, is_none}
use Rattle.std.proofs.Common.{sym, ap, ◌∙◌}
use Rattle.lg_model.specs.declared.column.Key.{Key}
use Rattle.sketchlet_wire.specs.Uploads.{same_column_key}
use Rattle.column_book.specs.Blocks.{kept_at}
use Rattle.column_book.proofs.Grown.{grown_one, none_is}
use Rattle.column_book.proofs.adding.put_one.Goals as goal

pub returns-then-new-clause-grown : goal.returns-then-new-clause-grown
returns-then-new-clause-grown c =
    let old = c.args.blocks.now.map.entries in
    let x = c.args.column.now in
    let free : kept_at old x.key ≡ None = none_is (kept_at old x.key) (ap (λ (k : Key). is_none (kept_at old k)) (sym c.key.ensures.value) ∙ sym c.put-new.ensures.told ∙ c.if-new.true) in
    rw c.if-new.true (grown_one old c.args.keys.now.items c.put-new.new.self.map.entries c.push_reserved.new.self.items x c.requires.known free
    (λ q. c.put-new.ensures.put q ∙ ap (λ b. cond (b && same_column_key c.key.result q) (Some c.filled.result.now) (kept_at old q)) c.if-new.true
    ∙ ap (λ (k : Key). cond (same_column_key k q) (Some c.filled.result.now) (kept_at old q)) c.key.ensures.value
    ∙ ap (λ bs. cond (same_column_key x.key q) (Some bs) (kept_at old q)) c.filled.ensures)
    c.put-new.ensures.stays
    (c.push_reserved.ensures.items ∙ ap (λ (k : Key). c.args.keys.now.items ++ k ∷ []) c.key-then-new.ensures.value))
