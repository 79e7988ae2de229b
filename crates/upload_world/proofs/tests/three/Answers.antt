use Rattle.std.proofs.Common.{◌≢◌, zero, suc, [], ◌∷◌, ◌++◌, ◌∙◌, List, ap, subst, sym, arith}
use Rattle.uploader_core.specs.Uploader.{UploaderState}
use Rattle.upload_world.specs.Law.{HostsDiffer}
use Rattle.upload_world.proofs.tests.three.Goals as goal

three_differ : (a b c : UploaderState) → a.host ≢ b.host → a.host ≢ c.host → b.host ≢ c.host → HostsDiffer (a ∷ b ∷ c ∷ [])
three_differ a b c ab ac bc zero zero d lt le = absurd (omega arith)
three_differ a b c ab ac bc zero (suc zero) d lt le = ab
three_differ a b c ab ac bc zero (suc (suc zero)) d lt le = ac
three_differ a b c ab ac bc zero (suc (suc (suc j))) d lt le = absurd (omega arith)
three_differ a b c ab ac bc (suc zero) zero d lt le = absurd (omega arith)
three_differ a b c ab ac bc (suc zero) (suc zero) d lt le = absurd (omega arith)
three_differ a b c ab ac bc (suc zero) (suc (suc zero)) d lt le = bc
three_differ a b c ab ac bc (suc zero) (suc (suc (suc j))) d lt le = absurd (omega arith)
three_differ a b c ab ac bc (suc (suc i)) j d lt le = absurd (omega arith)

pub returns-clause-hosts : goal.returns-clause-hosts
returns-clause-hosts c =
    let one = c.in_ok-push.ensures.items ∙ ap (λ (us : List UploaderState). us ++ c.args.first ∷ []) c.new-uploaders.ensures.items in
    let two = c.in_ok-push-2.ensures.items ∙ ap (λ (us : List UploaderState). us ++ c.args.second ∷ []) one in
    let all = c.in_ok-push-3.ensures.items ∙ ap (λ (us : List UploaderState). us ++ c.args.third ∷ []) two in
    subst HostsDiffer (sym all) (three_differ c.args.first c.args.second c.args.third c.requires.one c.requires.two c.requires.three)
