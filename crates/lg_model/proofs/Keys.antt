-- Two keys that the test calls the same are one.
use Rattle.std.specs.Prelude.{◌≡◌, true, ◌&&◌, Bool}
use Rattle.std.specs.Bool.{Decides}
use Rattle.std.specs.Str.{bytes_eq}
use Rattle.std.proofs.Common.{refl, ap}
use Rattle.std.proofs.lemmas.Bool.Decides.{Decides-and, Decides-eqb}
use Rattle.std.proofs.lemmas.Slice.Eq.{bytes_eq-Decides}
use Rattle.flow_key.specs.declared.key.FlowKey.{FlowKey}
use Rattle.lg_model.specs.Placing.{same_key}

pub same_key-true : (f g : FlowKey) → same_key f g ≡ true → f ≡ g
same_key-true f g h =
    let all = Decides-and _ _ (bytes_eq-Decides f.src g.src) (Decides-and _ _ (bytes_eq-Decides f.dst g.dst)
    (Decides-and _ _ (Decides-eqb f.proto g.proto) (Decides-and _ _ (Decides-eqb f.sport g.sport) (Decides-eqb f.dport g.dport)))) in
    let same = all.0 h in
    λ i. record { src = same.0 i; dst = same.1.0 i; proto = same.1.1.0 i; sport = same.1.1.1.0 i; dport = same.1.1.1.1 i }
