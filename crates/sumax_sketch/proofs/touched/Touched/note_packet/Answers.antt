use Rattle.std.proofs.Common.{refl, sym, ap, ◌∙◌}
use Rattle.std.proofs.lemmas.Bool.{false≢true}
use Rattle.sumax_sketch.specs.Touched.{Noted}
use Rattle.sumax_sketch.proofs.touched.Touched.note_packet.Goals as goal

pub returns-then-self : goal.returns-then-self
returns-then-self c = (
  c.args.places.now,
  λ i h. refl,
  λ i j noted. absurd (false≢true (sym noted.few ∙ sym (ap (λ (x : Noted). x.many) c.self.view_is) ∙ c.if-self.true)),
)
