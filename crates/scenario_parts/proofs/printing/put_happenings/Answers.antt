use Rattle.scenario_parts.proofs.printing.put_happenings.Goals as goal

pub put_asks-requires : goal.put_asks-requires
put_asks-requires g c = rw (c.deref-5.ensures.value, c.deref-4.ensures.value) (λ k d inside. let is = c.requires.asks.each k d inside in is.flow)
