-- A reader holds no more bytes after a call of `next`.
use Rattle.std.proofs.Common.{◌≡◌, ℕ, ◌+◌, ◌≤◌, List, length, Option, Some, None, Result, Ok, Err, refl, ap, subst, arith}
use Rattle.std.proofs.lemmas.List.{length-drop}
use Rattle.upload_frame.specs.declared.fault.FrameFault.{FrameFault}
use Rattle.upload_frame.specs.declared.fault.NextFault.{NextFault}
use Rattle.upload_frame.specs.declared.fault.NextFault.TheVariants as next
use Rattle.upload_frame.specs.Front.{Format, Front, front_at}
use Rattle.upload_frame.specs.Machine.{ReaderData, reader_of, step, step_by, Step, Stepped}
use Rattle.upload_frame.proofs.Fronts.{fronts}
use Rattle.bench_parts.specs.Fed.{held}

by_front : {F : Type 0} (format : Format F) (rest : List ℕ) (taken : ℕ) (front : Front F) → front_at format rest ≡ front → held (step_by (reader_of rest taken None) front).1 ≤ taken + length rest
by_front format rest taken (Err g) at = omega arith
by_front format rest taken (Ok None) at = omega arith
by_front format rest taken (Ok (Some x)) at =
    let within = (fronts format).inside rest x.0 x.1 at in
    omega (arith, length-drop x.1 rest, within.0, within.1)

by_fault : {F : Type 0} (format : Format F) (rest : List ℕ) (taken : ℕ) (fault : Option FrameFault) → held (step format (reader_of rest taken fault)).1 ≤ taken + length rest
by_fault format rest taken None = by_front format rest taken (front_at format rest) refl
by_fault format rest taken (Some g) = omega arith

pub holds_no_more : {F : Type 0} (format : Format F) (old new : ReaderData) (result : Result (Option F) NextFault) → Stepped format old result new → held new ≤ held old
holds_no_more {F = F} format old new (Ok o) e =
    subst (λ (r : ReaderData). held r ≤ held old) (ap (λ (s : Step F). s.1) e) (by_fault format old.rest old.taken old.fault)
holds_no_more {F = F} format old new (Err (next.Frame f)) e =
    subst (λ (r : ReaderData). held r ≤ held old) (ap (λ (s : Step F). s.1) e) (by_fault format old.rest old.taken old.fault)
holds_no_more format old new (Err next.Memory) e = subst (λ (r : ReaderData). held r ≤ held old) e (omega arith)
