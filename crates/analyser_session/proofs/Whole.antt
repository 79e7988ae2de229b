-- A session that neither its source nor its sink cuts short.
use Rattle.std.specs.Prelude.{◌≡◌, ◌⊎◌, ℕ, List, Option, None, Some, Result, Ok, Err, IfErr}
use Rattle.std.proofs.Common.{refl, inl, inr}
use Rattle.lg_base.specs.Causes.{Rose}
use Rattle.upload_frame.specs.declared.frame.Frame.{Frame}
use Rattle.analyser_session.specs.declared.fault.SessionFault.{SessionFault}
use Rattle.analyser_session.specs.declared.fault.SessionFault.TheVariants as faults
use Rattle.analyser_session.specs.declared.served.Served.{Served}
use Rattle.analyser_session.specs.Hearing.{ComesTo, EndsAsTold, HearsInput, HearsTold}

-- Of the answers that the input alone doesn't decide, want of memory is the one that is left.
by_input : (input : List ℕ) (result : Result Served SessionFault) (fs : List Frame) (read write : Type 0)
    → HearsInput input result fs → (result ≡ Err faults.ReadFault → read) → (result ≡ Err faults.WriteFault → write)
    → (read → ⊥) → (write → ⊥) → (answer : Result Served SessionFault) (gs : List Frame) → ComesTo input answer gs
    → (result ≡ answer) ⊎ (result ≡ Err faults.Memory)
by_input input (Ok s) fs read write h r w nr nw answer gs comes = inl (h.exactly answer gs comes tt).1
by_input input (Err (faults.Frame at fault)) fs read write h r w nr nw answer gs comes = inl (h.exactly answer gs comes tt).1
by_input input (Err (faults.Early at)) fs read write h r w nr nw answer gs comes = inl (h.exactly answer gs comes tt).1
by_input input (Err faults.TooMany) fs read write h r w nr nw answer gs comes = inl (h.exactly answer gs comes tt).1
by_input input (Err faults.ReadFault) fs read write h r w nr nw answer gs comes = absurd (nr (r refl))
by_input input (Err faults.WriteFault) fs read write h r w nr nw answer gs comes = absurd (nw (w refl))
by_input input (Err faults.Memory) fs read write h r w nr nw answer gs comes = inr refl

abbrev err : SessionFault → Result Served SessionFault
err e = Err e

same : (e fault : SessionFault) → err e ≡ err fault → e ≡ fault
same e fault is = cc

fault_is : {R : Type 0} → (result : Result Served SessionFault) (fault : SessionFault) → IfErr result (λ e. e ≡ fault → R)
    → result ≡ Err fault → R
fault_is (Ok s) fault c is = absurd cc
fault_is (Err e) fault c is = c (same e fault is)

-- A session ends as it is told, where neither of the two failed.
pub whole : (left : Option (List ℕ)) (result : Result Served SessionFault) (fs : List Frame) (a b c d : ℕ)
    → HearsTold left result fs → IfErr result (λ e. e ≡ faults.ReadFault → Rose a b)
    → IfErr result (λ e. e ≡ faults.WriteFault → Rose c d) → (Rose a b → ⊥) → (Rose c d → ⊥) → EndsAsTold left result
whole None result fs a b c d h r w nr nw = tt
whole (Some input) result fs a b c d h r w nr nw =
    by_input input result fs (Rose a b) (Rose c d) h (fault_is result faults.ReadFault r) (fault_is result faults.WriteFault w) nr nw
