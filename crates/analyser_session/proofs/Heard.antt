-- What a session hears of the whole input.
use Rattle.std.specs.Prelude.{◌≡◌, ℕ, ◌≤◌, List, [], ◌++◌, length, Option, None, Some, Result, Ok, Err}
use Rattle.std.proofs.Common.{refl, sym, ap, subst, ◌∙◌, arith, append-nil, length-append}
use Rattle.std.specs.Io.KnownBytes.{Consumes}
use Rattle.upload_frame.specs.declared.frame.Frame.{Frame}
use Rattle.upload_frame.specs.Front.{front_at}
use Rattle.upload_frame.specs.Frames.{frames}
use Rattle.upload_frame.specs.Law.{IsSettled}
use Rattle.upload_frame.specs.Machine.{Took}
use Rattle.upload_frame.proofs.Fronts.{fronts}
use Rattle.upload_frame.proofs.Streams.{took_more}
use Rattle.analyser_session.specs.declared.fault.SessionFault.{SessionFault}
use Rattle.analyser_session.specs.declared.fault.SessionFault.TheVariants as faults
use Rattle.analyser_session.specs.declared.served.Served.{Served}
use Rattle.analyser_session.specs.declared.limits.TheConstants.{MOST_SESSION_FRAMES}
use Rattle.analyser_session.specs.Hearing.{HearsTold, Stops}
use Rattle.analyser_session.proofs.OneCourse.{front_of, one_end, open_of}

stops_on : (result : Result Served SessionFault) (taken left : List ℕ) (fs : List Frame) (rest : List ℕ)
    → Stops result (Some left) (length taken) fs rest → Stops result (Some []) (length (taken ++ left)) fs (rest ++ left)
stops_on (Ok s) taken left fs rest h = h
stops_on (Err (faults.Frame at fault)) taken left fs rest h = (
  h.0,
  (fronts frames).more rest left (subst IsSettled (sym h.1) tt) ∙ h.1,
  omega (arith, h.2, length-append rest left, length-append taken left),
)
stops_on (Err (faults.Early at)) taken left fs rest h =
    let none : rest ++ left ≡ rest = ap (λ (l : List ℕ). rest ++ l) h.3 ∙ append-nil rest in
    (h.0, ap (front_at frames) none ∙ h.1, omega (arith, h.2, ap length h.3, length-append taken left), refl)
stops_on (Err faults.TooMany) taken left fs rest h = h
stops_on (Err faults.ReadFault) taken left fs rest h = h
stops_on (Err faults.WriteFault) taken left fs rest h = h
stops_on (Err faults.Memory) taken left fs rest h = h

pub told : (source_old source_new : Option (List ℕ)) (result : Result Served SessionFault) (taken : List ℕ) (fs : List Frame) (rest : List ℕ)
    → Consumes source_old source_new taken → Took frames taken fs rest → length fs ≤ MOST_SESSION_FRAMES → Stops result source_new (length taken) fs rest
    → HearsTold source_old result fs
told None source_new result taken fs rest consumed took few stops = tt
told (Some input) None result taken fs rest consumed took few stops = absurd consumed
told (Some input) (Some left) result taken fs rest consumed took few stops =
    let all = rest ++ left in
    let whole : Took frames input fs all = subst (λ (bytes : List ℕ). Took frames bytes fs all) (sym consumed) (took_more frames taken fs rest left took) in
    let ends : Stops result (Some []) (length input) fs all =
    subst (λ (bytes : List ℕ). Stops result (Some []) (length bytes) fs all) (sym consumed) (stops_on result taken left fs rest stops) in
    record {
      front = λ answer gs c. front_of input answer fs gs all whole (open_of result (Some []) (length input) fs all ends) few c;
      exactly = λ answer gs c of_input. one_end input result answer fs gs (record { rest = all; took = whole; few = few; stops = ends; decided = of_input }) c;
    }
