-- A reader of a stream that comes in pieces, and the whole stream, of which no pieces are told.
use Rattle.std.specs.Prelude.{◌≡◌, ℕ, ◌+◌, ◌≤◌, List, [], ◌∷◌, ◌++◌, drop, length, Option, None, Some, Result, Ok, Err}
use Rattle.upload_frame.specs.declared.fault.FrameFault.{FrameFault}
use Rattle.upload_frame.specs.declared.fault.NextFault.{NextFault}
use Rattle.upload_frame.specs.declared.fault.NextFault.TheVariants as next
use Rattle.upload_frame.specs.Front.{Format, Front, front_at}

-- What a function returned, seen by view, is what reading gives, unless memory ran out.
abbrev pub FailsBy : {Y : Type 0} → NextFault → Result Y FrameFault → Type 0
FailsBy (next.Frame f) read = read ≡ Err f
FailsBy next.Memory read = Unit {0}

abbrev pub GivesNext : {X Y : Type 0} → (X → Y) → Result X NextFault → Result Y FrameFault → Type 0
GivesNext view (Ok x) read = read ≡ Ok (view x)
GivesNext view (Err e) read = FailsBy e read

-- A reader: the bytes that are not yet frames, how many bytes were, and the fault that ended it.
pub record ReaderData : Type 0 where
  pub rest : List ℕ
  pub taken : ℕ
  pub fault : Option FrameFault

abbrev pub reader_of : List ℕ → ℕ → Option FrameFault → ReaderData
reader_of rest taken fault = record { rest = rest; taken = taken; fault = fault }

abbrev pub fed_with : ReaderData → List ℕ → Option FrameFault → ReaderData
fed_with r piece None = record r { rest = r.rest ++ piece }
fed_with r piece (Some f) = r

-- A reader after a piece, of which nothing is kept after a fault.
abbrev pub fed : ReaderData → List ℕ → ReaderData
fed r piece = fed_with r piece r.fault

abbrev pub Step : Type 0 → Type 0
Step F = Result (Option F) FrameFault × ReaderData

abbrev pub step_by : {F : Type 0} → ReaderData → Front F → Step F
step_by r (Ok None) = (Ok None, r)
step_by r (Ok (Some x)) = (Ok (Some x.0), reader_of (drop x.1 r.rest) (r.taken + x.1) r.fault)
step_by r (Err f) = (Err f, reader_of [] r.taken (Some f))

abbrev pub step_with : {F : Type 0} → Format F → ReaderData → Option FrameFault → Step F
step_with format r None = step_by r (front_at format r.rest)
step_with format r (Some f) = (Err f, r)

-- What the next frame is, and the reader after it.
abbrev pub step : {F : Type 0} → Format F → ReaderData → Step F
step format r = step_with format r r.fault

-- A call of `next` did that, unless memory ran out, and then nothing.
abbrev pub Stepped : {F : Type 0} → Format F → ReaderData → Result (Option F) NextFault → ReaderData → Type 0
Stepped format old (Ok o) new = step format old ≡ (Ok o, new)
Stepped format old (Err (next.Frame f)) new = step format old ≡ (Err f, new)
Stepped format old (Err next.Memory) new = old ≡ new

-- ---- whole streams

-- None where the rest is unfinished, else the first fault.
abbrev pub Ends : {F : Type 0} → Format F → List ℕ → Option FrameFault → Type 0
Ends format rest None = front_at format rest ≡ Ok None
Ends format rest (Some f) = front_at format rest ≡ Err f

-- The stream gives these frames and ends so.
abbrev pub Streams : {F : Type 0} → Format F → List ℕ → List F → Option FrameFault → Type 0
Streams format stream [] end = Ends format stream end
Streams format stream (f ∷ fs) end = (len : ℕ) × (front_at format stream ≡ Ok (Some (f, len))) × Streams format (drop len stream) fs end

-- The stream gives these frames, and then goes on with that rest.
abbrev pub Took : {F : Type 0} → Format F → List ℕ → List F → List ℕ → Type 0
Took format stream [] rest = stream ≡ rest
Took format stream (f ∷ fs) rest = (len : ℕ) × (front_at format stream ≡ Ok (Some (f, len))) × Took format (drop len stream) fs rest

abbrev pub FollowsBy : {F : Type 0} → Format F → List ℕ → List F → List ℕ → Option FrameFault → Type 0
FollowsBy format stream fs rest None = Took format stream fs rest
FollowsBy format stream fs rest (Some f) = (left : List ℕ) × Took format stream fs left × (front_at format left ≡ Err f)

-- No further frame is there yet.
abbrev pub IsDry : {F : Type 0} → Format F → List ℕ → Option FrameFault → Type 0
IsDry format rest None = front_at format rest ≡ Ok None
IsDry format rest (Some f) = Unit {0}

-- A reader that was fed this stream, in any pieces, and gave these frames.
pub record Follows {F : Type 0} (format : Format F) (stream : List ℕ) (fs : List F) (r : ReaderData) : Type 0 where
  pub frames : FollowsBy format stream fs r.rest r.fault
  pub size : r.taken + length r.rest ≤ length stream

-- What a reader does with the front that was read: it takes the frame, or keeps the fault, or changes nothing.
abbrev pub Settled : {F : Type 0} → ReaderData → Result (Option (F × ℕ)) NextFault → Result (Option F) NextFault → ReaderData → Type 0
Settled old (Ok None) result new = (result ≡ Ok None) × (new ≡ old)
Settled old (Ok (Some x)) result new = (result ≡ Ok (Some x.0)) × (new ≡ reader_of (drop x.1 old.rest) (old.taken + x.1) old.fault)
Settled old (Err (next.Frame f)) result new = (result ≡ Err (next.Frame f)) × (new ≡ reader_of [] old.taken (Some f))
Settled old (Err next.Memory) result new = (result ≡ Err next.Memory) × (new ≡ old)
