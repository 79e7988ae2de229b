-- A session, frame by frame.
use Rattle.std.specs.Prelude.{◌≡◌, ℕ, ◌+◌, ◌*◌, ◌<◌, ◌≤◌, ◌⊎◌, true, false, List, [], ◌∷◌, ◌++◌, length, take, drop, Option, None, Some, Result, Ok, Err}
use Rattle.std.specs.Io.KnownBytes.{Appends, Consumes}
use Rattle.std.proofs.Common.{refl, sym, ap, subst, ◌∙◌, arith, inl, inr, length-append, length-drop}
use Rattle.std.proofs.KnownBytes.{Consumes-nil, Consumes-trans, Appends-nil, Appends-trans}
use Rattle.std.proofs.lemmas.List.{flat_map_more}
use Rattle.lg_base.specs.Causes.{AppendsFront}
use Rattle.lg_base.specs.declared.faults.Memory.{Memory}
use Rattle.lg_model.specs.Placing.{Shape}
use Rattle.upload_frame.specs.declared.frame.Frame.{Frame}
use Rattle.upload_frame.specs.declared.reply.Reply.{Reply}
use Rattle.upload_frame.specs.Front.{front_at}
use Rattle.upload_frame.specs.Frames.{frames}
use Rattle.upload_frame.specs.Replies.{reply_bytes}
use Rattle.upload_frame.specs.Machine.{ReaderData, reader_of, Took}
use Rattle.upload_frame.proofs.Streams.{took_more, took_one}
use Rattle.lock_rule.specs.declared.view.View.{View}
use Rattle.shared_book.specs.Answering.{IsAnswer}
use Rattle.shared_book.proofs.Keeping.{answer_keeps}
use Rattle.analyser_session.specs.declared.fault.SessionFault.{SessionFault}
use Rattle.analyser_session.specs.declared.fault.SessionFault.TheVariants as faults
use Rattle.analyser_session.specs.declared.limits.TheConstants.{MOST_SESSION_FRAMES}
use Rattle.analyser_session.specs.declared.served.Served.{Served}
use Rattle.analyser_session.specs.Answered.{Answers, is_bye, KeepsPass, NoBye, Rests}
use Rattle.analyser_session.specs.Reads.{Next}
use Rattle.analyser_session.specs.Hearing.{Stops}
use Rattle.analyser_session.specs.Sessions.{CutShort, LacksLast, replies_bytes, Session, Writes}
use Rattle.analyser_session.proofs.Heard.{told}
use Rattle.analyser_session.proofs.OneCourse.{none_push, open_push}
use Rattle.analyser_session.proofs.Resting.{kept, kept_more, ties}
use Rattle.analyser_session.proofs.Seen.{IsRun, run_of}
use Rattle.analyser_session.proofs.Stepping.{short_of}

-- What the loop keeps after so many frames, of which none was a bye.
pub record Going (shape : Shape) (room : ℕ) (v w : View) (source_old source_new sink_old sink_new : Option (List ℕ)) (r : ReaderData)
    (count nth : ℕ) : Type 0 where
  pub taken : List ℕ
  pub answered : List Frame
  pub replies : List Reply
  pub consumed : Consumes source_old source_new taken
  pub clear : r.fault ≡ None
  pub small : length r.rest ≤ 5097
  pub took : Took frames taken answered r.rest
  pub whole : r.taken + length r.rest ≡ length taken
  pub few : r.taken ≤ 1002 * nth
  pub answers : Answers shape room v answered replies w
  pub written : Appends sink_old sink_new (replies_bytes replies)
  pub number : length answered ≡ nth
  pub none : NoBye answered
  pub size : count ≡ length taken

answers_push : (shape : Shape) (room : ℕ) (v m w : View) (fs : List Frame) (rs : List Reply) (f : Frame) (r : Reply) → Answers shape room v fs rs m
    → IsAnswer shape room f m w (Ok r) → Answers shape room v (fs ++ f ∷ []) (rs ++ r ∷ []) w
answers_push shape room v m w [] [] f r s a = (w, subst (λ (x : View). IsAnswer shape room f x w (Ok r)) s a, refl)
answers_push shape room v m w [] (q ∷ rs) f r s a = absurd s
answers_push shape room v m w (g ∷ fs) [] f r s a = absurd s
answers_push shape room v m w (g ∷ fs) (q ∷ rs) f r s a = (s.0, s.1, answers_push shape room s.0 m w fs rs f r s.2 a)

bytes_push : (rs : List Reply) (r : Reply) → replies_bytes rs ++ reply_bytes r ≡ replies_bytes (rs ++ r ∷ [])
bytes_push rs r = flat_map_more reply_bytes [] rs r

one_more : (fs : List Frame) (f : Frame) → length (fs ++ f ∷ []) ≡ length fs + 1
one_more fs f = length-append fs (f ∷ [])

pub going_start : (shape : Shape) (room : ℕ) (v : View) (s k : Option (List ℕ)) (r : ReaderData) → r ≡ reader_of [] 0 None
    → Going shape room v v s s k k r 0 0
going_start shape room v s k r is = record {
  taken = [];
  answered = [];
  replies = [];
  consumed = Consumes-nil s;
  clear = ap (λ (x : ReaderData). x.fault) is;
  small = subst (λ (x : ReaderData). length x.rest ≤ 5097) (sym is) (omega arith);
  took = sym (ap (λ (x : ReaderData). x.rest) is);
  whole = subst (λ (x : ReaderData). x.taken + length x.rest ≡ 0) (sym is) (omega arith);
  few = subst (λ (x : ReaderData). x.taken ≤ 1002 * 0) (sym is) (omega arith);
  answers = refl;
  written = Appends-nil k;
  number = refl;
  none = tt;
  size = refl;
}

-- What a frame more leaves of the reader.
record Moved (taken : List ℕ) (fs : List Frame) (r : ReaderData) (nth : ℕ) : Type 0 where
  pub clear : r.fault ≡ None
  pub small : length r.rest ≤ 5097
  pub took : Took frames taken fs r.rest
  pub whole : r.taken + length r.rest ≡ length taken
  pub few : r.taken ≤ 1002 * nth

moved : (taken piece : List ℕ) (fs : List Frame) (r r' : ReaderData) (f : Frame) (k nth : ℕ) → Took frames taken fs r.rest
    → r.taken + length r.rest ≡ length taken → r.taken ≤ 1002 * nth → front_at frames (r.rest ++ piece) ≡ Ok (Some (f, k))
    → r' ≡ reader_of (drop k (r.rest ++ piece)) (r.taken + k) None → length (drop k (r.rest ++ piece)) ≤ 5097
    → Moved (taken ++ piece) (fs ++ f ∷ []) r' (nth + 1)
moved taken piece fs r r' f k nth took whole few at is small =
    let bytes = r.rest ++ piece in
    let w = short_of bytes f k at in
    let one = took_one frames (taken ++ piece) fs bytes f k (took_more frames taken fs r.rest piece took) at in
    let sizes : (r.taken + k) + length (drop k bytes) ≡ length (taken ++ piece) =
    omega (arith, length-drop k bytes, length-append r.rest piece, length-append taken piece, whole, w.there) in
    let short : r.taken + k ≤ 1002 * (nth + 1) = omega (arith, few, w.most) in
    subst (λ (x : ReaderData). Moved (taken ++ piece) (fs ++ f ∷ []) x (nth + 1)) (sym is)
    (record { clear = refl; small = small; took = one; whole = sizes; few = short })

module _ (shape : Shape) (room : ℕ) (v w : View) (s0 s k0 k : Option (List ℕ)) (r : ReaderData) (count nth : ℕ)
    (i : Going shape room v w s0 s k0 k r count nth) where
  pub going_more : (w' : View) (s' k' : Option (List ℕ)) (r' : ReaderData) (count' : ℕ) (f : Frame) (reply : Reply) → Next s s' r r' count count' (Ok f)
      → IsAnswer shape room f w w' (Ok reply) → Appends k k' (reply_bytes reply) → is_bye f ≡ false
      → Going shape room v w' s0 s' k0 k' r' count' (nth + 1)
  going_more w' s' k' r' count' f reply n a out bye =
      let m = moved i.taken n.piece i.answered r r' f n.gets.0 nth i.took i.whole i.few n.gets.1 n.gets.2 n.gets.3 in
      record {
        taken = i.taken ++ n.piece;
        answered = i.answered ++ f ∷ [];
        replies = i.replies ++ reply ∷ [];
        consumed = Consumes-trans s0 s s' i.taken n.piece i.consumed n.consumed;
        clear = m.clear;
        small = m.small;
        took = m.took;
        whole = m.whole;
        few = m.few;
        answers = answers_push shape room v w w' i.answered i.replies f reply i.answers a;
        written = subst (Appends k0 k') (bytes_push i.replies reply)
            (Appends-trans k0 k k' (replies_bytes i.replies) (reply_bytes reply) i.written out);
        number = one_more i.answered f ∙ ap (λ (x : ℕ). x + 1) i.number;
        none = none_push i.answered f i.none bye;
        size = omega (arith, n.count, i.size, length-append i.taken n.piece);
      }

  -- It ended at a frame that was answered.
  ended : (w' : View) (s' k' : Option (List ℕ)) (r' : ReaderData) (count' : ℕ) (f : Frame) (reply : Reply) (result : Result Served SessionFault)
      → nth < MOST_SESSION_FRAMES → Next s s' r r' count count' (Ok f) → IsAnswer shape room f w w' (Ok reply)
      → Writes result k0 k' (i.replies ++ reply ∷ [])
      → ((taken : ℕ) (rest : List ℕ) → Stops result s' taken (i.answered ++ f ∷ []) rest) → Session shape room v w' s0 s' k0 k' result
  ended w' s' k' r' count' f reply result room_left n a writes stops =
      let m = moved i.taken n.piece i.answered r r' f n.gets.0 nth i.took i.whole i.few n.gets.1 n.gets.2 n.gets.3 in
      let all = answers_push shape room v w w' i.answered i.replies f reply i.answers a in
      let fs = i.answered ++ f ∷ [] in
      let rs = i.replies ++ reply ∷ [] in
      let taken = i.taken ++ n.piece in
      let consumed = Consumes-trans s0 s s' i.taken n.piece i.consumed n.consumed in
      let few : length fs ≤ MOST_SESSION_FRAMES = omega (arith, room_left, i.number, one_more i.answered f) in
      let ends = stops (length taken) r'.rest in
      record {
        frames = fs;
        replies = rs;
        keeps = kept v w' (length fs) few (run_of shape room v w' fs rs all);
        hears = record {
          taken = taken;
          rest = r'.rest;
          consumed = consumed;
          took = m.took;
          near = m.small;
          few = few;
          stops = ends;
          told = told s0 s' result taken fs r'.rest consumed m.took few ends;
        };
        answers = record { last = w'; answers = all; rests = inl refl };
        written = writes;
        ties = ties shape room v w' w' fs rs all (inl refl);
      }

  pub exit_bye : (w' : View) (s' k' : Option (List ℕ)) (r' : ReaderData) (count' : ℕ) (f : Frame) (reply : Reply) (served : Served)
      → nth < MOST_SESSION_FRAMES → Next s s' r r' count count' (Ok f) → IsAnswer shape room f w w' (Ok reply) → Appends k k' (reply_bytes reply)
      → is_bye f ≡ true → served.frames ≡ nth + 1 → Session shape room v w' s0 s' k0 k' (Ok served)
  exit_bye w' s' k' r' count' f reply served room_left n a out bye many =
      let writes : Appends k0 k' (replies_bytes (i.replies ++ reply ∷ [])) =
      subst (Appends k0 k') (bytes_push i.replies reply) (Appends-trans k0 k k' (replies_bytes i.replies) (reply_bytes reply) i.written out) in
      let size : served.frames ≡ length (i.answered ++ f ∷ []) = many ∙ sym (one_more i.answered f ∙ ap (λ (x : ℕ). x + 1) i.number) in
      ended w' s' k' r' count' f reply (Ok served) room_left n a writes (λ taken rest. ((i.answered, f, refl, i.none, bye), size))

  -- A reply was not written whole.
  pub exit_send : (w' : View) (s' k' : Option (List ℕ)) (r' : ReaderData) (count' : ℕ) (f : Frame) (reply : Reply) (e : SessionFault)
      → nth < MOST_SESSION_FRAMES → Next s s' r r' count count' (Ok f) → IsAnswer shape room f w w' (Ok reply) → AppendsFront k k' (reply_bytes reply)
      → (e ≡ faults.Memory → k' ≡ k) → (e ≡ faults.Memory) ⊎ (e ≡ faults.WriteFault) → Session shape room v w' s0 s' k0 k' (Err e)
  exit_send w' s' k' r' count' f reply e room_left n a out same which = by which
    where
      cut : CutShort k0 k' (i.replies ++ reply ∷ [])
      cut = record {
        whole = i.replies;
        last = reply;
        parts = refl;
        count = out.0;
        front = out.1;
        written = Appends-trans k0 k k' (replies_bytes i.replies) (take out.0 (reply_bytes reply)) i.written out.2;
      }

      lacks : e ≡ faults.Memory → LacksLast k0 k' (i.replies ++ reply ∷ [])
      lacks is = record {
        whole = i.replies;
        last = reply;
        parts = refl;
        written = subst (λ (x : Option (List ℕ)). Appends k0 x (replies_bytes i.replies)) (sym (same is)) i.written;
      }

      by : (e ≡ faults.Memory) ⊎ (e ≡ faults.WriteFault) → Session shape room v w' s0 s' k0 k' (Err e)
      by (inl is) =
          subst (λ (d : SessionFault). Session shape room v w' s0 s' k0 k' (Err d)) (sym is)
          (ended w' s' k' r' count' f reply (Err faults.Memory) room_left n a (inr (lacks is)) (λ taken rest. open_push i.answered f i.none))
      by (inr is) =
          subst (λ (d : SessionFault). Session shape room v w' s0 s' k0 k' (Err d)) (sym is)
          (ended w' s' k' r' count' f reply (Err faults.WriteFault) room_left n a cut (λ taken rest. open_push i.answered f i.none))

  run : IsRun v w (length i.answered)
  run = run_of shape room v w i.answered i.replies i.answers

  same_pass : nth ≤ MOST_SESSION_FRAMES → KeepsPass v w
  same_pass few = kept v w (length i.answered) (omega (arith, few, i.number)) run

  -- It stopped, and no frame was answered that is not counted.
  stopped : (w' : View) (s' : Option (List ℕ)) (piece : List ℕ) (d : SessionFault) → nth ≤ MOST_SESSION_FRAMES → KeepsPass v w'
      → length (r.rest ++ piece) ≤ 5097 → Consumes s s' piece
      → Rests shape room w w' → Writes (Err d) k0 k i.replies → Stops (Err d) s' (length (i.taken ++ piece)) i.answered (r.rest ++ piece)
      → Session shape room v w' s0 s' k0 k (Err d)
  stopped w' s' piece d few keeps near consumed rests writes stops =
      let taken = i.taken ++ piece in
      let rest = r.rest ++ piece in
      let all = Consumes-trans s0 s s' i.taken piece i.consumed consumed in
      let took = took_more frames i.taken i.answered r.rest piece i.took in
      let less : length i.answered ≤ MOST_SESSION_FRAMES = omega (arith, few, i.number) in
      record {
        frames = i.answered;
        replies = i.replies;
        keeps = keeps;
        hears = record {
          taken = taken;
          rest = rest;
          consumed = all;
          took = took;
          near = near;
          few = less;
          stops = stops;
          told = told s0 s' (Err d) taken i.answered rest all took less stops;
        };
        answers = record { last = w; answers = i.answers; rests = rests };
        written = writes;
        ties = ties shape room v w w' i.answered i.replies i.answers rests;
      }

  -- No memory was found for the answer.
  pub exit_answer : (w' : View) (s' : Option (List ℕ)) (r' : ReaderData) (count' : ℕ) (f : Frame) (e : Memory) → nth < MOST_SESSION_FRAMES
      → Next s s' r r' count count' (Ok f) → IsAnswer shape room f w w' (Err e) → Session shape room v w' s0 s' k0 k (Err faults.Memory)
  exit_answer w' s' r' count' f e room_left n a =
      let keeps = kept_more v w w' (length i.answered) (omega (arith, room_left, i.number)) run (answer_keeps shape room f w w' (Err e) a) in
      stopped w' s' n.piece faults.Memory (omega (arith, room_left)) keeps n.near n.consumed (inr (f, e, a)) (inl i.written) (inl i.none)

  -- It stopped, and the pass is as it was.
  still : (s' : Option (List ℕ)) (piece : List ℕ) (d : SessionFault) → nth ≤ MOST_SESSION_FRAMES → length (r.rest ++ piece) ≤ 5097
      → Consumes s s' piece → Writes (Err d) k0 k i.replies → Stops (Err d) s' (length (i.taken ++ piece)) i.answered (r.rest ++ piece)
      → Session shape room v w s0 s' k0 k (Err d)
  still s' piece d few near consumed writes stops = stopped w s' piece d few (same_pass few) near consumed (inl refl) writes stops

  -- No frame was taken.
  pub exit_next : (s' : Option (List ℕ)) (r' : ReaderData) (count' : ℕ) (e : SessionFault) → nth < MOST_SESSION_FRAMES
      → Next s s' r r' count count' (Err e) → Session shape room v w s0 s' k0 k (Err e)
  exit_next s' r' count' (faults.Frame at fault) room_left n =
      let less : length i.answered < MOST_SESSION_FRAMES = omega (arith, i.number, room_left) in
      let size : at + length (r.rest ++ n.piece) ≡ length (i.taken ++ n.piece) =
      omega (arith, n.gets.1, i.whole, length-append i.taken n.piece, length-append r.rest n.piece) in
      still s' n.piece (faults.Frame at fault) (omega (arith, room_left)) n.near n.consumed i.written ((i.none, less), n.gets.0, size)
  exit_next s' r' count' (faults.Early at) room_left n =
      let less : length i.answered < MOST_SESSION_FRAMES = omega (arith, i.number, room_left) in
      let size : at ≡ length (i.taken ++ n.piece) = omega (arith, n.gets.1, n.count, i.size, length-append i.taken n.piece) in
      still s' n.piece (faults.Early at) (omega (arith, room_left)) n.near n.consumed i.written ((i.none, less), n.gets.0, size, n.gets.2)
  exit_next s' r' count' faults.TooMany room_left n = absurd n.gets
  exit_next s' r' count' faults.ReadFault room_left n =
      let less : length i.answered < MOST_SESSION_FRAMES = omega (arith, i.number, room_left) in
      still s' n.piece faults.ReadFault (omega (arith, room_left)) n.near n.consumed i.written (i.none, less)
  exit_next s' r' count' faults.WriteFault room_left n = absurd n.gets
  exit_next s' r' count' faults.Memory room_left n =
      still s' n.piece faults.Memory (omega (arith, room_left)) n.near n.consumed (inl i.written) (inl i.none)

  -- As many frames as a session has.
  pub exit_many : nth ≡ MOST_SESSION_FRAMES → Session shape room v w s0 s k0 k (Err faults.TooMany)
  exit_many is =
      let near : length (r.rest ++ []) ≤ 5097 = omega (arith, i.small, length-append r.rest []) in
      still s [] faults.TooMany (omega (arith, is)) near (Consumes-nil s) i.written (i.none, i.number ∙ is)

pub which_of : {P : Type 0} (e : SessionFault) → (e ≡ faults.Memory) ⊎ ((e ≡ faults.WriteFault) × P) → (e ≡ faults.Memory) ⊎ (e ≡ faults.WriteFault)
which_of e (inl is) = inl is
which_of e (inr is) = inr is.0
