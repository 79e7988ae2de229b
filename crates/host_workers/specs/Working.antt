-- What the workers of a run do.
use Rattle.std.specs.Prelude.{◌≡◌, ℕ, ◌+◌, ◌*◌, ◌<◌, ◌≤◌, List, [], ◌∷◌, length, map, reverse, ◌++◌, slice_index_or, Option, Result}
use Rattle.std.specs.Vec.{vec_capacity}
use Rattle.atomic_table.specs.Seated.{TableId}
use Rattle.lg_model.specs.Placing.{Shape}
use Rattle.column_book.specs.declared.entry.Entry.{Entry}
use Rattle.uploader_core.specs.declared.state.SeqState.{SeqState}
use Rattle.uploader_core.specs.Uploader.{IsUploader}
use Rattle.link_deliveries.specs.Waiting.{refusals}
use Rattle.link_deliveries.specs.Deliveries.{deliveries}
use Rattle.lock_rule.specs.declared.view.Doing.TheVariants.{Idle}
use Rattle.lock_rule.specs.declared.view.View.{View}
use Rattle.lock_rule.specs.Closing.{Closes}
use Rattle.lock_rule.specs.Views.{most_calls, of, new_pass, joined_of}
use Rattle.upload_world.specs.declared.fault.WorkFault.{WorkFault}
use Rattle.upload_world.specs.Pumping.{IsSame}
use Rattle.upload_world.specs.Pumps.{Pumps}
use Rattle.book_laws.specs.Workers.{Worker, AreJoined}
use Rattle.host_workers.specs.declared.sender.Sender.{Sender}
use Rattle.host_workers.specs.declared.sender.Job.{Job}
use Rattle.host_workers.specs.declared.running.Seats.{Seats}

-- ---- before

-- A new pass has calls enough for the sender's uploads over its link, and none of these was refused.
pub record HasCallsFor (s : Sender) : Type 0 where
  pub calls : 2 * (length s.uploader.uploads + length s.letters.now) ≤ most_calls
  pub none : refusals s.uploader.states ≡ 0

-- A job is of that book, and its pass has calls enough.
pub record IsReady (book : TableId) (j : Job) : Type 0 where
  pub book_is : j.pass.book ≡ book
  pub calls : j.pass.view.begun + 2 * (length j.sender.uploader.uploads + length j.sender.letters.now) ≤ most_calls
  pub none : refusals j.sender.uploader.states ≡ 0

-- The jobs of senders, whose passes are new ones with the numbers from n on.
abbrev pub jobs_of : TableId → (seen : List Entry) → (n : ℕ) → List Sender → List Job
jobs_of book seen n [] = []
jobs_of book seen n (s ∷ ss) =
    record { pass = record { book = book; view = new_pass n Idle seen 0 }; sender = s } ∷ jobs_of book seen (n + 1) ss

-- There is room for that many workers.
pub record HasSeats (count : ℕ) (s : Seats) : Type 0 where
  pub no_jobs : s.jobs.items ≡ []
  pub none_done : s.done.items ≡ []
  pub jobs : count ≤ vec_capacity s.jobs
  pub done : count ≤ vec_capacity s.done

-- ---- after

-- What the work of a host does to its job.
pub record Works (shape : Shape) (room : ℕ) (i j : Job) : Type 0 where
  pub book_is : j.pass.book ≡ i.pass.book
  pub letters_are : j.sender.letters ≡ i.sender.letters
  pub same : IsSame i.sender.uploader j.sender.uploader
  pub uploader : IsUploader j.sender.uploader
  pub pumps : Pumps shape room i.sender.uploader.uploads (deliveries i.sender.uploader.states i.sender.letters.now) i.sender.letters.now
      i.pass.view j.pass.view i.sender.uploader.states j.sender.uploader.states j.sender.result

-- What the first pass knows when these were joined into it, one after the other.
pub record JoinsAll (v : View) (ws : List View) (u : View) : Type 0 where
  pub number : u.number ≡ v.number
  pub mark : u.mark ≡ v.mark
  pub made : u.made ≡ v.made
  pub joined : u.joined ≡ reverse (map joined_of ws) ++ v.joined
  pub own : of v.number u.seen ≡ of v.number v.seen

-- How far a sender's uploads are, and how the work on them ended.
abbrev pub outcome_of : Sender → List SeqState × Result (Unit {0}) WorkFault
outcome_of s = (s.uploader.states, s.result)

-- The worker of a sender pumped its uploads, with a new pass of number n that had seen these entries.
pub record IsWorkOf (shape : Shape) (room n : ℕ) (first : List Entry) (s : Sender) (p : Worker) : Type 0 where
  pub paired : length p.states ≡ length s.uploader.uploads
  pub pumps : Pumps shape room s.uploader.uploads (deliveries s.uploader.states s.letters.now) s.letters.now
      (new_pass n Idle first 0) p.view s.uploader.states p.states p.result

-- The work of all senders, from the entries that the book began with to those of the closed journal: there is a worker
-- for each sender, in their order, whose passes were joined before the book was closed. The senders come back in their
-- order, with their uploads and how the work of each ended.
pub record HaveWorked (shape : Shape) (room : ℕ) (first : List Entry) (before after : List Sender) (entries : List Entry)
    (fault : Option Entry) : Type 0 where
  pub workers : List Worker
  pub view : View
  pub many : length workers ≡ length before
  pub each : (i : ℕ) (s : Sender) (d : Worker) → i < length before
      → IsWorkOf shape room (i + 2) first (slice_index_or before i s) (slice_index_or workers i d)
  pub joined : AreJoined first view workers
  pub closes : Closes first view entries fault
  pub back : length after ≡ length before
  pub same : (i : ℕ) (s : Sender) → i < length before
      → IsSame (slice_index_or before i s).uploader (slice_index_or after i s).uploader
  pub ended : map (λ (p : Worker). (p.states, p.result)) workers ≡ map outcome_of after
