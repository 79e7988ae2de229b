-- What a run leaves and keeps, and what a book tells, by computation and by cases.
use Rattle.std.specs.Prelude.{◌≡◌, ℕ, List, [], ◌∷◌, map, true, false, Ok}
use Rattle.lg_model.specs.declared.scenario.Hash.TheVariants.{Ports}
use Rattle.lg_model.specs.declared.scenario.Letter.TheVariants as letter
use Rattle.lg_model.specs.Placing.{Shape}
use Rattle.lg_model.specs.Columns.{Column}
use Rattle.lg_model.specs.Answer.{Content, look_in}
use Rattle.sketchlet_wire.specs.Uploads.{UploadData, upload_of}
use Rattle.column_book.specs.declared.fault.BookFault.{BookFault}
use Rattle.column_book.specs.declared.fault.BookFault.TheVariants.{Conflict}
use Rattle.sumax_sketch.specs.SketchState.{SketchState}
use Rattle.uploader_core.specs.declared.state.SeqState.{SeqState}
use Rattle.uploader_core.specs.declared.state.SeqState.TheVariants.{Idle, Acknowledged, Refused}
use Rattle.link_deliveries.specs.Deliveries.{delivered}
use Rattle.lock_rule.specs.declared.view.Doing.TheVariants as doing
use Rattle.lock_rule.specs.Views.{new_pass}
use Rattle.flow_query.specs.Rebuilt.{IsRebuilt}
use Rattle.run_laws.specs.Truth.{NoneArrived}
use Rattle.book_file.specs.Between.{Files, Standing, IsBetween}
use Rattle.book_laws.specs.Legal.{IsLegal}
use Rattle.book_laws.specs.Leaving.{IsLeft}
use Rattle.book_laws.specs.Keeping.{KeepsReplies, IsJoined, IsOverfull, AreAcked, Acks, IsFirstRefusal}
use Rattle.book_laws.specs.Workers.{Worker, acks_of}
use Rattle.worked_examples.specs.Networks.{bucket, key_of, cells, ask}
use Rattle.worked_examples.specs.Arrivals.{to_two, eleven, twelve, twelve_too}

-- The records of the two hosts.
abbrev pub first_host : UploadData
first_host = upload_of 21 0 (eleven ∷ [])

abbrev pub second_host : UploadData
second_host = upload_of 22 0 (twelve_too ∷ twelve ∷ [])

-- The first host's column with another counter, in a book that was found.
abbrev pub other : Column
other = record eleven { cells = cells (bucket 9 9 ∷ bucket 0 0 ∷ []) }

abbrev pub found : List UploadData
found = upload_of 7 0 (other ∷ []) ∷ []

abbrev pub all : Acks
all h q = true

abbrev pub none : Acks
none h q = false

abbrev pub worker : List SeqState → Worker
worker states = record { view = new_pass 2 doing.Idle [] 0; states = states; result = Ok tt }

abbrev pub two_workers : List Worker
two_workers = worker (Acknowledged ∷ Acknowledged ∷ Refused ∷ []) ∷ worker (Idle ∷ Acknowledged ∷ []) ∷ []

-- No file, and the files of one list alone.
abbrev pub no_file : Files
no_file c = ⊥

abbrev pub of_list : List UploadData → Standing
of_list l m c = m ≡ l

abbrev pub shape : Shape
shape = record { rows = 1; width = 2; hash = Ports }

abbrev pub kept : Content
kept = (key_of 5 6 0, cells (bucket 1 2 ∷ [])) ∷ (key_of 5 6 1, cells (bucket 3 4 ∷ [])) ∷ []

abbrev pub sketch : (first second : ℕ) → SketchState
sketch a b = record { shape = shape; table = (bucket a 2 ∷ bucket b 4 ∷ []) ∷ [] }

pub record WorkedKeeping : Type 0 where
  -- the hosts' records in any order, each of an upload of its own host
  pub either_first : IsLegal delivered to_two [] (second_host ∷ first_host ∷ [])
  pub other_host : IsLegal delivered to_two [] (upload_of 22 0 (eleven ∷ []) ∷ []) → ⊥
  pub other_number : IsLegal delivered to_two [] (upload_of 21 1 (eleven ∷ []) ∷ []) → ⊥
  -- what was found and all that is brought
  pub joined : IsJoined to_two [] (second_host ∷ first_host ∷ [])
  pub one_lacks : IsJoined to_two [] (first_host ∷ []) → ⊥
  pub not_overfull : IsOverfull to_two [] → ⊥
  -- an acknowledged upload is kept, and a record that was added is of an acknowledged one
  pub acked_and_gone : AreAcked to_two [] [] all → ⊥
  pub kept_unacked : AreAcked to_two [] (first_host ∷ []) none → ⊥
  pub reply_lost : KeepsReplies (letter.Deliver ∷ letter.LoseReply ∷ []) → ⊥
  -- by host and then by number
  pub acks : map (λ (p : ℕ × ℕ). acks_of two_workers p.0 p.1) ((0, 0) ∷ (0, 1) ∷ (0, 2) ∷ (1, 0) ∷ (1, 1) ∷ (2, 0) ∷ [])
      ≡ true ∷ true ∷ false ∷ false ∷ true ∷ false ∷ []
  -- whose refusal is told: that of the first host whose uploads are not all acknowledged
  pub refused : IsFirstRefusal delivered to_two found none (Conflict eleven.key other eleven)
  pub no_later_one : (why : BookFault) (r : IsFirstRefusal delivered to_two found none why) → r.host ≡ 0
  -- at most one record more than what is kept, which begins with what was found
  pub two_more : IsLeft (of_list []) delivered to_two [] no_file no_file no_file [] (second_host ∷ first_host ∷ []) → ⊥
  pub found_gone : IsLeft (of_list []) delivered to_two (first_host ∷ []) no_file no_file no_file [] (first_host ∷ []) → ⊥
  pub not_less : IsBetween (of_list []) (first_host ∷ []) (first_host ∷ []) [] → ⊥
  pub not_more : IsBetween (of_list (first_host ∷ [])) [] [] [] → ⊥
  -- a column of the flow came
  pub arrived : NoneArrived to_two (ask 0 12 0) → ⊥
  -- a sketch has the column of each index in its place
  pub swapped : IsRebuilt (look_in kept) shape 5 6 (sketch 3 1) → ⊥
  pub not_whole : IsRebuilt (look_in kept) shape 5 7 (sketch 1 3) → ⊥
