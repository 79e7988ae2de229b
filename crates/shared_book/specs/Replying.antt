-- What the analyser replies to an upload.
use Rattle.std.specs.Prelude.{◌≡◌, ℕ, Bool, true, false, List, [], ◌∷◌, Option, None, Some, Result, Ok, Err}
use Rattle.std.specs.Option.{option_map}
use Rattle.lg_model.specs.Columns.{Column}
use Rattle.sketchlet_wire.specs.Uploads.{UploadData}
use Rattle.upload_frame.specs.declared.reply.Reply.{Reply}
use Rattle.upload_frame.specs.declared.reply.Reply.TheVariants.{Acknowledged, Refused}
use Rattle.upload_frame.specs.declared.reply.RefusedWhy.{RefusedWhy}
use Rattle.upload_frame.specs.declared.reply.RefusedWhy.TheVariants as why
use Rattle.column_book.specs.declared.fault.BookFault.{BookFault}
use Rattle.column_book.specs.declared.fault.BookFault.TheVariants as book
use Rattle.book_journal.specs.declared.applied.Applied.{Applied}
use Rattle.book_journal.specs.declared.applied.Applied.TheVariants.{Stored, Known}
use Rattle.book_journal.specs.declared.applied.ApplyFault.{ApplyFault}
use Rattle.book_journal.specs.declared.applied.ApplyFault.TheVariants as apply
use Rattle.book_journal.specs.Applied.{fault_of}

abbrev pub acknowledgement : UploadData → (known : Bool) → Reply
acknowledgement u known = Acknowledged u.host u.seq known

abbrev pub refusal : UploadData → RefusedWhy → Reply
refusal u w = Refused u.host u.seq w

-- ---- the rule, over what the book decides of an upload

-- Why a fault of the book refuses an upload.
abbrev pub why_by : BookFault → RefusedWhy
why_by (book.WrongShape kept came) = why.Shape
why_by (book.Conflict key kept came) = why.Conflict key
why_by (book.Full held more) = why.Full

-- The reply: known where no column is new, stored where some are, else a refusal.
abbrev pub reply_to : UploadData → Result (List Column) BookFault → Reply
reply_to u (Ok []) = acknowledgement u true
reply_to u (Ok (c ∷ cs)) = acknowledgement u false
reply_to u (Err fault) = refusal u (why_by fault)

-- ---- the same, over what a journal answers

-- Why a fault refuses an upload. None where no memory was found, which refuses nothing.
abbrev pub why_for : ApplyFault → Option RefusedWhy
why_for (apply.Broken records) = Some why.Closed
why_for (apply.WrongShape kept came) = Some why.Shape
why_for (apply.Conflict key kept came) = Some (why.Conflict key)
why_for (apply.Full held more) = Some why.Full
why_for apply.Memory = None
why_for apply.DiskFault = Some why.Closed

abbrev pub reply_for : UploadData → Result Applied ApplyFault → Option Reply
reply_for u (Ok (Stored at)) = Some (acknowledgement u false)
reply_for u (Ok Known) = Some (acknowledgement u true)
reply_for u (Err fault) = option_map (refusal u) (why_for fault)

-- What a journal answers where the book decides so: `at` is the position of the record that it stores.
abbrev pub answer_of : (at : ℕ) → Result (List Column) BookFault → Result Applied ApplyFault
answer_of at (Ok []) = Ok Known
answer_of at (Ok (c ∷ cs)) = Ok (Stored at)
answer_of at (Err fault) = Err (fault_of fault)

-- The two agree.
abbrev pub LawOfReplies : Type 0
LawOfReplies = (u : UploadData) (at : ℕ) (d : Result (List Column) BookFault) → reply_for u (answer_of at d) ≡ Some (reply_to u d)
