-- The reply to what a journal answers is the one to what the book decides.
use Rattle.std.specs.Prelude.{[], ◌∷◌, Ok, Err}
use Rattle.std.proofs.Common.{refl}
use Rattle.column_book.specs.declared.fault.BookFault.TheVariants.{WrongShape, Conflict, Full}
use Rattle.shared_book.specs.Replying.{LawOfReplies}

pub law : LawOfReplies
law u at (Ok []) = refl
law u at (Ok (c ∷ cs)) = refl
law u at (Err (WrongShape kept came)) = refl
law u at (Err (Conflict key kept came)) = refl
law u at (Err (Full held more)) = refl
