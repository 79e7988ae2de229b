-- A walk that was fed a whole list has ended.
use Rattle.std.proofs.Common.{◌≡◌, ℕ, ◌≤◌, false, List, ◌∷◌, length, Option, Ok, Err, refl, ap, arith, length-append}
use Rattle.std.specs.List.{flat_map}
use Rattle.lg_model.specs.Placing.{Shape}
use Rattle.sketchlet_wire.specs.Uploads.{UploadData}
use Rattle.book_file.specs.declared.found.OpenFault.TheVariants.{Damaged}
use Rattle.book_file.specs.declared.found.Found.TheVariants.{Book}
use Rattle.book_file.specs.declared.stage.Stage.{Stage}
use Rattle.book_file.specs.declared.stage.Stage.TheVariants.{Head, Gate, Lead, Body, Ended}
use Rattle.book_file.specs.File.{header, record_bytes, front, Spells}
use Rattle.book_file.specs.Found.{Suits, Finds, book_of, count_of}
use Rattle.book_file.specs.Walk.{Stands, is_ended}
use Rattle.book_file.proofs.Heads.{header_len}
use Rattle.book_file.proofs.Endings.{cut_at_gate, cut_later}
use Rattle.book_file.proofs.Complete.{book_found}
use Rattle.book_file.proofs.OneAnswer.{one_answer}

module _ (asked : Option Shape) (room len gate : ℕ) (rest read : List ℕ) (shape : Shape) (L : List UploadData) (suits : Suits asked shape)
    (spells : Spells shape L read) (few : count_of L ≤ room) where
  not_damaged : (at : ℕ) → Finds asked room read (Err (Damaged at)) → ⊥
  not_damaged at f = let same = one_answer asked room read (Ok (Book (book_of shape room L) (length (front shape L)))) (Err (Damaged at))
      (book_found asked shape room L read suits spells few) f (λ e. cc) (λ e. cc) in cc same

  pub still_going : (stage : Stage) → is_ended stage ≡ false → Stands asked room len gate stage rest read → ⊥
  still_going Head e s =
      omega (
        arith,
        ap length s.waits,
        s.lacks refl,
        ap length spells.bytes,
        length-append (front shape L) (spells.gate ∷ spells.rest),
        length-append (header shape) (flat_map record_bytes L),
        header_len shape,
      )
  still_going (Gate b) e s = not_damaged (length read) (cut_at_gate asked room len gate rest read b (length read) s refl)
  still_going (Lead b) e s = not_damaged gate (cut_later asked room len gate rest read (Lead b) (λ h. cc) (λ x h. cc) refl s)
  still_going (Body b) e s = not_damaged gate (cut_later asked room len gate rest read (Body b) (λ h. cc) (λ x h. cc) refl s)
  still_going (Ended a) e s = absurd cc
