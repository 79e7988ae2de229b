use Rattle.std.proofs.Common.{◌≡◌, ◌++◌, ◌∷◌, ◌+◌, ◌^◌, ◌<◌, ◌∙◌, ℕ, true, false, List, Option, Err, length, refl, sym, ap, subst, arith}
use Rattle.std.proofs.Common.{true≢false}
use Rattle.std.specs.Prelude.{◌==◌}
use Rattle.std.proofs.lemmas.Bool.{MatchBool-at_true, MatchBool-at_false, eqb-true}
use Rattle.std.proofs.lemmas.Bool.Decides.{Decides-eqb}
use Rattle.sketchlet_wire.specs.Uploads.{UploadData, IsFull}
use Rattle.lg_model.specs.Placing.{Shape}
use Rattle.lg_model.specs.Columns.{Column, dims_of}
use Rattle.column_book.specs.declared.fault.BookFault.{BookFault}
use Rattle.column_book.specs.declared.fault.BookFault.TheVariants.{WrongShape, Conflict, Full}
use Rattle.column_book.specs.Entries.{BookState, records, columns_in}
use Rattle.column_book.specs.Applying.{checked}
use Rattle.book_file.specs.declared.found.OpenFault.{OpenFault}
use Rattle.book_file.specs.declared.found.OpenFault.TheVariants as faults
use Rattle.book_file.specs.declared.stage.Stage.{Stage}
use Rattle.book_file.specs.File.{IsRecord, IsColumnOf, front, body}
use Rattle.book_file.specs.Walk.{IsGoing, Decides, Steps}
use Rattle.book_file.proofs.Apart.{AreNew, all_map}
use Rattle.book_file.proofs.Checked.{full_mask, mask_full, has_room, past_room, full_count, count_full, no_conflict, no_misfit}
use Rattle.book_file.proofs.Stepping.{known, breaks, key_known, overfills}
use Rattle.book_file.proofs.steps.after_record.Goals as goal

pub with_record-requires-clause-new : goal.with_record-requires-clause-new
with_record-requires-clause-new c =
    let u = c.args.upload.now in
    let b = c.args.book in
    let bits = MatchBool-at_true _ _ c.if-is_all.true c.is_all.ensures in
    full_mask b.shape b.room b.entries u c.in-Ok.mask (sym c.check.ensures ∙ c.in-Ok.is)
    (subst (λ (l : List Column). c.in-Ok.mask + 1 ≡ 2 ^ length l) c.columns-count.ensures.value bits)

pub with_record-requires-clause-room : goal.with_record-requires-clause-room
with_record-requires-clause-room c =
    let b = c.args.book in
    has_room b.shape b.room b.entries c.args.upload.now c.in-Ok.mask (sym c.check.ensures ∙ c.in-Ok.is) (with_record-requires-clause-new c)

pub returns-then-is_all : goal.returns-then-is_all
returns-then-is_all c = λ asked room len rest going. c.with_record.ensures asked room len c.args.at rest going

pub returns-else-is_all : goal.returns-else-is_all
returns-else-is_all c = λ asked room len rest going.
    let u = c.args.upload.now in
    let b = c.args.book in
    let read : List ℕ = front b.shape (records b.entries) ++ 1 ∷ body u in
    let some_known : AreNew (columns_in (records b.entries)) u.columns → ⊥ = λ all.
    let bits = mask_full b.shape b.room b.entries u c.in-Ok.mask (sym c.check.ensures ∙ c.in-Ok.is) all in
    MatchBool-at_false _ _ c.if-is_all.false c.is_all.ensures
    (subst (λ (l : List Column). c.in-Ok.mask + 1 ≡ 2 ^ length l) (sym c.columns-count.ensures.value) bits) in
    subst (λ (s : Stage). Steps asked room len c.args.at s rest read) (sym c.damaged.ensures)
    (known asked room len c.args.at _ rest read (breaks asked room c.args.at b going len (body u)
    (key_known u b c.requires.full c.requires.record some_known)))

-- a record that a check refuses
module _ (u : UploadData) (b : BookState) (full : IsFull u) (fits : IsRecord (dims_of b.shape) u) (count at : ℕ)
    (size : count ≡ length u.columns) where
  record Tells (f : BookFault) (r : OpenFault) : Type 0 where
    is_full : (held : ℕ) → f ≡ Full held count → r ≡ faults.Full held count
    is_other : ((held : ℕ) → f ≡ Full held count → ⊥) → r ≡ faults.Damaged at

  module _ (asked : Option Shape) (room len : ℕ) (going : IsGoing asked room at b) where
    abbrev Read : OpenFault → Type 0
    Read r = Decides asked room len (front b.shape (records b.entries) ++ 1 ∷ body u) (Err r)

    some_known : (r : OpenFault) → (AreNew (columns_in (records b.entries)) u.columns → ⊥) → r ≡ faults.Damaged at → Read r
    some_known r not_new is = subst Read (sym is) (breaks asked room at b going len (body u) (key_known u b full fits not_new))

    decides : (f : BookFault) (r : OpenFault) → checked b.shape b.room (records b.entries) u ≡ Err f → Tells f r → Read r
    decides (WrongShape kept came) r is tells =
        let sized = all_map (IsColumnOf (dims_of b.shape)) (λ (c : Column). c.dims ≡ dims_of b.shape)
        (λ c x. x.sized) u.columns fits.each in
        absurd (no_misfit b.shape b.room b.entries u kept came is sized)
    decides (Conflict key kept came) r is tells =
        some_known r (no_conflict b.shape b.room b.entries u key kept came is) (tells.is_other (λ held e. cc))
    decides (Full held more) r is tells =
        let past = past_room b.shape b.room b.entries u held more is in
        (elim (more == count) as (λ e. (more == count) ≡ e → Read r) [
          | true ↦ λ yes.
              let same : more ≡ count = eqb-true more count yes in
              let over : room < held + more = omega (arith, past.over, ap (λ (x : BookState). x.room) going.book) in
              subst Read (sym (tells.is_full held (ap (λ (n : ℕ). Full held n) same) ∙ ap (λ (n : ℕ). faults.Full held n) (sym same)))
              (overfills u b full fits (full_count b.shape b.room b.entries u held more is (same ∙ size)) asked room len at held more going
              past.has (same ∙ size) over)
          | false ↦ λ no.
              let other : more ≡ count → ⊥ = λ e. true≢false (sym ((Decides-eqb more count).1 e) ∙ no) in
              some_known r (λ all. other (count_full b.shape b.room b.entries u held more is all ∙ sym size))
              (tells.is_other (λ h e. other (cc)))
        ]) refl

pub returns-in-Err : goal.returns-in-Err
returns-in-Err c = λ asked room len rest going.
    let u = c.args.upload.now in
    let b = c.args.book in
    known asked room len c.args.at _ rest (front b.shape (records b.entries) ++ 1 ∷ body u)
    (decides u b c.requires.full c.requires.record (length c.columns-count.result.now) c.args.at (ap length c.columns-count.ensures.value)
    asked room len going c.in-Err.fault c.refused.result (sym c.check.ensures ∙ c.in-Err.is)
    (record { is_full = c.refused.ensures.full; is_other = c.refused.ensures.other }))
