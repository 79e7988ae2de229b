-- The booking of a run: its uploads are what came to the hosts, and it comes to the book of the run.
use Rattle.std.specs.Prelude.{◌≡◌, ℕ, ◌+◌, List, [], ◌∷◌, ◌++◌, length, map, Result, Ok, Err}
use Rattle.std.specs.List.{AllByRecursion, flat_map, enumerate_from, range_with_len}
use Rattle.std.proofs.Common.{refl, sym, ap, ◌∙◌, subst, arith}
use Rattle.std.proofs.lemmas.List.Elements.{recursion_from_All}
use Rattle.std.proofs.lemmas.Grind.{flat_map-append}
use Rattle.lg_model.specs.declared.scenario.HostLine.{HostLine}
use Rattle.lg_model.specs.Scenario.{Scenario}
use Rattle.lg_model.specs.Carrying.{picked}
use Rattle.lg_model.specs.Arriving.{brought, brought_to_all}
use Rattle.lg_model.specs.Columns.{Column}
use Rattle.lg_model.specs.Answer.{content_of}
use Rattle.lg_model.proofs.Allowing.{picked_is_allowed}
use Rattle.sketchlet_wire.specs.Uploads.{UploadData, IsUpload, upload_of}
use Rattle.host_collect.specs.Cutting.{Piece, cut}
use Rattle.host_collect.proofs.Cutting.{cut_whole, cut_law}
use Rattle.column_book.specs.declared.entry.Entry.{Entry}
use Rattle.column_book.specs.declared.fault.BookFault.{BookFault}
use Rattle.column_book.specs.declared.fault.BookFault.TheVariants.{WrongShape, Conflict, Full}
use Rattle.column_book.specs.Entries.{columns_in}
use Rattle.lg_model.specs.Joining.{IsFrozen}
use Rattle.lg_model.specs.Keeping.{AreApart}
use Rattle.run_laws.specs.Truth.{book_of, IsFrozenColumn}
use Rattle.run_laws.proofs.Agreeing.{cells_at}
use Rattle.run_laws.specs.Booking.{host_uploads, uploads_of, booked_in, IsBooking, LawOfBookings}
use Rattle.run_laws.proofs.Brought.{placed}
use Rattle.run_laws.proofs.Booked.{IsGood, Comes, comes}
use Rattle.run_laws.proofs.TrueRuns.{Placed, frozen_all}

-- ---- the columns of the uploads

numbered_columns : (host k : ℕ) (ps : List Piece) →
    columns_in (map (λ (p : ℕ × Piece). upload_of host p.0 p.1) (enumerate_from k ps)) ≡ flat_map (λ (p : Piece). p) ps
numbered_columns host k [] = refl
numbered_columns host k (p ∷ ps) = ap (λ (cs : List Column). p ++ cs) (numbered_columns host (k + 1) ps)

host_columns : (w : Scenario) (k : ℕ) (h : HostLine) → columns_in (host_uploads w (k, h)) ≡ brought w (picked w) k
host_columns w k h = numbered_columns h.name 0 (cut (brought w (picked w) k)) ∙ cut_whole (brought w (picked w) k)

-- the columns of the uploads of all hosts are those that are brought
pub columns_from : (w : Scenario) (k : ℕ) (hs : List HostLine) →
    columns_in (flat_map (host_uploads w) (enumerate_from k hs)) ≡ flat_map (brought w (picked w)) (range_with_len k (length hs))
columns_from w k [] = refl
columns_from w k (h ∷ hs) =
    flat_map-append (λ (u : UploadData). u.columns) (host_uploads w (k, h)) (flat_map (host_uploads w) (enumerate_from (k + 1) hs))
    ∙ (λ j. host_columns w k h j ++ columns_from w (k + 1) hs j)

-- ---- each is an upload

numbered_each : (host k : ℕ) (ps : List Piece) → AllByRecursion IsUpload ps →
    AllByRecursion (λ (u : UploadData). IsUpload u.columns) (map (λ (p : ℕ × Piece). upload_of host p.0 p.1) (enumerate_from k ps))
numbered_each host k [] all = tt
numbered_each host k (p ∷ ps) all = (all.0, numbered_each host (k + 1) ps all.1)

both_all : (P : UploadData → Type 0) (us vs : List UploadData) → AllByRecursion P us → AllByRecursion P vs → AllByRecursion P (us ++ vs)
both_all P [] vs a b = b
both_all P (u ∷ us) vs a b = (a.0, both_all P us vs a.1 b)

each_from : (w : Scenario) (k : ℕ) (hs : List HostLine) →
    AllByRecursion (λ (u : UploadData). IsUpload u.columns) (flat_map (host_uploads w) (enumerate_from k hs))
each_from w k [] = tt
each_from w k (h ∷ hs) =
    both_all (λ (u : UploadData). IsUpload u.columns) (host_uploads w (k, h)) (flat_map (host_uploads w) (enumerate_from (k + 1) hs))
    (numbered_each h.name 0 (cut (brought w (picked w) k)) (cut_law (brought w (picked w) k)).uploads) (each_from w (k + 1) hs)

-- ---- the law

good : (w : Scenario) (c : Column) → AreApart w.switches → IsFrozenColumn w c → IsGood w.shape (IsFrozen w) c
good w c own it = record {
  sized = it.dims;
  kept = it.is;
  sole = λ v h. cells_at w c.key v it.is.switch_at own h it.is.switch ∙ sym it.is.same;
}

booking : (w : Scenario) (room : ℕ) (r : Result (List Entry) BookFault) → Comes room (book_of w) r → IsBooking w room r
booking w room (Err (WrongShape kept came)) h = h
booking w room (Err (Conflict key kept came)) h = h
booking w room (Err (Full held more)) h = h
booking w room (Ok es) h = h

pub law : LawOfBookings
law w room whole =
    let all : Placed w = placed w (picked w) whole.scenario (picked_is_allowed w whole.scenario.shape.some_width) in
    let came = brought_to_all w (picked w) in
    let frozen = frozen_all w all in
    let is : columns_in (uploads_of w) ≡ came = columns_from w 0 w.hosts in
    let goods = recursion_from_All (IsGood w.shape (IsFrozen w)) came (λ i d inside. good w _ whole.scenario.switches.own (frozen i d inside)) in
    booking w room (booked_in room w)
    (subst (λ (cs : List Column). Comes room (content_of cs) (booked_in room w)) is
    (comes w.shape room 0 (IsFrozen w) (uploads_of w) [] (record { knows = λ q. tt; each = refl; few = omega arith })
    (subst (AllByRecursion (IsGood w.shape (IsFrozen w))) (sym is) goods) (each_from w 0 w.hosts)))
