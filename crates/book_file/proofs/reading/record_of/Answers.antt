use Rattle.std.proofs.Common.{◌≡◌, ◌++◌, ◌∙◌, ℕ, List, length, get_or, drop, ap, sym, subst, arith}
use Rattle.std.specs.List.{flat_map, AllByRecursion}
use Rattle.std.proofs.lemmas.List.{take_rest}
use Rattle.lg_model.specs.Columns.{Column}
use Rattle.sketchlet_wire.specs.Uploads.{UploadData}
use Rattle.book_file.specs.File.{IsColumnOf, body, column_bytes}
use Rattle.book_file.proofs.Readings.{no_record, body_read, nothing_after, is_upload, record_read}
use Rattle.book_file.proofs.reading.record_of.Goals as goal

pub returns-in_default : goal.returns-in_default
returns-in_default c =
    let none = rw c.in_default.is at c.in_ok-columns.ensures in
    no_record c.args.dims c.args.bytes.now
    (subst (λ (l : List ℕ). (cs : List Column) (rest : List ℕ) → length cs ≡ get_or c.args.bytes.now 6 0
    → AllByRecursion (IsColumnOf c.args.dims) cs → l ≡ flat_map column_bytes cs ++ rest → ⊥)
    (take_rest c.args.bytes.now 7) none)

pub returns-in-Ok : goal.returns-in-Ok
returns-in-Ok c =
    let bytes = c.args.bytes.now in
    let cs = c.in-Some.columns.items in
    let found = rw c.in-Some.is at c.in_ok-columns.ensures in
    let columns : drop 7 bytes ≡ flat_map column_bytes cs =
    nothing_after c.args.dims bytes found.2.0 cs c.requires.size found.0 found.1 (sym (take_rest bytes 7) ∙ found.2.1) in
    let made = c.in-Ok.ensures.1 in
    let whole = body_read bytes (λ i. omega (arith, c.type_inv.bytes i)) c.requires.count.there c.from_be_bytes-host.result
    c.from_be_bytes-seq.result cs
    c.from_be_bytes-host.ensures c.from_be_bytes-seq.ensures (sym found.0) columns in
    let full = c.columns.ensures.full in
    (full, record_read c.args.dims c.in-Ok.upload cs full (ap (λ (u : UploadData). u.columns) made) found.1, whole ∙ ap body (sym made))

pub returns : goal.returns
returns c = λ r fits apart is.
    let bytes = c.args.bytes.now in
    let cs = c.in-Some.columns.items in
    let found = rw c.in-Some.is at c.in_ok-columns.ensures in
    let columns : drop 7 bytes ≡ flat_map column_bytes cs =
    nothing_after c.args.dims bytes found.2.0 cs c.requires.size found.0 found.1 (sym (take_rest bytes 7) ∙ found.2.1) in
    c.in-Err.ensures.0 (is_upload c.args.dims bytes cs r fits apart is found.1 columns found.0)
