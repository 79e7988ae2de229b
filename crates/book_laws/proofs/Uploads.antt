-- The uploads of a scenario: where each stands, and that they have just the columns that are brought.
use Rattle.std.specs.Prelude.{◌≡◌, ℕ, ◌+◌, ◌<◌, List, [], length, All, Contains, slice_index_or}
use Rattle.std.specs.List.{enumerate_from, range_with_len}
use Rattle.std.proofs.Common.{sym, ap, ◌∙◌, subst, arith}
use Rattle.std.proofs.lemmas.List.{length-map, get_or-map}
use Rattle.std.proofs.lemmas.List.FromFn.{length-enumerate_from, get_or-enumerate_from}
use Rattle.std.proofs.lemmas.List.Elements.{All-from_recursion, All-get_or, All-contains, Contains-get_or}
use Rattle.lg_model.specs.declared.scenario.HostLine.{HostLine}
use Rattle.lg_model.specs.Scenario.{Scenario}
use Rattle.lg_model.specs.Carrying.{picked}
use Rattle.lg_model.specs.Arriving.{brought, brought_to_all}
use Rattle.lg_model.specs.Columns.{Column, dims_of}
use Rattle.sketchlet_wire.specs.Uploads.{UploadData, IsUpload, upload_of}
use Rattle.host_collect.specs.Cutting.{Piece, cut}
use Rattle.host_collect.proofs.Cutting.{cut_law}
use Rattle.column_book.specs.Entries.{columns_in}
use Rattle.upload_world.specs.Pumps.{no_upload}
use Rattle.run_laws.specs.Booking.{host_uploads, uploads_of}
use Rattle.run_laws.proofs.Bookings.{columns_from}
use Rattle.run_laws.proofs.Brought.{all_flat as each_flat, brought_dims}
use Rattle.book_laws.specs.Legal.{no_host, host_at, uploads_at, upload_at}
use Rattle.book_laws.proofs.Lists.{offset, flat_at, origin, in_flat}

-- ---- one upload of a host

abbrev pieces : Scenario → ℕ → List Piece
pieces w h = cut (brought w (picked w) h)

abbrev made : Scenario → ℕ → ℕ × Piece → UploadData
made w h p = upload_of (host_at w h).name p.0 p.1

-- what is known of the upload of number q of the host at position h
pub record IsNumbered (w : Scenario) (h q : ℕ) : Type 0 where
  pub host : (upload_at w h q).host ≡ (host_at w h).name
  pub seq : (upload_at w h q).seq ≡ q
  pub whole : IsUpload (upload_at w h q).columns

pub numbered_at : (w : Scenario) (h q : ℕ) → q < length (uploads_at w h) → IsNumbered w h q
numbered_at w h q low =
    let ps : List Piece = pieces w h in
    let size = length-map (enumerate_from 0 ps) (made w h) in
    let count = length-enumerate_from 0 ps in
    let few : q < length ps = omega (arith, low, size, count) in
    let item : slice_index_or (enumerate_from 0 ps) q (0, []) ≡ (0 + q, slice_index_or ps q []) =
    get_or-enumerate_from 0 ps q (0, []) few in
    let is : upload_at w h q ≡ made w h (0 + q, slice_index_or ps q []) =
    get_or-map (made w h) (enumerate_from 0 ps) q (0, []) no_upload (omega (arith, few, count)) ∙ ap (made w h) item in
    let zero_more : 0 + q ≡ q = omega arith in
    record {
      host = ap (λ (u : UploadData). u.host) is;
      seq = ap (λ (u : UploadData). u.seq) is ∙ zero_more;
      whole = subst (λ (u : UploadData). IsUpload u.columns) (sym is)
          (All-get_or IsUpload ps q [] few (All-from_recursion IsUpload ps (cut_law (brought w (picked w) h)).uploads));
    }

-- ---- where it stands among all

-- how many uploads the hosts before the one at position h have
abbrev pub count_before : Scenario → (h : ℕ) → ℕ
count_before w h = offset (host_uploads w) (enumerate_from 0 w.hosts) h

host_there : (w : Scenario) (h : ℕ) → h < length w.hosts → slice_index_or (enumerate_from 0 w.hosts) h (0, no_host) ≡ (h, host_at w h)
host_there w h low =
    let zero_more : 0 + h ≡ h = omega arith in
    get_or-enumerate_from 0 w.hosts h (0, no_host) low ∙ ap (λ (n : ℕ). (n, host_at w h)) zero_more

pub record IsPlaced (w : Scenario) (h q : ℕ) : Type 0 where
  pub inside : count_before w h + q < length (uploads_of w)
  pub is : slice_index_or (uploads_of w) (count_before w h + q) no_upload ≡ upload_at w h q

pub placed_at : (w : Scenario) (h q : ℕ) → h < length w.hosts → q < length (uploads_at w h) → IsPlaced w h q
placed_at w h q declared sent =
    let hosts = enumerate_from 0 w.hosts in
    let there = host_there w h declared in
    let many = length-enumerate_from 0 w.hosts in
    let f = flat_at (host_uploads w) hosts h q (0, no_host) no_upload (omega (arith, declared, many))
    (subst (λ (x : ℕ × HostLine). q < length (host_uploads w x)) (sym there) sent) in
    record { inside = f.inside; is = f.is ∙ ap (λ (x : ℕ × HostLine). slice_index_or (host_uploads w x) q no_upload) there }

-- the upload at place p is one of a host
pub record IsSent (w : Scenario) (p : ℕ) : Type 0 where
  pub at : ℕ
  pub seq : ℕ
  pub declared : at < length w.hosts
  pub sent : seq < length (uploads_at w at)
  pub place : p ≡ count_before w at + seq
  pub is : slice_index_or (uploads_of w) p no_upload ≡ upload_at w at seq

pub sent_at : (w : Scenario) (p : ℕ) → p < length (uploads_of w) → IsSent w p
sent_at w p low =
    let hosts = enumerate_from 0 w.hosts in
    let o = origin (host_uploads w) hosts (0, no_host) p low in
    let inside = o.inside in
    let many = length-enumerate_from 0 w.hosts in
    let declared : o.at < length w.hosts = omega (arith, inside, many) in
    let sent : o.nth < length (uploads_at w o.at) =
    subst (λ (x : ℕ × HostLine). o.nth < length (host_uploads w x)) (host_there w o.at declared) o.low in
    record {
      at = o.at;
      seq = o.nth;
      declared = declared;
      sent = sent;
      place = o.is;
      is = ap (λ (n : ℕ). slice_index_or (uploads_of w) n no_upload) o.is ∙ (placed_at w o.at o.nth declared sent).is;
    }

-- ---- the columns

pub columns_are : (w : Scenario) → columns_in (uploads_of w) ≡ brought_to_all w (picked w)
columns_are w = columns_from w 0 w.hosts

-- each column of an upload is brought
pub own_columns : (w : Scenario) (h q : ℕ) → h < length w.hosts → q < length (uploads_at w h) →
    All (Contains (brought_to_all w (picked w))) (upload_at w h q).columns
own_columns w h q declared sent = λ k d inside.
    let p = placed_at w h q declared sent in
    let c : Column = slice_index_or (upload_at w h q).columns k d in
    subst (λ (cs : List Column). Contains cs c) (columns_are w)
    (in_flat (λ (u : UploadData). u.columns) (uploads_of w) (count_before w h + q) no_upload c p.inside
    (subst (λ (u : UploadData). Contains u.columns c) (sym p.is) (Contains-get_or (upload_at w h q).columns k d inside)))

-- and each brought column is of the size of the scenario's sketches
pub brought_sized : (w : Scenario) → All (λ (c : Column). c.dims ≡ dims_of w.shape) (brought_to_all w (picked w))
brought_sized w = each_flat (λ (c : Column). c.dims ≡ dims_of w.shape) (brought w (picked w)) (range_with_len 0 (length w.hosts))
    (λ h. brought_dims w (picked w) h)

pub own_sized : (w : Scenario) (h q : ℕ) → h < length w.hosts → q < length (uploads_at w h) →
    All (λ (c : Column). c.dims ≡ dims_of w.shape) (upload_at w h q).columns
own_sized w h q declared sent = λ k d inside.
    All-contains (λ (c : Column). c.dims ≡ dims_of w.shape) (brought_to_all w (picked w)) (slice_index_or (upload_at w h q).columns k d)
    (brought_sized w) (own_columns w h q declared sent k d inside)
