-- The lists of records that a run over a book may leave, from the list that it found.
use Rattle.std.specs.Prelude.{◌≡◌, ℕ, ◌<◌, ◌≤◌, false, List, [], ◌∷◌, ◌++◌, length, All, slice_index_or, Ok}
use Rattle.lg_model.specs.declared.scenario.HostLine.{HostLine}
use Rattle.lg_model.specs.declared.scenario.Letter.{Letter}
use Rattle.lg_model.specs.Scenario.{Scenario}
use Rattle.lg_model.specs.Columns.{Column}
use Rattle.sketchlet_wire.specs.Uploads.{UploadData, holds_key}
use Rattle.column_book.specs.declared.book.TheConstants.{ROOM}
use Rattle.column_book.specs.Applying.{decide}
use Rattle.upload_world.specs.Pumps.{no_upload, before_first}
use Rattle.run_laws.specs.Booking.{host_uploads}

-- ---- the uploads of a host

-- The host of no name, for a position that no host has.
abbrev pub no_host : HostLine
no_host = record { name = 0; letters = [] }

abbrev pub host_at : Scenario → (h : ℕ) → HostLine
host_at w h = slice_index_or w.hosts h no_host

-- The uploads of the host at position h, numbered from 0.
abbrev pub uploads_at : Scenario → (h : ℕ) → List UploadData
uploads_at w h = host_uploads w (h, host_at w h)

-- Its upload of number q.
abbrev pub upload_at : Scenario → (h q : ℕ) → UploadData
upload_at w h q = slice_index_or (uploads_at w h) q no_upload

-- ---- the order of deliveries

-- The numbers of n uploads in the order in which a link with these letters delivers them. A number may come more than
-- once.
abbrev pub Order : Type 0
Order = (n : ℕ) → List Letter → List ℕ

abbrev pub order_at : Order → Scenario → (h : ℕ) → List ℕ
order_at order w h = order (length (uploads_at w h)) (host_at w h).letters

-- ---- legal lists

-- No column of the record has the key of one of the upload.
abbrev pub IsApart : UploadData → UploadData → Type 0
IsApart r u = All (λ (c : Column). holds_key c.key u.columns ≡ false) r.columns

-- A record that a run may store after these: what is new of an upload of a host then, under its host and number. None
-- of its columns stands in an upload of that host that is delivered before.
pub record IsLegalNext (order : Order) (w : Scenario) (before : List UploadData) (r : UploadData) : Type 0 where
  pub at : ℕ
  pub declared : at < length w.hosts
  pub sent : r.seq < length (uploads_at w at)
  pub host : r.host ≡ (host_at w at).name
  pub stored : decide w.shape ROOM before (upload_at w at r.seq) ≡ Ok r.columns
  pub some : 1 ≤ length r.columns
  pub first : All (λ q. IsApart r (upload_at w at q)) (before_first r.seq (order_at order w at))

-- Each of these records may come after those and the ones before it.
abbrev pub AreLegalNext : Order → Scenario → (before more : List UploadData) → Type 0
AreLegalNext order w before [] = Unit {0}
AreLegalNext order w before (r ∷ more) = IsLegalNext order w before r × AreLegalNext order w (before ++ r ∷ []) more

-- A legal list begins with the one that was found, and each further record may come after those before it.
pub record IsLegal (order : Order) (w : Scenario) (before list : List UploadData) : Type 0 where
  pub more : List UploadData
  pub begins : list ≡ before ++ more
  pub each : AreLegalNext order w before more
