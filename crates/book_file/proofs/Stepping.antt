-- The steps of a walk.
use Rattle.std.proofs.Common.{◌≡◌, inr, ℕ, ◌+◌, ◌<◌, ◌≤◌, List, [], ◌∷◌, ◌++◌, length, get_or, map, Option, None, Some, Result, Ok, Err}
use Rattle.std.proofs.Common.{⊎_elim, refl, sym, ◌∙◌, ap, subst, arith, append_assoc, length-append}
use Rattle.std.specs.List.{flat_map, IsDistinct}
use Rattle.std.proofs.lemmas.List.{append-nil, get_or_append_left, map-append}
use Rattle.std.proofs.lemmas.List.Concat.{flat_map-append}
use Rattle.lg_model.specs.declared.column.Dims.{Dims}
use Rattle.lg_model.specs.Placing.{Shape}
use Rattle.lg_model.specs.Columns.{Column, dims_of}
use Rattle.sketchlet_wire.specs.ShapeFields.{FitsShape}
use Rattle.sketchlet_wire.specs.Uploads.{UploadData, IsFull, same_column_key}
use Rattle.column_book.specs.declared.entry.Entry.{Entry}
use Rattle.column_book.specs.Entries.{BookState, records, columns_in, content}
use Rattle.column_book.specs.Kept.{keys_of}
use Rattle.column_book.specs.Applying.{is_new, stored_entry, entry_with, IsAddable}
use Rattle.book_file.specs.declared.found.OpenFault.{OpenFault}
use Rattle.book_file.specs.declared.found.OpenFault.TheVariants.{NotAJournal, WrongShape, Damaged, Full}
use Rattle.book_file.specs.declared.found.Found.{Found}
use Rattle.book_file.specs.declared.found.Found.TheVariants.{Blank, Book}
use Rattle.book_file.specs.declared.stage.Stage.TheVariants.{Gate, Ended}
use Rattle.book_file.specs.File.{IsColumnOf, IsRecord, AreRecords, header, body, body_len, record_bytes, front}
use Rattle.book_file.specs.Found.{HasNoBody, Reaches, Suits, read_entry, book_of, count_of}
use Rattle.book_file.specs.Walk.{IsGoing, Decides, HasCount, Steps}
use Rattle.book_file.proofs.Bytes.{same_split}
use Rattle.book_file.proofs.Apart.{AreNew, all_map, all_push, pass_all, apart_upload, apart_join, apart_split}
use Rattle.book_file.proofs.Bodies.{count_at, body_size, same_body}
use Rattle.book_file.proofs.Heads.{header_len, header_one}
use Rattle.book_file.proofs.Adding.{addable}
use Rattle.book_file.proofs.OneAnswer.{last_fits, columns_push}

-- ---- lists of records

pub front_push : (shape : Shape) (L : List UploadData) (r : UploadData) → front shape (L ++ r ∷ []) ≡ front shape L ++ 1 ∷ body r
front_push shape L r =
    ap (λ (l : List ℕ). header shape ++ l)
    (flat_map-append record_bytes L (r ∷ []) ∙ ap (λ (l : List ℕ). flat_map record_bytes L ++ l) (append-nil (record_bytes r)))
    ∙ sym (append_assoc (header shape) (flat_map record_bytes L) (record_bytes r))

abbrev AreApart : List Column → Type 0
AreApart cs = IsDistinct same_column_key (keys_of cs)

pub one_more : (dims : Dims) (L : List UploadData) (r : UploadData) → AreRecords dims L → IsRecord dims r → AreApart r.columns
    → AreNew (columns_in L) r.columns → AreRecords dims (L ++ r ∷ [])
one_more dims L r all fits apart new = record {
  each = all_push (IsRecord dims) L r all.each fits;
  apart = subst AreApart (sym (columns_push L r)) (apart_join (columns_in L) r.columns all.apart apart new);
}

-- ---- answers

pub known : (asked : Option Shape) (room len gate : ℕ) (answer : Result Found OpenFault) (rest read : List ℕ)
    → Decides asked room len read answer → Steps asked room len gate (Ended answer) rest read
known asked room len gate answer rest read decides = record { waits = decides; lacks = λ e. absurd cc; few = omega arith }

module _ (asked : Option Shape) (room gate : ℕ) (b : BookState) (going : IsGoing asked room gate b) where
  pub reached : (file rest : List ℕ) → file ≡ front b.shape (records b.entries) ++ rest
      → Reaches asked room b.shape (records b.entries) file
  reached file rest is = record {
    rest = rest;
    bytes = is;
    suits = going.suits;
    shape_fits = going.shape_fits;
    records_fit = going.records_fit;
    few = going.few;
  }

  pub breaks : (len : ℕ) (tail : List ℕ) → ((more : List ℕ) → HasNoBody b.shape (records b.entries) (tail ++ more))
      → Decides asked room len (front b.shape (records b.entries) ++ 1 ∷ tail) (Err (Damaged gate))
  breaks len tail none = λ more size.
      let is = append_assoc (front b.shape (records b.entries)) (1 ∷ tail) more in
      inr (record {
        shape = b.shape;
        before = records b.entries;
        reached = reached ((front b.shape (records b.entries) ++ 1 ∷ tail) ++ more) (1 ∷ tail ++ more) is;
        place = going.place;
        tail = tail ++ more;
        opens = is;
        no_body = none more;
      })

  -- a closed gate ends the walk
  pub closes : (len gate_byte : ℕ) → (gate_byte ≡ 1 → ⊥) → Decides asked room len (front b.shape (records b.entries) ++ gate_byte ∷ [])
      (Ok (Book b gate))
  closes len gate_byte shut = λ more size. record {
    suits = going.suits;
    spells = record {
      gate = gate_byte;
      rest = more;
      bytes = append_assoc (front b.shape (records b.entries)) (gate_byte ∷ []) more;
      closed = shut;
      shape_fits = going.shape_fits;
      records_fit = going.records_fit;
    };
    few = going.few;
    book = going.book;
    place = going.place;
  }

-- no body has a count outside 1 to 16
pub bad_count : (shape : Shape) (L : List UploadData) (lead : List ℕ) → length lead ≡ 7
    → ((1 ≤ get_or lead 6 0) × (get_or lead 6 0 ≤ 16) → ⊥) → (more : List ℕ) → HasNoBody shape L (lead ++ more)
bad_count shape L lead size bad more r tail all is =
    let fits = last_fits (dims_of shape) L r all in
    let count : get_or lead 6 0 ≡ length r.columns = sym (get_or_append_left lead more 0 6 (omega (arith, size)))
    ∙ ap (λ (l : List ℕ). get_or l 6 0) is ∙ count_at r tail in
    bad (omega (arith, count, fits.some), omega (arith, count, fits.few))

-- ---- the header

module _ (asked : Option Shape) (room len gate : ℕ) (head : List ℕ) (size : length head ≡ 17) where
  first_is : (more : List ℕ) → get_or (head ++ more) 0 0 ≡ get_or head 0 0
  first_is more = get_or_append_left head more 0 0 (omega (arith, size))

  pub shut_short : (get_or head 0 0 ≡ 1 → ⊥) → len ≤ 18 → Decides asked room len head (Ok Blank)
  shut_short shut short = λ more is. inr (omega (arith, is, short), λ one. shut (sym (first_is more) ∙ one))

  pub shut_long : (get_or head 0 0 ≡ 1 → ⊥) → 18 < len → Decides asked room len head (Err NotAJournal)
  shut_long shut long = λ more is. (
    ⊎_elim (λ le. omega (arith, le, is, long)) (λ b. omega (arith, b.0, is, long)),
    λ shape h. shut (sym (first_is more) ∙ ap (λ (l : List ℕ). get_or l 0 0) h.bytes
        ∙ get_or_append_left (header shape) h.rest 0 0 (omega (arith, header_len shape)) ∙ header_one shape),
  )

  pub no_shape : get_or head 0 0 ≡ 1 → ((shape : Shape) → FitsShape shape → head ≡ header shape → ⊥)
      → Decides asked room len head (Err NotAJournal)
  no_shape one none = λ more is. (
    ⊎_elim (λ le. omega (arith, le, length-append head more, size)) (λ b. b.1 (first_is more ∙ one)),
    λ shape h. none shape h.shape_fits ((same_split head (header shape) more h.rest (size ∙ sym (header_len shape)) h.bytes).0),
  )

pub wrong_shape : (asked : Option Shape) (room len : ℕ) (a kept : Shape) (read : List ℕ) → asked ≡ Some a → (a ≡ kept → ⊥) → FitsShape kept
    → read ≡ header kept → Decides asked room len read (Err (WrongShape kept a))
wrong_shape asked room len a kept read is other fits same =
    λ more size. (is, (λ e. other (sym e)), record { rest = more; bytes = ap (λ (l : List ℕ). l ++ more) same; shape_fits = fits })

no_records : (dims : Dims) → AreRecords dims []
unfolding IsDistinct
no_records dims = record { each = tt; apart = tt }

pub begins : (asked : Option Shape) (room gate len : ℕ) (shape : Shape) (b : BookState) (rest read : List ℕ)
    → b ≡ record { shape = shape; room = room; entries = []; ready = [] } → Suits asked shape → FitsShape shape → read ≡ header shape
    → Steps asked room len gate (Gate b) rest read
begins asked room gate len shape b rest read is suits fits same =
    subst (λ (x : BookState). Steps asked room len gate (Gate x) rest read) (sym is) (record {
      waits = (
        record {
          suits = suits;
          book = refl;
          shape_fits = fits;
          records_fit = no_records (dims_of shape);
          few = omega arith;
          place = ap length (same ∙ sym (append-nil (header shape)));
        },
        same ∙ sym (append-nil (header shape)) ∙ sym (append-nil (header shape ++ [])),
      );
      lacks = λ e. omega arith;
      few = omega arith;
    })

-- ---- the body

pub no_upload : (shape : Shape) (L : List UploadData) (bytes : List ℕ) → HasCount bytes
    → length bytes ≡ body_len shape.rows (get_or bytes 6 0)
    → ((r : UploadData) → IsRecord (dims_of shape) r → AreApart r.columns → bytes ≡ body r → ⊥) → (more : List ℕ)
    → HasNoBody shape L (bytes ++ more)
no_upload shape L bytes count size none more r tail all is =
    let dims = dims_of shape in
    let fits = last_fits dims L r all in
    let same_count : get_or bytes 6 0 ≡ length r.columns = sym (get_or_append_left bytes more 0 6 (omega (arith, count.there)))
    ∙ ap (λ (l : List ℕ). get_or l 6 0) is ∙ count_at r tail in
    let len : length bytes ≡ length (body r) = size ∙ ap (λ (n : ℕ). body_len shape.rows n) same_count ∙ sym (body_size dims r fits) in
    let apart = (apart_split (columns_in L) r.columns (subst AreApart (columns_push L r) all.apart)).second in
    none r fits apart ((same_split bytes (body r) more tail len is).0)

records_push : (es : List Entry) (e : Entry) → records (es ++ e ∷ []) ≡ records es ++ e.stored ∷ []
records_push es e = map-append (λ (x : Entry). x.stored) es (e ∷ [])

module _ (u : UploadData) (b : BookState) (full : IsFull u) (fits : IsRecord (dims_of b.shape) u) where
  pub key_known : (AreNew (columns_in (records b.entries)) u.columns → ⊥) → (more : List ℕ)
      → HasNoBody b.shape (records b.entries) (body u ++ more)
  key_known known_key more r tail all is =
      let dims = dims_of b.shape in
      let L = records b.entries in
      let same = same_body dims u r more tail fits (last_fits dims L r all) is in
      let parts = apart_split (columns_in L) r.columns (subst AreApart (columns_push L r) all.apart) in
      known_key (subst (λ (x : UploadData). AreNew (columns_in L) x.columns) (sym same.0) parts.new)

  module _ (all_are_new : AreNew (columns_in (records b.entries)) u.columns) where
    well_formed : AreRecords (dims_of b.shape) (records b.entries) → AreRecords (dims_of b.shape) (records b.entries ++ u ∷ [])
    well_formed all = one_more (dims_of b.shape) (records b.entries) u all fits (apart_upload u.columns full.columns) all_are_new

    stored_all : stored_entry 0 b.entries u ≡ read_entry u
    stored_all = ap {B = Entry} (λ (cs : List Column). entry_with 0 u cs) (pass_all (is_new (content b.entries)) u.columns all_are_new)

    pub overfills : (asked : Option Shape) (room len gate held more : ℕ) → IsGoing asked room gate b → held ≡ count_of (records b.entries)
        → more ≡ length u.columns → room < held + more
        → Decides asked room len (front b.shape (records b.entries) ++ 1 ∷ body u) (Err (Full held more))
    overfills asked room len gate held more going held_is more_is over = λ tail is.
        let L = records b.entries in
        let opens = append_assoc (front b.shape L) (1 ∷ body u) tail in
        record {
          shape = b.shape;
          before = L;
          reached = reached asked room gate b going ((front b.shape L ++ 1 ∷ body u) ++ tail) (1 ∷ (body u ++ tail)) opens;
          next = u;
          tail = tail;
          opens = opens;
          well_formed = well_formed going.records_fit;
          held_is = held_is;
          more_is = more_is;
          over = over;
        }

    pub may_add : count_of (records b.entries) + length u.columns ≤ b.room → IsAddable b.shape b.room (records b.entries) u
    may_add le = addable b.shape b.room (records b.entries) u
        (all_map (IsColumnOf (dims_of b.shape)) (λ (c : Column). c.dims ≡ dims_of b.shape) (λ c is. is.sized) u.columns fits.each)
        all_are_new full.columns.some le

    pub goes_on : (asked : Option Shape) (room len gate : ℕ) (rest : List ℕ) (next : BookState) → IsGoing asked room gate b
        → count_of (records b.entries) + length u.columns ≤ room
        → next ≡ record { shape = b.shape; room = b.room; entries = b.entries ++ stored_entry 0 b.entries u ∷ []; ready = [] }
        → Steps asked room len gate (Gate next) rest (front b.shape (records b.entries) ++ 1 ∷ body u)
    goes_on asked room len gate rest next going le is =
        let L = records b.entries in
        let read = front b.shape L ++ 1 ∷ body u in
        let M = L ++ u ∷ [] in
        let entries : b.entries ++ read_entry u ∷ [] ≡ map read_entry M = ap (λ (x : BookState). x.entries ++ read_entry u ∷ []) going.book
        ∙ sym (map-append read_entry L (u ∷ [])) in
        let same : next ≡ book_of b.shape room M =
        is
        ∙ ap {B = BookState} (λ (e : Entry). record {
          shape = b.shape;
          room = b.room;
          entries = b.entries ++ e ∷ [];
          ready = [];
        }) stored_all
        ∙ (λ i. record { shape = b.shape; room = ap (λ (x : BookState). x.room) going.book i; entries = entries i; ready = [] }) in
        let back : records (map read_entry M) ≡ M = ap records (sym entries) ∙ records_push b.entries (read_entry u) in
        let size_of : count_of M ≡ count_of L + length u.columns = ap length (columns_push L u) ∙ length-append (columns_in L) u.columns in
        let bytes : read ≡ front b.shape M = sym (front_push b.shape L u) in
        let well = well_formed going.records_fit in
        subst (λ (x : BookState). Steps asked room len gate (Gate x) rest read) (sym same) (record {
          waits = (
            record {
              suits = going.suits;
              book = ap (λ (l : List UploadData). book_of b.shape room l) (sym back);
              shape_fits = going.shape_fits;
              records_fit = subst (λ (l : List UploadData). AreRecords (dims_of b.shape) l) (sym back) well;
              few = subst (λ (l : List UploadData). count_of l ≤ room) (sym back) (omega (arith, size_of, le));
              place = ap length (bytes ∙ ap (λ (l : List UploadData). front b.shape l) (sym back));
            },
            bytes ∙ ap (λ (l : List UploadData). front b.shape l) (sym back)
                ∙ sym (append-nil (front b.shape (records (map read_entry M)))),
          );
          lacks = λ e. omega arith;
          few = omega arith;
        })

pub one_byte : (rest : List ℕ) → length rest ≡ 1 → rest ≡ get_or rest 0 0 ∷ []
one_byte [] e = absurd (omega arith)
one_byte (x ∷ []) e = refl
one_byte (x ∷ y ∷ rest) e = absurd (omega arith)

pub suits_none : (asked : Option Shape) (shape : Shape) → ((x : Shape) → asked ≡ Some x → ⊥) → Suits asked shape
suits_none None shape none = tt
suits_none (Some x) shape none = absurd (none x refl)
