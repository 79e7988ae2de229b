-- A file has one answer.
use Rattle.std.proofs.Common.{◌≡◌, ◌⊎◌, inl, inr, ⊎_elim, ℕ, ◌+◌, ◌<◌, ◌≤◌, List, [], ◌∷◌, ◌++◌, length, get_or, Option, Some, Result, Ok}
use Rattle.std.proofs.Common.{Err, refl, sym, ◌∙◌, ap, subst, arith, append_assoc, length-append}
use Rattle.std.specs.List.{flat_map, AllByRecursion, IsDistinct}
use Rattle.std.proofs.lemmas.List.{get_or_append_left, append-nil, append_cancel_left}
use Rattle.std.proofs.lemmas.List.Concat.{flat_map-append}
use Rattle.lg_model.specs.declared.column.Dims.{Dims}
use Rattle.lg_model.specs.Placing.{Shape}
use Rattle.lg_model.specs.Columns.{Column, dims_of}
use Rattle.sketchlet_wire.specs.ShapeFields.{FitsShape}
use Rattle.sketchlet_wire.specs.Uploads.{UploadData, same_column_key}
use Rattle.column_book.specs.Entries.{BookState, records, columns_in}
use Rattle.column_book.specs.Kept.{keys_of}
use Rattle.book_file.specs.declared.found.OpenFault.{OpenFault}
use Rattle.book_file.specs.declared.found.OpenFault.TheVariants.{DiskFault, NotAJournal, WrongShape, Damaged, Full, Memory}
use Rattle.book_file.specs.declared.found.Found.{Found}
use Rattle.book_file.specs.declared.found.Found.TheVariants.{Blank, Book}
use Rattle.book_file.specs.File.{IsRecord, AreRecords, IsClosed, header, body, record_bytes, front, IsBlank}
use Rattle.book_file.specs.Found.{HasHeader, HasNoBody, Reaches, Suits, Finds, book_of, count_of}
use Rattle.book_file.specs.Laws.{LawOfAnswers}
use Rattle.book_file.proofs.Apart.{all_push, all_last, apart_split}
use Rattle.book_file.proofs.Bodies.{same_body}
use Rattle.book_file.proofs.Heads.{header_len, header_one, front_header}

-- ---- headers

abbrev some_shape : Shape → Option Shape
some_shape a = Some a

headed : (shape : Shape) (file : List ℕ) → HasHeader shape file → IsBlank file → ⊥
headed shape file h blank =
    let size = ap length h.bytes ∙ length-append (header shape) h.rest in
    let one : get_or file 0 0 ≡ 1 =
    ap (λ (l : List ℕ). get_or l 0 0) h.bytes ∙ get_or_append_left (header shape) h.rest 0 0 (omega (arith, header_len shape))
    ∙ header_one shape in
    ⊎_elim (λ le. omega (arith, le, size, header_len shape)) (λ b. b.1 one) blank

one_header : (s t : Shape) (file : List ℕ) → HasHeader s file → HasHeader t file → s ≡ t
one_header s t file h k = (front_header s t h.rest k.rest h.shape_fits k.shape_fits (sym h.bytes ∙ k.bytes)).0

-- ---- two walks over one file

pub columns_push : (L : List UploadData) (r : UploadData) → columns_in (L ++ r ∷ []) ≡ columns_in L ++ r.columns
columns_push L r = flat_map-append (λ (x : UploadData). x.columns) L (r ∷ [])
    ∙ ap (λ (cs : List Column). columns_in L ++ cs) (append-nil r.columns)

-- the second one goes on with a record after those of the first
record Further (dims : Dims) (L M : List UploadData) (X : List ℕ) : Type 0 where
  pub next : UploadData
  pub more : List UploadData
  pub tail : List ℕ
  pub same : L ++ next ∷ more ≡ M
  pub fits : IsRecord dims next
  pub opens : X ≡ 1 ∷ (body next ++ tail)

further_cons : (dims : Dims) (e f : UploadData) (L M : List UploadData) (X : List ℕ) → e ≡ f → Further dims L M X
    → Further dims (e ∷ L) (f ∷ M) X
further_cons dims e f L M X one further = record {
  next = further.next;
  more = further.more;
  tail = further.tail;
  same = λ i. one i ∷ further.same i;
  fits = further.fits;
  opens = further.opens;
}

abbrev Compared : Dims → List UploadData → List UploadData → List ℕ → List ℕ → Type 0
Compared dims L M X Y = ((L ≡ M) × (X ≡ Y)) ⊎ (Further dims L M X ⊎ Further dims M L Y)

compare : (dims : Dims) (L M : List UploadData) (X Y : List ℕ) → AllByRecursion (IsRecord dims) L → AllByRecursion (IsRecord dims) M
    → flat_map record_bytes L ++ X ≡ flat_map record_bytes M ++ Y → Compared dims L M X Y
compare dims [] [] X Y fl fm same = inl (refl, same)
compare dims [] (f ∷ M) X Y fl fm same = inr (inl (record {
  next = f;
  more = M;
  tail = flat_map record_bytes M ++ Y;
  same = refl;
  fits = fm.0;
  opens = same ∙ append_assoc (record_bytes f) (flat_map record_bytes M) Y;
}))
compare dims (e ∷ L) [] X Y fl fm same = inr (inr (record {
  next = e;
  more = L;
  tail = flat_map record_bytes L ++ X;
  same = refl;
  fits = fl.0;
  opens = sym same ∙ append_assoc (record_bytes e) (flat_map record_bytes L) X;
}))
compare dims (e ∷ L) (f ∷ M) X Y fl fm same =
    let tail : (body e ++ flat_map record_bytes L) ++ X ≡ (body f ++ flat_map record_bytes M) ++ Y = cc in
    let first = same_body dims e f (flat_map record_bytes L ++ X) (flat_map record_bytes M ++ Y) fl.0 fm.0
    (sym (append_assoc (body e) (flat_map record_bytes L) X) ∙ tail ∙ append_assoc (body f) (flat_map record_bytes M) Y) in
    ⊎_elim
    (λ s. inl ((λ i. first.0 i ∷ s.0 i), s.1))
    (λ other. ⊎_elim
    (λ left. inr (inl (further_cons dims e f L M X first.0 left)))
    (λ right. inr (inr (further_cons dims f e M L Y (sym first.0) right))) other)
    (compare dims L M X Y fl.1 fm.1 first.1)

-- ---- where a walk stops

-- No well-formed body that there is room for stands after an open gate at the front of the bytes.
abbrev NoGo : Shape → ℕ → List UploadData → List ℕ → Type 0
NoGo shape room L X = (r : UploadData) (tail : List ℕ) → AreRecords (dims_of shape) (L ++ r ∷ []) → count_of L + length r.columns ≤ room
    → X ≡ 1 ∷ (body r ++ tail) → ⊥

record Stop (asked : Option Shape) (room : ℕ) (file : List ℕ) (shape : Shape) (L : List UploadData) (X : List ℕ) : Type 0 where
  pub bytes : file ≡ front shape L ++ X
  pub suits : Suits asked shape
  pub shape_fits : FitsShape shape
  pub records_fit : AreRecords (dims_of shape) L
  pub few : count_of L ≤ room
  pub nogo : NoGo shape room L X

stop_header : (asked : Option Shape) (room : ℕ) (file : List ℕ) (shape : Shape) (L : List UploadData) (X : List ℕ)
    → Stop asked room file shape L X → HasHeader shape file
stop_header asked room file shape L X s =
    record {
      rest = flat_map record_bytes L ++ X;
      bytes = s.bytes ∙ append_assoc (header shape) (flat_map record_bytes L) X;
      shape_fits = s.shape_fits;
    }

goes_further : (shape : Shape) (room : ℕ) (L M : List UploadData) (X : List ℕ) → AreRecords (dims_of shape) L → AreRecords (dims_of shape) M
    → count_of M ≤ room → NoGo shape room L X → Further (dims_of shape) L M X → ⊥
goes_further shape room L M X fl fm few nogo f =
    let n = f.next in
    let cols : columns_in L ++ (n.columns ++ columns_in f.more) ≡ columns_in M =
    sym (flat_map-append (λ (x : UploadData). x.columns) L (n ∷ f.more)) ∙ ap columns_in f.same in
    let grouped : (columns_in L ++ n.columns) ++ columns_in f.more ≡ columns_in M =
    append_assoc (columns_in L) n.columns (columns_in f.more) ∙ cols in
    let apart = (apart_split (columns_in L ++ n.columns) (columns_in f.more)
    (subst (λ (cs : List Column). IsDistinct same_column_key (keys_of cs)) (sym grouped) fm.apart)).first in
    let well : AreRecords (dims_of shape) (L ++ n ∷ []) = record {
      each = all_push (IsRecord (dims_of shape)) L n fl.each f.fits;
      apart = subst (λ (cs : List Column). IsDistinct same_column_key (keys_of cs)) (sym (columns_push L n)) apart;
    } in
    nogo n f.tail well (omega (
      arith,
      few,
      ap length cols,
      length-append (columns_in L) (n.columns ++ columns_in f.more),
      length-append n.columns (columns_in f.more),
    )) f.opens

same_stop : (asked : Option Shape) (room : ℕ) (file : List ℕ) (s t : Shape) (L M : List UploadData) (X Y : List ℕ)
    → Stop asked room file s L X → Stop asked room file t M Y → (s ≡ t) × (L ≡ M) × (X ≡ Y)
same_stop asked room file s t L M X Y a b0 =
    let shapes = one_header s t file (stop_header asked room file s L X a) (stop_header asked room file t M Y b0) in
    let b : Stop asked room file s M Y = subst (λ (x : Shape). Stop asked room file x M Y) (sym shapes) b0 in
    let whole : header s ++ (flat_map record_bytes L ++ X) ≡ header s ++ (flat_map record_bytes M ++ Y) =
    sym (append_assoc (header s) (flat_map record_bytes L) X) ∙ sym a.bytes ∙ b.bytes
    ∙ append_assoc (header s) (flat_map record_bytes M) Y in
    ⊎_elim
    (λ same. (shapes, same.0, same.1))
    (λ other. ⊎_elim
    (λ f. absurd (goes_further s room L M X a.records_fit b.records_fit b.few a.nogo f))
    (λ f. absurd (goes_further s room M L Y b.records_fit a.records_fit a.few b.nogo f)) other)
    (compare (dims_of s) L M X Y a.records_fit.each b.records_fit.each (append_cancel_left (header s) _ _ whole))

-- ---- answers as stops

pub last_fits : (dims : Dims) (L : List UploadData) (r : UploadData) → AreRecords dims (L ++ r ∷ []) → IsRecord dims r
last_fits dims L r all = all_last (IsRecord dims) L r all.each

abbrev Answer : Type 0
Answer = Result Found OpenFault

-- how a stop is told
data Told (room : ℕ) (shape : Shape) (L : List UploadData) (X : List ℕ) : Answer → Type 0 where
  ends : (at : ℕ) → at ≡ length (front shape L) → X ≡ [] → Told room shape L X (Err (Damaged at))
  breaks : (at : ℕ) (tail : List ℕ) → at ≡ length (front shape L) → X ≡ 1 ∷ tail → HasNoBody shape L tail
      → Told room shape L X (Err (Damaged at))
  overfills : (held more : ℕ) (n : UploadData) (tail : List ℕ) → X ≡ 1 ∷ (body n ++ tail) → AreRecords (dims_of shape) (L ++ n ∷ [])
      → held ≡ count_of L → more ≡ length n.columns → room < held + more → Told room shape L X (Err (Full held more))
  holds : (b : BookState) (end gate : ℕ) (rest : List ℕ) → X ≡ gate ∷ rest → IsClosed gate → b ≡ book_of shape room L
      → end ≡ length (front shape L) → Told room shape L X (Ok (Book b end))

module _ (room : ℕ) (shape : Shape) (L : List UploadData) (X : List ℕ) where
  damaged_same : (a b : ℕ) → a ≡ length (front shape L) → b ≡ length (front shape L) → ◌≡◌ {A = Answer} (Err (Damaged a)) (Err (Damaged b))
  damaged_same a b pa pb = ap {B = Answer} (λ (n : ℕ). Err (Damaged n)) (pa ∙ sym pb)

  opens_once : (gate : ℕ) (a b : List ℕ) → X ≡ 1 ∷ a → X ≡ gate ∷ b → IsClosed gate → ⊥
  opens_once gate a b x y shut = let e : 1 ∷ a ≡ gate ∷ b = sym x ∙ y in let one : gate ≡ 1 = cc in shut one

  told_same : (r s : Answer) → Told room shape L X r → Told room shape L X s → r ≡ s
  told_same r s (ends a pa xa) (ends b pb xb) = damaged_same a b pa pb
  told_same r s (ends a pa xa) (breaks b t pb xb none) = damaged_same a b pa pb
  told_same r s (ends a pa xa) (overfills h m n t x well eh em over) = let e : [] ≡ 1 ∷ (body n ++ t) = sym xa ∙ x in absurd cc
  told_same r s (ends a pa xa) (holds b end gate rest x shut is ee) = let e : [] ≡ gate ∷ rest = sym xa ∙ x in absurd cc
  told_same r s (breaks a ta pa xa none) (ends b pb xb) = damaged_same a b pa pb
  told_same r s (breaks a ta pa xa none) (breaks b tb pb xb none2) = damaged_same a b pa pb
  told_same r s (breaks a ta pa xa none) (overfills h m n t x well eh em over) =
      let e : 1 ∷ ta ≡ 1 ∷ (body n ++ t) = sym xa ∙ x in
      let tail : ta ≡ body n ++ t = cc in
      absurd (none n t well tail)
  told_same r s (breaks a ta pa xa none) (holds b end gate rest x shut is ee) = absurd (opens_once gate ta rest xa x shut)
  told_same r s (overfills h m n t x well eh em over) (ends b pb xb) = let e : [] ≡ 1 ∷ (body n ++ t) = sym xb ∙ x in absurd cc
  told_same r s (overfills h m n t x well eh em over) (breaks b tb pb xb none) =
      let e : 1 ∷ tb ≡ 1 ∷ (body n ++ t) = sym xb ∙ x in
      let tail : tb ≡ body n ++ t = cc in
      absurd (none n t well tail)
  told_same r s (overfills h m n t x well eh em over) (overfills h2 m2 n2 t2 x2 well2 eh2 em2 over2) =
      let e : 1 ∷ (body n ++ t) ≡ 1 ∷ (body n2 ++ t2) = sym x ∙ x2 in
      let tail : body n ++ t ≡ body n2 ++ t2 = cc in
      let one = same_body (dims_of shape) n n2 t t2 (last_fits (dims_of shape) L n well) (last_fits (dims_of shape) L n2 well2) tail in
      let held : h ≡ h2 = eh ∙ sym eh2 in
      let more : m ≡ m2 = em ∙ ap (λ (u : UploadData). length u.columns) one.0 ∙ sym em2 in
      λ i. Err (Full (held i) (more i))
  told_same r s (overfills h m n t x well eh em over) (holds b end gate rest x2 shut is ee) =
      absurd (opens_once gate (body n ++ t) rest x x2 shut)
  told_same r s (holds b end gate rest x shut is ee) (ends b2 pb xb) = let e : [] ≡ gate ∷ rest = sym xb ∙ x in absurd cc
  told_same r s (holds b end gate rest x shut is ee) (breaks b2 tb pb xb none) = absurd (opens_once gate tb rest xb x shut)
  told_same r s (holds b end gate rest x shut is ee) (overfills h m n t x2 well eh em over) =
      absurd (opens_once gate (body n ++ t) rest x2 x shut)
  told_same r s (holds b end gate rest x shut is ee) (holds b2 end2 gate2 rest2 x2 shut2 is2 ee2) =
      let books : b ≡ b2 = is ∙ sym is2 in
      let gates : end ≡ end2 = ee ∙ sym ee2 in
      λ i. Ok (Book (books i) (gates i))

-- ---- all answers

data Kind (asked : Option Shape) (room : ℕ) (file : List ℕ) : Answer → Type 0 where
  blank : IsBlank file → Kind asked room file (Ok Blank)
  foreign : (IsBlank file → ⊥) → ((shape : Shape) → HasHeader shape file → ⊥) → Kind asked room file (Err NotAJournal)
  other : (k a : Shape) → asked ≡ Some a → (k ≡ a → ⊥) → HasHeader k file → Kind asked room file (Err (WrongShape k a))
  stops : (r : Answer) (shape : Shape) (L : List UploadData) (X : List ℕ) → Stop asked room file shape L X → Told room shape L X r
      → Kind asked room file r

reached_stop : (asked : Option Shape) (room : ℕ) (file : List ℕ) (shape : Shape) (L : List UploadData) (X : List ℕ)
    → Reaches asked room shape L file → file ≡ front shape L ++ X → NoGo shape room L X → Stop asked room file shape L X
reached_stop asked room file shape L X r is nogo =
    record { bytes = is; suits = r.suits; shape_fits = r.shape_fits; records_fit = r.records_fit; few = r.few; nogo = nogo }

kind_of : (asked : Option Shape) (room : ℕ) (file : List ℕ) (r : Answer) → Finds asked room file r → (r ≡ Err Memory → ⊥)
    → Kind asked room file r
kind_of asked room file (Ok Blank) f free = blank f
kind_of asked room file (Ok (Book b end)) f free = stops (Ok (Book b end)) b.shape (records b.entries) (f.spells.gate ∷ f.spells.rest)
    (record {
      bytes = f.spells.bytes;
      suits = f.suits;
      shape_fits = f.spells.shape_fits;
      records_fit = f.spells.records_fit;
      few = f.few;
      nogo = λ r tail all le is. let one : f.spells.gate ≡ 1 = cc in f.spells.closed one;
    })
    (holds b end f.spells.gate f.spells.rest refl f.spells.closed f.book f.place)
kind_of asked room file (Err DiskFault) f free = absurd f
kind_of asked room file (Err NotAJournal) f free = foreign f.0 f.1
kind_of asked room file (Err (WrongShape k a)) f free = other k a f.0 f.1 f.2
kind_of asked room file (Err (Damaged at)) (inl f) free = stops (Err (Damaged at)) f.shape f.before []
    (reached_stop asked room file f.shape f.before [] f.reached (f.nothing ∙ sym (append-nil (front f.shape f.before)))
    (λ r tail all le is. absurd cc))
    (ends at f.place refl)
kind_of asked room file (Err (Damaged at)) (inr f) free = stops (Err (Damaged at)) f.shape f.before (1 ∷ f.tail)
    (reached_stop asked room file f.shape f.before (1 ∷ f.tail) f.reached f.opens
    (λ r tail all le is. let t : f.tail ≡ body r ++ tail = cc in f.no_body r tail all t))
    (breaks at f.tail f.place refl f.no_body)
kind_of asked room file (Err (Full held more)) f free = stops (Err (Full held more)) f.shape f.before (1 ∷ (body f.next ++ f.tail))
    (reached_stop asked room file f.shape f.before (1 ∷ (body f.next ++ f.tail)) f.reached f.opens
    (λ r tail all le is.
    let t : body f.next ++ f.tail ≡ body r ++ tail = cc in
    let one = same_body (dims_of f.shape) f.next r f.tail tail (last_fits (dims_of f.shape) f.before f.next f.well_formed)
    (last_fits (dims_of f.shape) f.before r all) t in
    omega (arith, le, f.over, f.held_is, f.more_is, ap (λ (a : UploadData). length a.columns) one.0)))
    (overfills held more f.next f.tail refl f.well_formed f.held_is f.more_is f.over)
kind_of asked room file (Err Memory) f free = absurd (free refl)

not_suited : (asked : Option Shape) (k a shape : Shape) → asked ≡ Some a → (k ≡ a → ⊥) → Suits asked shape → k ≡ shape → ⊥
not_suited asked k a shape is ne suits same =
    let s : shape ≡ a = subst (λ (o : Option Shape). Suits o shape) is suits in
    ne (same ∙ s)

module _ (asked : Option Shape) (room : ℕ) (file : List ℕ) where
  same_kind : (r s : Answer) → Kind asked room file r → Kind asked room file s → r ≡ s
  same_kind r s (blank b) (blank c) = refl
  same_kind r s (blank b) (foreign n h) = absurd (n b)
  same_kind r s (blank b) (other k a e ne h) = absurd (headed k file h b)
  same_kind r s (blank b) (stops q shape L X st told) = absurd (headed shape file (stop_header asked room file shape L X st) b)
  same_kind r s (foreign n h) (blank b) = absurd (n b)
  same_kind r s (foreign n h) (foreign n2 h2) = refl
  same_kind r s (foreign n h) (other k a e ne hk) = absurd (h k hk)
  same_kind r s (foreign n h) (stops q shape L X st told) = absurd (h shape (stop_header asked room file shape L X st))
  same_kind r s (other k a e ne h) (blank b) = absurd (headed k file h b)
  same_kind r s (other k a e ne h) (foreign n h2) = absurd (h2 k h)
  same_kind r s (other k a e ne h) (other k2 a2 e2 ne2 h2) =
      let ks = one_header k k2 file h h2 in
      let both : some_shape a ≡ some_shape a2 = sym e ∙ e2 in
      let ask : a ≡ a2 = cc in
      λ i. Err (WrongShape (ks i) (ask i))
  same_kind r s (other k a e ne h) (stops q shape L X st told) =
      absurd (not_suited asked k a shape e ne st.suits (one_header k shape file h (stop_header asked room file shape L X st)))
  same_kind r s (stops q shape L X st told) (blank b) = absurd (headed shape file (stop_header asked room file shape L X st) b)
  same_kind r s (stops q shape L X st told) (foreign n h) = absurd (h shape (stop_header asked room file shape L X st))
  same_kind r s (stops q shape L X st told) (other k a e ne h) =
      absurd (not_suited asked k a shape e ne st.suits (one_header k shape file h (stop_header asked room file shape L X st)))
  same_kind r s (stops q shape L X st told) (stops q2 shape2 M Y st2 told2) =
      let same = same_stop asked room file shape shape2 L M X Y st st2 in
      let moved : Told room shape M Y q2 = subst (λ (x : Shape). Told room x M Y q2) (sym same.0) told2 in
      let here : Told room shape L Y q2 = subst (λ (l : List UploadData). Told room shape l Y q2) (sym same.1) moved in
      told_same room shape L X q q2 told (subst (λ (l : List ℕ). Told room shape L l q2) (sym same.2) here)

pub one_answer : LawOfAnswers
one_answer asked room file r s fr fs nr ns =
    same_kind asked room file r s (kind_of asked room file r fr nr) (kind_of asked room file s fs ns)
