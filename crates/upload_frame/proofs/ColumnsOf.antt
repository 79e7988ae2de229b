-- The columns of an upload: read one after the other, as a loop does; spelled as they are read, and read as they are spelled.
use Rattle.std.proofs.Common.{◌≡◌, ℕ, zero, suc, ◌+◌, ◌-◌, ◌*◌, ◌<◌, ◌≤◌, Bool, true, false, cond, eqb, List, [], ◌∷◌}
use Rattle.std.proofs.Common.{◌++◌, length, take, drop, get_or, Result, Ok, Err, refl, sym, ap, subst, ◌∙◌, arith, inl, inr, append_assoc}
use Rattle.std.specs.List.{flat_map, AllByRecursion}
use Rattle.std.proofs.Math.ListN.{get_or-append}
use Rattle.std.proofs.lemmas.Bool.{cases_lt, eqb-true}
use Rattle.std.proofs.lemmas.List.{length-append, append-nil, nil_from_length, take-append-le, take_at, drop_at, get_or_at, take_more, take-append-drop}
use Rattle.std.proofs.lemmas.List.Concat.{flat_map-cons, flat_map-append}
use Rattle.byte_fields.specs.Reading.{◌>>=◌}
use Rattle.byte_fields.specs.Law.{IsBytes}
use Rattle.byte_fields.proofs.Steps.{bind_ok}
use Rattle.byte_fields.proofs.Numbers.{IsBytes-drop}
use Rattle.lg_model.specs.Columns.{Column}
use Rattle.sketchlet_wire.specs.declared.fault.WireFault.{WireFault}
use Rattle.sketchlet_wire.specs.Spelling.{IsColumn, spelling, spelling_len}
use Rattle.sketchlet_wire.specs.Reading.{column_reading}
use Rattle.sketchlet_wire.specs.Uploads.{holds_key, is_twice, no_column, IsUpload}
use Rattle.sketchlet_wire.proofs.Columns.{is_found, is_read, spelling_length}
use Rattle.upload_frame.specs.declared.fault.FrameFault.{FrameFault}
use Rattle.upload_frame.specs.declared.fault.FrameFault.TheVariants.{Length, Twice}
use Rattle.upload_frame.specs.Frames.{next_column, columns_at}
use Rattle.upload_frame.specs.Law.{LawOfColumns}

-- ---- one column more

one_step : (len count i : ℕ) (cs : List Column) (bytes : List ℕ) → i < count
    → columns_at len (count - i) cs bytes ≡ (next_column cs (column_reading bytes) >>= λ x. columns_at len (count - (i + 1)) (cs ++ x.0 ∷ []) (drop x.1 bytes))
unfolding columns_at
one_step len count i cs bytes lt =
    let k : count - i ≡ suc (count - (i + 1)) = omega arith in
    ap (λ (n : ℕ). columns_at len n cs bytes) k

pub goes_on : (len count i : ℕ) (cs : List Column) (bytes : List ℕ) (c : Column) (used : ℕ) (total : Result (List Column) FrameFault) → i < count
    → Ok (c, used) ≡ next_column cs (column_reading bytes)
    → columns_at len (count - i) cs bytes ≡ total → columns_at len (count - (i + 1)) (cs ++ c ∷ []) (drop used bytes) ≡ total
goes_on len count i cs bytes c used total lt e so_far =
    let rest = λ (r : Result (Column × ℕ) FrameFault). r >>= λ x. columns_at len (count - (i + 1)) (cs ++ x.0 ∷ []) (drop x.1 bytes) in
    ap rest e ∙ sym (one_step len count i cs bytes lt) ∙ so_far

pub ends : (len count i : ℕ) (cs : List Column) (bytes : List ℕ) (f : FrameFault) (total : Result (List Column) FrameFault) → i < count
    → Err f ≡ next_column cs (column_reading bytes)
    → columns_at len (count - i) cs bytes ≡ total → total ≡ Err f
ends len count i cs bytes f total lt e so_far =
    let rest = λ (r : Result (Column × ℕ) FrameFault). r >>= λ x. columns_at len (count - (i + 1)) (cs ++ x.0 ∷ []) (drop x.1 bytes) in
    sym so_far ∙ one_step len count i cs bytes lt ∙ sym (ap rest e)

pub is_done : (len count i : ℕ) (cs : List Column) (bytes : List ℕ) (total : Result (List Column) FrameFault) (t : Bool) → count ≤ i
    → eqb (length bytes) 0 ≡ t → columns_at len (count - i) cs bytes ≡ total
    → total ≡ cond t (Ok cs) (Err (Length len))
unfolding columns_at
is_done len count i cs bytes total t le test so_far =
    let k : count - i ≡ zero = omega arith in
    sym so_far ∙ ap (λ (n : ℕ). columns_at len n cs bytes) k ∙ ap (λ (b : Bool). cond b (Ok cs) (Err (Length len))) test

-- ---- what was read is apart

abbrev AreApart : List Column → Type 0
AreApart cs = (n : ℕ) → n < length cs → is_twice cs n ≡ false

apart_more : (cs : List Column) (c : Column) → AreApart cs → holds_key c.key cs ≡ false → AreApart (cs ++ c ∷ [])
apart_more cs c apart new n lt =
    elim (cases_lt n (length cs)) [
      | inl below ↦
          let e : get_or (cs ++ c ∷ []) n no_column ≡ get_or cs n no_column = get_or-append cs (c ∷ []) no_column n below in
          let t : take n (cs ++ c ∷ []) ≡ take n cs = take-append-le n cs (c ∷ []) (omega arith) in
          ap (λ (x : Column). holds_key x.key (take n (cs ++ c ∷ []))) e ∙ ap (λ (x : List Column). holds_key (get_or cs n no_column).key x) t ∙ apart n below
      | inr le ↦
          let at : length cs ≡ n = omega (arith, length-append cs (c ∷ []), lt) in
          let e : get_or (cs ++ c ∷ []) n no_column ≡ c = get_or_at cs c [] no_column n at in
          let t : take n (cs ++ c ∷ []) ≡ cs = take_at cs (c ∷ []) n at in
          ap (λ (x : Column). holds_key x.key (take n (cs ++ c ∷ []))) e ∙ ap (λ (x : List Column). holds_key c.key x) t ∙ new
    ]

picked_ok : (t : Bool) (d : FrameFault) (y x : Column × ℕ) → (let r : Result (Column × ℕ) FrameFault = cond t (Err d) (Ok y) in r) ≡ Ok x → (t ≡ false)
    × (y ≡ x)
picked_ok true d y x e = absurd cc
picked_ok false d y x e = (refl, cc)

next_is : (cs : List Column) (r : Result (Column × ℕ) WireFault) (x : Column × ℕ) → next_column cs r ≡ Ok x → (r ≡ Ok x) × (holds_key x.0.key cs ≡ false)
next_is cs (Err f) x e = absurd cc
next_is cs (Ok y) x e =
    let p = picked_ok (holds_key y.0.key cs) (Twice (length cs)) y x e in
    (ap (λ (z : Column × ℕ). Ok z) p.1, subst (λ (z : Column × ℕ). holds_key z.0.key cs ≡ false) p.1 p.0)

ended_by : (t : Bool) (d : FrameFault) (y x : List Column) → (let r : Result (List Column) FrameFault = cond t (Ok y) (Err d) in r) ≡ Ok x → (t ≡ true)
    × (y ≡ x)
ended_by true d y x e = (refl, cc)
ended_by false d y x e = absurd cc

are_apart : (len n : ℕ) (cs : List Column) (bytes : List ℕ) (all : List Column) → columns_at len n cs bytes ≡ Ok all → AreApart cs → AreApart all
    × (length all ≡ length cs + n)
unfolding columns_at
are_apart len zero cs bytes all e apart =
    let p = ended_by (eqb (length bytes) 0) (Length len) cs all e in
    (subst AreApart p.1 apart, omega (arith, ap length p.1))
are_apart len (suc n) cs bytes all e apart =
    let a = bind_ok (next_column cs (column_reading bytes)) (λ x. columns_at len n (cs ++ x.0 ∷ []) (drop x.1 bytes)) all e in
    let p = next_is cs (column_reading bytes) a.0 a.1 in
    let more = are_apart len n (cs ++ a.0.0 ∷ []) (drop a.0.1 bytes) all a.2 (apart_more cs a.0.0 apart p.1) in
    (more.0, omega (arith, more.1, length-append cs (a.0.0 ∷ [])))

pub is_upload : (len n : ℕ) (bytes : List ℕ) (all : List Column) → columns_at len n [] bytes ≡ Ok all → 1 ≤ n → n ≤ 16 → IsUpload all
is_upload len n bytes all e some few =
    let p = are_apart len n [] bytes all e (λ k lt. absurd (omega (arith, lt))) in
    record { some = omega (arith, p.1); few = omega (arith, p.1); apart = p.0 }

-- ---- spelled as they are read, and read as they are spelled

pub record Spelled (n : ℕ) (cs : List Column) (bytes : List ℕ) (all : List Column) : Type 0 where
  pub new : List Column
  pub all_is : all ≡ cs ++ new
  pub bytes_are : bytes ≡ flat_map spelling new
  pub each : AllByRecursion IsColumn new
  pub count : length new ≡ n

pub columns_take : (len n : ℕ) (cs : List Column) (bytes : List ℕ) (all : List Column) → IsBytes bytes → columns_at len n cs bytes ≡ Ok all
    → Spelled n cs bytes all
unfolding columns_at
columns_take len zero cs bytes all fits e =
    let p = ended_by (eqb (length bytes) 0) (Length len) cs all e in
    record { new = []; all_is = sym p.1 ∙ sym (append-nil cs); bytes_are = nil_from_length bytes (eqb-true _ _ p.0); each = tt; count = refl }
columns_take len (suc n) cs bytes all fits e =
    let a = bind_ok (next_column cs (column_reading bytes)) (λ x. columns_at len n (cs ++ x.0 ∷ []) (drop x.1 bytes)) all e in
    let p = next_is cs (column_reading bytes) a.0 a.1 in
    let found = is_found bytes (Ok a.0) fits (sym p.0) in
    let more = columns_take len n (cs ++ a.0.0 ∷ []) (drop a.0.1 bytes) all (IsBytes-drop a.0.1 bytes fits) a.2 in
    record {
      new = a.0.0 ∷ more.new;
      all_is = more.all_is ∙ append_assoc cs (a.0.0 ∷ []) more.new;
      bytes_are = found.1 ∙ ap (λ (r : List ℕ). spelling a.0.0 ++ r) more.bytes_are ∙ sym (flat_map-cons spelling a.0.0 more.new);
      each = (found.0, more.each);
      count = ap suc more.count;
    }

columns_again : (len : ℕ) (cs new : List Column) → AllByRecursion IsColumn new → AreApart (cs ++ new)
    → columns_at len (length new) cs (flat_map spelling new) ≡ Ok (cs ++ new)
unfolding columns_at
columns_again len cs [] each apart = ap (λ (x : List Column). Ok x) (sym (append-nil cs))
columns_again len cs (c ∷ new) each apart =
    let tail : List ℕ = flat_map spelling new in
    let rest = λ (r : Result (Column × ℕ) FrameFault). r >>= λ x. columns_at len (length new) (cs ++ x.0 ∷ []) (drop x.1 (flat_map spelling (c ∷ new))) in
    let used : ℕ = spelling_len c.dims.rows in
    let read : column_reading (flat_map spelling (c ∷ new)) ≡ Ok (c, used) =
    is_read (flat_map spelling (c ∷ new)) c tail each.0 (flat_map-cons spelling c new) in
    let at : get_or (cs ++ c ∷ new) (length cs) no_column ≡ c = get_or_at cs c new no_column (length cs) refl in
    let before : take (length cs) (cs ++ c ∷ new) ≡ cs = take_at cs (c ∷ new) (length cs) refl in
    let fresh : holds_key c.key cs ≡ false =
    sym (ap (λ (x : Column). holds_key x.key (take (length cs) (cs ++ c ∷ new))) at ∙ ap (λ (x : List Column). holds_key c.key x) before)
    ∙ apart (length cs) (omega (arith, length-append cs (c ∷ new))) in
    let step : next_column cs (column_reading (flat_map spelling (c ∷ new))) ≡ Ok (c, used) =
    ap (next_column cs) read ∙ ap (λ (t : Bool). (let r : Result (Column × ℕ) FrameFault = cond t (Err (Twice (length cs))) (Ok (c, used)) in r)) fresh in
    let left : drop used (flat_map spelling (c ∷ new)) ≡ tail =
    ap (drop used) (flat_map-cons spelling c new) ∙ drop_at (spelling c) tail used (spelling_length c each.0) in
    let regroup : (cs ++ c ∷ []) ++ new ≡ cs ++ c ∷ new = append_assoc cs (c ∷ []) new in
    let more = columns_again len (cs ++ c ∷ []) new each.1 (subst AreApart (sym regroup) apart) in
    ap rest step ∙ ap (λ (r : List ℕ). columns_at len (length new) (cs ++ c ∷ []) r) left ∙ more ∙ ap (λ (x : List Column). Ok x) regroup

-- ---- lengths

pub columns_length : (cs : List Column) → AllByRecursion IsColumn cs → (20 * length cs ≤ length (flat_map spelling cs))
    × (length (flat_map spelling cs) ≤ 62 * length cs)
columns_length [] each = (omega arith, omega arith)
columns_length (c ∷ cs) each =
    let more = columns_length cs each.1 in
    let one = spelling_length c each.0 in
    let e : length (flat_map spelling (c ∷ cs)) ≡ length (spelling c ++ flat_map spelling cs) = ap length (flat_map-cons spelling c cs) in (
      omega (arith, e, length-append (spelling c) (flat_map spelling cs), one, more.0, each.0.some_rows),
      omega
          (arith, e, length-append (spelling c) (flat_map spelling cs), one, more.1, each.0.few_rows),
    )

pub law : LawOfColumns
law = record {
  again = λ len cs upload each. columns_again len [] cs each upload.apart;
  taken = λ len n bytes cs fits e.
      let t = columns_take len n [] bytes cs fits e in
      subst (λ (x : List Column). (bytes ≡ flat_map spelling x) × AllByRecursion IsColumn x × (length x ≡ n)) (sym t.all_is) (t.bytes_are, t.each, t.count);
}

-- One sketchlet more of a list.
pub text_more : (cs : List Column) (i : ℕ) (d : Column) → i < length cs
    → flat_map spelling (take (i + 1) cs) ≡ flat_map spelling (take i cs) ++ spelling (get_or cs i d)
text_more cs i d lt =
    let c : Column = get_or cs i d in
    ap (flat_map spelling) (take_more cs i d lt) ∙ flat_map-append spelling (take i cs) (c ∷ [])
    ∙ ap (λ (x : List ℕ). flat_map spelling (take i cs) ++ x) (flat_map-cons spelling c [] ∙ append-nil (spelling c))

pub length_more : (cs : List Column) (i : ℕ) (d : Column) → i < length cs → IsColumn (get_or cs i d)
    → length (flat_map spelling (take (i + 1) cs)) ≡ length (flat_map spelling (take i cs)) + spelling_len (get_or cs i d).dims.rows
length_more cs i d lt is =
    let c : Column = get_or cs i d in
    ap length (text_more cs i d lt) ∙ omega (arith, length-append (flat_map spelling (take i cs)) (spelling c), spelling_length c is)

-- The sketchlets of the first columns are within those of all.
pub within : (cs : List Column) (i : ℕ) → length (flat_map spelling (take i cs)) ≤ length (flat_map spelling cs)
within cs i =
    let all : flat_map spelling cs ≡ flat_map spelling (take i cs) ++ flat_map spelling (drop i cs) =
    ap (flat_map spelling) (sym (take-append-drop i cs)) ∙ flat_map-append spelling (take i cs) (drop i cs) in
    omega (arith, ap length all, length-append (flat_map spelling (take i cs)) (flat_map spelling (drop i cs)))
