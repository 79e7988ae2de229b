-- Which lists the worked runs leave.
use Rattle.std.specs.Prelude.{◌≡◌, ℕ, zero, suc, ◌<◌, List, [], ◌∷◌, ◌++◌, All, false, Result, Ok}
use Rattle.std.proofs.Common.{ap, refl, sym, subst, arith, true≢false}
use Rattle.std.proofs.lemmas.List.Elements.{All-from_recursion, All-nil}
use Rattle.lg_model.specs.Scenario.{Scenario}
use Rattle.lg_model.specs.declared.column.Bucket.{Bucket}
use Rattle.lg_model.specs.Columns.{Cells, Column}
use Rattle.lg_model.specs.Worked.{first, first_again, late}
use Rattle.sketchlet_wire.specs.Uploads.{UploadData, holds_key}
use Rattle.column_book.specs.declared.book.TheConstants.{ROOM}
use Rattle.column_book.specs.declared.fault.BookFault.{BookFault}
use Rattle.column_book.specs.Applying.{decide}
use Rattle.link_deliveries.specs.Deliveries.{delivered, brought_in_all}
use Rattle.upload_world.specs.Pumps.{before_first}
use Rattle.book_laws.specs.Legal.{Order, upload_at, order_at, IsApart, IsLegalNext, AreLegalNext, IsLegal}
use Rattle.book_laws.specs.Rows.{sole, left, right, dearer, dear, lossy, record_of, WorkedBooks}
use Rattle.book_laws.specs.Keeping.{IsClash}
use Rattle.book_laws.proofs.Lists.{same_rest}

abbrev once : Scenario
once = first 20 first_again

first_next : IsLegalNext delivered once [] (record_of 0 (sole ∷ []))
unfolding brought_in_all
first_next = record { at = 0; declared = omega arith; sent = omega arith; host = refl; stored = refl; some = omega arith; first = All-nil _ }

-- the third upload of the late run, after the record of the first
third_next : IsLegalNext delivered late (record_of 0 (left ∷ []) ∷ []) (record_of 2 (right ∷ []))
unfolding brought_in_all
third_next = record {
  at = 0;
  declared = omega arith;
  sent = omega arith;
  host = refl;
  stored = refl;
  some = omega arith;
  first = All-from_recursion (λ q. IsApart (record_of 2 (right ∷ [])) (upload_at late 0 q)) (0 ∷ 1 ∷ []) (free, (free, tt));
}
  where
    free : All (λ (c : Column). holds_key c.key (left ∷ []) ≡ false) (right ∷ [])
    free = All-from_recursion (λ (c : Column). holds_key c.key (left ∷ []) ≡ false) (right ∷ []) (refl, tt)

late_next : IsLegalNext delivered late [] (record_of 0 (left ∷ []))
unfolding brought_in_all
late_next = record { at = 0; declared = omega arith; sent = omega arith; host = refl; stored = refl; some = omega arith; first = All-nil _ }

lossy_next : IsLegalNext delivered lossy [] (record_of 1 (sole ∷ []))
unfolding brought_in_all
lossy_next = record { at = 0; declared = omega arith; sent = omega arith; host = refl; stored = refl; some = omega arith; first = All-nil _ }

-- ---- lists that aren't legal

each_of : (order : Order) (w : Scenario) (before more : List UploadData) → IsLegal order w before (before ++ more) → AreLegalNext order w before more
each_of order w before more legal = subst (AreLegalNext order w before) (same_rest before legal.more more (sym legal.begins)) legal.each

abbrev Taken : Type 0
Taken = Result (List Column) BookFault

none_taken : (c : Column) → ◌≡◌ {A = Taken} (Ok []) (Ok (c ∷ [])) → ⊥
none_taken c h = absurd (cc h)

not_twice : IsLegal delivered once [] (record_of 0 (sole ∷ []) ∷ record_of 0 (sole ∷ []) ∷ []) → ⊥
not_twice legal =
    let second = (each_of delivered once [] (record_of 0 (sole ∷ []) ∷ record_of 0 (sole ∷ []) ∷ []) legal).1.0 in
    at_host second.at second.declared second.stored
  where
    at_host : (h : ℕ) → h < 1 → decide once.shape ROOM (record_of 0 (sole ∷ []) ∷ []) (upload_at once h 0) ≡ Ok (sole ∷ []) → ⊥
    at_host zero low stored = none_taken sole stored
    at_host (suc h) low stored = omega (arith, low)

not_the_lost : IsLegal delivered lossy [] (record_of 0 (sole ∷ []) ∷ []) → ⊥
unfolding brought_in_all
not_the_lost legal =
    let next = (each_of delivered lossy [] (record_of 0 (sole ∷ []) ∷ []) legal).0 in
    at_host next.at next.declared next.first
  where
    at_host : (h : ℕ) → h < 1 → All (λ q. IsApart (record_of 0 (sole ∷ [])) (upload_at lossy h q)) (before_first 0 (order_at delivered lossy h)) → ⊥
    at_host zero low first = true≢false (first 0 1 (omega arith) 0 sole (omega arith))
    at_host (suc h) low first = omega (arith, low)

not_the_third : IsLegal delivered late [] (record_of 2 (left ∷ right ∷ []) ∷ []) → ⊥
unfolding brought_in_all
not_the_third legal =
    let next = (each_of delivered late [] (record_of 2 (left ∷ right ∷ []) ∷ []) legal).0 in
    at_host next.at next.declared next.first
  where
    at_host : (h : ℕ) → h < 1 → All (λ q. IsApart (record_of 2 (left ∷ right ∷ [])) (upload_at late h q)) (before_first 2 (order_at delivered late h)) → ⊥
    at_host zero low first = true≢false (first 0 0 (omega arith) 0 left (omega arith))
    at_host (suc h) low first = omega (arith, low)

-- ---- a clash

first_bytes : List Bucket → ℕ
first_bytes [] = 0
first_bytes (b ∷ bs) = b.bytes

clash : IsClash dearer (record_of 0 (sole ∷ []) ∷ []) sole.key sole dear
unfolding first_bytes
clash = record {
  brought = (0, omega arith, refl);
  under = refl;
  has = refl;
  named = (refl, refl);
  other = λ same. let n : 1500 ≡ 1600 = ap (λ (x : Cells). first_bytes x.buckets) same in omega (arith, n);
}

pub worked : WorkedBooks
unfolding brought_in_all
worked = record {
  one_upload = refl;
  no_upload = refl;
  three_uploads = refl;
  four_uploads = refl;
  plain_order = refl;
  lossy_order = refl;
  two_before = refl;
  four_before = refl;
  known = refl;
  one_more = refl;
  refused = refl;
  clash = clash;
  first_book = record { more = record_of 0 (sole ∷ []) ∷ []; begins = refl; each = (first_next, tt) };
  nothing_new = record { more = []; begins = refl; each = tt };
  late_book = record { more = record_of 0 (left ∷ []) ∷ record_of 2 (right ∷ []) ∷ []; begins = refl; each = (late_next, (third_next, tt)) };
  lossy_book = record { more = record_of 1 (sole ∷ []) ∷ []; begins = refl; each = (lossy_next, tt) };
  not_the_lost = not_the_lost;
  not_twice = not_twice;
  not_the_third = not_the_third;
}
