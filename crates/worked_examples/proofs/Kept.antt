-- What runs leave and keep.
use Rattle.std.specs.Prelude.{◌≡◌, ℕ, zero, suc, ◌<◌, List, [], ◌∷◌, ◌++◌, length, Bool, true, false, Result, Ok, Err}
use Rattle.std.proofs.Common.{ap, refl, sym, ◌∙◌, subst, arith, true≢false}
use Rattle.std.proofs.lemmas.List.Elements.{All-nil}
use Rattle.lg_model.specs.declared.column.Bucket.{Bucket}
use Rattle.lg_model.specs.Columns.{Column}
use Rattle.lg_model.specs.Answer.{Content}
use Rattle.sketchlet_wire.specs.Uploads.{UploadData, upload_of}
use Rattle.column_book.specs.declared.book.TheConstants.{ROOM}
use Rattle.column_book.specs.declared.fault.BookFault.{BookFault}
use Rattle.column_book.specs.declared.fault.BookFault.TheVariants.{Conflict}
use Rattle.column_book.specs.Applying.{decide}
use Rattle.link_deliveries.specs.Deliveries.{delivered, brought_in_all}
use Rattle.flow_query.specs.Rebuilt.{IsRebuilt}
use Rattle.lg_model.specs.Answer.{look_in}
use Rattle.book_file.specs.Between.{IsBetween}
use Rattle.book_laws.specs.Legal.{host_at, uploads_at, upload_at, IsLegalNext, AreLegalNext, IsLegal}
use Rattle.book_laws.specs.Leaving.{IsLeft}
use Rattle.book_laws.specs.Keeping.{IsJoined, AreAcked, KeepsReplies, IsFirstRefusal}
use Rattle.book_laws.proofs.Lists.{same_rest}
use Rattle.worked_examples.specs.Arrivals.{to_two, eleven}
use Rattle.worked_examples.specs.Keeping.{first_host, second_host, other, found, all, none, of_list, no_file, shape, kept, sketch}

second_next : IsLegalNext delivered to_two [] second_host
unfolding brought_in_all
second_next = record { at = 1; declared = omega arith; sent = omega arith; host = refl; stored = refl; some = omega arith; first = All-nil _ }

first_next : IsLegalNext delivered to_two (second_host ∷ []) first_host
unfolding brought_in_all
first_next = record { at = 0; declared = omega arith; sent = omega arith; host = refl; stored = refl; some = omega arith; first = All-nil _ }

pub either_first : IsLegal delivered to_two [] (second_host ∷ first_host ∷ [])
either_first = record { more = second_host ∷ first_host ∷ []; begins = refl; each = (second_next, (first_next, tt)) }

one_of : (r : UploadData) → IsLegal delivered to_two [] (r ∷ []) → IsLegalNext delivered to_two [] r
one_of r legal = (subst (AreLegalNext delivered to_two []) (same_rest [] legal.more (r ∷ []) (sym legal.begins)) legal.each).0

first_switch : Result (List Column) BookFault → ℕ
first_switch (Err f) = 0
first_switch (Ok []) = 0
first_switch (Ok (c ∷ cs)) = c.key.switch

pub other_host : IsLegal delivered to_two [] (upload_of 22 0 (eleven ∷ []) ∷ []) → ⊥
unfolding first_switch
other_host legal = let next = one_of (upload_of 22 0 (eleven ∷ [])) legal in at_host next.at next.declared next.host next.stored
  where
    at_host : (h : ℕ) → h < 2 → 22 ≡ (host_at to_two h).name → decide to_two.shape ROOM [] (upload_at to_two h 0) ≡ Ok (eleven ∷ []) → ⊥
    at_host zero low name stored = omega (arith, name)
    at_host (suc zero) low name stored = let n : 12 ≡ 11 = ap first_switch stored in omega (arith, n)
    at_host (suc (suc h)) low name stored = omega (arith, low)

pub other_number : IsLegal delivered to_two [] (upload_of 21 1 (eleven ∷ []) ∷ []) → ⊥
other_number legal = let next = one_of (upload_of 21 1 (eleven ∷ [])) legal in at_host next.at next.declared next.sent
  where
    at_host : (h : ℕ) → h < 2 → 1 < length (uploads_at to_two h) → ⊥
    at_host zero low sent = omega (arith, sent)
    at_host (suc zero) low sent = omega (arith, sent)
    at_host (suc (suc h)) low sent = omega (arith, low)

pub joined : IsJoined to_two [] (second_host ∷ first_host ∷ [])
joined = record { fits = λ k. tt; is = refl }

pub one_lacks : IsJoined to_two [] (first_host ∷ []) → ⊥
one_lacks h = let n : 1 ≡ 3 = ap (λ (m : Content). length m) h.is in omega (arith, n)

pub acked_and_gone : AreAcked to_two [] [] all → ⊥
acked_and_gone h = absurd (cc (h.held 0 0 (omega arith) (omega arith) refl 0 eleven (omega arith)))

pub kept_unacked : AreAcked to_two [] (first_host ∷ []) none → ⊥
kept_unacked h = let a = h.answered 0 first_host (omega arith) refl in at_host a.at a.declared a.told
  where
    at_host : (n : ℕ) → n < 2 → (KeepsReplies (host_at to_two n).letters → ◌≡◌ {A = Bool} false true) → ⊥
    at_host zero low told = true≢false (sym (told (All-nil _)))
    at_host (suc zero) low told = true≢false (sym (told (All-nil _)))
    at_host (suc (suc n)) low told = omega (arith, low)

pub refused : IsFirstRefusal delivered to_two found none (Conflict eleven.key other eleven)
refused = record {
  host = 0;
  number = 0;
  declared = omega arith;
  earlier = λ h q low there. absurd (omega (arith, low));
  refused = record { sent = omega arith; list = found; legal = record { more = []; begins = refl; each = tt }; says = refl };
}

pub no_later_one : (why : BookFault) (r : IsFirstRefusal delivered to_two found none why) → r.host ≡ 0
no_later_one why r = at r.host r.earlier
  where
    at : (n : ℕ) → ((h q : ℕ) → h < n → q < length (uploads_at to_two h) → ◌≡◌ {A = Bool} false true) → n ≡ 0
    at zero earlier = refl
    at (suc n) earlier = absurd (true≢false (sym (earlier 0 0 (omega arith) (omega arith))))

pub found_gone : IsLeft (of_list []) delivered to_two (first_host ∷ []) no_file no_file no_file [] (first_host ∷ []) → ⊥
found_gone h = let n : length ((first_host ∷ []) ++ h.least.0) ≡ 0 = ap (λ (l : List UploadData). length l) h.least.1 in omega (arith, n)

pub not_less : IsBetween (of_list []) (first_host ∷ []) (first_host ∷ []) [] → ⊥
not_less h = let n : length ((first_host ∷ []) ++ h.begins.0) ≡ 0 = ap (λ (l : List UploadData). length l) (h.begins.1 ∙ h.is) in omega (arith, n)

pub not_more : IsBetween (of_list (first_host ∷ [])) [] [] [] → ⊥
not_more h =
    let front : (first_host ∷ []) ++ h.ends.0 ≡ [] = ap (λ (l : List UploadData). l ++ h.ends.0) (sym h.is) ∙ h.ends.1 in
    let n : length ((first_host ∷ []) ++ h.ends.0) ≡ 0 = ap (λ (l : List UploadData). length l) front in omega (arith, n)

pub swapped : IsRebuilt (look_in kept) shape 5 6 (sketch 3 1) → ⊥
swapped h = let n : 3 ≡ 1 = ap (λ (b : Bucket). b.bytes) (h.buckets 0 0 (omega arith) (omega arith)) in omega (arith, n)
