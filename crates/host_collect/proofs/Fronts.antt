-- Each piece of a cut is the longest front of the rest that can be an upload.
use Rattle.std.specs.Prelude.{◌≡◌, ℕ, ◌≤◌, ◌&&◌, nat_lt, not, List, [], ◌∷◌, ◌++◌, length, take, slice_index_or, Bool, true, false}
use Rattle.std.specs.List.{AllByRecursion, flat_map}
use Rattle.std.proofs.Common.{refl, sym, ap, ◌∙◌, subst, arith, inl, inr, true≢false, length-append}
use Rattle.std.proofs.Math.Seq.{get_or-append_seam}
use Rattle.std.proofs.lemmas.List.{get_or-take, length-take, take_at, take-take}
use Rattle.std.proofs.lemmas.Bool.{cases_lt}
use Rattle.lg_model.specs.declared.limits.TheConstants.{MOST_UPLOAD_COLUMNS}
use Rattle.lg_model.specs.Columns.{Column}
use Rattle.sketchlet_wire.specs.Uploads.{IsUpload, holds_key, is_twice, no_column}
use Rattle.host_collect.specs.Cutting.{Piece, can_join, cut, IsLongest, IsLongestFront, AreLongestFronts, LawOfLongestFronts}
use Rattle.host_collect.proofs.Cutting.{cut_law}

-- A column that can't join a piece has its key there, or the piece has no room.
no_join : (few held : Bool) → (few && not held) ≡ false → few ≡ true → held ≡ true
no_join true true h few = refl
no_join true false h few = absurd (true≢false h)
no_join false held h few = absurd (true≢false (sym few))

-- So no longer front is an upload.
not_longer : (p : Piece) (c : Column) (r : List Column) (n : ℕ) → can_join p c ≡ false → n ≤ length (p ++ c ∷ r) → IsUpload (take n (p ++ c ∷ r)) → n ≤ length p
not_longer p c r n can within is =
    elim (cases_lt (length p) n) as (λ _. n ≤ length p) [
      | inl longer ↦
          let len : length (take n (p ++ c ∷ r)) ≡ n = omega (arith, length-take n (p ++ c ∷ r), within) in
          let room : nat_lt (length p) MOST_UPLOAD_COLUMNS ≡ true = grind (arith, len, longer, is.few) in
          let held : holds_key c.key p ≡ true = no_join (nat_lt (length p) MOST_UPLOAD_COLUMNS) (holds_key c.key p) can room in
          let at : slice_index_or (take n (p ++ c ∷ r)) (length p) no_column ≡ c =
          get_or-take n (p ++ c ∷ r) (length p) no_column longer ∙ get_or-append_seam p c r no_column in
          let before : take (length p) (take n (p ++ c ∷ r)) ≡ p =
          take-take (length p) n (p ++ c ∷ r) (omega (arith, longer)) ∙ take_at p (c ∷ r) (length p) refl in
          let twice : is_twice (take n (p ++ c ∷ r)) (length p) ≡ true =
          ap (λ (x : Column). holds_key x.key (take (length p) (take n (p ++ c ∷ r)))) at ∙ ap (λ (xs : Piece). holds_key c.key xs) before ∙ held in
          absurd (true≢false (sym twice ∙ is.apart (length p) (omega (arith, len, longer))))
      | inr le ↦ le
    ]

front_of : (p : Piece) (cs rest : List Column) → cs ≡ p ++ rest → IsUpload p → ((n : ℕ) → n ≤ length cs → IsUpload (take n cs) → n ≤ length p)
    → IsLongestFront cs p
front_of p cs rest e is longest = record { front = ap (take (length p)) e ∙ take_at p rest (length p) refl; upload = is; longest = longest }

abbrev flat : List Piece → List Column
flat ps = flat_map (λ (p : Piece). p) ps

fronts : (ps : List Piece) (cs : List Column) → flat ps ≡ cs → AllByRecursion IsUpload ps → IsLongest ps → AreLongestFronts cs ps
fronts [] cs e uploads longest = sym e
fronts (p ∷ []) cs e uploads longest =
    let whole : cs ≡ p ++ [] = sym e in
    ([], whole, front_of p cs [] whole uploads.0 (λ n within is. omega (arith, within, ap length whole, length-append p [])), refl)
fronts (p ∷ [] ∷ ps) cs e uploads longest = absurd (omega (arith, uploads.1.0.some))
fronts (p ∷ (c ∷ q) ∷ ps) cs e uploads longest =
    let rest : List Column = flat ((c ∷ q) ∷ ps) in
    let whole : cs ≡ p ++ rest = sym e in (
      rest,
      whole,
      front_of p cs rest whole uploads.0 (λ n within is.
          not_longer p c (q ++ flat ps) n longest.0 (subst (λ (x : List Column). n ≤ length x) whole within)
          (subst (λ (x : List Column). IsUpload (take n x)) whole is)),
      fronts ((c ∷ q) ∷ ps) rest refl uploads.1 longest.1,
    )

pub fronts_law : LawOfLongestFronts
fronts_law cs =
    let law = cut_law cs in
    fronts (cut cs) cs law.whole law.uploads law.longest
