-- Which files are blank, and which records are not well formed.
use Rattle.std.specs.Prelude.{◌≡◌, [], ◌∷◌, replicate}
use Rattle.std.specs.List.{IsDistinct}
use Rattle.std.proofs.Common.{ap, refl, inl, inr, ⊎_elim, arith, true≢false}
use Rattle.lg_model.specs.declared.column.Dims.{Dims}
use Rattle.lg_model.specs.Columns.{dims_of}
use Rattle.book_file.specs.File.{IsBlank, IsRecord, AreRecords}
use Rattle.worked_examples.specs.Files.{shape, one}

pub blank_one : IsBlank (1 ∷ [])
blank_one = inl (omega arith)

pub blank_eighteen : IsBlank (2 ∷ replicate 17 1)
blank_eighteen = inr (omega arith, λ h. omega (arith, h))

pub not_nineteen : IsBlank (2 ∷ replicate 18 1) → ⊥
not_nineteen h = ⊎_elim (λ a. omega (arith, a)) (λ b. omega (arith, b.0)) h

pub not_blank : IsBlank (1 ∷ 0 ∷ []) → ⊥
not_blank h = ⊎_elim (λ a. omega (arith, a)) (λ b. b.1 refl) h

pub other_size : IsRecord (record { rows = 2; width = 2313 }) one → ⊥
other_size h = let n : 2314 ≡ 2313 = ap (λ (d : Dims). d.width) h.each.0.sized in omega (arith, n)

pub twice : AreRecords (dims_of shape) (one ∷ one ∷ []) → ⊥
unfolding IsDistinct
twice h = true≢false h.apart.0.0
