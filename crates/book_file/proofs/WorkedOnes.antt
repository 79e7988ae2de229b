-- Worked files.
use Rattle.std.proofs.Common.{◌≡◌, inl, inr, ⊎_elim, ℕ, zero, suc, List, [], ◌∷◌, ◌++◌, length, get_or, take, refl, sym, ◌∙◌, ap, arith}
use Rattle.std.proofs.Common.{length-append}
use Rattle.std.specs.List.{IsDistinct}
use Rattle.lg_model.specs.Placing.{Shape}
use Rattle.lg_model.specs.Columns.{dims_of}
use Rattle.sketchlet_wire.specs.Spelling.{FitBuckets, dims_bytes, column_key_bytes, bucket_bytes, cells_bytes}
use Rattle.sketchlet_wire.specs.ShapeFields.{FitsShape, shape_bytes}
use Rattle.sketchlet_wire.specs.Worked.{worked_bucket}
use Rattle.book_file.specs.File.{IsRecord, AreRecords, header, body, front}
use Rattle.book_file.specs.Found.{HasHeader}
use Rattle.book_file.specs.Worked.{worked_shape, worked_record, worked_with, zeros_of, WorkedFiles}
use Rattle.book_file.proofs.Endings.{cut_lead}
use Rattle.book_file.proofs.Heads.{header_one}
use Rattle.std.proofs.lemmas.List.{append-nil, get_or_append_left}
use Rattle.book_file.proofs.Heads.{header_len}

buckets_fit : FitBuckets (worked_bucket ∷ worked_bucket ∷ [])
buckets_fit zero = record { bytes = omega arith; delay = omega arith }
buckets_fit (suc zero) = record { bytes = omega arith; delay = omega arith }
buckets_fit (suc (suc i)) = record { bytes = omega arith; delay = omega arith }

shape_fits : FitsShape worked_shape
shape_fits = record {
  dims = record { some_rows = omega arith; few_rows = omega arith; some_width = omega arith; few_width = omega arith };
  hash = tt;
}

record_fits : IsRecord (dims_of worked_shape) worked_record
record_fits = record {
  host = omega arith;
  seq = omega arith;
  some = omega arith;
  few = omega arith;
  each = (
    record {
      column = record {
        some_rows = omega arith;
        few_rows = omega arith;
        small_width = omega arith;
        index = omega arith;
        switch = omega arith;
        epoch = omega arith;
        cells = record { buckets = refl; fit = buckets_fit };
      };
      sized = refl;
    },
    tt,
  );
}

none_fit : AreRecords (dims_of worked_shape) []
unfolding IsDistinct
none_fit = record { each = tt; apart = tt }

one_fits : AreRecords (dims_of worked_shape) (worked_record ∷ [])
unfolding IsDistinct
one_fits = record { each = (record_fits, tt); apart = (tt, tt) }

spelled : (gate : ℕ) → front worked_shape (worked_record ∷ []) ++ gate ∷ [] ≡ worked_with gate
unfolding header body shape_bytes dims_bytes column_key_bytes bucket_bytes cells_bytes
spelled gate = refl

head_spelled : front worked_shape [] ≡ take 17 (worked_with 0)
unfolding header shape_bytes dims_bytes
head_spelled = refl

zero_first : (n : ℕ) → get_or (zeros_of (suc n)) 0 0 ≡ 1 → ⊥
zero_first n e = omega (arith, e)

foreign : (shape : Shape) → HasHeader shape (zeros_of 19) → ⊥
foreign shape h =
    let one : get_or (zeros_of 19) 0 0 ≡ 1 =
    ap (λ (l : List ℕ). get_or l 0 0) h.bytes ∙ get_or_append_left (header shape) h.rest 0 0 (omega (arith, header_len shape))
    ∙ header_one shape in
    zero_first 18 one

pub worked_files : WorkedFiles
worked_files = record {
  spelled = spelled 0;
  len = refl;
  stands = inr (record {
    gate = 0;
    rest = [];
    bytes = sym (spelled 0);
    closed = λ e. omega (arith, e);
    shape_fits = shape_fits;
    records_fit = one_fits;
  });
  header_alone = λ room. inl (record {
    shape = worked_shape;
    before = [];
    reached = record {
      rest = [];
      bytes = sym head_spelled ∙ sym (append-nil (front worked_shape []));
      suits = tt;
      shape_fits = shape_fits;
      records_fit = none_fit;
      few = omega arith;
    };
    place = ap length (sym head_spelled);
    nothing = sym head_spelled;
  });
  last_open = λ room. inr (record {
    shape = worked_shape;
    before = worked_record ∷ [];
    reached = record {
      rest = 1 ∷ [];
      bytes = sym (spelled 1);
      suits = tt;
      shape_fits = shape_fits;
      records_fit = one_fits;
      few = omega arith;
    };
    place = size;
    tail = [];
    opens = sym (spelled 1);
    no_body = cut_lead worked_shape (worked_record ∷ []) [] (omega arith);
  });
  no_byte = inl (omega arith);
  one_byte = inl (omega arith);
  eighteen_zeros = inr (omega arith, zero_first 17);
  nineteen_zeros = λ room. (⊎_elim (λ le. omega (arith, le)) (λ b. omega (arith, b.0)), foreign);
}
  where
    size : 45 ≡ length (front worked_shape (worked_record ∷ []))
    size = omega (arith, ap length (spelled 1), length-append (front worked_shape (worked_record ∷ [])) (1 ∷ []))
