use Rattle.sketchlet_wire.specs.Spelling.{marks, dims_bytes, column_key_bytes, bucket_bytes, cells_bytes}
use Rattle.sketchlet_wire.specs.ShapeFields.{shape_bytes}
use Rattle.book_file.specs.File.{header, body}
use Rattle.std.proofs.Common.{arith}
use Rattle.worked_examples.proofs.Bodies.{blank_one, blank_eighteen, not_nineteen, not_blank, other_size, twice}
use Rattle.std.proofs.Common.{refl}
use Rattle.worked_examples.proofs.uploads.worked_book_files.Goals as goal

pub returns : goal.returns
unfolding marks dims_bytes column_key_bytes bucket_bytes cells_bytes shape_bytes header body
returns c = record {
  header_bytes = refl;
  body_bytes = refl;
  front_bytes = refl;
  body_length = refl;
  least_body = refl;
  closed_zero = λ h. omega (arith, h);
  closed_two = λ h. omega (arith, h);
  not_open = λ h. h refl;
  blank_one = blank_one;
  blank_eighteen = blank_eighteen;
  not_nineteen = not_nineteen;
  not_blank = not_blank;
  no_columns = λ h. omega (arith, h.some);
  seventeen = λ h. omega (arith, h.few);
  other_size = other_size;
  host_range = λ h. omega (arith, h.host);
  twice = twice;
}
