use Rattle.std.proofs.Common.{refl}
use Rattle.sketchlet_wire.specs.Spelling.{marks, dims_bytes, column_key_bytes, bucket_bytes, cells_bytes}
use Rattle.sketchlet_wire.specs.Reading.{mark_at, rows_at, width_at, cells_at, marks_at, dims_at, key_at, admitted_key_at, sketchlet_at}
use Rattle.byte_fields.specs.Reading.{byte_at, number_at}
use Rattle.sketchlet_wire.proofs.laws.worked_bytes.Goals as goal

pub returns : goal.returns
unfolding marks dims_bytes column_key_bytes bucket_bytes cells_bytes byte_at number_at mark_at rows_at width_at cells_at marks_at dims_at key_at admitted_key_at sketchlet_at
returns c = record {
  spelled = refl;
  read = refl;
  prefixes = refl;
  first_letter = refl;
  second_letter = refl;
  version = refl;
  no_rows = refl;
  nine_rows = refl;
  no_width = refl;
  wide = refl;
  index_at_width = refl;
}
