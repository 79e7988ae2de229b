use Rattle.std.proofs.Common.{refl}
use Rattle.byte_fields.specs.Reading.{byte_at, number_at}
use Rattle.sketchlet_wire.specs.Spelling.{marks, dims_bytes, column_key_bytes, bucket_bytes, cells_bytes}
use Rattle.sketchlet_wire.specs.ShapeFields.{shape_bytes, hash_at, shape_at}
use Rattle.sketchlet_wire.specs.Reading.{mark_at, rows_at, width_at, cells_at, marks_at, dims_at, key_at, admitted_key_at, sketchlet_at}
use Rattle.upload_frame.specs.Front.{head_at, framed}
use Rattle.upload_frame.specs.Frames.{hello_at, columns_at, upload_head_at, upload_at, bye_at, frame_fields_at}
use Rattle.upload_frame.specs.Replies.{why_of, welcome_at, acknowledged_at, refused_at, goodbye_at, reply_fields_at}
use Rattle.upload_frame.proofs.laws.worked_frames.Goals as goal

pub returns : goal.returns
unfolding marks dims_bytes column_key_bytes bucket_bytes cells_bytes shape_bytes hash_at shape_at byte_at number_at mark_at rows_at width_at cells_at marks_at dims_at key_at admitted_key_at sketchlet_at head_at framed hello_at columns_at upload_head_at upload_at bye_at frame_fields_at why_of welcome_at acknowledged_at refused_at goodbye_at reply_fields_at
returns c = record {
  upload_spelled = refl;
  upload_read = refl;
  prefixes = refl;
  hello_spelled = refl;
  hello_read = refl;
  bye_read = refl;
  no_length = refl;
  long = refl;
  kind = refl;
  kind_before_length = refl;
  bye_length = refl;
  reply_kind = refl;
  count = refl;
  twice = refl;
  longer = refl;
  stored_spelled = refl;
  known_read = refl;
  code = refl;
  full_read = refl;
  conflict_read = refl;
  key_not_zero = refl;
  code_before_key = refl;
}
