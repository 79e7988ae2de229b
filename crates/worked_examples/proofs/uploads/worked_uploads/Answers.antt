use Rattle.sketchlet_wire.specs.Spelling.{marks, dims_bytes, column_key_bytes, bucket_bytes, cells_bytes}
use Rattle.sketchlet_wire.specs.ShapeFields.{shape_bytes}
use Rattle.link_deliveries.specs.Deliveries.{brought_in_all}
use Rattle.std.proofs.Common.{arith, true≢false}
use Rattle.std.proofs.Common.{refl}
use Rattle.worked_examples.proofs.uploads.worked_uploads.Goals as goal

pub returns : goal.returns
unfolding marks dims_bytes column_key_bytes bucket_bytes cells_bytes shape_bytes brought_in_all
returns c = record {
  column_bytes = refl;
  key_bytes = refl;
  bucket_bytes = refl;
  seeded_shape = refl;
  port_shape = refl;
  sixteen = refl;
  seventeen = refl;
  repeated = refl;
  none = refl;
  joins = refl;
  numbers = refl;
  twice = refl;
  not_none = λ h. omega (arith, h.some);
  not_seventeen = λ h. omega (arith, h.few);
  not_twice = λ h. true≢false (h.apart 2 (omega arith));
  of_hosts = refl;
  at_position = refl;
  by_number = refl;
  orders = refl;
  before_own = refl;
  booked = refl;
  no_room = refl;
  book = refl;
}
