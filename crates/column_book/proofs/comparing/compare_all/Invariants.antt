use Rattle.std.specs.Prelude.{◌≡◌, ◌≤◌, All, true, map, filter, take, length, option_copied}
use Rattle.column_book.specs.Applying.{mask_of}
use Rattle.column_book.specs.Blocks.{block_at}
use Rattle.column_book.specs.Kept.{is_free, IsAsKept}
use Rattle.column_book.proofs.comparing.compare_all.Given as goal

abbrev pub invariant-loop-n : goal.invariant-loop-n
invariant-loop-n l = record {
  block : option_copied l.block ≡ block_at l.blocks.map.entries l.spot;
  mask : l.found.mask ≡ mask_of (map (is_free l.blocks.map.entries) (take l.n l.columns));
  count : l.found.count ≡ length (filter (is_free l.blocks.map.entries) (take l.n l.columns));
  few : l.found.count ≤ l.n;
  same : l.found.same ≡ true → All (IsAsKept l.blocks.map.entries) (take l.n l.columns);
}
