use Rattle.std.specs.Prelude.{◌≡◌, ◌++◌}
use Rattle.std.specs.List.{flat_map, range_with_len}
use Rattle.guardian_run.specs.Sending.{line_of}
use Rattle.guardian_run.proofs.telling.put_acked.Given as goal

abbrev pub invariant-loop-seq : goal.invariant-loop-seq
invariant-loop-seq l = l.text.items ≡ l.fn.text.items ++ flat_map (line_of l.uploader) (range_with_len 0 l.seq)
