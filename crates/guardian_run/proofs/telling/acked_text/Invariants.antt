use Rattle.std.specs.Prelude.{◌≡◌, take}
use Rattle.std.specs.List.{flat_map}
use Rattle.guardian_run.specs.Sending.{lines_of}
use Rattle.guardian_run.proofs.telling.acked_text.Given as goal

abbrev pub invariant-loop-sender : goal.invariant-loop-sender
invariant-loop-sender l = l.text.items ≡ flat_map lines_of (take l.sender-index l.senders)
