-- How many bytes a reader was fed.
use Rattle.std.specs.Prelude.{ℕ, ◌+◌, length}
use Rattle.upload_frame.specs.Machine.{ReaderData}

-- The bytes of the frames that were taken, and of those that were not yet.
abbrev pub held : ReaderData → ℕ
held r = r.taken + length r.rest
