-- The kinds that each side sends.
use Rattle.upload_frame.specs.declared.head.Side.{Side}
use Rattle.upload_frame.specs.declared.head.Side.TheVariants.{Host, Analyser}
use Rattle.upload_frame.specs.Front.{Lens}
use Rattle.upload_frame.specs.Frames.{frame_lens}
use Rattle.upload_frame.specs.Replies.{reply_lens}

abbrev pub lens_of : Side → Lens
lens_of Host = frame_lens
lens_of Analyser = reply_lens
