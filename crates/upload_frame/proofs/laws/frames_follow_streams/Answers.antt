use Rattle.upload_frame.specs.Frames.{frames, IsFrame, frame_kind, frame_fields}
use Rattle.upload_frame.proofs.Fronts.{fronts}
use Rattle.upload_frame.proofs.FrameSpelled.{frame_format}
use Rattle.upload_frame.proofs.Spellings.{spellings}
use Rattle.upload_frame.proofs.Streams.{readers}
use Rattle.upload_frame.proofs.laws.frames_follow_streams.Goals as goal

pub returns-clause-fronts : goal.returns-clause-fronts
returns-clause-fronts c = fronts frames

pub returns-clause-spellings : goal.returns-clause-spellings
returns-clause-spellings c = spellings frames IsFrame frame_kind frame_fields frame_format

pub returns-clause-readers : goal.returns-clause-readers
returns-clause-readers c = readers frames
