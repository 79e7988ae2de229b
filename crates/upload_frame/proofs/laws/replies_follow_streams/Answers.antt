use Rattle.upload_frame.specs.Replies.{replies, IsReply, reply_kind, reply_fields}
use Rattle.upload_frame.proofs.Fronts.{fronts}
use Rattle.upload_frame.proofs.ReplySpelled.{reply_format}
use Rattle.upload_frame.proofs.Spellings.{spellings}
use Rattle.upload_frame.proofs.Streams.{readers}
use Rattle.upload_frame.proofs.laws.replies_follow_streams.Goals as goal

pub returns-clause-fronts : goal.returns-clause-fronts
returns-clause-fronts c = fronts replies

pub returns-clause-spellings : goal.returns-clause-spellings
returns-clause-spellings c = spellings replies IsReply reply_kind reply_fields reply_format

pub returns-clause-readers : goal.returns-clause-readers
returns-clause-readers c = readers replies
