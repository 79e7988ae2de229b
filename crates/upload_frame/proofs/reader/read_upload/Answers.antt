use Rattle.upload_frame.specs.declared.frame.Frame.TheVariants.{Hello, Upload, Bye}
use Rattle.upload_frame.proofs.FrameSpelled.{read_as, read_none, read_broken, not_none, not_broken, not_hello, not_bye, only_upload}
use Rattle.upload_frame.proofs.reader.read_upload.Goals as goal

pub unreachable-requires : goal.unreachable-requires
unreachable-requires c =
    let a = c.in-Ok-Some-Hello-default in
    not_hello c.args.bytes.now a.field-0-0-0-0 a.field-0-0-0-1 a.field-0-0-1 c.requires
    (read_as c.args.bytes.now a.field-0 a.field-0-0-0 (Hello a.field-0-0-0-0 a.field-0-0-0-1) a.field-0-0-1 a.ensures.gives a.field-0-is a.field-0-0-0-is)

pub unreachable-requires-in-Ok-Some-Bye-default : goal.unreachable-requires-in-Ok-Some-Bye-default
unreachable-requires-in-Ok-Some-Bye-default c =
    let a = c.in-Ok-Some-Bye-default in
    not_bye c.args.bytes.now a.field-0-0-0-0 a.field-0-0-1 c.requires
    (read_as c.args.bytes.now a.field-0 a.field-0-0-0 (Bye a.field-0-0-0-0) a.field-0-0-1 a.ensures.gives a.field-0-is a.field-0-0-0-is)

pub unreachable-requires-in-Ok-None : goal.unreachable-requires-in-Ok-None
unreachable-requires-in-Ok-None c =
    let a = c.in-Ok-None in
    not_none c.args.bytes.now c.requires (read_none c.args.bytes.now a.field-0 a.ensures.gives a.field-0-is)

pub unreachable-requires-in-Err-Frame : goal.unreachable-requires-in-Err-Frame
unreachable-requires-in-Err-Frame c =
    let a = c.in-Err-Frame in
    not_broken c.args.bytes.now a.field-0-0 c.requires (read_broken c.args.bytes.now a.field-0 a.field-0-0 a.ensures.gives a.field-0-is)

pub returns-in-Ok-Some-Upload-default : goal.returns-in-Ok-Some-Upload-default
returns-in-Ok-Some-Upload-default c =
    let a = c.in-Ok-Some-Upload-default in
    let at = read_as c.args.bytes.now a.field-0 a.field-0-0-0 (Upload a.upload) a.field-0-0-1 a.ensures.gives a.field-0-is a.field-0-0-0-is in
    λ u full e. only_upload c.args.bytes.now a.upload a.field-0-0-1 u at full e
