use Rattle.std.proofs.Common.{◌∙◌, ap, sym, map, set, ◌++◌, take_all, append-nil}
use Rattle.std.proofs.lemmas.List.{drop_all}
use Rattle.std.proofs.lemmas.List.Edits.{map_over_more}
use Rattle.uploader_core.specs.Uploader.{UploaderState, replied}
use Rattle.upload_world.proofs.steps.show.Goals as goal

pub loop-uploader-preserved : goal.loop-uploader-preserved
loop-uploader-preserved c =
    let f = λ (u : UploaderState). replied u c.args.reply.now in
    let ys = c.loop-uploader.uploaders in
    let i = c.loop-uploader.uploader-index in
    let x = c.uploader-item.result in
    ap (λ (u : UploaderState). set ys i u) (c.on_reply.ensures.states ∙ ap f (sym c.uploader-item.is))
    ∙ map_over_more f c.args.uploaders.now ys i x c.loop-uploader-test.true c.loop-uploader.invariant c.uploader-item.is

pub returns : goal.returns
returns c =
    let f = λ (u : UploaderState). replied u c.args.reply.now in
    let xs = c.args.uploaders.now in
    let i = c.loop-uploader.uploader-index in
    c.loop-uploader.invariant ∙ (λ j. map f (take_all i xs c.loop-uploader-test.false j) ++ drop_all i xs c.loop-uploader-test.false j) ∙ append-nil (map f xs)
