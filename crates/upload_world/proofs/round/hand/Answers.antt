use Rattle.std.proofs.Common.{refl}
use Rattle.std.proofs.lemmas.Option.{slice_get-get_or}
use Rattle.upload_world.specs.Pumps.{no_upload}
use Rattle.upload_world.proofs.round.hand.Goals as goal

pub returns : goal.returns
returns g c =
    let is = slice_get-get_or c.args.uploader.now.uploads c.args.seq no_upload c.requires in
    let e = c.frame.ensures in
    let own = e.own _ is in (
      refl,
      record {
        short = c.requires;
        named = (own.0, own.1);
        full = own.2;
        frame = c.in_ok-frame.ensures.frame _ is;
      },
    )
