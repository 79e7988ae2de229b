use denote.Param.Send.{sendable}
use Rattle.std.proofs.Crossing.{crosses}
use Rattle.shared_book.proofs.Crossing.{shared_sync}
use Rattle.upload_world.proofs.tests.workers.work_all.Goals as goal

pub for_each_mut-requires-sync-F : goal.for_each_mut-requires-sync-F
for_each_mut-requires-sync-F g c κs h =
    let book = shared_sync _ g.D.Disk c.type_bounds.send-D in
    let runs = c.type_bounds.sync-R in search (sendable, crosses) depth 40
