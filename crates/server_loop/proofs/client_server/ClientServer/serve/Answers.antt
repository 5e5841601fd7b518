use Rattle.std.proofs.Common.{◌++◌}
use Rattle.server_loop.proofs.ClientFrames.{handles_to, joins_owned}
use Rattle.server_loop.proofs.ServesEach.{serves_frames}
use Rattle.server_loop.proofs.client_server.ClientServer.serve.Goals as goal

pub returns : goal.returns
returns g c =
    let served = serves_frames _ _ _ (joins_owned _ _ _ _ _ g.met.A.Lookup.belongs g.met.A.Lookup.stays) c.args.most _ _ _ _ _ _ _ _ c.serve_all.ensures in
    record {
      served = served;
      handled = λ before reached shown. handles_to _ _ _ _ _ served.taken (served.front ++ served.batch) served.answered before reached shown;
    }
