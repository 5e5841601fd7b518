use Rattle.std.proofs.Common.{[], ◌∷◌, ◌++◌, ◌∙◌}
use Rattle.server_loop.proofs.ClientFrames.{stops_then}
use Rattle.server_loop.proofs.client_server.ClientServer.stop_all.Goals as goal

pub loop-preserved : goal.loop-preserved
loop-preserved g c =
    let so_far = c.loop.invariant in
    let one = c.stop_one.ensures.stopped c.loop-test.true in (
      (so_far.0.0 ++ one.0 ∷ [], stops_then _ _ c.args.client c.args.self.now c.loop.self c.stop_one.new.self so_far.0.0 one.0 so_far.0.1 one.1),
      c.stop_one.ensures.admin ∙ so_far.1,
    )
