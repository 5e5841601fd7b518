use Rattle.server_loop.specs.Server.{floor_of, top_of}
use Rattle.server_loop.proofs.server.Server.next_root_bytes.Goals as goal

pub returns : goal.returns
returns g c = c.next_root_bytes.ensures (top_of c.args.self.now) (floor_of c.args.self.now)
