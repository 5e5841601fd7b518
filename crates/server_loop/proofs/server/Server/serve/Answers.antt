use Rattle.server_loop.proofs.Replied.{serves}
use Rattle.server_loop.proofs.Whole.{whole-from_serves}
use Rattle.server_loop.proofs.server.Server.serve.Goals as goal

pub returns-clause-served : goal.returns-clause-served
returns-clause-served g c = serves _ _ _ _ _ _ _ _ _ _ _ c.serve_all.ensures

pub returns-clause-whole : goal.returns-clause-whole
returns-clause-whole g c = whole-from_serves _ _ _ _ _ _ _ _ _ _ _ (serves _ _ _ _ _ _ _ _ _ _ _ c.serve_all.ensures)
