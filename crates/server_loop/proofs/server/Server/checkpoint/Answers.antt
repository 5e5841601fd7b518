use Rattle.server_loop.proofs.server.Server.checkpoint.Goals as goal

pub returns-in-Ok : goal.returns-in-Ok
returns-in-Ok g c = rw c.forget.ensures c.in-Ok.ensures.plain

pub returns-in-Err : goal.returns-in-Err
returns-in-Err g c = rw c.forget.ensures c.in-Err.ensures.plain
