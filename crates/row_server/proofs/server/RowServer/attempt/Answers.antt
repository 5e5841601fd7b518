use Rattle.row_server.proofs.server.RowServer.attempt.Goals as goal

pub returns : goal.returns
returns g c = record { fresh = _; is_forgot = c.forget.ensures.forgot; reads = c.forget.ensures.reads; same_faults = c.forget.ensures.told; made = c.take.ensures }
