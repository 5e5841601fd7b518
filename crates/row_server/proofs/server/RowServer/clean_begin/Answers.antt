use Rattle.std.proofs.Common.{inl, refl}
use Rattle.si_model.proofs.ByServers.{by_servers}
use Rattle.servers_model.proofs.Changed.{unchanged_if}
use Rattle.server_loop.proofs.SessionSteps.{as_err, err_undamaged, not_done}
use Rattle.row_server.proofs.Told.{started_limits, started_told, started_undamaged}
use Rattle.row_server.proofs.Attempts.{cleaner_attempt, low, same_clients, same_collectors}
use Rattle.row_server.proofs.server.RowServer.clean_begin.Goals as goal

pub returns-in-Ok : goal.returns-in-Ok
returns-in-Ok g c = let told = c.in-Ok.ensures in
    cleaner_attempt g.R.Rows g.R.SharedRows.forgot g.R.SharedRows.raced g.S.Stamps g.S.SharedStamps.allows _ _ _ refl (λ is. cc) (started_told _ c.in-Ok.found) (started_limits c.in-Ok.found) (λ st reached shown. started_undamaged c.in-Ok.found)
    (λ st shown. tt)
    _ _ _ refl (λ holds. record { kind = refl; steps = told.step holds; changed = λ st reached store shown. unchanged_if _ _ st told.reads.kept }) told.reads.still
    (started_told _ c.in-Ok.found) (λ is. absurd (not_done _ _ tt is))

pub returns-in-Err : goal.returns-in-Err
returns-in-Err g c = let told = c.in-Err.ensures in
    cleaner_attempt g.R.Rows g.R.SharedRows.forgot g.R.SharedRows.raced g.S.Stamps g.S.SharedStamps.allows _ _ _ refl (λ is. cc) told.refusal tt
    (λ st reached shown. err_undamaged _ _ refl (told.undamaged (g.R.Rows.seen.each_readable _ shown.holds _) st (by_servers reached) shown.store shown.memory.cleaners))
    (λ st shown. tt)
    _ _ _ refl (λ holds. record { kind = refl; steps = told.step holds; changed = λ st reached store shown. unchanged_if _ _ st told.reads.kept }) told.reads.still
    (record { reads = told.reads; clients = same_clients; cleaners = told.err; collectors = same_collectors; rises = low })
    (λ is. inl (told.reason.device (as_err _ _ _ refl is)))
