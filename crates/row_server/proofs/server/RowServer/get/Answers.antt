use Rattle.std.proofs.Common.{inl, refl}
use Rattle.si_model.proofs.ByServers.{by_servers}
use Rattle.servers_model.proofs.Changed.{unchanged_if}
use Rattle.server_loop.proofs.SessionSteps.{as_err, as_refused, err_undamaged, found_told, found_undamaged, not_done, ok_not, short_found}
use Rattle.row_server.proofs.Attempts.{low, same_cleaners, same_clients, same_collectors, session_attempt}
use Rattle.row_server.proofs.server.RowServer.get.Goals as goal

pub returns-in-Ok : goal.returns-in-Ok
returns-in-Ok g c = let told = c.in-Ok.ensures in
    session_attempt g.R.Rows g.R.SharedRows.forgot g.R.SharedRows.raced g.S.Stamps g.S.SharedStamps.allows _ _ _ refl (λ is. cc) (found_told _ c.in-Ok.found) (short_found c.in-Ok.found told.short) (λ st reached shown. found_undamaged c.in-Ok.found)
    (λ st shown gone. absurd (ok_not _ _ (told.unknown st shown.sessions gone)))
    _ _ _ _ refl (λ holds. record { kind = refl; steps = told.step holds _; changed = λ st reached store shown. unchanged_if _ _ st told.reads.kept }) told.reads.still
    (λ known. known) (found_told _ c.in-Ok.found) (λ is. absurd (not_done _ _ tt is))

pub returns-in-Err : goal.returns-in-Err
returns-in-Err g c = let told = c.in-Err.ensures in
    session_attempt g.R.Rows g.R.SharedRows.forgot g.R.SharedRows.raced g.S.Stamps g.S.SharedStamps.allows _ _ _ refl (λ is. cc) told.refusal tt
    (λ st reached shown. err_undamaged _ _ refl (told.undamaged (g.R.Rows.seen.each_readable _ shown.holds _) st (by_servers reached) shown.store))
    (λ st shown gone. as_refused _ _ _ refl (told.unknown st shown.sessions gone))
    _ _ _ _ refl (λ holds. record { kind = refl; steps = told.step holds _; changed = λ st reached store shown. unchanged_if _ _ st told.reads.kept }) told.reads.still
    (λ known. known)
    (record { reads = told.reads; clients = same_clients; cleaners = same_cleaners; collectors = same_collectors; rises = low })
    (λ is. inl (told.reason.device (as_err _ _ _ refl is)))
