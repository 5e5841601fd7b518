use Rattle.std.proofs.Common.{inl, refl}
use Rattle.si_model.proofs.ByServers.{by_servers}
use Rattle.servers_model.proofs.Changed.{clean_changes, unchanged_if}
use Rattle.server_loop.proofs.SessionSteps.{as_err, as_refused, err_undamaged, not_done, ok_not}
use Rattle.row_server.proofs.Told.{cleaned_limits, cleaned_told, cleaned_undamaged}
use Rattle.row_server.proofs.Attempts.{cleaner_attempt, low, same_clients, same_collectors}
use Rattle.row_server.proofs.server.RowServer.clean_step.Goals as goal

pub returns-in-Ok : goal.returns-in-Ok
returns-in-Ok g c = let told = c.in-Ok.ensures in
    cleaner_attempt g.R.Rows g.R.SharedRows.forgot g.R.SharedRows.raced g.S.Stamps g.S.SharedStamps.allows _ _ _ refl (λ is. cc) (cleaned_told _ c.in-Ok.done) (cleaned_limits c.in-Ok.done) (λ st reached shown. cleaned_undamaged c.in-Ok.done)
    (λ st shown gone. absurd (ok_not _ _ (told.unknown st shown.cleaners gone)))
    _ _ _ refl (λ holds. record { kind = refl; steps = told.step holds; changed = λ st reached store shown. clean_changes _ _ st _ _ (told.made holds st reached store shown) }) told.below.still
    (cleaned_told _ c.in-Ok.done) (λ is. absurd (not_done _ _ tt is))

pub returns-in-Err : goal.returns-in-Err
returns-in-Err g c = let told = c.in-Err.ensures in
    cleaner_attempt g.R.Rows g.R.SharedRows.forgot g.R.SharedRows.raced g.S.Stamps g.S.SharedStamps.allows _ _ _ refl (λ is. cc) told.refusal.0 tt
    (λ st reached shown. err_undamaged _ _ refl (told.undamaged (λ k is. g.R.Rows.seen.each_readable _ shown.holds _) st (by_servers reached) shown.store shown.memory.cleaners))
    (λ st shown gone. as_refused _ _ _ refl (told.unknown st shown.cleaners gone))
    _ _ _ refl (λ holds. record { kind = refl; steps = told.step holds; changed = λ st reached store shown. unchanged_if _ _ st told.same.kept }) told.below.still
    (record { reads = told.same; clients = same_clients; cleaners = told.err; collectors = same_collectors; rises = low })
    (λ is. inl (told.refusal.1.device (as_err _ _ _ refl is)))
