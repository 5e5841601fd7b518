use Rattle.std.proofs.Common.{refl}
use Rattle.txn_client.specs.Refusals.{IsDeleteRefusal}
use Rattle.rows.proofs.Calls.{reads_none}
use Rattle.si_model.specs.Collection.{unchanged}
use Rattle.server_loop.proofs.SessionSteps.{as_refused, delete_undamaged, never, not_done, ok_not, undamaged}
use Rattle.row_server.proofs.Attempts.{low, same_cleaners, same_collectors, session_attempt}
use Rattle.row_server.proofs.server.RowServer.delete.Goals as goal

pub returns-in-Ok : goal.returns-in-Ok
returns-in-Ok g c = let told = c.in-Ok.ensures in
    session_attempt g.R.Rows g.R.SharedRows.forgot g.R.SharedRows.raced g.S.Stamps g.S.SharedStamps.allows _ _ _ refl (λ is. cc) tt tt (λ st reached shown. delete_undamaged)
    (λ st shown gone. absurd (ok_not _ _ (told.unknown st shown.sessions gone)))
    _ _ _ _ refl (λ holds. record { kind = refl; steps = told.step _ _; changed = λ st reached store shown. unchanged }) (λ holds. holds)
    (λ known. known) tt (λ is. absurd (not_done _ _ tt is))

pub returns-in-Err : goal.returns-in-Err
returns-in-Err g c = let told = c.in-Err.ensures in
    session_attempt g.R.Rows g.R.SharedRows.forgot g.R.SharedRows.raced g.S.Stamps g.S.SharedStamps.allows _ _ _ refl (λ is. cc) told.refusal tt (λ st reached shown. undamaged IsDeleteRefusal _ told.refusal (λ h. h))
    (λ st shown gone. as_refused _ _ _ refl (told.unknown st shown.sessions gone))
    _ _ _ _ refl (λ holds. record { kind = refl; steps = told.step _ _; changed = λ st reached store shown. unchanged }) (λ holds. holds)
    (λ known. known)
    (record { reads = reads_none; clients = told.err; cleaners = same_cleaners; collectors = same_collectors; rises = low })
    (λ is. absurd (never IsDeleteRefusal _ _ told.refusal (λ h. h) is))
