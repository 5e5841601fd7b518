use Rattle.std.proofs.Common.{inr, refl}
use Rattle.rows.proofs.Calls.{reads_none}
use Rattle.si_model.specs.Collection.{unchanged}
use Rattle.server_loop.proofs.SessionSteps.{as_err, as_refused, begun_undamaged, not_done, ok_not, undamaged}
use Rattle.txn_client.specs.Refusals.{IsBeginRefusal}
use Rattle.row_server.proofs.PartSteps.{known_drawn, known_refused}
use Rattle.row_server.proofs.Attempts.{same_cleaners, same_collectors, session_attempt}
use Rattle.row_server.proofs.server.RowServer.begin.Goals as goal

pub returns-in-Ok : goal.returns-in-Ok
returns-in-Ok g c = let told = c.in-Ok.ensures in
    session_attempt g.R.Rows g.R.SharedRows.forgot g.R.SharedRows.raced g.S.Stamps g.S.SharedStamps.allows _ _ _ refl (λ is. cc) tt tt (λ st reached shown. begun_undamaged _)
    (λ st shown many. absurd (ok_not _ _ (told.crowded st shown.sessions many)))
    _ _ _ _ refl (λ holds. record { kind = refl; steps = told.step _; changed = λ st reached store shown. unchanged }) (λ holds. holds)
    (known_drawn _ _ _ _ told.drawn) tt (λ is. absurd (not_done _ _ tt is))

pub returns-in-Err : goal.returns-in-Err
returns-in-Err g c = let told = c.in-Err.ensures in
    session_attempt g.R.Rows g.R.SharedRows.forgot g.R.SharedRows.raced g.S.Stamps g.S.SharedStamps.allows _ _ _ refl (λ is. cc) told.refusal tt (λ st reached shown. undamaged IsBeginRefusal _ told.refusal (λ h. h))
    (λ st shown many. as_refused _ _ _ refl (told.crowded st shown.sessions many))
    _ _ _ _ refl (λ holds. record { kind = refl; steps = told.step _; changed = λ st reached store shown. unchanged }) (λ holds. holds)
    (known_refused _ _ _ told.left)
    (record { reads = reads_none; clients = told.same; cleaners = same_cleaners; collectors = same_collectors; rises = told.rises })
    (λ is. inr (told.reason.device (as_err _ _ _ refl is)))
