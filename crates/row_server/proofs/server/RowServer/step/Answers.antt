use Rattle.std.proofs.Common.{refl}
use Rattle.rows.specs.Sources.{IsDrawRefusal}
use Rattle.servers_model.proofs.Changed.{step_changes, unchanged_if}
use Rattle.server_loop.proofs.SessionSteps.{as_err, as_refused, err_undamaged, not_done, ok_not, one_rose, progress_limits, progress_told, progress_undamaged}
use Rattle.row_server.proofs.PartSteps.{known_left, known_step}
use Rattle.row_server.proofs.Attempts.{same_cleaners, same_collectors, session_attempt}
use Rattle.row_server.proofs.server.RowServer.step.Goals as goal

pub returns-in-Ok : goal.returns-in-Ok
returns-in-Ok g c = let told = c.in-Ok.ensures in
    session_attempt g.R.Rows g.R.SharedRows.forgot g.R.SharedRows.raced g.S.Stamps g.S.SharedStamps.allows _ _ _ refl (λ is. cc) (progress_told _ c.in-Ok.progress) (progress_limits c.in-Ok.progress) (λ st reached shown. progress_undamaged c.in-Ok.progress)
    (λ st shown. (λ gone. absurd (ok_not _ _ ((told.causes st shown.sessions).unknown gone)), λ empty. absurd (ok_not _ _ ((told.causes st shown.sessions).empty empty)), λ about. progress_told IsDrawRefusal c.in-Ok.progress))
    _ _ _ _ refl (λ holds. record { kind = refl; steps = told.step holds; changed = λ st reached store shown. step_changes _ _ st _ _ reached (told.accepted.made holds st reached store shown) }) told.below.still
    (known_step _ _ _ c.in-Ok.progress told.draws) (progress_told _ c.in-Ok.progress) (λ is. absurd (not_done _ _ tt is))

pub returns-in-Err : goal.returns-in-Err
returns-in-Err g c = let told = c.in-Err.ensures in
    session_attempt g.R.Rows g.R.SharedRows.forgot g.R.SharedRows.raced g.S.Stamps g.S.SharedStamps.allows _ _ _ refl (λ is. cc) told.refusal tt
    (λ st reached shown. err_undamaged _ _ refl (told.undamaged (λ session is write at. g.R.Rows.seen.each_readable _ shown.holds _)))
    (λ st shown. (λ gone. as_refused _ _ _ refl ((told.causes st shown.sessions).unknown gone), λ empty. as_refused _ _ _ refl ((told.causes st shown.sessions).empty empty), λ about. (told.causes st shown.sessions).drawing about))
    _ _ _ _ refl (λ holds. record { kind = refl; steps = told.step holds; changed = λ st reached store shown. unchanged_if _ _ st told.refused.same.kept }) told.below.still
    (known_left _ _ _ told.refused.left)
    (record { reads = told.refused.same; clients = told.err; cleaners = same_cleaners; collectors = same_collectors; rises = told.refused.rises })
    (λ is. one_rose told.reason (as_err _ _ _ refl is))
