use Rattle.std.proofs.Common.{ap, refl}
use Rattle.rows.specs.Sources.{IsDrawRefusal}
use Rattle.txn_client.specs.Refusals.{IsStepRefusal}
use Rattle.row_atomic.specs.Recorded.{seen_recorded}
use Rattle.si_model.proofs.ByServers.{by_servers}
use Rattle.server_loop.proofs.CellChanges.{step_changes, unchanged_if}
use Rattle.server_loop.proofs.CleanSteps.{logged_in, unlogged}
use Rattle.server_loop.proofs.OracleLeft.{left_mark, left_numbers}
use Rattle.server_loop.proofs.SessionSteps.{as_err, as_refused, err_undamaged, first_stays, not_done, ok_not, one_rose, progress_goes, progress_limits, progress_told, progress_undamaged, second_stays, steps_as}
use Rattle.server_loop.proofs.server.Server.step.Goals as goal

pub returns-in-Ok : goal.returns-in-Ok
returns-in-Ok g c = let told = c.in-Ok.ensures in record {
  step = record { step = steps_as _ _ _ _ _ tt refl refl refl (λ st reached shown. step_changes _ _ st _ _ reached (told.accepted.made shown.in_order st (by_servers reached) shown.shows.store shown.shows.sessions)) told.step told.below.still told.below.stays (λ st reached held shown. progress_undamaged c.in-Ok.progress); refusal = progress_told IsStepRefusal c.in-Ok.progress; limits = progress_limits c.in-Ok.progress };
  stamps = record { last = progress_goes _ _ _ refl c.in-Ok.progress told.draws; restarted = tt; exhausted = λ is. absurd (not_done _ _ tt is) };
  edits = record { changes = λ st shown. (told.touched shown.in_order st shown.shows.sessions, λ reached. told.accepted.made shown.in_order st (by_servers reached) shown.shows.store shown.shows.sessions); room = λ st reached shown. told.accepted.room shown.in_order st (by_servers reached) shown.shows.store shown.shows.sessions };
  sessions = record { told = λ st shown. (λ gone. absurd (ok_not _ _ ((told.causes st shown.shows.sessions).unknown gone)), λ empty. absurd (ok_not _ _ ((told.causes st shown.shows.sessions).empty empty)), λ about. progress_told IsDrawRefusal c.in-Ok.progress); sessions = tt; cleaners = record { next = refl; each = λ i. refl; count = refl }; collectors = record { next = refl; floor = refl; each = λ i. refl; count = refl }; oracle = (λ st shown. told.aside st shown.shows.sessions, progress_told _ c.in-Ok.progress) };
  tablets = ap unlogged told.below.stays;
  causes = record { device = λ is. absurd (not_done _ _ tt is); told = λ _. record { files = first_stays told.reason (ok_not _ _); marks = second_stays told.reason (ok_not _ _) }; full = λ is. absurd (not_done _ _ tt is); damaged = λ is. absurd (not_done _ _ tt is) };
  tending = refl;
  logged = ap logged_in told.below.stays;
}

pub returns-in-Err : goal.returns-in-Err
returns-in-Err g c = let told = c.in-Err.ensures in record {
  step = record { step = steps_as _ _ _ _ _ tt refl refl refl (λ st reached shown. unchanged_if _ _ st (told.refused.same.kept)) told.step told.below.still told.below.stays (λ st reached held shown. err_undamaged _ _ refl (told.undamaged (λ session is write at. (seen_recorded {W = g.row.F-Writing.Denot} g.F.Files.contents).each_readable _ held _))); refusal = told.refusal; limits = tt };
  stamps = record { last = (left_numbers g.M.MarkStore.mark _ _ told.refused.left).last; restarted = tt; exhausted = λ same. let none = told.no_stamp (as_err _ _ _ refl same) in (none.exhausted, λ st shown. none.draw_only st shown.shows.sessions) };
  edits = record { changes = told.refused.same.kept; room = told.refused.same.room };
  sessions = record { told = λ st shown. (λ gone. as_refused _ _ _ refl ((told.causes st shown.shows.sessions).unknown gone), λ empty. as_refused _ _ _ refl ((told.causes st shown.shows.sessions).empty empty), λ about. (told.causes st shown.shows.sessions).drawing about); sessions = told.err; cleaners = record { next = refl; each = λ i. refl; count = refl }; collectors = record { next = refl; floor = refl; each = λ i. refl; count = refl }; oracle = (λ st shown. told.aside st shown.shows.sessions, (left_mark g.M.MarkStore.mark _ _ told.refused.left, left_numbers g.M.MarkStore.mark _ _ told.refused.left)) };
  tablets = ap unlogged told.below.stays;
  causes = record { device = λ same. one_rose told.reason (as_err _ _ _ refl same); told = λ none. record { files = first_stays told.reason (λ is. none (as_refused _ _ _ refl is)); marks = second_stays told.reason (λ is. none (as_refused _ _ _ refl is)) }; full = λ same. let full = told.full (as_err _ _ _ refl same) in (full.edits, λ st reached shown. full.shown shown.in_order st (by_servers reached) shown.shows.store shown.shows.sessions); damaged = λ is whole. told.undamaged whole (as_err _ _ _ refl is) };
  tending = refl;
  logged = ap logged_in told.below.stays;
}
