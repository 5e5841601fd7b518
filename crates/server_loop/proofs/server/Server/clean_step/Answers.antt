use Rattle.std.proofs.Common.{ap, refl, inl}
use Rattle.clean_up.specs.Refusals.{IsStepRefusal}
use Rattle.row_atomic.specs.Recorded.{seen_recorded}
use Rattle.si_model.proofs.ByServers.{by_servers}
use Rattle.server_loop.proofs.Causes.{refusal_is}
use Rattle.server_loop.proofs.CellChanges.{clean_changes, unchanged_if}
use Rattle.server_loop.proofs.CleanSteps.{logged_in, unlogged, cleans_as, cleaned_limits, cleaned_told, cleaned_undamaged, cleaned_stays}
use Rattle.server_loop.proofs.SessionSteps.{as_err, as_refused, err_undamaged, not_done, ok_not}
use Rattle.server_loop.proofs.server.Server.clean_step.Goals as goal

pub returns-in-Ok : goal.returns-in-Ok
returns-in-Ok g c = let told = c.in-Ok.ensures in record {
  step = record { step = cleans_as _ _ _ _ _ tt refl refl refl refl (λ st reached shown. clean_changes _ _ st _ _ (told.made shown.in_order st (by_servers reached) shown.shows.store shown.cleaners)) told.step told.below.still told.below.stays (λ held st reached cells cleaners. cleaned_undamaged c.in-Ok.done); refusal = cleaned_told IsStepRefusal c.in-Ok.done; limits = cleaned_limits c.in-Ok.done };
  stamps = record { last = cleaned_stays c.in-Ok.done _; restarted = tt; exhausted = λ is. absurd (not_done _ _ tt is) };
  edits = record { changes = λ st reached shown. (told.touched shown.in_order st (by_servers reached) shown.shows.store shown.cleaners, told.made shown.in_order st (by_servers reached) shown.shows.store shown.cleaners); room = λ st reached shown. told.room shown.in_order st (by_servers reached) shown.shows.store shown.cleaners };
  sessions = record { told = λ st shown gone. absurd (ok_not _ _ (told.unknown st shown.cleaners gone)); sessions = record { top = refl; buffered = refl; limit = refl; each = λ t. refl }; cleaners = told.one; collectors = record { next = refl; floor = refl; each = λ i. refl; count = refl }; oracle = refl };
  tablets = ap unlogged told.below.stays;
  causes = record { device = λ is. absurd (not_done _ _ tt is); told = λ _. record { files = told.refusal.1.told (ok_not _ _); marks = refl }; full = λ is. absurd (not_done _ _ tt is); damaged = λ is. absurd (not_done _ _ tt is) };
  tending = refl;
  logged = ap logged_in told.below.stays;
}

pub returns-in-Err : goal.returns-in-Err
returns-in-Err g c = let told = c.in-Err.ensures in record {
  step = record { step = cleans_as _ _ _ _ _ tt refl refl refl refl (λ st reached shown. unchanged_if _ _ st (told.same.kept)) told.step told.below.still told.below.stays (λ held st reached cells cleaners. err_undamaged _ _ refl (told.undamaged (λ k is. (seen_recorded {W = g.row.F-Writing.Denot} g.F.Files.contents).each_readable _ held _) st reached cells cleaners)); refusal = told.refusal.0; limits = tt };
  stamps = record { last = refl; restarted = tt; exhausted = λ _. tt };
  edits = record { changes = told.same.kept; room = told.same.room };
  sessions = record { told = λ st shown gone. as_refused _ _ _ refl (told.unknown st shown.cleaners gone); sessions = record { top = refl; buffered = refl; limit = refl; each = λ t. refl }; cleaners = told.err; collectors = record { next = refl; floor = refl; each = λ i. refl; count = refl }; oracle = refl };
  tablets = ap unlogged told.below.stays;
  causes = record { device = λ is. inl (told.refusal.1.device (as_err _ _ _ refl is)); told = λ none. record { files = told.refusal.1.told (λ is. none (as_refused _ _ _ refl is)); marks = refl }; full = λ same. (told.full (as_err _ _ _ refl same), λ st reached shown. told.full_shown shown.in_order (as_err _ _ _ refl same) st (by_servers reached) shown.shows.store shown.cleaners); damaged = λ is whole. told.damaged whole (refusal_is _ _ is) };
  tending = refl;
  logged = ap logged_in told.below.stays;
}
