use Rattle.std.proofs.Common.{ap, refl, inl}
use Rattle.txn_client.specs.Refusals.{IsGetRefusal}
use Rattle.row_atomic.specs.Recorded.{seen_recorded}
use Rattle.si_model.proofs.ByServers.{by_servers}
use Rattle.server_loop.proofs.Causes.{refusal_is}
use Rattle.server_loop.proofs.CellChanges.{unchanged_if}
use Rattle.server_loop.proofs.CleanSteps.{logged_in, unlogged}
use Rattle.server_loop.proofs.SessionSteps.{as_err, as_refused, err_undamaged, found_stays, found_told, found_undamaged, not_done, ok_not, short_found, steps_as}
use Rattle.server_loop.proofs.server.Server.get.Goals as goal

pub returns-in-Ok : goal.returns-in-Ok
returns-in-Ok g c = let told = c.in-Ok.ensures in record {
  step = record { step = steps_as _ _ _ _ _ tt refl refl refl (λ st reached shown. unchanged_if _ _ st (told.reads.kept)) (λ h. told.step h _) told.reads.still told.reads.stays (λ st reached held shown. found_undamaged c.in-Ok.found); refusal = found_told IsGetRefusal c.in-Ok.found; limits = short_found c.in-Ok.found told.short };
  stamps = record { last = found_stays c.in-Ok.found _; restarted = tt; exhausted = λ _. tt };
  edits = record { changes = told.reads.kept; room = told.reads.room };
  sessions = record { told = λ st shown gone. absurd (ok_not _ _ (told.unknown st shown.shows.sessions gone)); sessions = record { top = refl; buffered = refl; limit = refl; each = λ t. refl }; cleaners = record { next = refl; each = λ i. refl; count = refl }; collectors = record { next = refl; floor = refl; each = λ i. refl; count = refl }; oracle = refl };
  tablets = ap unlogged told.reads.stays;
  causes = record { device = λ is. absurd (not_done _ _ tt is); told = λ _. record { files = told.reason.told (ok_not _ _); marks = refl }; full = λ _. tt; damaged = λ is. absurd (not_done _ _ tt is) };
  tending = refl;
  logged = ap logged_in told.reads.stays;
}

pub returns-in-Err : goal.returns-in-Err
returns-in-Err g c = let told = c.in-Err.ensures in record {
  step = record { step = steps_as _ _ _ _ _ tt refl refl refl (λ st reached shown. unchanged_if _ _ st (told.reads.kept)) (λ h. told.step h _) told.reads.still told.reads.stays (λ st reached held shown. err_undamaged _ _ refl (told.undamaged ((seen_recorded {W = g.row.F-Writing.Denot} g.F.Files.contents).each_readable _ held _) st (by_servers reached) shown.store)); refusal = told.refusal; limits = tt };
  stamps = record { last = refl; restarted = tt; exhausted = λ _. tt };
  edits = record { changes = told.reads.kept; room = told.reads.room };
  sessions = record { told = λ st shown gone. as_refused _ _ _ refl (told.unknown st shown.shows.sessions gone); sessions = record { top = refl; buffered = refl; limit = refl; each = λ t. refl }; cleaners = record { next = refl; each = λ i. refl; count = refl }; collectors = record { next = refl; floor = refl; each = λ i. refl; count = refl }; oracle = refl };
  tablets = ap unlogged told.reads.stays;
  causes = record { device = λ is. inl (told.reason.device (as_err _ _ _ refl is)); told = λ none. record { files = told.reason.told (λ is. none (as_refused _ _ _ refl is)); marks = refl }; full = λ _. tt; damaged = λ is whole. told.damaged whole (refusal_is _ _ is) };
  tending = refl;
  logged = ap logged_in told.reads.stays;
}
