use Rattle.std.proofs.Common.{ap, refl, inl}
use Rattle.clean_up.specs.Refusals.{IsBeginRefusal}
use Rattle.row_atomic.specs.Recorded.{seen_recorded}
use Rattle.server_loop.proofs.Causes.{refusal_is}
use Rattle.server_loop.proofs.CellChanges.{unchanged_if}
use Rattle.server_loop.proofs.CleanSteps.{logged_in, unlogged, cleans_as, started_limits, started_told, started_undamaged, started_stays}
use Rattle.server_loop.proofs.SessionSteps.{as_err, as_refused, err_undamaged, not_done, ok_not}
use Rattle.server_loop.proofs.server.Server.clean_begin.Goals as goal

pub returns-in-Ok : goal.returns-in-Ok
returns-in-Ok g c = let told = c.in-Ok.ensures in record {
  step = record { step = cleans_as _ _ _ _ _ tt refl refl refl refl (λ st reached shown. unchanged_if _ _ st (told.reads.kept)) told.step told.reads.still told.reads.stays (λ held st reached cells cleaners. started_undamaged c.in-Ok.found); refusal = started_told IsBeginRefusal c.in-Ok.found; limits = started_limits c.in-Ok.found };
  stamps = record { last = started_stays c.in-Ok.found _; restarted = tt; exhausted = λ is. absurd (not_done _ _ tt is) };
  edits = record { changes = told.reads.kept; room = told.reads.room };
  sessions = record { told = λ st shown. tt; sessions = record { top = refl; buffered = refl; limit = refl; each = λ t. refl }; cleaners = told.opens; collectors = record { next = refl; floor = refl; each = λ i. refl; count = refl }; oracle = refl };
  tablets = ap unlogged told.reads.stays;
  causes = record { device = λ is. absurd (not_done _ _ tt is); told = λ _. record { files = told.reason.told (ok_not _ _); marks = refl }; full = λ _. tt; damaged = λ is. absurd (not_done _ _ tt is) };
  tending = refl;
  logged = ap logged_in told.reads.stays;
}

pub returns-in-Err : goal.returns-in-Err
returns-in-Err g c = let told = c.in-Err.ensures in record {
  step = record { step = cleans_as _ _ _ _ _ tt refl refl refl refl (λ st reached shown. unchanged_if _ _ st (told.reads.kept)) told.step told.reads.still told.reads.stays (λ held st reached cells cleaners. err_undamaged _ _ refl (told.undamaged ((seen_recorded {W = g.row.F-Writing.Denot} g.F.Files.contents).each_readable _ held _) st reached cells cleaners)); refusal = told.refusal; limits = tt };
  stamps = record { last = refl; restarted = tt; exhausted = λ is. λ st shown. told.exhausted (as_err _ _ _ refl is) st shown.cleaners };
  edits = record { changes = told.reads.kept; room = told.reads.room };
  sessions = record { told = λ st shown. tt; sessions = record { top = refl; buffered = refl; limit = refl; each = λ t. refl }; cleaners = told.err; collectors = record { next = refl; floor = refl; each = λ i. refl; count = refl }; oracle = refl };
  tablets = ap unlogged told.reads.stays;
  causes = record { device = λ is. inl (told.reason.device (as_err _ _ _ refl is)); told = λ none. record { files = told.reason.told (λ is. none (as_refused _ _ _ refl is)); marks = refl }; full = λ _. tt; damaged = λ is whole. told.damaged whole (refusal_is _ _ is) };
  tending = refl;
  logged = ap logged_in told.reads.stays;
}
