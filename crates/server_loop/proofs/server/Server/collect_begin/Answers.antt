use Rattle.std.proofs.Common.{refl}
use Rattle.version_collector.specs.Refusals.{IsBeginRefusal}
use Rattle.si_model.proofs.ByServers.{by_servers}
use Rattle.server_loop.proofs.CollectSteps.{begun_undamaged, collects_as}
use Rattle.server_loop.proofs.SessionSteps.{as_err, never, not_done, undamaged}
use Rattle.server_loop.proofs.server.Server.collect_begin.Goals as goal

pub returns-in-Ok : goal.returns-in-Ok
returns-in-Ok g c = let told = c.in-Ok.ensures in record {
  step = record { step = collects_as _ _ _ _ _ tt refl refl refl refl (λ st reached shown. told.step _ st (by_servers reached) shown.shows.store shown.collectors (c.floor-floor.ensures.floor st (by_servers reached) shown.shows.sessions shown.alone.0)) (λ h. h) refl (λ st reached shown. begun_undamaged _ _); refusal = tt; limits = tt };
  stamps = record { last = refl; restarted = tt; exhausted = λ is. absurd (not_done _ _ tt is) };
  edits = record { changes = refl; room = λ row edits over. over };
  sessions = record { told = λ st shown. tt; sessions = record { top = refl; buffered = refl; limit = refl; each = λ t. refl }; cleaners = record { next = refl; each = λ i. refl; count = refl }; collectors = told.opens; oracle = refl };
  tablets = refl;
  causes = record { device = λ is. absurd (not_done _ _ tt is); told = λ _. record { files = refl; marks = refl }; full = λ _. tt; damaged = λ _. tt };
  tending = refl;
  logged = refl;
}

pub returns-in-Err : goal.returns-in-Err
returns-in-Err g c = let told = c.in-Err.ensures in record {
  step = record { step = collects_as _ _ _ _ _ tt refl refl refl refl (λ st reached shown. told.step _ st (by_servers reached) shown.shows.store shown.collectors (c.floor-floor.ensures.floor st (by_servers reached) shown.shows.sessions shown.alone.0)) (λ h. h) refl (λ st reached shown. undamaged IsBeginRefusal _ told.refusal (λ h. h)); refusal = told.refusal; limits = tt };
  stamps = record { last = refl; restarted = tt; exhausted = λ is. λ st shown. told.exhausted (as_err _ _ _ refl is) _ st shown.collectors };
  edits = record { changes = refl; room = λ row edits over. over };
  sessions = record { told = λ st shown. tt; sessions = record { top = refl; buffered = refl; limit = refl; each = λ t. refl }; cleaners = record { next = refl; each = λ i. refl; count = refl }; collectors = told.err; oracle = refl };
  tablets = refl;
  causes = record { device = λ is. absurd (never IsBeginRefusal _ _ told.refusal (λ h. h) is); told = λ _. record { files = refl; marks = refl }; full = λ _. tt; damaged = λ _. tt };
  tending = refl;
  logged = refl;
}
