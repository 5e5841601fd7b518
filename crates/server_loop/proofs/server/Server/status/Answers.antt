use Rattle.std.proofs.Common.{refl}
use Rattle.si_model.specs.Machine.{refuses}
use Rattle.server_loop.proofs.Causes.{unmet_causes}
use Rattle.server_loop.proofs.SessionSteps.{memory_only, name_undamaged, not_done}
use Rattle.server_loop.proofs.UpkeepSteps.{memory_whole, reported_whole, status_done, status_refuses, tells_as}
use Rattle.server_loop.proofs.server.Server.status.Goals as goal

pub returns-in-Ok : goal.returns-in-Ok
returns-in-Ok g c = record {
  step = record { step = tells_as _ _ _ (λ held. (held, refl)) (λ held follows. follows) refl refl refl refl _ _ refl (λ st shown. status_done st _ _) (λ held. reported_whole _); refusal = tt; limits = c.in-Ok.ensures.short };
  stamps = record { last = refl; restarted = tt; exhausted = λ _. tt };
  edits = record { changes = refl; room = tt };
  sessions = record { told = λ st shown. tt; sessions = record { top = refl; buffered = refl; limit = refl; each = λ t. refl }; cleaners = record { next = refl; each = λ i. refl; count = refl }; collectors = record { next = refl; floor = refl; each = λ i. refl; count = refl }; oracle = refl };
  tablets = (refl, c.in-Ok.ensures.is);
  causes = unmet_causes g.F.Files.contents g.F.Files.faults g.M.MarkStore.faults _ _ _ _ refl refl (λ is. absurd (not_done _ _ tt is)) (λ _. tt) (λ _. tt);
  tending = refl;
  logged = refl;
}

pub returns-in-Err : goal.returns-in-Err
returns-in-Err g c = record {
  step = record { step = tells_as _ _ _ (λ held. (held, refl)) (λ held follows. follows) refl refl refl refl _ _ refl (λ st shown. refuses (status_refuses st _ _ c.in-Err.ensures.refusal)) (λ held. name_undamaged _ (memory_whole _ c.in-Err.ensures.refusal)); refusal = c.in-Err.ensures.refusal; limits = tt };
  stamps = record { last = refl; restarted = tt; exhausted = λ _. tt };
  edits = record { changes = refl; room = tt };
  sessions = record { told = λ st shown. tt; sessions = record { top = refl; buffered = refl; limit = refl; each = λ t. refl }; cleaners = record { next = refl; each = λ i. refl; count = refl }; collectors = record { next = refl; floor = refl; each = λ i. refl; count = refl }; oracle = refl };
  tablets = (refl, tt);
  causes = unmet_causes g.F.Files.contents g.F.Files.faults g.M.MarkStore.faults _ _ _ _ refl refl (λ is. memory_only _ c.in-Err.ensures.refusal is) (λ _. tt) (λ _. tt);
  tending = refl;
  logged = refl;
}
