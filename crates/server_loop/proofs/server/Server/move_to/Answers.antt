use Rattle.std.proofs.Common.{refl, sym, inl}
use Rattle.si_model.specs.Machine.{refuses}
use Rattle.row_atomic.specs.declared.commands.Command.TheVariants as command
use Rattle.server_loop.proofs.Causes.{done_causes, refused_causes}
use Rattle.server_loop.proofs.SessionSteps.{name_undamaged, not_done}
use Rattle.server_loop.proofs.UpkeepSteps.{move_refuses, moves_as, tells_as}
use Rattle.server_loop.proofs.server.Server.move_to.Goals as goal

pub returns-in-Ok : goal.returns-in-Ok
returns-in-Ok g c = let o = c.in-Ok.ensures.outcome in record {
  step = record { step = moves_as _ _ _ (λ held. (o.still held, o.answers held)) (λ held. c.keeps_following.ensures.commands (command.Move _ _) _ _ _ _ o tt (λ is. cc) held) refl refl refl refl _ _ c.in-Ok.ensures.table o.cause.known o.cause.near o.upholds; refusal = tt; limits = tt };
  stamps = record { last = refl; restarted = tt; exhausted = λ _. tt };
  edits = record { changes = o.answers; room = tt };
  sessions = record { told = λ st shown. tt; sessions = record { top = refl; buffered = refl; limit = refl; each = λ t. refl }; cleaners = record { next = refl; each = λ i. refl; count = refl }; collectors = record { next = refl; floor = refl; each = λ i. refl; count = refl }; oracle = refl };
  tablets = inl o;
  causes = (done_causes g.F.Files.contents g.F.Files.faults g.M.MarkStore.faults _ _ _ _ _ refl (λ is. absurd (not_done _ _ tt is)) (λ is. cc) o.faults (λ _. tt) (λ _. tt));
  tending = refl;
  logged = refl;
}

pub returns-in-Err : goal.returns-in-Err
returns-in-Err g c = let o = c.in-Err.ensures.outcome in record {
  step = record { step = tells_as _ _ _ (λ held. (o.still held, (o.answers held).1)) (λ held. c.keeps_following.ensures.commands (command.Move _ _) _ _ _ _ o tt (λ is. cc) held) refl refl refl refl _ _ o.upholds.1.1 (λ st shown. refuses (move_refuses st _ (sym shown.places) _ _ _ o.upholds.0 o.cause.due.1.unknown.0 o.cause.due.0.0)) (λ held. name_undamaged _ (o.answers held).0); refusal = o.upholds.0; limits = tt };
  stamps = record { last = refl; restarted = tt; exhausted = λ _. tt };
  edits = record { changes = λ held. (o.answers held).1; room = tt };
  sessions = record { told = λ st shown. tt; sessions = record { top = refl; buffered = refl; limit = refl; each = λ t. refl }; cleaners = record { next = refl; each = λ i. refl; count = refl }; collectors = record { next = refl; floor = refl; each = λ i. refl; count = refl }; oracle = refl };
  tablets = inl o;
  causes = (refused_causes g.F.Files.contents g.F.Files.faults g.M.MarkStore.faults _ _ _ _ refl o.faults (λ _. tt) (λ _. tt));
  tending = refl;
  logged = refl;
}
