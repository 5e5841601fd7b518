use Rattle.std.proofs.Common.{refl, inl}
use Rattle.si_model.specs.Machine.{refuses}
use Rattle.server_loop.proofs.Causes.{done_causes, refused_causes}
use Rattle.server_loop.proofs.SessionSteps.{name_undamaged, not_done}
use Rattle.server_loop.proofs.UpkeepSteps.{same_spots, sweep_done, sweep_refuses, swept_whole, tells_as}
use Rattle.server_loop.proofs.server.Server.sweep.Goals as goal

pub returns-in-Ok : goal.returns-in-Ok
returns-in-Ok g c = let o = c.in-Ok.ensures in rw c.forget.ensures (record {
  step = record { step = tells_as _ _ _ (λ held. (o.still held, o.answers held)) (λ held follows. tt) refl refl refl refl _ _ (same_spots c.args.self.now.rows.cluster c.sweep-swept.new.self c.sweep-swept.new.self.files c.sweep-swept.new.self.merge o.upholds.rest) (λ st shown. sweep_done st _) (λ held. swept_whole _); refusal = tt; limits = tt };
  stamps = record { last = refl; restarted = tt; exhausted = λ _. tt };
  edits = record { changes = o.answers; room = tt };
  sessions = record { told = λ st shown. tt; sessions = record { top = refl; buffered = refl; limit = refl; each = λ t. refl }; cleaners = record { next = refl; each = λ i. refl; count = refl }; collectors = record { next = refl; floor = refl; each = λ i. refl; count = refl }; oracle = refl };
  tablets = inl o;
  causes = (done_causes g.F.Files.contents g.F.Files.faults g.M.MarkStore.faults _ _ _ _ _ refl (λ is. absurd (not_done _ _ tt is)) (λ is. cc) o.faults (λ _. tt) (λ _. tt));
  tending = refl;
  logged = tt;
})

pub returns-in-Err : goal.returns-in-Err
returns-in-Err g c = let o = c.in-Err.ensures in rw c.forget.ensures (record {
  step = record { step = tells_as _ _ _ (λ held. (o.still held, (o.answers held).1)) (λ held follows. tt) refl refl refl refl _ _ (same_spots c.args.self.now.rows.cluster c.sweep-swept.new.self c.sweep-swept.new.self.files c.sweep-swept.new.self.merge o.upholds.1.rest) (λ st shown. refuses (sweep_refuses st _ o.upholds.0)) (λ held. name_undamaged _ (o.answers held).0); refusal = o.upholds.0; limits = tt };
  stamps = record { last = refl; restarted = tt; exhausted = λ _. tt };
  edits = record { changes = λ held. (o.answers held).1; room = tt };
  sessions = record { told = λ st shown. tt; sessions = record { top = refl; buffered = refl; limit = refl; each = λ t. refl }; cleaners = record { next = refl; each = λ i. refl; count = refl }; collectors = record { next = refl; floor = refl; each = λ i. refl; count = refl }; oracle = refl };
  tablets = inl o;
  causes = (refused_causes g.F.Files.contents g.F.Files.faults g.M.MarkStore.faults _ _ _ _ refl o.faults (λ _. tt) (λ _. tt));
  tending = refl;
  logged = tt;
})
