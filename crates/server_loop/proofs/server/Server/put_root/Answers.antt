use Rattle.std.proofs.Common.{Err, ap, refl, sym}
use Rattle.cell_key.specs.declared.refusals.Refusal.{Refusal}
use Rattle.si_model.specs.Machine.{refuses}
use Rattle.server_loop.proofs.Causes.{done_causes, refused_causes}
use Rattle.server_loop.proofs.SessionSteps.{name_undamaged, not_done}
use Rattle.server_loop.proofs.UpkeepSteps.{checkpoint_done, checkpoint_refuses, checkpoint_whole, flush_stores, still_shown, tells_as}
use Rattle.server_loop.proofs.server.Server.put_root.Goals as goal

pub returns-in-Ok-clause-plain : goal.returns-in-Ok-clause-plain
returns-in-Ok-clause-plain g c = let o = c.in-Ok.ensures in record {
  step = record { step = tells_as _ _ _ o.keeps.kept (λ held follows. tt) refl refl refl refl _ _ o.keeps.spots (λ st shown. checkpoint_done st) (λ held. checkpoint_whole); refusal = tt; limits = tt };
  stamps = record { last = refl; restarted = tt; exhausted = λ _. tt };
  edits = record { changes = λ held. (o.keeps.kept held).1; room = tt };
  sessions = record { told = λ st shown. tt; sessions = record { top = refl; buffered = refl; limit = refl; each = λ t. refl }; cleaners = record { next = refl; each = λ i. refl; count = refl }; collectors = record { next = refl; floor = refl; each = λ i. refl; count = refl }; oracle = refl };
  tablets = rw (← c.top-top.ensures.top, ← c.greatest_floor-floor.ensures.floor) (o.steps, (λ is. o.rests), λ replaces refusal is. absurd (not_done _ _ tt is));
  causes = (done_causes g.F.Files.contents g.F.Files.faults g.M.MarkStore.faults _ _ _ _ _ refl (λ is. absurd (not_done _ _ tt is)) (λ is. cc) o.faults (λ _. tt) (λ _. tt));
  tending = refl;
  logged = tt;
}

pub returns-in-Err-clause-plain : goal.returns-in-Err-clause-plain
returns-in-Err-clause-plain g c = let o = c.in-Err.ensures in record {
  step = record {
    step = tells_as _ _ _ o.keeps.kept (λ held follows. tt) refl refl refl refl _ _ o.keeps.spots (λ st shown. refuses (checkpoint_refuses st _ o.refusal)) (λ held. name_undamaged _ (λ is. o.undamaged held (ap (λ (e : Refusal). Err e) is)));
    refusal = o.refusal;
    limits = tt;
  };
  stamps = record { last = refl; restarted = tt; exhausted = λ _. tt };
  edits = record { changes = λ held. (o.keeps.kept held).1; room = tt };
  sessions = record { told = λ st shown. tt; sessions = record { top = refl; buffered = refl; limit = refl; each = λ t. refl }; cleaners = record { next = refl; each = λ i. refl; count = refl }; collectors = record { next = refl; floor = refl; each = λ i. refl; count = refl }; oracle = refl };
  tablets = rw (← c.top-top.ensures.top, ← c.greatest_floor-floor.ensures.floor) (o.steps, (λ is. absurd (not_done _ _ tt (sym is))), λ replaces refusal is. o.whole replaces);
  causes = (refused_causes g.F.Files.contents g.F.Files.faults g.M.MarkStore.faults _ _ _ _ refl o.faults (λ _. tt) (λ _. tt));
  tending = refl;
  logged = tt;
}

pub returns-in-Ok-clause-shown : goal.returns-in-Ok-clause-shown
returns-in-Ok-clause-shown g c = λ st shown. let o = c.in-Ok.ensures in still_shown _ _ _ o.keeps.kept (λ held follows. tt) refl refl refl refl st o.keeps.spots shown

pub returns-in-Err-clause-shown : goal.returns-in-Err-clause-shown
returns-in-Err-clause-shown g c = λ st shown. let o = c.in-Err.ensures in still_shown _ _ _ o.keeps.kept (λ held follows. tt) refl refl refl refl st o.keeps.spots shown

pub returns-in-Err-clause-refusal : goal.returns-in-Err-clause-refusal
returns-in-Err-clause-refusal g c = flush_stores c.in-Err.refusal c.in-Err.ensures.refusal

pub returns-in-Ok-clause-spots : goal.returns-in-Ok-clause-spots
returns-in-Ok-clause-spots g c = c.in-Ok.ensures.keeps.spots

pub returns-in-Err-clause-spots : goal.returns-in-Err-clause-spots
returns-in-Err-clause-spots g c = c.in-Err.ensures.keeps.spots

pub returns-in-Ok-clause-clean : goal.returns-in-Ok-clause-clean
returns-in-Ok-clause-clean g c = λ held. c.keeps_following.ensures.rests _ _ _ _ c.in-Ok.ensures.rests c.in-Ok.ensures.keeps held

pub returns-in-Ok-clause-follows : goal.returns-in-Ok-clause-follows
returns-in-Ok-clause-follows g c = λ replaces held follows. c.keeps_following.ensures.checkpoints _ _ _ _ _ c.in-Ok.ensures.rests c.in-Ok.ensures.keeps held follows

pub returns-in-Err-clause-follows : goal.returns-in-Err-clause-follows
returns-in-Err-clause-follows g c = λ replaces held follows. c.keeps_following.ensures.refused _ _ _ _ _ (c.in-Err.ensures.whole replaces) c.in-Err.ensures.keeps held follows
