use Rattle.std.proofs.Common.{refl, sym, inl, inr, ap}
use Rattle.std.specs.declared.result.Result.TheVariants.{Err}
use Rattle.cell_key.specs.declared.refusals.Refusal.{Refusal}
use Rattle.si_model.specs.Machine.{refuses}
use Rattle.row_atomic.specs.declared.commands.Command.TheVariants as command
use Rattle.server_loop.proofs.Causes.{done_causes, refused_causes, unmet_causes}
use Rattle.server_loop.proofs.SessionSteps.{memory_not_device, name_undamaged, named_not, not_done, refused_either, row_not_device}
use Rattle.server_loop.proofs.UpkeepSteps.{cut_named, cut_refused, row_whole, split_named, split_refuses, splits_as, tells_as}
use Rattle.server_loop.proofs.server.Server.split.Goals as goal

pub returns-in-Err : goal.returns-in-Err
returns-in-Err g c = record {
  step = record { step = tells_as _ _ _ (λ held. (held, refl)) (λ held follows. follows) refl refl refl refl _ _ refl (λ st shown. refuses (split_named st _ _ c.in-Err.ensures.others (λ is. c.in-Err.ensures.bad.0 (ap (λ (r : Refusal). Err r) is)))) (λ held. name_undamaged _ (row_whole _ c.in-Err.ensures.others)); refusal = cut_named _ c.in-Err.ensures.others; limits = tt };
  stamps = record { last = refl; restarted = tt; exhausted = λ _. tt };
  edits = record { changes = λ held. refl; room = tt };
  sessions = record { told = λ st shown. tt; sessions = record { top = refl; buffered = refl; limit = refl; each = λ t. refl }; cleaners = record { next = refl; each = λ i. refl; count = refl }; collectors = record { next = refl; floor = refl; each = λ i. refl; count = refl }; oracle = refl };
  tablets = inr (refused_either _ _ _ c.in-Err.ensures.others, refl);
  causes = (unmet_causes g.F.Files.contents g.F.Files.faults g.M.MarkStore.faults _ _ _ _ refl refl (λ is. absurd (named_not _ _ row_not_device memory_not_device c.in-Err.ensures.others is)) (λ _. tt) (λ _. tt));
  tending = refl;
  logged = refl;
}

pub returns-in-Ok-split : goal.returns-in-Ok-split
returns-in-Ok-split g c =
    let is_row = rw (← c.in-Ok.ensures.ok) at c.in-Ok.ensures.valid in
    let o = c.in-Ok-split.ensures in
    rw (← c.in-Ok.ensures.ok) (record {
      step = record { step = splits_as _ _ _ (λ held. (o.still held, o.answers held)) (λ held. c.keeps_following.ensures.commands (command.Split _) _ _ _ _ o tt (λ is. cc) held) refl refl refl refl _ _ is_row o.cause.free o.upholds.0 o.upholds.1; refusal = tt; limits = tt };
      stamps = record { last = refl; restarted = tt; exhausted = λ _. tt };
      edits = record { changes = o.answers; room = tt };
      sessions = record { told = λ st shown. tt; sessions = record { top = refl; buffered = refl; limit = refl; each = λ t. refl }; cleaners = record { next = refl; each = λ i. refl; count = refl }; collectors = record { next = refl; floor = refl; each = λ i. refl; count = refl }; oracle = refl };
      tablets = inl o;
      causes = (done_causes g.F.Files.contents g.F.Files.faults g.M.MarkStore.faults _ _ _ _ _ refl (λ is. absurd (not_done _ _ tt is)) (λ is. cc) o.faults (λ _. tt) (λ _. tt));
      tending = refl;
      logged = refl;
    })

pub returns : goal.returns
returns g c =
    let is_row = rw (← c.in-Ok.ensures.ok) at c.in-Ok.ensures.valid in
    let o = c.in-Err-split.ensures in
    rw (← c.in-Ok.ensures.ok) (record {
      step = record { step = tells_as _ _ _ (λ held. (o.still held, (o.answers held).1)) (λ held. c.keeps_following.ensures.commands (command.Split _) _ _ _ _ o tt (λ is. cc) held) refl refl refl refl _ _ o.upholds.1.0 (λ st shown. refuses (split_refuses st _ (sym shown.places) _ _ is_row o.upholds.0 o.cause.due.bad.0)) (λ held. name_undamaged _ (o.answers held).0); refusal = cut_refused _ o.upholds.0; limits = tt };
      stamps = record { last = refl; restarted = tt; exhausted = λ _. tt };
      edits = record { changes = λ held. (o.answers held).1; room = tt };
      sessions = record { told = λ st shown. tt; sessions = record { top = refl; buffered = refl; limit = refl; each = λ t. refl }; cleaners = record { next = refl; each = λ i. refl; count = refl }; collectors = record { next = refl; floor = refl; each = λ i. refl; count = refl }; oracle = refl };
      tablets = inl o;
      causes = (refused_causes g.F.Files.contents g.F.Files.faults g.M.MarkStore.faults _ _ _ _ refl o.faults (λ _. tt) (λ _. tt));
      tending = refl;
      logged = refl;
    })
