use Rattle.std.proofs.Common.{◌∙◌, inl, inr, refl, ap}
use Rattle.std.specs.Prelude.{Err}
use Rattle.cell_key.specs.declared.refusals.Refusal.TheVariants.{Device, NoMemory}
use Rattle.durable.proofs.Logged.{recounted}
use Rattle.durable.proofs.Rooted.{at_once_lasting, goes_after, goes_nowhere, roomless_lasting}
use Rattle.durable.proofs.server.DurableServer.answer_at_once.Goals as goal

pub returns-in_default-clause-says : goal.returns-in_default-clause-says
returns-in_default-clause-says g c = record {
  answered = at_once_lasting g.S.Journaled.view g.S.Journaled.calls g.S.Handler.says _ _ _ _ c.args.self.now.server c.answer_several.new.self.server c.args.operation c.answer_several.result c.requires c.answer_several.ensures.says (ap g.L.Log.faults c.answer_several.ensures.log);
  goes_on = c.answer_several.ensures.goes_on;
}

pub returns-in-Ok-clause-says : goal.returns-in-Ok-clause-says
returns-in-Ok-clause-says g c =
    let mid = record c.args.self.now { log = c.reserve.new.self } in
    let settles = recounted g.S.Journaled.view g.L.Log c.logs_edits.ensures c.names_roots.ensures c.args.self.now mid refl refl c.in-Ok.ensures.same refl g.S.Handler.shows in
    record {
      answered = at_once_lasting g.S.Journaled.view g.S.Journaled.calls g.S.Handler.says _ _ _ _ c.args.self.now.server c.answer_several-in-Ok.new.self.server c.args.operation c.answer_several-in-Ok.result c.requires c.answer_several-in-Ok.ensures.says (ap g.L.Log.faults c.answer_several-in-Ok.ensures.log ∙ c.in-Ok.ensures.cause.told (λ is. cc));
      goes_on = goes_after _ _ _ _ _ c.args.self.now mid c.answer_several-in-Ok.new.self settles c.answer_several-in-Ok.ensures.goes_on;
    }

pub returns-in-Err-Device-clause-says : goal.returns-in-Err-Device-clause-says
returns-in-Err-Device-clause-says g c =
    let mid = record c.args.self.now { log = c.reserve.new.self } in
    let settles = recounted g.S.Journaled.view g.L.Log c.logs_edits.ensures c.names_roots.ensures c.args.self.now mid refl refl c.in-Err-Device.ensures.same refl g.S.Handler.shows in
    record {
      answered = roomless_lasting g.S.Journaled.view g.S.Journaled.calls g.S.Handler.says _ _ _ _ c.args.self.now.server c.args.operation Device c.in-Some.ensures.needs (inl (refl, c.in-Err-Device.ensures.cause.device (ap Err c.in-Err-Device.field-0-is)));
      goes_on = goes_nowhere _ _ _ _ Device tt (λ is. cc) c.args.self.now mid settles;
    }

pub returns : goal.returns
returns g c =
    let mid = record c.args.self.now { log = c.reserve.new.self } in
    let settles = recounted g.S.Journaled.view g.L.Log c.logs_edits.ensures c.names_roots.ensures c.args.self.now mid refl refl c.in-Err.ensures.same refl g.S.Handler.shows in
    record {
      limits = tt;
      says = record {
        answered = roomless_lasting g.S.Journaled.view g.S.Journaled.calls g.S.Handler.says _ _ _ _ c.args.self.now.server c.args.operation NoMemory c.in-Some.ensures.needs (inr refl);
        goes_on = goes_nowhere _ _ _ _ NoMemory tt (λ is. cc) c.args.self.now mid settles;
      };
    }
