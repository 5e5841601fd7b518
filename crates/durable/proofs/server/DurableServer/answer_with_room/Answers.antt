use Rattle.std.proofs.Common.{◌∙◌, inl, inr, refl, ap}
use Rattle.std.specs.Prelude.{Err}
use Rattle.request_codec.specs.declared.replies.Reply.TheVariants as codec
use Rattle.cell_key.specs.declared.refusals.Refusal.TheVariants.{Device, NoMemory}
use Rattle.durable.proofs.Logged.{recounted}
use Rattle.durable.proofs.Rooted.{goes_after, goes_nowhere, room_lasting, rootless}
use Rattle.durable.proofs.server.DurableServer.answer_with_room.Goals as goal

pub answer_inside-requires : goal.answer_inside-requires
answer_inside-requires g c = rootless c.args.request c.requires.needs

pub returns-in-Ok-clause-says : goal.returns-in-Ok-clause-says
returns-in-Ok-clause-says g c =
    let mid = record c.args.self.now { log = c.reserve.new.self } in
    let settles = recounted g.S.Journaled.view g.L.Log c.logs_edits.ensures c.names_roots.ensures c.args.self.now mid refl refl c.in-Ok.ensures.same refl g.S.Handler.shows in
    record {
      answered = room_lasting g.S.Journaled.view g.S.Journaled.calls g.S.Handler.says _ _ _ _ c.args.self.now.server c.answer_inside.new.self.server c.args.request c.answer_inside.result c.requires.needs c.requires.few (inl (c.answer_inside.ensures.says, ap g.L.Log.faults c.answer_inside.ensures.log ∙ c.in-Ok.ensures.cause.told (λ is. cc)));
      goes_on = goes_after _ _ _ _ _ c.args.self.now mid c.answer_inside.new.self settles c.answer_inside.ensures.goes_on;
    }

pub returns-in-Err-Device-clause-says : goal.returns-in-Err-Device-clause-says
returns-in-Err-Device-clause-says g c =
    let mid = record c.args.self.now { log = c.reserve.new.self } in
    let settles = recounted g.S.Journaled.view g.L.Log c.logs_edits.ensures c.names_roots.ensures c.args.self.now mid refl refl c.in-Err-Device.ensures.same refl g.S.Handler.shows in
    record {
      answered = room_lasting g.S.Journaled.view g.S.Journaled.calls g.S.Handler.says _ _ _ _ c.args.self.now.server c.args.self.now.server c.args.request (codec.Refused Device) c.requires.needs c.requires.few (inr (refl, inl (refl, c.in-Err-Device.ensures.cause.device (ap Err c.in-Err-Device.field-0-is))));
      goes_on = goes_nowhere _ _ _ _ Device tt (λ is. cc) c.args.self.now mid settles;
    }

pub returns-in-Err-clause-says : goal.returns-in-Err-clause-says
returns-in-Err-clause-says g c =
    let mid = record c.args.self.now { log = c.reserve.new.self } in
    let settles = recounted g.S.Journaled.view g.L.Log c.logs_edits.ensures c.names_roots.ensures c.args.self.now mid refl refl c.in-Err.ensures.same refl g.S.Handler.shows in
    record {
      answered = room_lasting g.S.Journaled.view g.S.Journaled.calls g.S.Handler.says _ _ _ _ c.args.self.now.server c.args.self.now.server c.args.request (codec.Refused NoMemory) c.requires.needs c.requires.few (inr (refl, inr refl));
      goes_on = goes_nowhere _ _ _ _ NoMemory tt (λ is. cc) c.args.self.now mid settles;
    }
