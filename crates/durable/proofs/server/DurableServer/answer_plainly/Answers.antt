use Rattle.durable.proofs.Rooted.{plain_lasting}
use Rattle.durable.proofs.server.DurableServer.answer_plainly.Goals as goal

pub returns-clause-says : goal.returns-clause-says
returns-clause-says g c = record {
  answered = plain_lasting g.S.Journaled.view g.S.Journaled.calls g.S.Handler.says _ _ _ _ c.args.self.now.server c.answer_inside.new.self.server c.args.request c.answer_inside.result c.requires.rootless c.requires.roomless c.answer_inside.ensures.says;
  goes_on = c.answer_inside.ensures.goes_on;
}
