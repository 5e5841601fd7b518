use Rattle.row_server.specs.Server.{Shows}
use Rattle.server_loop.proofs.SessionSteps.{goes_one}
use Rattle.row_server.proofs.Unoffered.{goes_nowhere, says_nothing}
use Rattle.row_server.proofs.handler.RowServerHandler.answer_to.Goals as goal

pub returns-clause-goes : goal.returns-clause-goes
returns-clause-goes g c = rw c.in-One.is (goes_one (Shows g.R.Rows.seen g.S.Stamps.source) c.args.self.now c.reply_to.new.self _ _ c.reply_to.ensures.step)

pub returns-in_default : goal.returns-in_default
returns-in_default g c = record {
  goes = goes_nowhere g.R.Rows g.R.SharedRows.forgot g.R.SharedRows.raced g.S.Stamps g.S.SharedStamps.allows c.args.self.now c.args.operation c.in_default.not-One _ c.unoffered.ensures;
  says = says_nothing g.R.Rows g.R.SharedRows.forgot g.R.SharedRows.raced g.S.Stamps g.S.SharedStamps.allows c.args.self.now c.args.operation c.in_default.not-One _ c.unoffered.ensures;
  limits = tt;
}
