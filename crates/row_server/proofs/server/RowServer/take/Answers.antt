use Rattle.row_server.proofs.Attempts.{not_offered, unoffered_attempt}
use Rattle.row_server.proofs.server.RowServer.take.Goals as goal

pub returns-in_default : goal.returns-in_default
returns-in_default g c = unoffered_attempt g.R.Rows g.R.SharedRows.forgot g.R.SharedRows.raced g.S.Stamps g.S.SharedStamps.allows c.args.self.now c.args.request _ (not_offered c.args.request (record {
  not_Begin = c.in_default.not-Begin;
  not_Get = c.in_default.not-Get;
  not_Set = c.in_default.not-Set;
  not_Delete = c.in_default.not-Delete;
  not_Scan = c.in_default.not-Scan;
  not_Step = c.in_default.not-Step;
  not_Stop = c.in_default.not-Stop;
  not_CleanBegin = c.in_default.not-CleanBegin;
  not_CleanStep = c.in_default.not-CleanStep;
  not_CollectBegin = c.in_default.not-CollectBegin;
  not_CollectStep = c.in_default.not-CollectStep;
})) c.unoffered.ensures
