use Rattle.commit_log.proofs.Holding.{keeps}
use Rattle.commit_log.proofs.file_log.FileLogLog.reserve_beside.Goals as goal

pub returns-clause-same : goal.returns-clause-same
returns-clause-same g c =
    keeps (g.F.LogFile.bytes c.args.self.now.file) (g.F.LogFile.bytes c.reserve_beside.new.self) (g.F.LogFile.is_stopped c.args.self.now.file) (g.F.LogFile.is_stopped c.reserve_beside.new.self) c.args.self.now.store c.args.self.now.next c.reserve_beside.ensures.same c.reserve_beside.ensures.stays
