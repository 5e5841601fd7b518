use Rattle.commit_log.proofs.Holding.{keeps}
use Rattle.commit_log.proofs.file_log.FileLogLog.reserve.Goals as goal

pub returns-clause-same : goal.returns-clause-same
returns-clause-same g c =
    keeps (g.F.LogFile.bytes c.args.self.now.file) (g.F.LogFile.bytes c.reserve.new.self) (g.F.LogFile.is_stopped c.args.self.now.file) (g.F.LogFile.is_stopped c.reserve.new.self) c.args.self.now.store c.args.self.now.next c.reserve.ensures.same c.reserve.ensures.stays
