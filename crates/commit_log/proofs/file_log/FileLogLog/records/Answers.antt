use Rattle.commit_log.proofs.Holding.{keeps, no_log, read_back, seen}
use Rattle.commit_log.proofs.Results.{passed}
use Rattle.commit_log.proofs.file_log.FileLogLog.records.Goals as goal

pub returns-in_err-bytes-clause-same : goal.returns-in_err-bytes-clause-same
returns-in_err-bytes-clause-same g c =
    keeps (g.F.LogFile.bytes c.args.self.now.file) (g.F.LogFile.bytes c.read.new.self) (g.F.LogFile.is_stopped c.args.self.now.file) (g.F.LogFile.is_stopped c.read.new.self) c.args.self.now.store c.args.self.now.next c.read.ensures.same c.read.ensures.stays

pub returns-in_err-read_store_log-clause-same : goal.returns-in_err-read_store_log-clause-same
returns-in_err-read_store_log-clause-same g c =
    keeps (g.F.LogFile.bytes c.args.self.now.file) (g.F.LogFile.bytes c.read.new.self) (g.F.LogFile.is_stopped c.args.self.now.file) (g.F.LogFile.is_stopped c.read.new.self) c.args.self.now.store c.args.self.now.next c.read.ensures.same c.read.ensures.stays

pub returns-clause-same : goal.returns-clause-same
returns-clause-same g c =
    keeps (g.F.LogFile.bytes c.args.self.now.file) (g.F.LogFile.bytes c.read.new.self) (g.F.LogFile.is_stopped c.args.self.now.file) (g.F.LogFile.is_stopped c.read.new.self) c.args.self.now.store c.args.self.now.next c.read.ensures.same c.read.ensures.stays

pub returns-in_err-read_store_log-clause-damaged : goal.returns-in_err-read_store_log-clause-damaged
returns-in_err-read_store_log-clause-damaged g c = λ e records held.
    no_log (g.F.LogFile.bytes c.args.self.now.file) c.deref.result.now (seen _ _ _ c.deref.ensures.value c.in_ok-bytes.ensures.ok)
    (c.in_err-read_store_log.ensures.damaged (passed c.from_residual-in_err-read_store_log.result c.in_err-read_store_log.field-0.0 _ c.from_residual-in_err-read_store_log.ensures.1 e)) records held.kept

pub returns-clause-ok : goal.returns-clause-ok
returns-clause-ok g c =
    read_back (g.F.LogFile.bytes c.args.self.now.file) c.deref.result.now _ _ _ _ (g.F.LogFile.is_stopped c.args.self.now.file) c.args.self.now.store c.args.self.now.next (seen _ _ _ c.deref.ensures.value c.in_ok-bytes.ensures.ok) c.in_ok-read_store_log.ensures.ok
