use Rattle.std.proofs.Common.{ap}
use Rattle.commit_log.proofs.Results.{err_of}
use Rattle.commit_log.proofs.file_log.FileLog.open.Goals as goal

pub returns-in-Err-clause-damaged : goal.returns-in-Err-clause-damaged
returns-in-Err-clause-damaged g c = λ is. c.in-Err.ensures.damaged (ap (err_of _) is)
