use Rattle.audit.proofs.Recoveries.{recovers_to}
use Rattle.audit.proofs.audit.Audit.recover.Goals as goal

pub returns : goal.returns
returns c = recovers_to c.args.self.now c.begin_at.new.self c.reopen.new.self c.args.mark c.if-mark-self.false c.if-mark-gt-MOST_STAMP.false c.in_ok-begin_at.ensures.ok c.reopen.ensures
