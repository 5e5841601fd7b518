use Rattle.std.proofs.Common.{inr, refl}
use Rattle.audit.proofs.audit.Audit.begin_at.Goals as goal

pub returns-clause-ok : goal.returns-clause-ok
returns-clause-ok c = inr (c.if-mark-self.false, refl, c.new.result, c.new.ensures.items, c.in_ok-insert.ensures.updates.0)
