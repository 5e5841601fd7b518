use Rattle.tablet.proofs.tablet.Tablet.len.Goals as goal

pub returns-clause-len : goal.returns-clause-len
returns-clause-len c = c.len.ensures.len

pub returns-clause-limits : goal.returns-clause-limits
returns-clause-limits c = c.len.ensures.limits
