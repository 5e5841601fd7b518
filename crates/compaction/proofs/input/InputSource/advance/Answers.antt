use Rattle.compaction.proofs.input.InputSource.advance.Goals as goal

pub returns-in-File-clause-reason : goal.returns-in-File-clause-reason
returns-in-File-clause-reason g c = c.advance-in-File.ensures.reason

pub returns-in-File-clause-refusal : goal.returns-in-File-clause-refusal
returns-in-File-clause-refusal g c = c.advance-in-File.ensures.refusal

pub returns-in-File-clause-damaged : goal.returns-in-File-clause-damaged
returns-in-File-clause-damaged g c = rw c.in-File.is c.advance-in-File.ensures.damaged

pub returns-in-File-clause-more : goal.returns-in-File-clause-more
returns-in-File-clause-more g c = c.advance-in-File.ensures.more

pub returns-in-File-clause-lower : goal.returns-in-File-clause-lower
returns-in-File-clause-lower g c = rw c.in-File.is c.advance-in-File.ensures.lower

pub returns-in-File-clause-holds : goal.returns-in-File-clause-holds
returns-in-File-clause-holds g c = rw c.in-File.is c.advance-in-File.ensures.holds

pub returns-in-File-clause-takes : goal.returns-in-File-clause-takes
returns-in-File-clause-takes g c = rw c.in-File.is c.advance-in-File.ensures.takes

pub returns-in-File-clause-steps : goal.returns-in-File-clause-steps
returns-in-File-clause-steps g c = rw c.in-File.is c.advance-in-File.ensures.steps

pub returns-in-File-clause-broken : goal.returns-in-File-clause-broken
returns-in-File-clause-broken g c = rw c.in-File.is c.advance-in-File.ensures.broken
