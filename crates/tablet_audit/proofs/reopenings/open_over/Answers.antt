use Rattle.tablet_audit.proofs.Recordings.{judged_mark, mark_memory, opened_clean}
use Rattle.tablet_audit.proofs.reopenings.open_over.Goals as goal

pub returns-in-Some-clause-judged : goal.returns-in-Some-clause-judged
returns-in-Some-clause-judged c =
    judged_mark c.args.mark c.in-Some.mark c.args.audit.now c.recover.new.self c.recover.result c.in-Some.is c.recover.ensures

pub returns-in-Some-clause-refusal : goal.returns-in-Some-clause-refusal
returns-in-Some-clause-refusal c = mark_memory c.in-Some.mark c.args.audit.now c.recover.new.self c.recover.result c.recover.ensures

pub returns-in-None-clause-judged : goal.returns-in-None-clause-judged
returns-in-None-clause-judged c = opened_clean c.args.mark c.args.audit.now c.reopen.new.self c.in-None.is c.reopen.ensures
