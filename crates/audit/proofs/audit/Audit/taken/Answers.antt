use Rattle.audit.proofs.TakenWrites.{all_taken_from, refused_from}
use Rattle.audit.proofs.audit.Audit.taken.Goals as goal

pub returns-clause-takes : goal.returns-clause-takes
returns-clause-takes c = all_taken_from c.args.self.now c.args.start c.args.asked.now c.in_ok-before.before.items c.take_all.result c.in_ok-before.ensures c.take_all.ensures.takes

pub returns-clause-refusal : goal.returns-clause-refusal
returns-clause-refusal c = refused_from c.args.self.now c.args.start c.args.asked.now c.in_ok-before.before.items c.take_all.result c.in_ok-before.ensures c.take_all.ensures.refusal
