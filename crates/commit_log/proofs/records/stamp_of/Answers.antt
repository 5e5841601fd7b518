use Rattle.std.proofs.Common.{arith, inr, rules}
use Rattle.commit_log.proofs.Naming.{one_stamp}
use Rattle.commit_log.proofs.records.stamp_of.Goals as goal

pub returns-in_default-clause-up_to : goal.returns-in_default-clause-up_to
returns-in_default-clause-up_to c = λ stamp has. absurd (c.in_default.ensures.none has.0 stamp has.1 has.3)

pub returns-clause-up_to : goal.returns-clause-up_to
returns-clause-up_to c = λ stamp has. let is = one_stamp c.args.bytes.now stamp c.in-Some.stamp has (_, _, search rules, c.in-Some.ensures.found) in omega (arith, is)

pub returns-clause-has : goal.returns-clause-has
returns-clause-has c = inr (_, _, search rules, c.in-Some.ensures.found)
