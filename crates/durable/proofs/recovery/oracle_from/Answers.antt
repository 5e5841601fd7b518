use Rattle.std.proofs.Common.{arith}
use Rattle.durable.proofs.recovery.oracle_from.Goals as goal

pub returns-in-Err-clause-ok : goal.returns-in-Err-clause-ok
returns-in-Err-clause-ok c = let risen = c.in-Err.ensures.device in absurd (omega (arith, risen))
