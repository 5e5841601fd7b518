use Rattle.std.proofs.Common.{arith}
use Rattle.txn_client.proofs.scan.said.Goals as goal

pub returns-in-Pending-clause-short : goal.returns-in-Pending-clause-short
returns-in-Pending-clause-short c = omega (arith, c.requires.0.few, c.requires.1.few)
