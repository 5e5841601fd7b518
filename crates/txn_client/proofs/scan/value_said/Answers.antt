use Rattle.std.proofs.Common.{arith}
use Rattle.txn_client.proofs.scan.value_said.Goals as goal

pub returns-then-keys_only-clause-short : goal.returns-then-keys_only-clause-short
returns-then-keys_only-clause-short c = omega (arith, c.requires.0.few, c.requires.1.few)
