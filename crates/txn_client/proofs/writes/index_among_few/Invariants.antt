use Rattle.txn_client.specs.Writes.{NoneBefore}
use Rattle.txn_client.proofs.writes.index_among_few.Given as goal

abbrev pub invariant-loop-index : goal.invariant-loop-index
invariant-loop-index l = NoneBefore l.writes l.cell l.index
