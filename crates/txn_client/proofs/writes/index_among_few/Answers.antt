use Rattle.std.proofs.Common.{arith}
use Rattle.txn_client.proofs.writes.index_among_few.Goals as goal

pub loop-index-init : goal.loop-index-init
loop-index-init c = λ k w h. absurd (omega arith)
