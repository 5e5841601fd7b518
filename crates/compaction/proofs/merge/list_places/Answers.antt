use Rattle.std.proofs.Common.{arith}
use Rattle.compaction.proofs.merge.list_places.Goals as goal

pub returns-clause-whole : goal.returns-clause-whole
returns-clause-whole c = λ place l. (place, omega arith, c.loop-place.invariant.each place place (omega arith))
