-- The maximum of the passed tablets and of the remaining ones is the maximum of all.
use Rattle.std.proofs.Common.{◌≡◌, length, max}
use Rattle.row_atomic.specs.Memtables.{largest, longest}
use Rattle.row_atomic.proofs.cluster.upkeep.fullest.Given as goal

abbrev pub invariant-tablets : goal.invariant-tablets
invariant-tablets l = record {
  longest : max l.most.entries (longest l.rest) ≡ longest l.tablets;
  largest : max l.most.bytes (largest l.rest) ≡ largest l.tablets;
}

abbrev pub decreases-tablets : goal.decreases-tablets
decreases-tablets l = length l.rest
