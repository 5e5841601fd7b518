-- The tablets before the index are flushed.
use Rattle.std.proofs.Common.{◌≡◌, length}
use Rattle.row_atomic.proofs.RootFlushes.{IsFlushing}
use Rattle.row_atomic.proofs.cluster.Cluster.flush_each.Given as goal

abbrev pub invariant-loop-index : goal.invariant-loop-index
invariant-loop-index g l = record {
  as_many : l.index-end ≡ length l.initial.self.places;
  flushing : IsFlushing g.F.Files.contents g.F.Files.faults l.initial.self l.self l.index;
}
