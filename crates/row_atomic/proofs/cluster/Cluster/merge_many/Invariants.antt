-- The tablets before the index are done.
use Rattle.std.proofs.Common.{◌≡◌, length}
use Rattle.row_atomic.proofs.Tiers.{IsReached}
use Rattle.row_atomic.proofs.cluster.Cluster.merge_many.Given as goal

abbrev pub invariant-loop-index : goal.invariant-loop-index
invariant-loop-index g l = record {
  as_many : l.index-end ≡ length l.initial.self.places;
  reached : IsReached g.F.Files.contents g.F.Files.faults l.policy l.initial.self l.self l.index;
}
