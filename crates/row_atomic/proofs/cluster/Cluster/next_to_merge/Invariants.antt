-- What was found so far; if nothing was, nothing is due before the index.
use Rattle.std.proofs.Common.{◌≡◌, ◌<◌, ℕ, Some, IfSome, IfNone, length, slice_get}
use Rattle.tablet.specs.MergePolicies.{IsMergeCount}
use Rattle.row_atomic.specs.Changes.{Numbered}
use Rattle.row_atomic.specs.Flushes.{numbers_of}
use Rattle.row_atomic.specs.MergeSteps.{IsNextToMerge}
use Rattle.row_atomic.proofs.cluster.Cluster.next_to_merge.Given as goal

abbrev pub invariant-loop-index : goal.invariant-loop-index
invariant-loop-index g l = record {
  as_many : l.index-end ≡ length l.self.places;
  found : IfSome l.next (IsNextToMerge l.policy l.self.places l.self.tablets);
  none : IfNone l.next ((k tablet : ℕ) → k < l.index → slice_get (numbers_of l.self.places) k ≡ Some tablet → Numbered (λ t. IsMergeCount l.policy t 0) tablet l.self.tablets);
}
