use Rattle.std.proofs.Common.{◌≡◌, ◌≤◌, true, take}
use Rattle.std.specs.List.{AllByRecursion}
use Rattle.compaction.specs.Ties.{ties}
use Rattle.compaction.specs.Merging.{first_lent, lent_at}
use Rattle.compaction.proofs.merge.count_tied.Given as goal

abbrev pub invariant-loop-i : goal.invariant-loop-i
invariant-loop-i g l = record {
  some : 1 ≤ l.i;
  tied : AllByRecursion (λ place. ties (first_lent g.S.Source.lent l.sources l.order) (lent_at g.S.Source.lent l.sources place) ≡ true) (take l.i l.order);
}
