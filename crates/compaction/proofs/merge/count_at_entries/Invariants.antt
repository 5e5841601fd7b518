use Rattle.std.proofs.Common.{◌≡◌, drop}
use Rattle.std.specs.Prelude.{None}
use Rattle.std.specs.List.{AllByRecursion}
use Rattle.compaction.specs.Merging.{lent_at}
use Rattle.compaction.proofs.merge.count_at_entries.Given as goal

abbrev pub invariant-loop-i : goal.invariant-loop-i
invariant-loop-i g l = record {
  ended : AllByRecursion (λ place. lent_at g.S.Source.lent l.sources place ≡ None) (drop l.i l.order);
}
