use Rattle.std.proofs.Common.{map, drop}
use Rattle.std.specs.List.Sorted.{IsPermutation}
use Rattle.compaction.specs.Order.{InOrder}
use Rattle.compaction.proofs.merge.put_in_order.Given as goal

abbrev pub invariant-loop-i : goal.invariant-loop-i
invariant-loop-i g l = record {
  same : IsPermutation l.initial.order l.order;
  rises : InOrder (map g.S.Source.lent l.sources) (drop l.moved l.initial.order) → InOrder (map g.S.Source.lent l.sources) (drop l.i l.order);
}
