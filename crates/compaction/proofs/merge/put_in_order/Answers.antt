use Rattle.std.proofs.Common.{map, arith, ◌-◌, length}
use Rattle.std.proofs.lemmas.Grind.{common_steps}
use Rattle.std.proofs.lemmas.List.Sorted.{IsPermutation-put_mid, IsPermutation-trans}
use Rattle.compaction.proofs.Orders.{rises_more}
use Rattle.compaction.proofs.merge.put_in_order.Goals as goal

pub loop-i-preserved : goal.loop-i-preserved
loop-i-preserved g c = record {
  same = IsPermutation-trans _ _ _ c.loop-i.invariant.same (IsPermutation-put_mid (c.loop-i.i - 1) (length c.loop-i.order - (c.loop-i.i - 1)) c.loop-i.order c.put_first.new.order c.put_first.ensures.same);
  rises = λ r. rises_more (map g.S.Source.lent c.args.sources.now) c.loop-i.order c.put_first.new.order c.loop-i.i (omega arith) (omega arith) (grind (arith, common_steps, c.put_first.auto.order)) c.put_first.ensures.rises (c.loop-i.invariant.rises r);
}
