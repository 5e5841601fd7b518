use Rattle.std.proofs.Common.{map, arith}
use Rattle.compaction.proofs.Tied.{tie_first}
use Rattle.compaction.proofs.merge.count_tied.Goals as goal

pub loop-i-init : goal.loop-i-init
loop-i-init g c = record {
  some = omega arith;
  tied = tie_first (map g.S.Source.lent c.args.sources.now) c.args.order.now c.requires;
}
