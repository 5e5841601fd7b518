use Rattle.std.proofs.Common.{map, arith, ◌+◌, refl}
use Rattle.compaction.proofs.Orders.{put_first_whole, same_whole}
use Rattle.compaction.proofs.merge.put_first.Goals as goal

pub returns-clause-same : goal.returns-clause-same
returns-clause-same g c = same_whole c.args.order.now c.rotate_left.new.self (c.count_before-passed.result + 1) c.rotate_left.ensures.permutation

pub returns-clause-rises : goal.returns-clause-rises
returns-clause-rises g c =
    put_first_whole (map g.S.Source.lent c.args.sources.now) c.args.order.now _ c.rotate_left.new.self _ c.count_before-passed.result refl (grind arith) refl c.count_before-passed.ensures.before c.count_before-passed.ensures.behind c.rotate_left.ensures.after
