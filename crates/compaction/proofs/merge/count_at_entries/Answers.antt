use Rattle.std.proofs.Common.{◌≡◌, arith}
use Rattle.std.specs.Prelude.{None}
use Rattle.compaction.specs.Merging.{lent_at}
use Rattle.compaction.proofs.EndedPlaces.{more_dropped, none_if}
use Rattle.compaction.proofs.merge.count_at_entries.Goals as goal

pub loop-i-preserved : goal.loop-i-preserved
loop-i-preserved g c = record {
  ended = more_dropped (λ place. lent_at g.S.Source.lent c.args.sources.now place ≡ None) c.args.order.now c.loop-i.i _ (omega arith) (omega arith) (none_if _ _ _ c.if-is_some.ensures c.entry_of.ensures) c.loop-i.invariant.ended;
}
