use Rattle.std.proofs.Common.{List, ℕ, map, subst, take}
use Rattle.compaction.specs.Order.{AreSorted, IsOrdered}
use Rattle.compaction.proofs.EndedPlaces.{left_ordered}
use Rattle.compaction.proofs.merge.leave_out_ended.Goals as goal

pub returns : goal.returns
returns g c =
    let lents = map g.S.Source.lent c.args.sources.now in
    let count = c.count_at_entries-count.result in
    rw c.truncate.ensures.items (subst (λ (l : List ℕ). AreSorted lents l → IsOrdered lents (take count l)) c.deref.ensures.value
    (λ h. left_ordered lents c.deref.result.now count h c.count_at_entries-count.ensures.bound c.count_at_entries-count.ensures.ended c.count_at_entries-count.ensures.last))
