use Rattle.std.proofs.Common.{map, rules}
use Rattle.std.proofs.lemmas.List.Sorted.{IsPartitionPoint-from_clause}
use Rattle.compaction.proofs.Orders.{all_behind, comes_before, front_before, le_of, parted, rest_behind, some_or_none}
use Rattle.compaction.proofs.merge.count_before.Goals as goal
use Rattle.compaction.proofs.merge.count_before.Goals.{then-is_empty-via-then-is_empty, then-is_empty-via-else-is_empty+then-is_le}

pub returns-then-is_empty-clause-behind : goal.returns-then-is_empty-clause-behind
returns-then-is_empty-clause-behind g c =
    let lents = map g.S.Source.lent c.args.sources.now in
    elim c.then-is_empty.branch [
      | then-is_empty-via-then-is_empty w ↦ λ r. all_behind lents c.args.place c.args.later.now r (λ l. absurd (some_or_none _ w.if-is_empty.ensures l))
      | then-is_empty-via-else-is_empty+then-is_le w ↦ λ r. all_behind lents c.args.place c.args.later.now r (λ l. le_of w.compare_places.result _ w.if-is_le.ensures w.compare_places.ensures)
    ]

pub returns-clause-before : goal.returns-clause-before
returns-clause-before g c = λ r.
    let lents = map g.S.Source.lent c.args.sources.now in
    let xs = c.args.later.now in
    let point = IsPartitionPoint-from_clause (comes_before lents c.args.place) xs c.partition_point.result c.partition_point.ensures.partitioned (parted lents c.args.place xs r) (λ a r q k. search rules) in
    front_before lents c.args.place xs c.partition_point.result point.0

pub returns-clause-behind : goal.returns-clause-behind
returns-clause-behind g c = λ r.
    let lents = map g.S.Source.lent c.args.sources.now in
    let xs = c.args.later.now in
    let point = IsPartitionPoint-from_clause (comes_before lents c.args.place) xs c.partition_point.result c.partition_point.ensures.partitioned (parted lents c.args.place xs r) (λ a r q k. search rules) in
    rest_behind lents c.args.place xs c.partition_point.result point.1
