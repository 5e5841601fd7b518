use Rattle.std.proofs.Common.{rules}
use Rattle.std.proofs.lemmas.List.Sorted.{IsPartitionPoint-from_clause}
use Rattle.audit.proofs.Versions.{is_low, last_up_to, none_up_to, parted}
use Rattle.audit.proofs.audit.snapshots.last_up_to.Goals as goal

pub returns-then-count-eq0-clause-none : goal.returns-then-count-eq0-clause-none
returns-then-count-eq0-clause-none c =
    let vs = c.args.versions.now in
    let point = IsPartitionPoint-from_clause (is_low c.args.stamp) vs c.partition_point-count.result c.partition_point-count.ensures.partitioned (parted vs c.args.stamp c.requires) (λ a r q k. search rules) in
    none_up_to vs c.args.stamp c.partition_point-count.result c.partition_point-count.ensures.bound point.0 point.1 c.if-count-eq0.true

pub returns-clause-some : goal.returns-clause-some
returns-clause-some c =
    let vs = c.args.versions.now in
    let point = IsPartitionPoint-from_clause (is_low c.args.stamp) vs c.partition_point-count.result c.partition_point-count.ensures.partitioned (parted vs c.args.stamp c.requires) (λ a r q k. search rules) in
    last_up_to vs c.args.stamp c.partition_point-count.result c.partition_point-count.ensures.bound point.0 point.1 c.requires c.if-count-eq0.false (record { stamp = 0; place = 0; write = 0 })
