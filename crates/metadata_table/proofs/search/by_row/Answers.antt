use Rattle.std.proofs.Common.{rules}
use Rattle.std.proofs.lemmas.List.Sorted.{IsPartitionPoint-from_clause}
use Rattle.metadata_table.proofs.Splits.{is_past, parted, at_point, held_within}
use Rattle.metadata_table.proofs.search.by_row.Goals as goal

pub returns-clause-holder : goal.returns-clause-holder
returns-clause-holder c =
    let xs = c.args.places.now in
    let row = c.args.row.now in
    let point = IsPartitionPoint-from_clause (is_past row) xs c.partition_point.result c.partition_point.ensures.partitioned (parted row xs c.requires) (λ a r q k. search rules) in
    at_point row xs c.partition_point.result c.requires c.partition_point.ensures.bound point.0 point.1

pub returns-clause-bound : goal.returns-clause-bound
returns-clause-bound c = held_within c.args.row.now c.args.places.now c.partition_point.result (returns-clause-holder c)
