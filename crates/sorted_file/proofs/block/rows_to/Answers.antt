use Rattle.std.proofs.Common.{rules}
use Rattle.std.proofs.lemmas.List.Sorted.{IsPartitionPoint-from_clause}
use Rattle.sorted_file.proofs.Rows.{is_to, parted, at_point}
use Rattle.sorted_file.proofs.block.rows_to.Goals as goal

pub returns-clause-position : goal.returns-clause-position
returns-clause-position c = λ rising.
    let xs = c.args.rows.now in
    let name = c.args.text.now in
    let point = IsPartitionPoint-from_clause (is_to name) xs c.partition_point.result c.partition_point.ensures.partitioned (parted name xs rising) (λ a r q k. search rules) in
    at_point name xs c.partition_point.result c.partition_point.ensures.bound point.0 point.1
