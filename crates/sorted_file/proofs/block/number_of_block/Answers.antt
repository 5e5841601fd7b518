use Rattle.std.proofs.Common.{rules}
use Rattle.std.proofs.lemmas.List.Sorted.{IsPartitionPoint-from_clause}
use Rattle.cell_key.proofs.TextPlaces.{is_below, parted, at_point}
use Rattle.sorted_file.specs.Index.{last_of}
use Rattle.sorted_file.proofs.block.number_of_block.Goals as goal

pub returns : goal.returns
returns c = record {
  number = λ rising.
      let xs = c.args.rows.now in
      let name = c.args.text.now in
      let point = IsPartitionPoint-from_clause (is_below last_of name) xs c.partition_point.result c.partition_point.ensures.partitioned (parted last_of name xs rising) (λ a r q k. search rules) in
      at_point last_of name xs c.partition_point.result c.partition_point.ensures.bound point.0 point.1;
}
