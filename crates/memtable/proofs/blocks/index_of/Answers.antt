use Rattle.std.proofs.Common.{rules}
use Rattle.std.proofs.lemmas.List.Sorted.{IsPartitionPoint-from_clause}
use Rattle.memtable.specs.Blocks.{list_of}
use Rattle.memtable.proofs.BlockLists.{is_passed, parted_blocks, block_point}
use Rattle.memtable.proofs.BlockFacts.{blocks_some}
use Rattle.memtable.proofs.blocks.index_of.Goals as goal

pub returns-clause-index : goal.returns-clause-index
returns-clause-index g c =
    let entries = list_of in
    let xs = c.args.blocks.now in
    let name = g.S.Sought.name c.args.sought in
    let point = IsPartitionPoint-from_clause (is_passed entries name) xs c.partition_point.result c.partition_point.ensures.partitioned (parted_blocks entries name xs c.requires.rising (blocks_some xs c.requires.blocks)) (λ a r q k. search rules) in
    block_point entries name xs c.partition_point.result c.partition_point.ensures.bound point.0 point.1
