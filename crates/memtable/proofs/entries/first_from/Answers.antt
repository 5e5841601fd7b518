use Rattle.std.proofs.Common.{rules}
use Rattle.std.proofs.lemmas.List.Sorted.{IsPartitionPoint-from_clause}
use Rattle.memtable.specs.Slots.{slot_entry}
use Rattle.cell_key.proofs.TextPlaces.{is_below, parted, at_point}
use Rattle.memtable.proofs.entries.first_from.Goals as goal

pub returns-clause-place : goal.returns-clause-place
returns-clause-place g c =
    let entry = λ (slot : _). slot_entry slot.value in
    let xs = c.args.slots.now in
    let name = g.S.Sought.name c.args.sought in
    let point = IsPartitionPoint-from_clause (is_below entry name) xs c.partition_point.result c.partition_point.ensures.partitioned (parted entry name xs c.requires) (λ a r q k. search rules) in
    at_point entry name xs c.partition_point.result c.partition_point.ensures.bound point.0 point.1
