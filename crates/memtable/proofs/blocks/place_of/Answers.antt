use Rattle.std.proofs.Common.{sym, subst}
use Rattle.cell_key.specs.Entries.{IsRising}
use Rattle.memtable.specs.Slots.{slot_entries}
use Rattle.memtable.specs.Blocks.{list_of}
use Rattle.memtable.proofs.BlockLists.{rising_at}
use Rattle.memtable.proofs.blocks.place_of.Goals as goal

pub first_from-slot-requires : goal.first_from-slot-requires
first_from-slot-requires g c =
    let lookup = c.in-Some.ensures.lookup in
    subst (λ (xs : _). IsRising (slot_entries xs)) (sym c.deref.ensures.value)
    (rising_at list_of c.args.blocks.now c.index_of-at.result c.in-Some.block.now c.requires.rising lookup.3.0 lookup.1)
