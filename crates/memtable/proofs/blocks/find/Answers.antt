use Rattle.std.proofs.Common.{option_map, sym, ap, subst, ◌∙◌}
use Rattle.std.specs.Borrow.{Bor}
use Rattle.cell_key.specs.Entries.{IsPlace, IsRising, entry_of_key}
use Rattle.memtable.specs.declared.blocks.Block.{Block}
use Rattle.memtable.specs.declared.entries.Slot.{Slot}
use Rattle.memtable.specs.Slots.{slot_entry, slot_entries}
use Rattle.memtable.specs.Blocks.{list_of}
use Rattle.memtable.proofs.BlockLists.{rising_at, found_in, found_nowhere}
use Rattle.memtable.proofs.BlockFacts.{blocks_some}
use Rattle.memtable.proofs.blocks.find.Goals as goal

pub returns-in_err-block-clause-found : goal.returns-in_err-block-clause-found
returns-in_err-block-clause-found g c =
    ap (option_map (λ (s : Bor Slot). (slot_entry s.now).1)) c.from_residual.ensures
    ∙ sym (found_nowhere list_of (g.S.Sought.name c.args.sought) c.args.blocks.now c.place_near-place.result.block c.requires.rising c.place_near-place.ensures.block c.in_err-block.ensures.lookup.3)

pub find_at-requires-clause-rising : goal.find_at-requires-clause-rising
find_at-requires-clause-rising g c =
    let lookup = c.in_ok-block.ensures.lookup in
    subst (λ (xs : _). IsRising (slot_entries xs)) (sym c.deref.ensures.value)
    (rising_at list_of c.args.blocks.now c.place_near-place.result.block c.in_ok-block.block.now c.requires.rising lookup.3.0 lookup.1)

pub find_at-requires-clause-place : goal.find_at-requires-clause-place
find_at-requires-clause-place g c =
    let lookup = c.in_ok-block.ensures.lookup in
    let name = g.S.Sought.name c.args.sought in
    let slot = c.place_near-place.result.slot in
    subst (λ (xs : _). IsPlace name (slot_entries xs) slot) (sym c.deref.ensures.value)
    (subst (λ (b : Block). IsPlace name (list_of b) slot) (sym lookup.1) (c.place_near-place.ensures.slot c.in_ok-block.block.now lookup.3.0))

pub returns-clause-found : goal.returns-clause-found
returns-clause-found g c =
    let name = g.S.Sought.name c.args.sought in
    let xs = c.args.blocks.now in
    let lookup = c.in_ok-block.ensures.lookup in
    c.find_at.ensures.found ∙ ap (λ (xs : _). entry_of_key (slot_entries xs) name) c.deref.ensures.value
    ∙ sym (found_in list_of name xs c.place_near-place.result.block c.in_ok-block.block.now c.requires.rising (blocks_some xs c.requires.blocks) c.place_near-place.ensures.block lookup.3.0 lookup.1)
