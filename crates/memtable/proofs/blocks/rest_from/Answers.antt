use Rattle.std.proofs.Common.{◌++◌, List, drop, length, sym, ap, subst, ◌∙◌, arith}
use Rattle.std.proofs.lemmas.List.{drop-map, length-map, nil_from_length}
use Rattle.cell_key.specs.Entries.{Entry, IsPlace}
use Rattle.memtable.specs.declared.blocks.Block.{Block}
use Rattle.memtable.specs.Slots.{slot_entry, slot_entries}
use Rattle.memtable.specs.Blocks.{list_of, lists_of, block_entries}
use Rattle.cell_key.proofs.TextPlaces.{from_place}
use Rattle.memtable.proofs.BlockLists.{first_of_drop, rising_first, from_first, from_block}
use Rattle.memtable.proofs.BlockFacts.{blocks_some}
use Rattle.memtable.proofs.Places.{index_bound, place_bound}
use Rattle.memtable.proofs.blocks.rest_from.Goals as goal

pub split_at-requires : goal.split_at-requires
split_at-requires g c =
    let name = g.S.Sought.name c.args.sought in
    let bound = index_bound name (lists_of c.args.blocks.now) c.record_place-place.result.block c.record_place-place.ensures.block in
    let len = length-map c.args.blocks.now list_of in
    omega (arith, bound, len)

pub split_at-requires-in-Some : goal.split_at-requires-in-Some
split_at-requires-in-Some g c =
    let name = g.S.Sought.name c.args.sought in
    let xs = c.args.blocks.now in
    let block = c.in-Some.block.now in
    let slot = c.record_place-place.result.slot in
    let tail = sym c.split_at.ensures.back ∙ c.in-Some.ensures.cases.0 in
    let first = first_of_drop xs c.record_place-place.result.block block c.in-Some.later.now tail in
    let place = subst (λ (b : Block). IsPlace name (list_of b) slot) (sym first.1) (c.record_place-place.ensures.slot block first.0) in
    let bound = place_bound name (list_of block) slot place in
    let len = length-map block.slots.items (λ s. slot_entry s.value) in
    let same = ap length c.deref.ensures.value in
    omega (arith, bound, len, same)

pub returns-in-Some-clause-entries : goal.returns-in-Some-clause-entries
returns-in-Some-clause-entries g c =
    let entries = list_of in
    let xs = c.args.blocks.now in
    let name = g.S.Sought.name c.args.sought in
    let block = c.in-Some.block.now in
    let later = c.in-Some.later.now in
    let at = c.record_place-place.result.block in
    let slot = c.record_place-place.result.slot in
    let rising = c.requires.rising in
    let tail = sym c.split_at.ensures.back ∙ c.in-Some.ensures.cases.0 in
    let first = first_of_drop xs at block later tail in
    let place = subst (λ (b : Block). IsPlace name (list_of b) slot) (sym first.1) (c.record_place-place.ensures.slot block first.0) in
    let rest = c.split_at-in-Some.ensures.back ∙ ap (drop slot) c.deref.ensures.value in
    let part = ap slot_entries rest ∙ sym (drop-map (λ (s : _). slot_entry s.value) slot block.slots.items)
    ∙ sym (from_place name (list_of block) slot (rising_first entries xs at block later rising tail) place) in
    let all = from_block entries name xs at rising (blocks_some xs c.requires.blocks) c.record_place-place.ensures.block ∙ ap (from_first entries name) tail in
    ap (λ (es : List Entry). es ++ block_entries later) part ∙ sym all

pub returns-in-None-clause-entries : goal.returns-in-None-clause-entries
returns-in-None-clause-entries g c =
    let entries = list_of in
    let xs = c.args.blocks.now in
    let name = g.S.Sought.name c.args.sought in
    let tail = sym c.split_at.ensures.back ∙ nil_from_length c.split_at.result.1.now c.in-None.ensures.cases in
    sym (from_block entries name xs c.record_place-place.result.block c.requires.rising (blocks_some xs c.requires.blocks) c.record_place-place.ensures.block ∙ ap (from_first entries name) tail)
