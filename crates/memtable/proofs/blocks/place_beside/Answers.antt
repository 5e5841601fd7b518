use Rattle.std.proofs.Common.{◌≡◌, ◌<◌, length, get_or, sym, subst, ◌∙◌, arith}
use Rattle.std.proofs.lemmas.List.{get_or_default, length-map}
use Rattle.cell_key.specs.Entries.{IsPlace, IsRising}
use Rattle.memtable.specs.declared.blocks.Block.{Block}
use Rattle.memtable.specs.Slots.{slot_entry, slot_entries}
use Rattle.memtable.specs.Blocks.{list_of}
use Rattle.memtable.proofs.BlockFacts.{place_behind, place_within}
use Rattle.memtable.proofs.BlockLists.{rising_at}
use Rattle.memtable.proofs.Places.{place_bound}
use Rattle.memtable.proofs.blocks.place_beside.Goals as goal

pub first_near-slot-requires : goal.first_near-slot-requires
first_near-slot-requires g c =
    let lookup = c.in_ok-block.ensures.lookup in
    subst (λ (xs : _). IsRising (slot_entries xs)) (sym c.deref.ensures.value)
    (rising_at list_of c.args.blocks.now c.args.near.block c.in_ok-block.block.now c.requires.rising lookup.3.0 lookup.1)

pub returns-then-slot-len : goal.returns-then-slot-len
returns-then-slot-len g c =
    let name = g.S.Sought.name c.args.sought in
    let xs = c.args.blocks.now in
    let near = c.args.near.block in
    let lookup = c.in_ok-block.ensures.lookup in
    let at : (d : Block) → get_or xs near d ≡ c.in_ok-block.block.now = λ d. get_or_default xs near d c.in_ok-block.block.now lookup.3.0 ∙ sym lookup.1 in
    let place = subst (λ (ss : _). IsPlace name (slot_entries ss) c.first_near-slot.result) c.deref.ensures.value c.first_near-slot.ensures.place in
    let len = length-map c.in_ok-block.block.now.slots.items (λ slot. slot_entry slot.value) in
    let items = c.in_ok-block.block.now.slots.ok.0 in
    let end = c.if-slot-len.true in
    let within = lookup.3.0 in
    place_behind name xs c.requires.rising c.requires.blocks near c.first_near-slot.result within (λ d. subst (λ (b : Block). IsPlace name (list_of b) c.first_near-slot.result) (sym (at d)) place)
    (omega (arith, within, c.if-near-blocks.false))
    (λ d. subst (λ (b : Block). c.first_near-slot.result ≡ length (list_of b)) (sym (at d)) (omega (arith, len, items, end)))

pub returns : goal.returns
returns g c =
    let name = g.S.Sought.name c.args.sought in
    let xs = c.args.blocks.now in
    let near = c.args.near.block in
    let lookup = c.in_ok-block.ensures.lookup in
    let at : (d : Block) → get_or xs near d ≡ c.in_ok-block.block.now = λ d. get_or_default xs near d c.in_ok-block.block.now lookup.3.0 ∙ sym lookup.1 in
    let place = subst (λ (ss : _). IsPlace name (slot_entries ss) c.first_near-slot.result) c.deref.ensures.value c.first_near-slot.ensures.place in
    let bound = place_bound name (list_of c.in_ok-block.block.now) c.first_near-slot.result place in
    let len = length-map c.in_ok-block.block.now.slots.items (λ slot. slot_entry slot.value) in
    let items = c.in_ok-block.block.now.slots.ok.0 in
    let inside = c.if-slot-len.false in
    let within = lookup.3.0 in
    place_within name xs c.requires.rising c.requires.blocks near c.first_near-slot.result within (λ d. subst (λ (b : Block). IsPlace name (list_of b) c.first_near-slot.result) (sym (at d)) place)
    (λ d. subst (λ (b : Block). c.first_near-slot.result < length (list_of b)) (sym (at d)) (omega (arith, len, items, inside, bound)))
    (omega (arith, c.if-slot-eq0.false))
