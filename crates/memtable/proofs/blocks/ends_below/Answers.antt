use Rattle.std.proofs.Common.{ap, ◌∙◌, arith, length, ◌-◌}
use Rattle.std.specs.Ordering.{is_gt}
use Rattle.cell_key.specs.Keys.{byte_cmp}
use Rattle.memtable.specs.declared.entries.Slot.{Slot}
use Rattle.memtable.specs.Slots.{slot_entry, slot_entries}
use Rattle.memtable.specs.Blocks.{ends_below}
use Rattle.memtable.proofs.BlockFacts.{by_last}
use Rattle.memtable.proofs.blocks.ends_below.Goals as goal

pub returns-in-Some : goal.returns-in-Some
returns-in-Some g c =
    let name = g.S.Sought.name c.args.sought in
    let xs = c.deref.result.now in
    let text = ap (λ (s : Slot). s.text) c.deref-in-Some.ensures in
    let item = c.in-Some.ensures.item in
    let within = item.3.0 in
    c.is_gt.ensures ∙ ap is_gt (c.compare.ensures ∙ ap (byte_cmp name) text)
    ∙ by_last (λ (s : _). slot_entry s.value) name xs (length xs - 1) c.in-Some.slot.now (omega (arith, within)) item.1
    ∙ ap (λ (xs : _). ends_below name (slot_entries xs)) c.deref.ensures.value
