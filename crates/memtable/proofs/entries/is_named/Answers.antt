use Rattle.std.proofs.Common.{sym, ap, ◌∙◌}
use Rattle.std.specs.Ordering.{is_eq}
use Rattle.cell_key.specs.Keys.{byte_cmp}
use Rattle.memtable.specs.Slots.{slot_entry}
use Rattle.memtable.specs.declared.entries.Slot.{Slot}
use Rattle.memtable.proofs.Places.{named_some, named_none}
use Rattle.memtable.proofs.entries.is_named.Goals as goal

pub returns-in-Some : goal.returns-in-Some
returns-in-Some g c =
    let name = g.S.Sought.name c.args.sought in
    let text = ap (λ (s : Slot). s.text) c.deref.ensures in
    c.is.ensures ∙ ap is_eq (ap (byte_cmp name) text)
    ∙ sym (named_some (λ (s : _). slot_entry s.value) name c.args.slots.now c.args.at c.in-Some.slot.now c.in-Some.ensures.lookup.3.0 c.in-Some.ensures.lookup.1)

pub returns-in-None : goal.returns-in-None
returns-in-None g c = sym (named_none (λ (s : _). slot_entry s.value) (g.S.Sought.name c.args.sought) c.args.slots.now c.args.at c.in-None.ensures.lookup.3)
