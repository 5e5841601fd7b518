use Rattle.std.proofs.Common.{Some, option_map, sym, ◌∙◌, ap}
use Rattle.std.specs.Borrow.{Bor}
use Rattle.std.specs.Ordering.{is_eq}
use Rattle.cell_key.specs.Keys.{byte_cmp}
use Rattle.memtable.specs.declared.entries.Slot.{Slot}
use Rattle.memtable.specs.Slots.{slot_entry}
use Rattle.cell_key.proofs.TextPlaces.{equal, one_text, found_at, missed_at, missed_end}
use Rattle.memtable.proofs.entries.find_at.Goals as goal

pub returns-in_err-slot-clause-found : goal.returns-in_err-slot-clause-found
returns-in_err-slot-clause-found g c =
    ap (option_map (λ (s : Bor Slot). (slot_entry s.now).1)) c.from_residual.ensures
    ∙ sym (missed_end (λ (s : _). slot_entry s.value) (g.S.Sought.name c.args.sought) c.args.slots.now c.args.at c.requires.place c.in_err-slot.ensures.lookup.3)

pub returns-then-is-clause-found : goal.returns-then-is-clause-found
returns-then-is-clause-found g c =
    let name = g.S.Sought.name c.args.sought in
    let text = ap (λ (s : Slot). s.text) c.deref.ensures in
    let same = ap is_eq (ap (byte_cmp name) (sym text)) ∙ sym c.is.ensures ∙ c.if-is.true in
    ap (λ (s : Slot). Some (slot_entry s).1) c.deref-then-is.ensures
    ∙ sym (found_at (λ (s : _). slot_entry s.value) name c.args.slots.now c.args.at c.in_ok-slot.slot.now c.requires.place c.in_ok-slot.ensures.lookup.3.0 c.in_ok-slot.ensures.lookup.1 same)

pub returns-then-is-clause-named : goal.returns-then-is-clause-named
returns-then-is-clause-named g c =
    let name = g.S.Sought.name c.args.sought in
    let text = ap (λ (s : Slot). s.text) c.deref.ensures in
    let same = ap is_eq (ap (byte_cmp name) (sym text)) ∙ sym c.is.ensures ∙ c.if-is.true in
    ap (λ (s : Slot). s.text) c.deref-then-is.ensures ∙ sym (one_text name c.in_ok-slot.slot.now.value.text (equal _ same))

pub returns-else-is-clause-found : goal.returns-else-is-clause-found
returns-else-is-clause-found g c =
    let name = g.S.Sought.name c.args.sought in
    let text = ap (λ (s : Slot). s.text) c.deref.ensures in
    let other = ap is_eq (ap (byte_cmp name) (sym text)) ∙ sym c.is.ensures ∙ c.if-is.false in
    sym (missed_at (λ (s : _). slot_entry s.value) name c.args.slots.now c.args.at c.in_ok-slot.slot.now c.requires.rising c.requires.place c.in_ok-slot.ensures.lookup.3.0 c.in_ok-slot.ensures.lookup.1 other)
