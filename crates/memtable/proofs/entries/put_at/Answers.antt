use Rattle.std.proofs.Common.{Some, refl, set, sym, ◌∙◌, ap, arith}
use Rattle.memtable.specs.declared.entries.Slot.{Slot}
use Rattle.memtable.specs.Slots.{slot_entry, slot_entries}
use Rattle.cell_key.proofs.TextPlaces.{equal, found_at, one_text}
use Rattle.memtable.proofs.Places.{named_some, named_within, not_found, put_over, put_beside}
use Rattle.memtable.proofs.entries.put_at.Goals as goal

pub index_mut-requires : goal.index_mut-requires
index_mut-requires c =
    let within = named_within (λ (s : _). slot_entry s.value) c.deref-2.result.now.text c.deref.result.now c.args.at (sym c.if-is_named.ensures) in
    let len = c.deref.ensures.len in
    omega arith

pub returns-then-is_named-clause-entries : goal.returns-then-is_named-clause-entries
returns-then-is_named-clause-entries c =
    let name = ap (λ (s : Slot). s.text) c.deref-2.ensures in
    let named = rw (name, c.deref.ensures.value) at c.if-is_named.ensures in
    ap (λ (x : _). slot_entries (set c.args.slots.now.items c.args.at x)) c.replace.ensures.after
    ∙ put_over (λ (s : _). slot_entry s.value) c.args.slot.value.text c.args.slot c.args.slots.now.items c.args.at refl c.requires.place (sym named)

pub returns-clause-entries : goal.returns-clause-entries
returns-clause-entries c =
    let name = ap (λ (s : Slot). s.text) c.deref-2.ensures in
    let named = rw (name, c.deref.ensures.value) at c.if-is_named.ensures in
    let items = rw c.unwrap.ensures at c.insert.ensures.items in
    ap slot_entries items
    ∙ put_beside (λ (s : _). slot_entry s.value) c.args.slot.value.text c.args.slot c.args.slots.now.items c.args.at refl c.requires.place (sym named)

pub returns-then-is_named-clause-replaced : goal.returns-then-is_named-clause-replaced
returns-then-is_named-clause-replaced c =
    let entry = λ (s : _). slot_entry s.value in
    let xs = c.args.slots.now.items in
    let sought = c.args.slot.value.text in
    let name = ap (λ (s : Slot). s.text) c.deref-2.ensures in
    let named = rw (name, c.deref.ensures.value) at c.if-is_named.ensures in
    let within = named_within entry sought xs c.args.at (sym named) in
    let same = sym (named_some entry sought xs c.args.at c.index_mut.result.now within c.index_mut.ensures.value) ∙ sym named in
    ap (λ (s : _). Some (slot_entry s.value).1) c.replace.ensures.value
    ∙ sym (found_at entry sought xs c.args.at c.index_mut.result.now c.requires.place within c.index_mut.ensures.value same)

pub returns-clause-replaced : goal.returns-clause-replaced
returns-clause-replaced c =
    let name = ap (λ (s : Slot). s.text) c.deref-2.ensures in
    let named = rw (name, c.deref.ensures.value) at c.if-is_named.ensures in
    sym (not_found (λ (s : _). slot_entry s.value) c.args.slot.value.text c.args.slots.now.items c.args.at c.requires.rising c.requires.place (sym named))

pub returns-then-is_named-clause-named : goal.returns-then-is_named-clause-named
returns-then-is_named-clause-named c =
    let entry = λ (s : _). slot_entry s.value in
    let xs = c.args.slots.now.items in
    let sought = c.args.slot.value.text in
    let name = ap (λ (s : Slot). s.text) c.deref-2.ensures in
    let named = rw (name, c.deref.ensures.value) at c.if-is_named.ensures in
    let within = named_within entry sought xs c.args.at (sym named) in
    let same = sym (named_some entry sought xs c.args.at c.index_mut.result.now within c.index_mut.ensures.value) ∙ sym named in
    ap (λ (s : _). (slot_entry s.value).0) c.replace.ensures.value ∙ sym (one_text sought (entry c.index_mut.result.now).0 (equal _ same))
