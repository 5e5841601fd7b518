use Rattle.std.proofs.Common.{◌≡◌, false, true, sym, ap, ◌∙◌, arith}
use Rattle.std.specs.Ordering.{is_gt}
use Rattle.cell_key.specs.Keys.{byte_cmp}
use Rattle.memtable.specs.declared.entries.Slot.{Slot}
use Rattle.memtable.proofs.Parts.{before, from_on, up_to}
use Rattle.memtable.proofs.entries.part_near.Goals as goal

pub part_before-requires-clause-above : goal.part_before-requires-clause-above
part_before-requires-clause-above g c =
    let name = g.S.Sought.name c.args.sought in
    let found = c.in-Some.ensures.lookup in
    let above : is_gt (byte_cmp name c.in-Some.slot.now.value.text) ≡ false =
    ap (λ (s : Slot). is_gt (byte_cmp name s.text)) (sym c.deref.ensures) ∙ ap is_gt (sym c.compare.ensures ∙ c.in-Less.is) in
    from_on name c.args.slots.now c.requires c.args.near c.in-Some.slot.now found.3.0 found.1 above

pub part_after-requires-clause-below : goal.part_after-requires-clause-below
part_after-requires-clause-below g c =
    let name = g.S.Sought.name c.args.sought in
    let found = c.in-Some.ensures.lookup in
    let below : is_gt (byte_cmp name c.in-Some.slot.now.value.text) ≡ true =
    ap (λ (s : Slot). is_gt (byte_cmp name s.text)) (sym c.deref.ensures) ∙ ap is_gt (sym c.compare.ensures ∙ c.in-Greater.is) in
    up_to name c.args.slots.now c.requires c.args.near c.in-Some.slot.now found.3.0 found.1 below

pub returns-in-Equal : goal.returns-in-Equal
returns-in-Equal g c =
    let name = g.S.Sought.name c.args.sought in
    let found = c.in-Some.ensures.lookup in
    let within = found.3.0 in
    let text = ap (λ (s : Slot). s.text) c.deref.ensures in
    let tie = ap (byte_cmp name) (sym text) ∙ sym c.compare.ensures ∙ c.in-Equal.is in
    record {
      order = omega arith;
      within = omega (arith, within);
      below = before name c.args.slots.now c.requires c.args.near c.in-Some.slot.now within found.1 tie;
      above = from_on name c.args.slots.now c.requires c.args.near c.in-Some.slot.now within found.1 (ap is_gt tie);
    }
