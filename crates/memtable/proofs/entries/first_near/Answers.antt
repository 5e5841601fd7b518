use Rattle.std.proofs.Common.{◌≡◌, ◌<◌, ◌-◌, ◌+◌, ◌/◌, false, true, length, sym, ap, subst, ◌∙◌, arith}
use Rattle.std.specs.Ordering.{is_gt}
use Rattle.cell_key.specs.Keys.{byte_cmp}
use Rattle.memtable.specs.declared.entries.Slot.{Slot}
use Rattle.memtable.specs.Slots.{IsPartOf}
use Rattle.memtable.proofs.Parts.{from_on, part_place, up_to}
use Rattle.memtable.proofs.entries.first_near.Goals as goal

pub halves-preserved-then-is_gt : goal.halves-preserved-then-is_gt
halves-preserved-then-is_gt g c =
    let name = g.S.Sought.name c.args.sought in
    let xs = c.args.slots.now in
    let middle = c.halves.from + (c.halves.to - c.halves.from) / 2 in
    let test = c.halves-test.true in
    let most = c.halves.invariant.within in
    let inside : middle < c.halves.to = omega (arith, test) in
    let within : middle < length xs = omega (arith, inside, most) in
    let below : is_gt (byte_cmp name c.index-slots-middle.result.value.text) ≡ true =
    ap (λ (s : Slot). is_gt (byte_cmp name s.text)) (sym c.deref.ensures) ∙ ap is_gt (sym c.compare.ensures) ∙ sym c.is_gt.ensures ∙ c.if-is_gt.true in
    record {
      order = omega (arith, inside);
      within = most;
      below = up_to name xs c.requires middle c.index-slots-middle.result within c.index-slots-middle.is below;
      above = c.halves.invariant.above;
    }

pub halves-preserved : goal.halves-preserved
halves-preserved g c =
    let name = g.S.Sought.name c.args.sought in
    let xs = c.args.slots.now in
    let middle = c.halves.from + (c.halves.to - c.halves.from) / 2 in
    let test = c.halves-test.true in
    let most = c.halves.invariant.within in
    let inside : middle < c.halves.to = omega (arith, test) in
    let within : middle < length xs = omega (arith, inside, most) in
    let above : is_gt (byte_cmp name c.index-slots-middle.result.value.text) ≡ false =
    ap (λ (s : Slot). is_gt (byte_cmp name s.text)) (sym c.deref.ensures) ∙ ap is_gt (sym c.compare.ensures) ∙ sym c.is_gt.ensures ∙ c.if-is_gt.false in
    record {
      order = omega (arith, test);
      within = omega (arith, within);
      below = c.halves.invariant.below;
      above = from_on name xs c.requires middle c.index-slots-middle.result within c.index-slots-middle.is above;
    }

pub returns-clause-place : goal.returns-clause-place
returns-clause-place g c =
    let order = c.halves.invariant.order in
    let test = c.halves-test.false in
    let one : c.halves.to ≡ c.halves.from = omega (arith, order, test) in
    part_place (g.S.Sought.name c.args.sought) c.args.slots.now c.requires c.halves.from (subst (IsPartOf (g.S.Sought.name c.args.sought) c.args.slots.now c.halves.from) one c.halves.invariant)
