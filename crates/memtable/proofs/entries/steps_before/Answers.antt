use Rattle.std.proofs.Common.{◌≡◌, ◌<◌, false, true, length, sym, ap, ◌∙◌, arith}
use Rattle.std.specs.Ordering.{is_gt}
use Rattle.cell_key.specs.Keys.{byte_cmp}
use Rattle.memtable.specs.declared.entries.Slot.{Slot}
use Rattle.memtable.proofs.Parts.{from_on, up_to}
use Rattle.memtable.proofs.entries.steps_before.Goals as goal

pub returns-then-is_gt : goal.returns-then-is_gt
returns-then-is_gt g c =
    let name = g.S.Sought.name c.args.sought in
    let xs = c.args.slots.now in
    let at = c.saturating_sub-at.result in
    let back = c.saturating_sub-at.ensures in
    let test = c.steps-test.true in
    let most = c.steps.invariant.within in
    let within : at < length xs = omega (arith, back, test, most) in
    let below : is_gt (byte_cmp name c.index-slots-at.result.value.text) ≡ true =
    ap (λ (s : Slot). is_gt (byte_cmp name s.text)) (sym c.deref.ensures) ∙ ap is_gt (sym c.compare.ensures) ∙ sym c.is_gt.ensures ∙ c.if-is_gt.true in
    record {
      order = omega (arith, back, test);
      within = most;
      below = up_to name xs c.requires.rising at c.index-slots-at.result within c.index-slots-at.is below;
      above = c.steps.invariant.above;
    }

pub steps-preserved : goal.steps-preserved
steps-preserved g c =
    let name = g.S.Sought.name c.args.sought in
    let xs = c.args.slots.now in
    let at = c.saturating_sub-at.result in
    let back = c.saturating_sub-at.ensures in
    let test = c.steps-test.true in
    let most = c.steps.invariant.within in
    let within : at < length xs = omega (arith, back, test, most) in
    let above : is_gt (byte_cmp name c.index-slots-at.result.value.text) ≡ false =
    ap (λ (s : Slot). is_gt (byte_cmp name s.text)) (sym c.deref.ensures) ∙ ap is_gt (sym c.compare.ensures) ∙ sym c.is_gt.ensures ∙ c.if-is_gt.false in
    record {
      within = omega (arith, within);
      above = from_on name xs c.requires.rising at c.index-slots-at.result within c.index-slots-at.is above;
    }
