use Rattle.std.proofs.Common.{◌≡◌, ◌<◌, ◌-◌, ◌+◌, false, true, length, sym, subst, ap, ◌∙◌, arith}
use Rattle.std.specs.Ordering.{is_gt}
use Rattle.cell_key.specs.Keys.{byte_cmp}
use Rattle.memtable.specs.declared.entries.Slot.{Slot}
use Rattle.memtable.specs.Slots.{AreBelow}
use Rattle.memtable.proofs.Parts.{from_on, up_to}
use Rattle.memtable.proofs.entries.part_after.Goals as goal

pub returns-then-from-slots : goal.returns-then-from-slots
returns-then-from-slots g c =
    let end = c.if-from-slots.true in
    record {
      order = omega arith;
      within = c.requires.from;
      below = c.requires.below;
      above = λ k d behind within. absurd (omega (arith, end, behind, within));
    }

pub returns-then-not-is_gt : goal.returns-then-not-is_gt
returns-then-not-is_gt g c =
    let name = g.S.Sought.name c.args.sought in
    let xs = c.args.slots.now in
    let most = c.requires.from in
    let inside = c.if-from-slots.false in
    let within : c.args.from < length xs = omega (arith, most, inside) in
    let above : is_gt (byte_cmp name c.index-slots-from.result.value.text) ≡ false =
    ap (λ (s : Slot). is_gt (byte_cmp name s.text)) (sym c.deref.ensures) ∙ ap is_gt (sym c.compare.ensures) ∙ sym c.is_gt.ensures ∙ c.if-not-is_gt.true in
    record {
      order = omega arith;
      within = most;
      below = c.requires.below;
      above = from_on name xs c.requires.rising c.args.from c.index-slots-from.result within c.index-slots-from.is above;
    }

pub returns-then-is_gt : goal.returns-then-is_gt
returns-then-is_gt g c =
    let name = g.S.Sought.name c.args.sought in
    let xs = c.args.slots.now in
    let test = c.if-from-last.true in
    let last = length xs - 1 in
    let within : last < length xs = omega (arith, test) in
    let below : is_gt (byte_cmp name c.index-slots-last.result.value.text) ≡ true =
    ap (λ (s : Slot). is_gt (byte_cmp name s.text)) (sym c.deref-then-not-has_front.ensures) ∙ ap is_gt (sym c.compare-then-not-has_front.ensures) ∙ sym c.is_gt-then-not-has_front.ensures ∙ c.if-is_gt.true in
    let all : AreBelow name xs (last + 1) = up_to name xs c.requires.rising last c.index-slots-last.result within c.index-slots-last.is below in
    record {
      order = omega arith;
      within = omega arith;
      below = subst (AreBelow name xs) (omega (arith, within)) all;
      above = λ k d behind inside. absurd (omega (arith, behind, inside));
    }
