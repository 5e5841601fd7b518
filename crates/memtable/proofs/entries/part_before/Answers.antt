use Rattle.std.proofs.Common.{◌≡◌, ◌<◌, ◌-◌, ◌+◌, false, true, length, sym, subst, ap, ◌∙◌, arith}
use Rattle.std.specs.Ordering.{is_gt}
use Rattle.cell_key.specs.Keys.{byte_cmp}
use Rattle.memtable.specs.declared.entries.Slot.{Slot}
use Rattle.memtable.specs.Slots.{AreBelow}
use Rattle.memtable.proofs.Parts.{from_on, up_to}
use Rattle.memtable.proofs.entries.part_before.Goals as goal

pub returns-then-to-eq0 : goal.returns-then-to-eq0
returns-then-to-eq0 g c =
    let start = c.if-to-eq0.true in
    record {
      order = omega arith;
      within = c.requires.to;
      below = λ k d less within. absurd (omega (arith, start, less));
      above = c.requires.above;
    }

pub returns-then-is_gt : goal.returns-then-is_gt
returns-then-is_gt g c =
    let name = g.S.Sought.name c.args.sought in
    let xs = c.args.slots.now in
    let most = c.requires.to in
    let some = c.if-to-eq0.false in
    let at = c.args.to - 1 in
    let within : at < length xs = omega (arith, most, some) in
    let below : is_gt (byte_cmp name c.index-slots-to.result.value.text) ≡ true =
    ap (λ (s : Slot). is_gt (byte_cmp name s.text)) (sym c.deref.ensures) ∙ ap is_gt (sym c.compare.ensures) ∙ sym c.is_gt.ensures ∙ c.if-is_gt.true in
    let all : AreBelow name xs (at + 1) = up_to name xs c.requires.rising at c.index-slots-to.result within c.index-slots-to.is below in
    record {
      order = omega arith;
      within = most;
      below = subst (AreBelow name xs) (omega (arith, some)) all;
      above = c.requires.above;
    }

pub returns-then-not-is_gt : goal.returns-then-not-is_gt
returns-then-not-is_gt g c =
    let name = g.S.Sought.name c.args.sought in
    let xs = c.args.slots.now in
    let most = c.requires.to in
    let test = c.if-to-gt1.true in
    let within : 0 < length xs = omega (arith, most, test) in
    let above : is_gt (byte_cmp name c.index-slots-0.result.value.text) ≡ false =
    ap (λ (s : Slot). is_gt (byte_cmp name s.text)) (sym c.deref-then-not-has_front.ensures) ∙ ap is_gt (sym c.compare-then-not-has_front.ensures) ∙ sym c.is_gt-then-not-has_front.ensures ∙ c.if-not-is_gt.true in
    record {
      order = omega arith;
      within = omega arith;
      below = λ k d less inside. absurd (omega (arith, less));
      above = from_on name xs c.requires.rising 0 c.index-slots-0.result within c.index-slots-0.is above;
    }
