use Rattle.std.proofs.Common.{◌≡◌, Some, None, refl, ap, rules}
use Rattle.rows.specs.Slots.{slot_at}
use Rattle.rows.proofs.SlotLemmas.{content, cells_same, full_without}
use Rattle.rows.proofs.slots.drop_empty.Goals as goal

pub returns-then-is_empty-clause-same : goal.returns-then-is_empty-clause-same
returns-then-is_empty-clause-same c =
    let empty : slot_at c.args.slots.now.entries c.args.key.now ≡ Some None = search rules in
    cells_same c.args.slots.now.entries c.remove.new.self.entries c.args.key.now None refl (ap content empty) c.remove.ensures.updates.0

pub returns-then-is_empty-clause-empties : goal.returns-then-is_empty-clause-empties
returns-then-is_empty-clause-empties c = λ keys full. full_without c.args.slots.now.entries c.remove.new.self.entries c.args.key.now keys c.remove.ensures.updates.0 full

pub returns-else-is_empty-clause-same : goal.returns-else-is_empty-clause-same
returns-else-is_empty-clause-same c = refl
