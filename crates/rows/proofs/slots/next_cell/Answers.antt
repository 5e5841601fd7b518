use Rattle.std.proofs.Common.{◌≡◌, Some, sym, subst, option_map}
use Rattle.std.specs.declared.ops.Bound.{Bound}
use Rattle.std.specs.declared.ops.Bound.TheVariants.{Unbounded}
use Rattle.cell_key.specs.declared.keys.CellKey.{CellKey}
use Rattle.cell_key.specs.Places.{Place, place_named, IsNextCell}
use Rattle.rows.specs.Slots.{slot_cells, IsFirstKey}
use Rattle.rows.proofs.Places.{next_some}
use Rattle.rows.proofs.slots.next_cell.Goals as goal

pub returns-in_ok-clone-in-Some-2 : goal.returns-in_ok-clone-in-Some-2
returns-in_ok-clone-in-Some-2 c =
    let cells = slot_cells c.args.slots.now.entries in
    let after = option_map place_named c.args.after in
    let key = c.in-Some.key.now in
    let value = c.in-Some.field-0-1.now.items in
    let first = subst (λ (b : Bound CellKey). IsFirstKey cells b Unbounded (Some (key, value))) c.in_ok-from.ensures c.in-Some.ensures in
    let row : key.row ≡ c.in_ok-clone-in-Some.field-0 = sym c.in_ok-clone-in-Some.ensures.cases in
    let family : key.family ≡ c.in_ok-clone-in-Some-2.field-0 = sym c.in_ok-clone-in-Some-2.ensures.cases in
    subst (λ (p : Place). IsNextCell cells after (Some p)) (λ i. (row i, family i)) (next_some cells after key value first)
