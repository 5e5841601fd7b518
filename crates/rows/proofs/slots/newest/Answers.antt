use Rattle.std.proofs.Common.{List, ℕ, Some, None, sym, subst, arith}
use Rattle.std.specs.List.{each_same}
use Rattle.cell_key.specs.Cells.{version, IsNewest}
use Rattle.rows.specs.Slots.{slot_cells}
use Rattle.rows.proofs.BetweenStamps.{at_ends, versions_fall, newest_none, newest_some}
use Rattle.rows.proofs.slots.newest.Goals as goal

pub first-requires-clause-forward : goal.first-requires-clause-forward
first-requires-clause-forward c =
    rw (c.in_ok-from.ensures.key, c.in_ok-to.ensures.key) (versions_fall c.args.row.now c.args.family.now c.args.qualifier c.args.lo c.args.hi (omega arith))

pub returns-in_ok-clone-in-Some : goal.returns-in_ok-clone-in-Some
returns-in_ok-clone-in-Some c =
    let at = version c.args.row.now c.args.family.now c.args.qualifier in
    let cells = slot_cells c.args.slots.now.entries in
    let key = c.in-Some.key.now in
    let first = at_ends cells c.in_ok-from.from c.in_ok-to.to (at c.args.hi) (at c.args.lo) (Some (key, c.in-Some.value.now.items)) c.in_ok-from.ensures.key c.in_ok-to.ensures.key c.in-Some.ensures in
    let newest = newest_some c.args.row.now c.args.family.now c.args.qualifier c.args.lo c.args.hi cells key c.in-Some.value.now.items first in
    let same = each_same c.in-Some.value.now.items c.in_ok-clone-in-Some.field-0.items c.in_ok-clone-in-Some.ensures.cases.0 in
    subst (λ (v : List ℕ). IsNewest cells at c.args.lo c.args.hi (Some (key.stamp, v))) (sym same) newest

pub returns-in-None : goal.returns-in-None
returns-in-None c =
    let at = version c.args.row.now c.args.family.now c.args.qualifier in
    let cells = slot_cells c.args.slots.now.entries in
    newest_none c.args.row.now c.args.family.now c.args.qualifier c.args.lo c.args.hi cells
    (at_ends cells c.in_ok-from.from c.in_ok-to.to (at c.args.hi) (at c.args.lo) None c.in_ok-from.ensures.key c.in_ok-to.ensures.key c.in-None.ensures)
