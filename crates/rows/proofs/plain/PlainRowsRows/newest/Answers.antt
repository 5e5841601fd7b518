use Rattle.std.proofs.Common.{option_map}
use Rattle.rows.specs.Slots.{slot_cells}
use Rattle.cell_key.specs.Versions.{stamped}
use Rattle.rows.proofs.Limits.{answered}
use Rattle.rows.proofs.plain.PlainRowsRows.newest.Goals as goal

pub returns-clause-limits : goal.returns-clause-limits
returns-clause-limits c =
    answered (slot_cells c.self.inside.slots.entries) c.args.row.now c.args.family.now c.args.qualifier c.args.lo c.args.hi
    (option_map stamped c.in_ok-newest.field-0) c.self.invariant.limits c.in_ok-newest.ensures
