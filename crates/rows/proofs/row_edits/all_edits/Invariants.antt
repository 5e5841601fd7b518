use Rattle.std.proofs.Common.{◌≡◌, ◌++◌}
use Rattle.std.specs.Vec.Iter.{into_iter_items}
use Rattle.rows.specs.RowEdits.{all_edits}
use Rattle.rows.proofs.row_edits.all_edits.Given as goal

-- the edits so far, and then those of the rows that are left
abbrev pub invariant-loop-change : goal.invariant-loop-change
invariant-loop-change l =
    l.edits.items ++ all_edits (into_iter_items l.change-iterator) ≡ all_edits l.fn.changes.items
