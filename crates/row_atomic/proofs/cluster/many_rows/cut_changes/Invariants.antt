use Rattle.std.proofs.Common.{◌≡◌, ◌++◌}
use Rattle.std.specs.Vec.Iter.{into_iter_items}
use Rattle.rows.specs.RowEdits.{all_edits}
use Rattle.row_atomic.specs.ManyRows.{changes_in, changes_outside}
use Rattle.row_atomic.proofs.cluster.many_rows.cut_changes.Given as goal

-- those so far, and then those that are left
abbrev pub invariant-loop-change : goal.invariant-loop-change
invariant-loop-change l =
    record {
      inside : l.inside.items ++ all_edits (changes_in l.range (into_iter_items l.change-iterator)) ≡ all_edits (changes_in l.range l.fn.changes.items);
      others : l.others.items ++ changes_outside l.range (into_iter_items l.change-iterator) ≡ changes_outside l.range l.fn.changes.items;
    }
