use Rattle.std.proofs.Common.{◌≤◌, ◌<◌, ℕ, get_or}
use Rattle.cell_key.specs.declared.edits.Edit.{Edit}
use Rattle.memtable.specs.StampRanges.{IsEditWithin}
use Rattle.memtable.proofs.stamp_range.StampRange.with_edits.Given as goal

-- the range of the stamps so far
abbrev pub invariant-loop-edit : goal.invariant-loop-edit
invariant-loop-edit l =
    record {
      below : l.least ≤ l.fn.self.least;
      above : l.fn.self.greatest ≤ l.greatest;
      edits : (i : ℕ) (d : Edit) → i < l.edit-index → IsEditWithin (record { least = l.least; greatest = l.greatest }) (get_or l.edits i d);
    }
