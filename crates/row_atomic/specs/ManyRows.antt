-- Edits of several rows, tablet by tablet.
use Rattle.std.specs.Prelude.{◌≡◌, ℕ, true, List, Contains, Some, filter, not, slice_get}
use Rattle.memtable.specs.Edits.{IsWithinLimits, with_edits}
use Rattle.rows.specs.RowEdits.{all_edits}
use Rattle.rows.specs.declared.row_edits.RowEdits.{RowEdits}
use Rattle.tablet.specs.Ranges.{has_row}
use Rattle.tablet.specs.Views.{memory_of, range_of, with_memory}
use Rattle.tablet.specs.declared.ranges.RowRange.{RowRange}
use Rattle.tablet.specs.declared.tablet.Tablet.{Tablet}
use Rattle.row_atomic.specs.Clusters.{edits_in}

-- the changes of a range's rows, and those of all other rows
abbrev pub changes_in : RowRange → List RowEdits → List RowEdits
changes_in range changes = filter (λ change. has_row range change.row) changes

abbrev pub changes_outside : RowRange → List RowEdits → List RowEdits
changes_outside range changes = filter (λ change. not (has_row range change.row)) changes

-- a tablet with the edits of its rows in its memtable
abbrev pub with_changes : List RowEdits → Tablet → Tablet
with_changes changes t =
    with_memory t (with_edits (memory_of t) (edits_in (range_of t) (all_edits changes)))

-- A tablet that has one of the rows would exceed a limit of its memtable with the edits of all its rows.
pub record OverfillsOwner (changes : List RowEdits) (tablets : List Tablet) : Type 0 where
  pub change : RowEdits
  pub among : Contains changes change
  pub index : ℕ
  pub tablet : Tablet
  pub there : slice_get tablets index ≡ Some tablet
  pub has : has_row (range_of tablet) change.row ≡ true
  pub over : ¬ IsWithinLimits (memory_of (with_changes changes tablet))
