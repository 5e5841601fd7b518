-- The part of a map by cells in which the cells lie that a scan covered.
use Rattle.std.specs.Prelude.{◌≡◌, ℕ, true, false, List, Option, Some, None}
use Rattle.std.specs.BTreeMap.Range.{is_from_start, is_past_end, range_contains}
use Rattle.std.specs.declared.ops.Bound.{Bound}
use Rattle.std.specs.declared.ops.Bound.TheVariants.{Included, Excluded, Unbounded}
use Rattle.si_model.specs.Machine.{Range, Reach}
use Rattle.si_model.specs.Scans.{Covers, HasReached, IsAfterCell, IsUpToRow}
use Rattle.si_model.specs.declared.replies.Cell.{Cell}
use Rattle.audit.specs.Histories.{name_cmp}

-- a row and a family, by which maps of cells are ordered
abbrev pub Name : Type 0
Name = List ℕ × List ℕ

abbrev pub name_of : Cell → Name
name_of x = (x.row, x.family)

-- the part begins after this name
abbrev pub after : Option Name → Bound Name
after None = Unbounded
after (Some name) = Excluded name

-- the part ends at this name
abbrev pub up_to : Option Name → Bound Name
up_to None = Unbounded
up_to (Some name) = Included name

-- the part begins at or before the cells that come after this one
abbrev pub BeginsBefore : Option Cell → Option Name → Type 0
BeginsBefore before first = (x : Cell) → IsAfterCell before x
    → is_from_start name_cmp (after first) (name_of x) ≡ true

-- the part ends at or behind the cells up to the end row that a scan reached
abbrev pub EndsBehind : Option (List ℕ) → Reach → Option Name → Type 0
EndsBehind end reach last = (x : Cell) → IsUpToRow end x.row → HasReached reach x
    → is_past_end name_cmp (up_to last) (name_of x) ≡ false

-- each cell that the scan covered lies in the part
abbrev pub Spans : Range → Reach → Bound Name × Bound Name → Type 0
Spans range reach ends = (x : Cell) → Covers range reach x
    → range_contains name_cmp ends.0 ends.1 (name_of x) ≡ true
