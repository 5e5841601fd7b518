-- Ranges of rows, and their parts of entry lists.
use Rattle.std.specs.Prelude.{Bool, true, ◌&&◌, ℕ, List, [], Option, Some, None, option_map, filter}
use Rattle.std.specs.Ordering.{is_lt, is_le}
use Rattle.cell_key.specs.Texts.{row_fence}
use Rattle.cell_key.specs.Keys.{byte_cmp}
use Rattle.cell_key.specs.Entries.{Entry, key_of_text}
use Rattle.tablet.specs.declared.ranges.RowRange.{RowRange}

-- the row comes after this one; `None` comes before all rows
abbrev pub is_after : Option (List ℕ) → List ℕ → Bool
is_after None row = true
is_after (Some before) row = is_lt (byte_cmp before row)

-- the row is at or before this one; `None` is the infinite end
abbrev pub is_up_to : Option (List ℕ) → List ℕ → Bool
is_up_to None row = true
is_up_to (Some end) row = is_le (byte_cmp row end)

-- the row is in the range: after `after`, up to and including `end`
abbrev pub has_row : RowRange → List ℕ → Bool
has_row range row = is_after range.after row && is_up_to range.end row

-- the entries of a list that are in a range
abbrev pub seen : RowRange → List Entry → List Entry
seen range es = filter (λ entry. has_row range (key_of_text entry.0).row) es

-- a bound at or below the texts of a range's rows and above those of all earlier rows
abbrev pub fence_after : Option (List ℕ) → List ℕ
fence_after None = []
fence_after (Some row) = row_fence row

abbrev pub lower_fence : RowRange → List ℕ
lower_fence range = fence_after range.after

-- a bound above the texts of a range's rows, if it has an end
abbrev pub upper_fence : RowRange → Option (List ℕ)
upper_fence range = option_map row_fence range.end
