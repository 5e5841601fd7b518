-- The limits of the answers of scans and Reads.
use Rattle.std.specs.Prelude.{◌+◌, ◌*◌, ◌≤◌, ⊤, List, Option, length}
use Rattle.std.specs.List.{AllByRecursion}
use Rattle.si_model.specs.Scans.{items_length, most_items}
use Rattle.si_model.specs.State.{Item, Reach, ToEnd, UpTo}
use Rattle.si_model.specs.Takings.{IsNamed}
use Rattle.si_model.specs.Transactions.{most_read, most_told, told_lengths}
use Rattle.si_model.specs.declared.replies.Cell.{Cell}

-- the names of the cell that a scan reached are within their limits
abbrev pub IsNamedReach : Reach → Type 0
IsNamedReach ToEnd = ⊤
IsNamedReach (UpTo cell) = IsNamed cell

-- A scan's items take at most 61,440 bytes in a reply, and all names are within their limits.
pub record IsInScanLimits (items : List (Cell × Item)) (reach : Reach) : Type 0 where
  pub bytes : items_length items ≤ most_items
  pub names : AllByRecursion (λ (item : Cell × Item). IsNamed item.0) items
  pub reached : IsNamedReach reach

-- A Read tells of at most 256 cells, in at most this many bytes: those behind which no value is sent, and a mark for
-- each of 255 cells.
abbrev pub IsInReadLimits : List (Option Item) → Type 0
IsInReadLimits said = (length said ≤ most_read) × (told_lengths said ≤ most_told + 255 * 9)
