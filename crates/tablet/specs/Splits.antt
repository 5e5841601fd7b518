-- Splits of a tablet.
use Rattle.std.specs.Prelude.{◌≡◌, ℕ, List, [], Option, Some, IfSome, IsSomeAnd, IsTrue}
use Rattle.file_store.specs.Store.{Contents}
use Rattle.tablet.specs.Ranges.{has_row}
use Rattle.tablet.specs.Views.{AreParts, Holds, IsBelow, memory_of, names_of, range_of}
use Rattle.tablet.specs.declared.tablet.Tablet.{Tablet}

-- If the tablet's files were open and the row is in its range, cutting it at the row made these two parts.
abbrev pub MakesParts : Option Contents → ℕ → Tablet → List ℕ
    → Option Contents → ℕ → Tablet → Tablet → Type 0
MakesParts old before t row new after left right =
    IfSome old (λ m. Holds m t → IsBelow before t → IsTrue (has_row (range_of t) row)
    → IsSomeAnd new (λ n. AreParts m t n after left right))

-- The two parts of a tablet that was cut at a row: the left one ends with the row, the right one begins after it. Both
-- have files of these names and empty memtables.
pub record Cuts (names row : List ℕ) (t left right : Tablet) : Type 0 where
  pub left_range : range_of left ≡ record { after = (range_of t).after; end = Some row }
  pub right_range : range_of right ≡ record { after = Some row; end = (range_of t).end }
  pub left_names : names_of left ≡ names
  pub right_names : names_of right ≡ names
  pub left_memory : memory_of left ≡ []
  pub right_memory : memory_of right ≡ []
