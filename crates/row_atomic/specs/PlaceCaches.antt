-- The cache of places: the rows that a cluster located last.
use Rattle.std.specs.Prelude.{◌≡◌, ◌+◌, ◌-◌, ◌^◌, ◌⊎◌, ℕ, Bool, List, Contains, Option, None, Some, min, nat_eq, slice_get}
use Rattle.std.specs.Cmp.Lexicographic.{pointwise}
use Rattle.std.specs.Map.{lookup}
use Rattle.metadata_table.specs.Places.{PlaceView}
use Rattle.metadata_table.specs.Table.{IsHolder}

-- the tablet that holds a row has the number
pub record IsHeldBy (places : List PlaceView) (row : List ℕ) (n : ℕ) : Type 0 where
  pub place : PlaceView
  pub holder : IsHolder row places place
  pub number : place.tablet ≡ n

-- Each cached row has the number of the tablet that holds it.
abbrev pub AreHeld : List PlaceView → List (List ℕ × ℕ) → Type 0
AreHeld places kept =
    (entry : List ℕ × ℕ) → Contains kept entry → IsHeldBy places entry.0 entry.1

-- the key is the row
abbrev pub is_key_of : List ℕ → List ℕ → Bool
is_key_of row key = pointwise nat_eq row key

-- the number cached for a row
abbrev pub number_kept : List ℕ → List (List ℕ × ℕ) → Option ℕ
number_kept row kept = lookup (is_key_of row) kept

-- the row is the one located last, with this number
abbrev pub IsLocatedLast : List ℕ → List (List ℕ × ℕ) → ℕ → Type 0
IsLocatedLast row kept n = slice_get kept 0 ≡ Some (row, n)

-- No entry was added except this row with this number.
abbrev pub AddsOnly : List ℕ → ℕ → List (List ℕ × ℕ) → List (List ℕ × ℕ) → Type 0
AddsOnly row n old new = (entry : List ℕ × ℕ) → Contains new entry
    → Contains old entry ⊎ (entry ≡ (row, n))

-- one hit more if a row was found, up to 2^64 - 1
abbrev pub hits_after : Option ℕ → ℕ → ℕ
hits_after None hits = hits
hits_after (Some n) hits = min (hits + 1) (2 ^ 64 - 1)
