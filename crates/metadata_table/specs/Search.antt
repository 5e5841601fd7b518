-- Results of searches in a list of places.
use Rattle.std.specs.Prelude.{◌≡◌, ℕ, zero, suc, Bool, false, List, [], ◌∷◌, Option, None, Some}
use Rattle.std.specs.Ordering.{is_lt}
use Rattle.cell_key.specs.Keys.{byte_cmp}
use Rattle.metadata_table.specs.Places.{PlaceView, EndsBefore}

-- whether an end is below a row
abbrev pub ends_before : Option (List ℕ) → List ℕ → Bool
ends_before None row = false
ends_before (Some end) row = is_lt (byte_cmp end row)

-- the place at the position holds the row: its end is not below the row, and all ends before it are
abbrev pub HoldsRowAt : List ℕ → List PlaceView → ℕ → Type 0
HoldsRowAt row [] i = ⊥
HoldsRowAt row (p ∷ ps) zero = ¬ EndsBefore p.end row
HoldsRowAt row (p ∷ ps) (suc i) = EndsBefore p.end row × HoldsRowAt row ps i

-- the place at the position belongs to the tablet
abbrev pub IsTabletAt : ℕ → List PlaceView → ℕ → Type 0
IsTabletAt n [] i = ⊥
IsTabletAt n (p ∷ ps) zero = p.tablet ≡ n
IsTabletAt n (p ∷ ps) (suc i) = IsTabletAt n ps i
