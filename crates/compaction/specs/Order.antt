-- The order of the places of sources, by their current entries.
use Rattle.std.specs.Prelude.{◌≡◌, ◌≢◌, ◌<◌, ◌⊎◌, ℕ, List, [], ◌∷◌, Option, Some, None, IsSome, T, Contains, length, slice_index_or}
use Rattle.std.specs.List.{AllByRecursion}
use Rattle.std.specs.Ordering.{is_le, nat_cmp, on, then_cmp}
use Rattle.std.specs.declared.cmp.Ordering.{Ordering}
use Rattle.std.specs.declared.cmp.Ordering.TheVariants.{Less, Equal, Greater}
use Rattle.cell_key.specs.Keys.{byte_cmp}
use Rattle.cell_key.specs.Entries.{Entry}
use Rattle.compaction.specs.Least.{entry_at}

-- the order of current entries by their keys: no entry comes last
abbrev pub lent_cmp : Option Entry → Option Entry → Ordering
lent_cmp (Some e) (Some f) = byte_cmp e.0 f.0
lent_cmp (Some e) None = Less
lent_cmp None (Some f) = Greater
lent_cmp None None = Equal

-- the order of places by the current entries, and for equal keys the newer source first
abbrev pub place_cmp : List (Option Entry) → ℕ → ℕ → Ordering
place_cmp lents = then_cmp (on (entry_at lents) lent_cmp) nat_cmp

-- no place comes after one that follows it
abbrev pub InOrder : List (Option Entry) → List ℕ → Type 0
InOrder lents [] = Unit {0}
InOrder lents (place ∷ order) =
    AllByRecursion (λ later. T (is_le (place_cmp lents place later))) order × InOrder lents order

-- no place occurs twice
abbrev pub IsDistinct : List ℕ → Type 0
IsDistinct places =
    (i j d : ℕ) → i < j → j < length places → slice_index_or places i d ≢ slice_index_or places j d

-- the places of the sources that are at entries, each once, in order, and perhaps others
pub record AreSorted (lents : List (Option Entry)) (order : List ℕ) : Type 0 where
  pub whole : (place : ℕ) → IsSome (entry_at lents place) → Contains order place
  pub distinct : IsDistinct order
  pub rises : InOrder lents order

-- exactly the places of the sources that are at entries, each once, in order
pub record IsOrdered (lents : List (Option Entry)) (order : List ℕ) : Type 0 where
  pub sorted : AreSorted lents order
  pub each : AllByRecursion (λ place. IsSome (entry_at lents place)) order

-- the order is empty before the first advance
abbrev pub IsReady : List (Option Entry) → List ℕ → Type 0
IsReady lents order = (order ≡ []) ⊎ IsOrdered lents order

-- the current entry at the first place
abbrev pub first_entry : List (Option Entry) → List ℕ → Option Entry
first_entry lents [] = None
first_entry lents (place ∷ order) = entry_at lents place
