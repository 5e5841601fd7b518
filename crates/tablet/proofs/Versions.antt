-- The version of a column at one stamp.
use Rattle.std.proofs.Common.{◌≡◌, ℕ, Bool, true, cond, List, Some, None, ◌⊎◌, inl, inr, ap, subst, ◌∙◌, arith}
use Rattle.std.specs.List.{AllByRecursion}
use Rattle.std.specs.FinMap.{get}
use Rattle.cell_key.specs.Keys.{IsStored}
use Rattle.cell_key.specs.Cells.{Cells, IsNewest, version}
use Rattle.cell_key.specs.Entries.{Entry, IsEntryList, cells_of}
use Rattle.cell_key.specs.declared.keys.CellKey.{CellKey}
use Rattle.cell_key.specs.declared.keys.Qualifier.{Qualifier}
use Rattle.tablet.specs.Ranges.{has_row}
use Rattle.tablet.specs.declared.ranges.RowRange.{RowRange}
use Rattle.tablet.proofs.Shown.{first_at, view, shown, stored_or_hidden}

module _ (row family : List ℕ) (qualifier : Qualifier) (range : RowRange) (lists : List (List Entry)) (each : AllByRecursion IsEntryList lists) (has : has_row range row ≡ true) where
  abbrev pub at : ℕ → CellKey
  at s = version row family qualifier s

  abbrev pub cells : Cells
  cells = cells_of (view range lists)

  shown_at : (s : ℕ) → IsStored (at s) → get cells (at s) ≡ first_at lists (at s)
  shown_at s stored = shown range lists each (at s) stored ∙ ap (λ (b : Bool). cond b (first_at lists (at s)) None) has

  none_at : (s : ℕ) → (IsStored (at s) → first_at lists (at s) ≡ None) → get cells (at s) ≡ None
  none_at s h = go (stored_or_hidden range lists each (at s))
    where
      go : IsStored (at s) ⊎ (get cells (at s) ≡ None) → get cells (at s) ≡ None
      go (inl stored) = shown_at s stored ∙ h stored
      go (inr e) = e

  pub newest_at_none : (s : ℕ) → first_at lists (at s) ≡ None → IsNewest cells at s s None
  newest_at_none s none t a b = let e : s ≡ t = omega arith in subst (λ (u : ℕ). get cells (at u) ≡ None) e (none_at s (λ stored. none))

  pub newest_at_some : (s : ℕ) (value : List ℕ) → IsStored (at s) → first_at lists (at s) ≡ Some value → IsNewest cells at s s (Some (s, value))
  newest_at_some s value stored some = (omega arith, omega arith, shown_at s stored ∙ some, λ t a b. absurd (omega arith))
