-- Binary search for the oldest version of a column in a range of stamps.
use Rattle.std.proofs.Common.{◌≡◌, ℕ, ◌+◌, ◌-◌, ◌/◌, ◌<◌, ◌≤◌, List, Option, Some, None, inl, inr, Vec, option_map, subst, arith}
use Rattle.std.proofs.lemmas.Bool.{cases_lt}
use Rattle.std.specs.FinMap.{get}
use Rattle.cell_key.specs.Cells.{Cells, IsNewest}
use Rattle.cell_key.specs.Versions.{stamped}
use Rattle.cell_key.specs.declared.keys.CellKey.{CellKey}
use Rattle.rows.specs.Oldest.{IsOldest}

-- `found` is a version, and there is none from `lo` on and below `low`
pub record IsRest (cells : Cells) (at : ℕ → CellKey) (lo low : ℕ) (found : ℕ × List ℕ) : Type 0 where
  pub there : get cells (at found.0) ≡ Some found.1
  pub none : (s : ℕ) → lo ≤ s → s < low → get cells (at s) ≡ None

-- a fact about the answer holds for the version in it
pub at_some : {Z : Type 0} (P : Option (ℕ × List ℕ) → Type 0) (found : Option (ℕ × Vec ℕ Z)) (version : ℕ × Vec ℕ Z) → found ≡ Some version → P (option_map stamped found) → P (Some (stamped version))
at_some {Z} P found version is = subst (λ (f : Option (ℕ × Vec ℕ Z)). P (option_map stamped f)) is

pub at_none : {Z : Type 0} (P : Option (ℕ × List ℕ) → Type 0) (found : Option (ℕ × Vec ℕ Z)) → found ≡ None → P (option_map stamped found) → P None
at_none {Z} P found is = subst (λ (f : Option (ℕ × Vec ℕ Z)). P (option_map stamped f)) is

pub half_below : (low top : ℕ) → low < top → low + (top - low) / 2 < top
half_below low top lt = omega arith

pub older_is_nearer : (low top older : ℕ) → low < top → low ≤ older → older ≤ low + (top - low) / 2 → older - low < top - low
older_is_nearer low top older lt from to = omega arith

pub nearer_above : (low top : ℕ) → low < top → top - (low + (top - low) / 2 + 1) < top - low
nearer_above low top lt = omega arith

pub rest_at_first : (cells : Cells) (at : ℕ → CellKey) (lo hi : ℕ) (found : ℕ × List ℕ) → IsNewest cells at lo hi (Some found) → IsRest cells at lo lo found
rest_at_first cells at lo hi found is = record { there = is.2; none = λ s from to. absurd (omega (arith, from, to)) }

-- there is an older version in the lower half
pub rest_with_older : (cells : Cells) (at : ℕ → CellKey) (lo low middle : ℕ) (found older : ℕ × List ℕ) → IsRest cells at lo low found → IsNewest cells at low middle (Some older) → IsRest cells at lo low older
rest_with_older cells at lo low middle found older rest is = record { there = is.2; none = rest.none }

-- the lower half has none
pub rest_above : (cells : Cells) (at : ℕ → CellKey) (lo low middle : ℕ) (found : ℕ × List ℕ) → IsRest cells at lo low found → IsNewest cells at low middle None → IsRest cells at lo (middle + 1) found
rest_above cells at lo low middle found rest is = record {
  there = rest.there;
  none = λ s from to. elim (cases_lt s low) [
    | inl below ↦ rest.none s from below
    | inr above ↦ is s above (omega (arith, to))
  ];
}

pub oldest_is : (cells : Cells) (at : ℕ → CellKey) (lo hi low : ℕ) (found : ℕ × List ℕ) → lo ≤ low → low ≤ found.0 → found.0 ≤ low → found.0 ≤ hi → IsRest cells at lo low found → IsOldest cells at lo hi (Some found)
oldest_is cells at lo hi low found from to end top rest = (omega (arith, from, to), top, rest.there, λ s least below. rest.none s least (omega (arith, below, end)))
