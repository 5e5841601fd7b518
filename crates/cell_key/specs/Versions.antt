-- Versions of a cell's column, and their limits.
use Rattle.std.specs.Prelude.{◌≡◌, ◌<◌, ◌≤◌, ◌^◌, ℕ, List, length, Some}
use Rattle.std.specs.declared.vec.Vec.{Vec}
use Rattle.std.specs.FinMap.{get}
use Rattle.cell_key.specs.Cells.{Cells}
use Rattle.cell_key.specs.declared.keys.CellKey.{CellKey}

-- a stamp and the bytes of a value
abbrev pub stamped : {Z : Type 0} → ℕ × Vec ℕ Z → ℕ × List ℕ
stamped version = (version.0, version.1.items)

-- the limits of stamps and of values
pub record IsVersion (stamp : ℕ) (bytes : List ℕ) : Type 0 where
  pub from : 1 ≤ stamp
  pub to : stamp < 2 ^ 63
  pub value : length bytes ≤ 65536

-- a version within the limits, with a stamp in lo..=hi
pub record IsVersionIn (lo hi : ℕ) (version : ℕ × List ℕ) : Type 0 where
  pub low : lo ≤ version.0
  pub high : version.0 ≤ hi
  pub limits : IsVersion version.0 version.1

-- the versions in a cell map are within the limits
abbrev pub HasLimits : Cells → Type 0
HasLimits cells =
    (key : CellKey) (value : List ℕ) → get cells key ≡ Some value → IsVersion key.stamp value
