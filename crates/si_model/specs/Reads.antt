-- A cell by its names, and reads of its columns in the cell map.
use Rattle.std.specs.Prelude.{◌≡◌, ℕ, ◌<◌, ◌≤◌, ⊤, List, Some, None}
use Rattle.cell_key.specs.Cells.{Cells}
use Rattle.cell_key.specs.Names.{IsRow, IsFamily}
use Rattle.cell_key.specs.declared.refusals.Refusal.{Refusal}
use Rattle.cell_key.specs.declared.refusals.Refusal.TheVariants.{BadRow, BadColumn, NoMemory}
use Rattle.cell_key.specs.declared.keys.Qualifier.{Qualifier}
use Rattle.cell_key.specs.declared.keys.Qualifier.TheVariants.{Lock, Write}
use Rattle.si_model.specs.ShowsCells.{at}
use Rattle.si_model.specs.declared.replies.Cell.{Cell}

abbrev pub cell_of : List ℕ → List ℕ → Cell
cell_of row family = record { row = row; family = family }

-- why a cell's name is refused
abbrev pub IsNameRefusal : Cell → Refusal → Type 0
IsNameRefusal x BadRow = ¬ IsRow x.row
IsNameRefusal x BadColumn = IsRow x.row × ¬ IsFamily x.family
IsNameRefusal x NoMemory = ⊤
IsNameRefusal x _ = ⊥

-- the column has no version from one stamp to another
abbrev pub IsClear : Cells → Cell → Qualifier → ℕ → ℕ → Type 0
IsClear cells x q lo hi = (s : ℕ) → lo ≤ s → s ≤ hi → at cells x q s ≡ None

-- the lock of t on x is gone
abbrev pub IsGone : Cells → Cell → ℕ → Type 0
IsGone cells x t = at cells x Lock t ≡ None

-- of the write records of x with a stamp from 0 to s, this is the newest
pub record IsLast (cells : Cells) (x : Cell) (s c : ℕ) (text : List ℕ) : Type 0 where
  pub low : c ≤ s
  pub there : at cells x Write c ≡ Some text
  pub last : (n : ℕ) → c < n → n ≤ s → at cells x Write n ≡ None
