-- The lock of a cell, in terms of the cell map, and the kind of its write.
use Rattle.std.specs.Prelude.{◌≡◌, ℕ, ◌^◌, ◌-◌, List, Option, Some, None}
use Rattle.cell_key.specs.Cells.{Cells}
use Rattle.cell_key.specs.Names.{IsFamily, IsRow}
use Rattle.cell_key.specs.declared.keys.Qualifier.TheVariants as column
use Rattle.cell_key.specs.Columns.{IsLockText, IsParted}
use Rattle.cell_key.specs.declared.columns.WriteKind.{WriteKind}
use Rattle.si_model.specs.Reads.{IsClear}
use Rattle.si_model.specs.ShowsCells.{at}
use Rattle.si_model.specs.declared.replies.Cell.{Cell}
use Rattle.clean_up.specs.declared.locks.Lock.{Lock}

-- x has the lock of t, and this is the kind of its write
abbrev pub TellsKind : Cells → Cell → ℕ → WriteKind → Type 0
TellsKind cells x t kind =
    (text : List ℕ) × (place : List ℕ)
    × (at cells x column.Lock t ≡ Some text) × IsParted text place kind

-- x has the lock, which names its session's first cell
pub record Stands (cells : Cells) (x : Cell) (lock : Lock) : Type 0 where
  pub text : List ℕ
  pub kind : WriteKind
  pub there : at cells x column.Lock lock.start ≡ Some text
  pub is_text : IsLockText lock.first.row lock.first.family kind text
  pub family : IsFamily lock.first.family

-- x has this lock, or none
abbrev pub IsStanding : Cells → Cell → Option Lock → Type 0
IsStanding cells x None = IsClear cells x column.Lock 0 (2 ^ 64 - 1)
IsStanding cells x (Some lock) = Stands cells x lock

-- a lock of x names no cell
abbrev pub LacksPlace : Cells → Cell → Type 0
LacksPlace cells x =
    (t : ℕ) × (b : List ℕ) × (at cells x column.Lock t ≡ Some b)
    × ((y : Cell) (kind : WriteKind) → IsRow y.row → IsFamily y.family → ¬ IsLockText y.row y.family kind b)
