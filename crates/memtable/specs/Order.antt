-- The fronts of texts in their order, and the versions of a column.
use Rattle.std.specs.Prelude.{◌≡◌, ◌≤◌, ◌<◌, ℕ, List, length, get_or}
use Rattle.byteorder.specs.Endian.{big_number}
use Rattle.cell_key.specs.Cells.{version}
use Rattle.cell_key.specs.declared.keys.CellKey.{CellKey}
use Rattle.memtable.specs.declared.sought.Version.{Version}

-- the first eight bytes of a text as a number
pub record IsFront (front : ℕ) (text : List ℕ) : Type 0 where
  pub long : 8 ≤ length text
  pub bytes : (i : ℕ) → get_or text i 0 < 256
  pub is : front ≡ big_number 8 text

-- the key of a version, and the key in the same column at another stamp
abbrev pub at_stamp : Version → ℕ → CellKey
at_stamp v stamp = version v.row.now v.family.now v.qualifier stamp

abbrev pub key_of : Version → CellKey
key_of v = at_stamp v v.stamp
