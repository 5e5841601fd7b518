-- The fields of messages.
use Rattle.std.specs.Prelude.{ℕ, List, [], ◌∷◌, ◌++◌, ◌<◌, ◌^◌, length, Option, None, Some}
use Rattle.byteorder.specs.Endian.{big_bytes}
use Rattle.cell_key.specs.declared.keys.Qualifier.{Qualifier}
use Rattle.cell_key.specs.declared.keys.Qualifier.TheVariants.{Data, Lock, Write}
use Rattle.si_model.specs.declared.replies.Cell.{Cell}

-- a number in this many bytes, big-endian
unfoldable pub number : ℕ → ℕ → List ℕ
number len n = big_bytes len n

-- a field of bytes: their length as four bytes, and the bytes
unfoldable pub field : List ℕ → List ℕ
field bytes = number 4 (length bytes) ++ bytes

-- a cell: its row, and its family
unfoldable pub cell_fields : Cell → List ℕ
cell_fields cell = field cell.row ++ field cell.family

-- an optional part: 0, or 1 and its fields
abbrev pub optional : {A : Type 0} → (A → List ℕ) → Option A → List ℕ
optional fields None = 0x00 ∷ []
optional fields (Some kept) = 0x01 ∷ fields kept

-- the number of a qualifier
abbrev pub qualifier_number : Qualifier → ℕ
qualifier_number Data = 1
qualifier_number Lock = 2
qualifier_number Write = 3

-- the length of the bytes fits its field
abbrev pub FitsField : List ℕ → Type 0
FitsField bytes = length bytes < 2 ^ 32

-- the same for both parts of a cell
pub record FitsCell (cell : Cell) : Type 0 where
  pub row : FitsField cell.row
  pub family : FitsField cell.family
