-- The index of an open file: a row for each block, and the blocks in the file.
use Rattle.std.specs.Prelude.{◌≡◌, ◌≢◌, ⊤, zero, suc, None, ℕ, ◌+◌, ◌≤◌, List, [], ◌∷◌, ◌++◌, length, map, flat_map, Option, Some, IsSomeAnd}
use Rattle.std.specs.FinMap as map
use Rattle.std.specs.List.{AllByRecursion}
use Rattle.std.specs.declared.cmp.Ordering.TheVariants.{Less}
use Rattle.cell_key.specs.Keys.{byte_cmp}
use Rattle.cell_key.specs.Entries.{Entry, IsEntryList, IsPlace, field}
use Rattle.file_store.specs.Store.{Contents, part}
use Rattle.sorted_file.specs.Grammar.{block_bytes, number_bytes}
use Rattle.sorted_file.specs.Block.{entries_of, IsLastText}
use Rattle.sorted_file.specs.Bounds.{IsBounded}
use Rattle.sorted_file.specs.declared.block.BlockRow.{BlockRow}
use Rattle.sorted_file.specs.declared.format.RowRef.{RowRef}
use Rattle.sorted_file.specs.declared.format.Format.{Format}

-- the bytes of a row of the index
abbrev pub row_bytes : Format → RowRef → List ℕ
row_bytes format row =
    number_bytes format row.offset ++ (number_bytes format row.length ++ field row.first.now)

-- the entries of a row's block, as they were when the file was opened
abbrev pub block_of : BlockRow → List Entry
block_of row = entries_of row.was.value

abbrev pub blocks_of : List BlockRow → List (List Entry)
blocks_of rows = map block_of rows

-- the entries of blocks, one block after the other
abbrev pub entries_in : List (List Entry) → List Entry
entries_in blocks = flat_map (λ es. es) blocks

-- the text of the first entry, if there is one
abbrev pub IsFirstText : List ℕ → List Entry → Type 0
IsFirstText name [] = Unit {0}
IsFirstText name (e ∷ es) = name ≡ e.0

-- a row is right for its block, at this offset
pub record IsRowAt (at : ℕ) (row : BlockRow) : Type 0 where
  pub offset : row.offset ≡ at
  pub length : row.length ≡ length (block_bytes (block_of row))
  pub first : IsFirstText row.first.items (block_of row)

-- the rows are right for their blocks, one behind another, the first of which is at this offset
abbrev pub AreRows : ℕ → List BlockRow → Type 0
AreRows at [] = Unit {0}
AreRows at (row ∷ rows) = IsRowAt at row × AreRows (at + length (block_bytes (block_of row))) rows

-- the bounds of a row contain the entries of its block
abbrev pub IsBoundedRow : BlockRow → Type 0
IsBoundedRow row = AllByRecursion (IsBounded row.bounds) (block_of row)

-- the number of rows with a first text at or below this text (the upper bound)
abbrev pub IsRowPosition : List ℕ → List BlockRow → ℕ → Type 0
IsRowPosition text [] zero = ⊤
IsRowPosition text [] (suc i) = ⊥
IsRowPosition text (row ∷ rows) zero = byte_cmp text row.first.items ≡ Less
IsRowPosition text (row ∷ rows) (suc i) =
    (byte_cmp text row.first.items ≢ Less) × IsRowPosition text rows i

-- a row's first text as an entry, so that IsRising says that first texts are in ascending order
abbrev pub first_of : BlockRow → Entry
first_of row = (row.first.items, None)

-- a row has the text of its block's last entry
abbrev pub IsLastRow : BlockRow → Type 0
IsLastRow row = IsLastText (block_of row) row.last.items

-- a row's last text as an entry
abbrev pub last_of : BlockRow → Entry
last_of row = (row.last.items, None)

-- the number of the first row with a last text at or above this text: its block has the first entry at or above it
abbrev pub IsBlockNumber : List ℕ → List BlockRow → ℕ → Type 0
IsBlockNumber text rows number = IsPlace text (map last_of rows) number

-- the contents are known and have these bytes under a name
abbrev pub Tells : Option Contents → ℕ → List ℕ → Type 0
Tells disk name image = IsSomeAnd disk (λ m. map.get m name ≡ Some image)

-- a row's block is in an image, at the row's offset
pub record IsBlockIn (image : List ℕ) (row : BlockRow) : Type 0 where
  pub list : IsEntryList (block_of row)
  pub within : row.offset + row.length ≤ length image
  pub bytes : part image row.offset row.length ≡ block_bytes (block_of row)

-- under this name there is an image with the blocks of rows
pub record AreBlocksIn (m : Contents) (name : ℕ) (rows : List BlockRow) : Type 0 where
  pub image : List ℕ
  pub there : map.get m name ≡ Some image
  pub each : AllByRecursion (IsBlockIn image) rows
