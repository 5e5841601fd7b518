-- The check of a whole file, block by block, when it is opened.
use Rattle.std.specs.Prelude.{◌≡◌, ℕ, ◌+◌, ◌-◌, ◌≤◌, ◌<◌, List, [], ◌∷◌, ◌++◌, length, take, drop, map, Option, Some}
use Rattle.std.specs.FinMap as map
use Rattle.std.specs.List.{AllByRecursion}
use Rattle.cell_key.specs.Entries.{Entry, IsEntryList, IsRising}
use Rattle.file_store.specs.Store.{Contents, part}
use Rattle.sorted_file.specs.Index.{IsFirstText, blocks_of, entries_in, AreRows, IsBoundedRow, IsLastRow, Tells}
use Rattle.sorted_file.specs.Grammar.{body, foot_len, head, index, most, number_bytes, IsFullBlock, AreBlocks, IsFile}
use Rattle.sorted_file.specs.Block.{IsLastText}
use Rattle.sorted_file.specs.Columns.{AreColumnsOf}
use Rattle.sorted_file.specs.declared.format.RowRef.{RowRef}
use Rattle.sorted_file.specs.declared.format.Format.{Format}
use Rattle.sorted_file.specs.declared.check.Opening.{Opening}

-- The image begins with the format's head; `end` is its foot, and `rows` the index at the offset in the foot.
pub record IsFramed (format : Format) (image rows end : List ℕ) : Type 0 where
  pub at : ℕ
  pub numbers : List ℕ
  pub named : take 8 image ≡ head format
  pub last : end ≡ drop (length image - foot_len format) image
  pub foot : end ≡ number_bytes format at ++ numbers
  pub from : 8 ≤ at
  pub to : at + foot_len format ≤ length image
  pub behind : rows ≡ part image at (length image - foot_len format - at)

-- these blocks were read from an image, and their rows from its index, of which `rest` is left
pub record IsRead
    (format : Format) (image all : List ℕ) (blocks : List (List Entry)) (rest : List ℕ)
    : Type 0 where
  pub bytes : drop 8 image ≡ body blocks ++ drop (8 + length (body blocks)) image
  pub rows : all ≡ index format 8 blocks ++ rest

-- a block can follow the last of these: with the next block's first entry the last one would be too long
abbrev pub IsFollowed : List (List Entry) → List Entry → Type 0
IsFollowed [] next = Unit {0}
IsFollowed (es ∷ []) next = IsFullBlock es (next ∷ [])
IsFollowed (es ∷ fs ∷ blocks) next = IsFollowed (fs ∷ blocks) next

-- an opening has an open file's state of the blocks so far, and the text of the last entry
pub record IsOpening (o : Opening) : Type 0 where
  pub rows_are : AreRows 8 o.rows.items
  pub grammar : AreBlocks (blocks_of o.rows.items)
  pub list : IsEntryList (entries_in (blocks_of o.rows.items))
  pub lasts : AllByRecursion IsLastRow o.rows.items
  pub bounded : AllByRecursion IsBoundedRow o.rows.items
  pub columns : AreColumnsOf o.columns (entries_in (blocks_of o.rows.items))
  pub counted : o.count ≡ length (entries_in (blocks_of o.rows.items))
  pub last : IsLastText (entries_in (blocks_of o.rows.items)) o.last.items
  pub reached : o.end ≡ 8 + length (body (blocks_of o.rows.items))
  pub within : o.end ≤ o.size
  pub small : o.size < most o.format

-- the blocks so far are the first ones of this image, of whose index `rest` is left
pub record IsReading
    (disk : Option Contents) (o : Opening) (image all end rest : List ℕ) : Type 0 where
  pub tells : Tells disk o.name image
  pub size : length image ≡ o.size
  pub framed : IsFramed o.format image all end
  pub read : IsRead o.format image all (blocks_of o.rows.items) rest

-- a block can come next, and this row matches it
pub record IsNext (o : Opening) (row : RowRef) (block : List Entry) : Type 0 where
  pub offset : row.offset ≡ o.end
  pub first : IsFirstText row.first.now block
  pub followed : IsFollowed (blocks_of o.rows.items) block
  pub rising : IsRising (entries_in (blocks_of o.rows.items) ++ block)

-- these bytes are the file of the blocks of an opening
pub record IsFormed (o : Opening) (image : List ℕ) : Type 0 where
  pub form : IsFile o.format (entries_in (blocks_of o.rows.items)) image
  pub blocks : form.blocks ≡ blocks_of o.rows.items

-- under this name there is the file of these blocks
pub record IsWhole (m : Contents) (name : ℕ) (o : Opening) : Type 0 where
  pub image : List ℕ
  pub there : map.get m name ≡ Some image
  pub form : IsFile o.format (entries_in (blocks_of o.rows.items)) image
  pub blocks : form.blocks ≡ blocks_of o.rows.items
