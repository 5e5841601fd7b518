-- Open files: their entries, and the blocks that they cache.
use Rattle.std.specs.Prelude.{◌≡◌, ℕ, nat_eq, List, Some, None, slice_get, Contains, ◌⊎◌, ◌-◌, ◌≤◌, [], drop, length, map, Option, IfSome, IsSome}
use Rattle.std.specs.Map.{lookup}
use Rattle.std.specs.FinMap as map
use Rattle.std.specs.List.{AllByRecursion}
use Rattle.std.specs.declared.cmp.Ordering.TheVariants.{Less}
use Rattle.cell_key.specs.Entries.{Entry, IsEntryList, IsRising}
use Rattle.cell_key.specs.Keys.{byte_cmp, text}
use Rattle.cell_key.specs.declared.keys.CellKey.{CellKey}
use Rattle.cell_key.specs.declared.keys.Qualifier.TheVariants.{Lock}
use Rattle.file_store.specs.Store.{Contents, part}
use Rattle.lru.specs.LruCache.{LruCache}
use Rattle.sorted_file.specs.Index.{block_of, blocks_of, entries_in, first_of, AreRows, IsBlockNumber, IsRowPosition, IsBoundedRow, IsLastRow, Tells}
use Rattle.sorted_file.specs.Block.{IsParsed, BeginsWith}
use Rattle.sorted_file.specs.Grammar.{block_bytes, IsFile}
use Rattle.sorted_file.specs.Bounds.{IsBounded, IsWithin, column_bounds}
use Rattle.sorted_file.specs.Newest.{at_stamp, IsNewestEntry, IsOutside}
use Rattle.sorted_file.specs.Numbers.{IsLockKeyNumbered, IsNumbered, KeepsLocks, number_of, text_number}
use Rattle.sorted_file.specs.declared.block.BlockRow.{BlockRow}
use Rattle.sorted_file.specs.declared.block.Block.{Block}
use Rattle.sorted_file.specs.declared.format.Format.{Format}
use Rattle.sorted_file.specs.Cursor.{bytes_ahead}
use Rattle.sorted_file.specs.declared.cursor.FileCursor.{FileCursor}
use Rattle.sorted_file.specs.declared.file.SortedFile.{SortedFile}

abbrev pub name_of : SortedFile → ℕ
name_of file = file.name

-- how many entries it has, erasures among them
abbrev pub count_of : SortedFile → ℕ
count_of file = file.count

-- how many bytes its entries take
abbrev pub bytes_of : SortedFile → ℕ
bytes_of file = file.bytes

-- under this name there is an entry list's file, in either format
pub record HasFile (m : Contents) (name : ℕ) : Type 0 where
  pub format : Format
  pub entries : List Entry
  pub image : List ℕ
  pub list : IsEntryList entries
  pub there : map.get m name ≡ Some image
  pub form : IsFile format entries image

-- the entries that a file had when it was opened
abbrev pub listing : SortedFile → List Entry
listing file = entries_in (blocks_of file.rows.items)

-- the entries of an open file over these contents
abbrev pub listed : Contents → SortedFile → List Entry
listed m file = listing file

-- the keys of locks that a file keeps are right for its entries
abbrev pub IsTelling : SortedFile → Type 0
IsTelling file = KeepsLocks file.lock_values.items file.named_locks.items (listing file)

-- each cached block is the block of the row with its number
abbrev pub AreCached : List BlockRow → List (ℕ × Block) → Type 0
AreCached rows cached =
    (e : ℕ × Block) → Contains cached e → (row : BlockRow) → slice_get rows e.0 ≡ Some row
    → IsParsed (block_of row) e.1

-- the block of a number isn't cached
abbrev pub IsUncached : ℕ → List (ℕ × Block) → Type 0
IsUncached number cached = lookup (nat_eq number) cached ≡ None

-- The file of its name is there: it is the file of the entry list that the open file stands for, the rows name its
-- blocks, and all that the open file keeps of them is right.
pub record IsOpen (m : Contents) (file : SortedFile) : Type 0 where
  pub list : IsEntryList (listed m file)
  pub bounds : AllByRecursion (IsBounded file.bounds) (listed m file)
  pub bounded : AllByRecursion IsBoundedRow file.rows.items
  pub numbered : AllByRecursion (IsNumbered file.numbers) (listed m file)
  pub keyed : AllByRecursion (IsLockKeyNumbered file.lock_keys) (listed m file)
  pub locks_kept : IsTelling file
  pub lasts : AllByRecursion IsLastRow file.rows.items
  pub counted : file.count ≡ length (listed m file)
  pub measured : file.bytes ≡ length (block_bytes (listed m file))
  pub format : Format
  pub image : List ℕ
  pub there : map.get m (name_of file) ≡ Some image
  pub form : IsFile format (listed m file) image
  pub rows : AreRows 8 file.rows.items
  pub blocks : form.blocks ≡ blocks_of file.rows.items
  pub cached : AreCached file.rows.items file.cache.entries

-- The block of a row was read from these bytes: at the row's offset and in its whole length they are an entry list that
-- begins with the row's text.
pub record IsReadFrom (image : List ℕ) (row : BlockRow) (es : List Entry) : Type 0 where
  pub list : IsEntryList es
  pub first : BeginsWith row.first.items es
  pub whole : length (part image row.offset row.length) ≡ row.length
  pub bytes : part image row.offset row.length ≡ block_bytes es

-- a block was read from the present bytes under a name
pub record IsReadNow
    (disk : Option Contents) (name : ℕ) (row : BlockRow) (block : Block) : Type 0 where
  pub entries : List Entry
  pub parsed : IsParsed entries block
  pub read : (image : List ℕ) → Tells disk name image → IsReadFrom image row entries

-- An open file is unchanged but for its cache: it has the same name and, over any contents, the same entries. If it was
-- open over these contents, it still is.
pub record IsSameFile (disk : Option Contents) (old new : SortedFile) : Type 0 where
  pub rest : (cache : LruCache ℕ Block) → record new { cache = cache } ≡ record old { cache = cache }
  pub name : name_of new ≡ name_of old
  pub lists : (m : Contents) → listed m new ≡ listed m old
  pub still : IfSome disk (λ m. IsOpen m old → IsOpen m new)

-- the block of a number was read from the present bytes under a file's name
pub record WasRead (disk : Option Contents) (file : SortedFile) (e : ℕ × Block) : Type 0 where
  pub row : BlockRow
  pub named : slice_get file.rows.items e.0 ≡ Some row
  pub read : IsReadNow disk (name_of file) row e.1

-- each block in a file's cache was cached before, or was read from the present bytes under its name
abbrev pub KeepsWhatItRead : Option Contents → SortedFile → SortedFile → Type 0
KeepsWhatItRead disk old new =
    (e : ℕ × Block) → Contains new.cache.entries e
    → Contains old.cache.entries e ⊎ WasRead disk old e

-- By its hashes and bounds, an open file may have an entry of a key. Locks have a hash of each key, other keys one of
-- their column.
pub record MayHaveKey (file : SortedFile) (key : CellKey) : Type 0 where
  pub column : Contains file.numbers (number_of (text key))
  pub lock : key.qualifier ≡ Lock → Contains file.lock_keys (text_number (text key))
  pub bounds : IsWithin (column_bounds file.bounds key.qualifier) key.row key.stamp

-- By its bounds and its first text, a block may have an entry of the key's column at this stamp as its first one at or
-- above the key's text.
pub record MayHaveInBlock (row : BlockRow) (key : CellKey) (lo stamp : ℕ) : Type 0 where
  pub bounds : IsWithin (column_bounds row.bounds key.qualifier) key.row stamp
  pub first : byte_cmp (text key) row.first.items ≡ Less → ¬ IsOutside key lo row.first.items

-- without a read, an open file may have an entry of the key's column in the block of a row, from lo to the key's stamp
pub record MayHaveFrom (file : SortedFile) (row : BlockRow) (key : CellKey) (lo : ℕ) : Type 0 where
  pub stamp : ℕ
  pub from : lo ≤ stamp
  pub to : stamp ≤ key.stamp
  pub in_file : MayHaveKey file (at_stamp key stamp)
  pub in_block : MayHaveInBlock row key lo stamp

-- The first block with an entry at or above the key's text, if an entry was found or the block may have one, is in the
-- present bytes under the file's name, unless it was cached: they have an entry list at the row's offset, and what was
-- found is its newest entry of the key's column from lo to the key's stamp.
abbrev pub IsFoundNow
    : Option Contents → SortedFile → CellKey → ℕ → Option (ℕ × Option (List ℕ)) → Type 0
IsFoundNow disk file key lo found =
    (m : Contents) → IsOpen m file → (number : ℕ) (row : BlockRow) (image : List ℕ)
    → IsBlockNumber (text key) file.rows.items number → slice_get file.rows.items number ≡ Some row
    → IsSome found ⊎ MayHaveFrom file row key lo
    → IsUncached number file.cache.entries → Tells disk (name_of file) image
    → (es : List Entry) × IsReadFrom image row es × IsNewestEntry es key lo found

-- An open file stays open and has the same entries, as long as the bytes under its name don't change.
abbrev pub StaysOpen : Type 0
StaysOpen =
    (m n : Contents) (file : SortedFile) → IsOpen m file
    → map.get n (name_of file) ≡ map.get m (name_of file)
    → IsOpen n file × (listed n file ≡ listed m file)

-- two open files with one name have the same entries
abbrev pub OneListing : Type 0
OneListing =
    (m : Contents) (f g : SortedFile) → IsOpen m f → IsOpen m g → name_of f ≡ name_of g
    → listed m f ≡ listed m g

-- under the name of an open file there is an entry list's file
abbrev pub OpenIsThere : Type 0
OpenIsThere = (m : Contents) (file : SortedFile) → IsOpen m file → HasFile m (name_of file)

-- under the name of a written file there is an entry list's file
abbrev pub WrittenIsThere : Type 0
WrittenIsThere =
    (m : Contents) (name : ℕ) (format : Format) (entries : List Entry) (image : List ℕ)
    → IsEntryList entries → IsFile format entries image → map.get m name ≡ Some image
    → HasFile m name

-- a file that is open under the name of a written file has its entries
abbrev pub WrittenIsListed : Type 0
WrittenIsListed =
    (m : Contents) (file : SortedFile) (format : Format) (entries : List Entry) (image : List ℕ)
    → IsOpen m file → IsFile format entries image → map.get m (name_of file) ≡ Some image
    → listed m file ≡ entries

-- A cursor of a file before the first entry at or above a text: it has read nothing, and its rows are the file's from
-- the block on that may have the text.
pub record IsCursorOf (file : SortedFile) (text : List ℕ) (cursor : FileCursor) : Type 0 where
  pub name : cursor.name ≡ name_of file
  pub from : cursor.from.now ≡ text
  pub ahead : bytes_ahead cursor ≡ []
  pub number : ℕ
  pub rows : cursor.rows.now ≡ drop (number - 1) file.rows.items
  pub place : IsRising (map first_of file.rows.items) → IsRowPosition text file.rows.items number
