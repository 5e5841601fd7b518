-- Cursors of open files: their entries over the contents of files.
use Rattle.std.specs.Prelude.{◌≡◌, ◌≢◌, ℕ, ◌+◌, ◌-◌, ◌<◌, ◌^◌, nat_le, if◌then◌else◌, List, [], ◌∷◌, ◌++◌, length, drop, Option, Some, None, option_map, IfSome, IsSomeAnd}
use Rattle.std.specs.Option.{option_copied}
use Rattle.cell_key.specs.Entries.{Entry, IsEntryList, entries_from, spelled}
use Rattle.file_store.specs.Store.{Contents, bytes_of, part}
use Rattle.sorted_file.specs.Index.{block_of, blocks_of, entries_in, AreBlocksIn}
use Rattle.sorted_file.specs.Grammar.{block_bytes}
use Rattle.sorted_file.specs.Block.{entry_at, BeginsFrom, IsBehind}
use Rattle.sorted_file.specs.Source.{pending}
use Rattle.sorted_file.specs.declared.block.BlockRow.{BlockRow}
use Rattle.sorted_file.specs.declared.cursor.FileCursor.{FileCursor}

-- the longest end of a block's entries that has at most this many bytes
abbrev pub last_within : ℕ → List Entry → List Entry
last_within bytes [] = []
last_within bytes (e ∷ es) =
    if nat_le (length (block_bytes (e ∷ es))) bytes then e ∷ es else last_within bytes es

-- how many bytes of its block are left, and their entries, as they were when the file was opened
abbrev pub block_left : FileCursor → ℕ
block_left s = length s.block.items - s.at

abbrev pub last_of : ℕ → Option BlockRow → List Entry
last_of bytes None = []
last_of bytes (Some row) = last_within bytes (block_of row)

abbrev pub cursor_ahead : FileCursor → List Entry
cursor_ahead s = last_of (block_left s) (option_copied s.row)

-- the current entry, and the remaining ones: the rest of its block, and the later blocks from the cursor's text on
abbrev pub cursor_lent : FileCursor → Option Entry
cursor_lent s = option_map (entry_at s.block.items) s.current

abbrev pub cursor_remaining : Option Contents → FileCursor → List Entry
cursor_remaining disk s =
    cursor_ahead s ++ entries_from s.from.now (entries_in (blocks_of s.rows.now))

-- The contents are known and have the remaining blocks, the bytes left of its block are its remaining entries, and the
-- current and the remaining entries are an entry list.
pub record CursorHolds (disk : Option Contents) (s : FileCursor) : Type 0 where
  pub later : IsSomeAnd disk (λ m. AreBlocksIn m s.name s.rows.now)
  pub small : length s.block.items < 2 ^ 32
  pub ahead : drop s.at s.block.items ≡ block_bytes (cursor_ahead s)
  pub list : IsEntryList (pending (cursor_lent s) (cursor_remaining disk s))

pub cursor_list : (disk : Option Contents) (s : FileCursor) → CursorHolds disk s
    → IsEntryList (pending (cursor_lent s) (cursor_remaining disk s))
cursor_list disk s h = h.list

-- an upper bound of the entries left, as an entry has more than one byte
abbrev pub bytes_left : List BlockRow → ℕ
bytes_left [] = 0
bytes_left (row ∷ rows) = row.length + bytes_left rows

abbrev pub cursor_left : FileCursor → ℕ
cursor_left s = block_left s + bytes_left s.rows.now

-- now a row's block has its whole length, and is entries with texts below this one and then the rest, which begins with
-- an entry at or above it or is empty
pub record IsOpened (m : Contents) (name : ℕ) (from : List ℕ) (row : BlockRow) (rest : List ℕ) : Type 0 where
  pub whole : length (part (bytes_of m name) row.offset row.length) ≡ row.length
  pub behind : IsBehind from (part (bytes_of m name) row.offset row.length) rest
  pub begins : BeginsFrom from rest

-- From these bytes of a block and these rows a step goes to this entry, or to none, and leaves these bytes and rows: it
-- takes an entry from the bytes, or ends as no rows are left, or opens the next row's block.
pub data GoesOn (disk : Option Contents) (name : ℕ) (from : List ℕ)
    : List ℕ → List BlockRow → Option Entry → List ℕ → List BlockRow → Type 0 where
  takes : {e : Entry} {rest : List ℕ} {rows : List BlockRow}
      → GoesOn disk name from (spelled e ++ rest) rows (Some e) rest rows
  ends : GoesOn disk name from [] [] None [] []
  opens : {row : BlockRow} {rows later : List BlockRow} {bytes rest : List ℕ} {lent : Option Entry}
      → IfSome disk (λ m. IsOpened m name from row bytes)
      → GoesOn disk name from bytes rows lent rest later
      → GoesOn disk name from [] (row ∷ rows) lent rest later

-- now the bytes of a row's block are no entry list of the row's length
abbrev pub HasNoBlock : Contents → ℕ → BlockRow → Type 0
HasNoBlock m name row =
    (es : List Entry) → IsEntryList es → length (block_bytes es) ≡ row.length
    → part (bytes_of m name) row.offset row.length ≢ block_bytes es

-- no entry is at the front of bytes of a block
abbrev pub BeginsNoEntry : List ℕ → Type 0
BeginsNoEntry bytes =
    length bytes < 2 ^ 32 → (e : Entry) (rest : List ℕ) → bytes ≢ spelled e ++ rest

-- Entries break off at these bytes of a block and these rows: there are bytes, but no entry at their front; or the next
-- row's block isn't there; or it can be opened, and its entries break off.
pub data BreaksOff (disk : Option Contents) (name : ℕ) (from : List ℕ)
    : List ℕ → List BlockRow → Type 0 where
  garbled : {bytes : List ℕ} {rows : List BlockRow} → bytes ≢ [] → BeginsNoEntry bytes
      → BreaksOff disk name from bytes rows
  missing : {row : BlockRow} {rows : List BlockRow} → IfSome disk (λ m. HasNoBlock m name row)
      → BreaksOff disk name from [] (row ∷ rows)
  behind : {row : BlockRow} {rows : List BlockRow} {bytes : List ℕ}
      → IfSome disk (λ m. IsOpened m name from row bytes) → BreaksOff disk name from bytes rows
      → BreaksOff disk name from [] (row ∷ rows)

-- the bytes left of its block
abbrev pub bytes_ahead : FileCursor → List ℕ
bytes_ahead s = drop s.at s.block.items

-- a step of a cursor over the present contents of files
pub record CursorSteps (disk : Option Contents) (s t : FileCursor) : Type 0 where
  pub name : t.name ≡ s.name
  pub from : t.from.now ≡ s.from.now
  pub goes : GoesOn disk s.name s.from.now (bytes_ahead s) s.rows.now (cursor_lent t)
      (bytes_ahead t) t.rows.now

-- the entries of a cursor break off where it is, over the present contents of files
abbrev pub CursorBreaks : Option Contents → FileCursor → Type 0
CursorBreaks disk s = BreaksOff disk s.name s.from.now (bytes_ahead s) s.rows.now
