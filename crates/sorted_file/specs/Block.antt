-- Blocks of entries: their bytes, and look-ups in them.
use Rattle.std.specs.Prelude.{List, map, option_map, slice_get, ◌≡◌, ◌≢◌, ◌⊎◌, None, ℕ, ◌+◌, ◌<◌, [], ◌∷◌, ◌++◌, length, take, drop, zero, suc, Option, Some, ◌^◌}
use Rattle.std.specs.Int.{w32, from_be_bytes}
use Rattle.std.specs.List.{AllByRecursion}
use Rattle.std.specs.declared.cmp.Ordering.TheVariants.{Greater}
use Rattle.cell_key.specs.Keys.{byte_cmp}
use Rattle.cell_key.specs.Entries.{Entry, IsEntryList, entries_from, spelled}
use Rattle.file_store.specs.Store.{part}
use Rattle.sorted_file.specs.Grammar.{block_bytes, Fits}
use Rattle.cell_key.specs.declared.lent_keys.KeyRef.{KeyRef}
use Rattle.sorted_file.specs.declared.block.Block.{Block}
use Rattle.sorted_file.specs.declared.block.EntryExtent.{EntryExtent}
use Rattle.sorted_file.specs.declared.block.Extent.{Extent}

-- the field at the front: a length of four bytes, and then that many bytes
abbrev pub field_in : List ℕ → List ℕ
field_in bytes = take (from_be_bytes w32 (take 4 bytes)) (drop 4 bytes)

-- the value at the front: none after a byte 0, else a field after another byte
abbrev pub value_in : List ℕ → Option (List ℕ)
value_in [] = None
value_in (zero ∷ bytes) = None
value_in (suc kind ∷ bytes) = Some (field_in bytes)

-- the entry at the front of bytes
abbrev pub entry_in : List ℕ → Entry
entry_in bytes = (field_in bytes, value_in (drop (4 + length (field_in bytes)) bytes))

-- the entries of a block, at its offsets
unfoldable pub entries_of : Block → List Entry
entries_of block = map (λ start. entry_in (drop start block.bytes.items)) block.starts.items

-- the bytes are a block: the spelling of an entry list that fits into one
pub record IsBlock (es : List Entry) (bytes : List ℕ) : Type 0 where
  pub list : IsEntryList es
  pub fits : Fits es
  pub spelled : bytes ≡ block_bytes es

-- the offsets of entries, the first of which is at this offset
abbrev pub starts_from : ℕ → List Entry → List ℕ
starts_from at [] = []
starts_from at (e ∷ es) = at ∷ starts_from (at + length (spelled e)) es

-- the bytes spell an entry list whose entries are at these offsets
pub record IsSpelling (bytes starts : List ℕ) : Type 0 where
  pub entries : List Entry
  pub list : IsEntryList entries
  pub bytes_are : bytes ≡ block_bytes entries
  pub starts_are : starts ≡ starts_from 0 entries

-- a block has the bytes and the entries' offsets of this entry list
pub record IsParsed (es : List Entry) (block : Block) : Type 0 where
  pub list : IsEntryList es
  pub bytes : block.bytes.items ≡ block_bytes es
  pub starts : block.starts.items ≡ starts_from 0 es
  pub small : length (block_bytes es) < 2 ^ 32

-- the text of the last entry, or empty if there is none
abbrev pub IsLastText : List Entry → List ℕ → Type 0
IsLastText [] name = name ≡ []
IsLastText (e ∷ []) name = name ≡ e.0
IsLastText (e ∷ f ∷ es) name = IsLastText (f ∷ es) name

-- the text of the last key, if there is one
abbrev pub last_text : Option KeyRef → List ℕ
last_text None = []
last_text (Some key) = key.text.now

-- the first entry has this text
abbrev pub BeginsWith : List ℕ → List Entry → Type 0
BeginsWith name [] = ⊥
BeginsWith name (e ∷ es) = name ≡ e.0

-- the first entry at or above a text
abbrev pub first_from : List ℕ → List Entry → Option Entry
first_from name es = slice_get (entries_from name es) 0

-- the bytes of an extent, and the entry whose text and value have these extents
abbrev pub bytes_at : List ℕ → Extent → List ℕ
bytes_at bytes extent = part bytes extent.offset extent.length

abbrev pub entry_at : List ℕ → EntryExtent → Entry
entry_at bytes extent = (bytes_at bytes extent.key, option_map (bytes_at bytes) extent.value)

-- the bytes are entries with texts below this one, and then the rest
pub record IsBehind (text bytes rest : List ℕ) : Type 0 where
  pub before : List Entry
  pub below : AllByRecursion (λ e. byte_cmp text e.0 ≡ Greater) before
  pub bytes_are : bytes ≡ block_bytes before ++ rest

-- the bytes begin with an entry at or above this text, or are empty
abbrev pub BeginsFrom : List ℕ → List ℕ → Type 0
BeginsFrom text bytes =
    (bytes ≡ [])
    ⊎ ((e : Entry) × (rest : List ℕ) × (bytes ≡ spelled e ++ rest) × (byte_cmp text e.0 ≢ Greater))
