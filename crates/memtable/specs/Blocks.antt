-- The entries of blocks.
use Rattle.std.specs.Prelude.{◌≡◌, ◌≤◌, ◌<◌, ◌+◌, ⊤, ℕ, zero, suc, Bool, true, false, List, [], ◌∷◌, map, length, set, get_or, vec_len, vec_capacity}
use Rattle.std.specs.declared.boxed.Box.{Box}
use Rattle.std.specs.declared.vec.Vec.{Vec}
use Rattle.std.specs.Ordering.{is_gt}
use Rattle.std.specs.List.{AllByRecursion, flat_map}
use Rattle.cell_key.specs.Keys.{byte_cmp}
use Rattle.cell_key.specs.Entries.{Entry, IsEntryList, IsPlace}
use Rattle.memtable.specs.declared.entries.Slot.{Slot}
use Rattle.memtable.specs.declared.blocks.Block.{Block}
use Rattle.memtable.specs.declared.blocks.Blocks.{Blocks}
use Rattle.memtable.specs.declared.blocks.Place.{Place}
use Rattle.memtable.specs.Slots.{lock_count, slot_entries, value_count}
use Rattle.memtable.specs.Edits.{bytes_of, IsWithinLimits}
use Rattle.memtable.specs.StampRanges.{IsEntryWithin}
use Rattle.memtable.specs.declared.stamp_range.StampRange.{StampRange}

-- whether a list is not empty and its last entry is below this text
abbrev pub ends_below : List ℕ → List Entry → Bool
ends_below name [] = false
ends_below name (e ∷ []) = is_gt (byte_cmp name e.0)
ends_below name (e ∷ f ∷ es) = ends_below name (f ∷ es)

-- the lists before the index end below this text, and the list at the index doesn't
abbrev pub IsBlockIndex : List ℕ → List (List Entry) → ℕ → Type 0
IsBlockIndex name [] zero = ⊤
IsBlockIndex name [] (suc i) = ⊥
IsBlockIndex name (es ∷ lists) zero = ends_below name es ≡ false
IsBlockIndex name (es ∷ lists) (suc i) = (ends_below name es ≡ true) × IsBlockIndex name lists i

-- the entries of a block
abbrev pub list_of : Block → List Entry
list_of block = slot_entries block.slots.items

-- the entries of each block
abbrev pub lists_of : List Block → List (List Entry)
lists_of blocks = map list_of blocks

-- the entries of all blocks
abbrev pub block_entries : List Block → List Entry
block_entries blocks = flat_map list_of blocks

-- a block's count of values is right
abbrev pub IsCounted : Block → Type 0
IsCounted block = block.values ≡ value_count (list_of block)

-- the place of the lower bound of a text: the first block that doesn't end below it, and in that block the first entry
-- at or above it
pub record IsPlaceAmong (name : List ℕ) (blocks : List Block) (place : Place) : Type 0 where
  pub block : IsBlockIndex name (lists_of blocks) place.block
  pub slot : (d : Block) → place.block < length blocks
      → IsPlace name (list_of (get_or blocks place.block d)) place.slot

-- the place behind the last entry of the last block
pub record IsEndOf (blocks : List Block) (place : Place) : Type 0 where
  pub block : place.block + 1 ≡ length blocks
  pub slot : (d : Block) → place.slot ≡ vec_len (get_or blocks place.block d).slots

-- a block has at least one entry, and room for one more
pub record IsEntryBlock (block : Block) : Type 0 where
  pub some : 1 ≤ vec_len block.slots
  pub few : vec_len block.slots < 128
  pub room : 128 ≤ vec_capacity block.slots
  pub counted : IsCounted block

-- the memory of a new block
pub record IsSpare {A Z : Type 0} (spare : Vec (Box Slot A) Z) : Type 0 where
  pub empty : spare.items ≡ []
  pub room : 128 ≤ vec_capacity spare

-- the block at the index is full, and all others have room for one more
pub record IsFullAt (blocks : List Block) (at : ℕ) : Type 0 where
  pub within : at < length blocks
  pub full : (d : Block) → vec_len (get_or blocks at d).slots ≡ 128
  pub counted : (d : Block) → IsCounted (get_or blocks at d)
  pub others : (block : Block) → IsEntryBlock block
      → AllByRecursion IsEntryBlock (set blocks at block)

-- blocks that each have room for one more entry, and spare memory for new blocks
pub record AreEntryBlocks (blocks : Blocks) : Type 0 where
  pub filled : AllByRecursion IsEntryBlock blocks.filled.items
  pub spare : AllByRecursion IsSpare blocks.spare.items

-- this many more entries can be put without an allocation: each of them fills at most one block
pub record HasRoom (count : ℕ) (blocks : Blocks) : Type 0 where
  pub filled : vec_len blocks.filled + count ≤ vec_capacity blocks.filled
  pub spare : count ≤ vec_len blocks.spare

-- the state of a memtable is right for its entries
pub record IsKept (table : Blocks) (len total locked : ℕ) (range : StampRange) : Type 0 where
  pub list : IsEntryList (block_entries table.filled.items)
  pub limits : IsWithinLimits (block_entries table.filled.items)
  pub count : len ≡ length (block_entries table.filled.items)
  pub bytes : total ≡ bytes_of (block_entries table.filled.items)
  pub locks : locked ≡ lock_count (block_entries table.filled.items)
  pub stamps : AllByRecursion (IsEntryWithin range) (block_entries table.filled.items)
  pub blocks : AreEntryBlocks table
