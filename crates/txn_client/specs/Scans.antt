-- The result of a scan, in terms of reads of each cell, and how far a scan goes.
use Rattle.std.specs.Prelude.{◌≡◌, ◌⊎◌, ℕ, ◌+◌, ◌<◌, ◌≤◌, Bool, true, List, length, Option, Some, None, option_map}
use Rattle.cell_key.specs.Cells.{Cells}
use Rattle.cell_key.specs.Places.{HasCell, IsNextCell}
use Rattle.cell_key.specs.declared.keys.Qualifier.TheVariants.{Lock}
use Rattle.rows.specs.Calls.{AreReadableFrom, View}
use Rattle.si_model.specs.Machine.{Range, Item, Valued, Locked, Unsent, Reach, ToEnd, UpTo, most_scanned}
use Rattle.si_model.specs.Scans.{Covers, IsAfterCell, IsBetween, IsOfFamily, IsUpToRow, Rise, Says, item_length, items_length, most_items, place_at}
use Rattle.si_model.specs.Sets.{◌∈◌}
use Rattle.si_model.specs.ShowsCells.{IsThere}
use Rattle.si_model.specs.declared.replies.Cell.{Cell}
use Rattle.si_model.specs.declared.replies.Found.TheVariants.{Nothing}
use Rattle.txn_client.specs.Reads.{IsDamaged, IsFound, ReadsValue}

-- a scan may look at this number of cells
abbrev pub IsScanCount : ℕ → Type 0
IsScanCount cells = (1 ≤ cells) × (cells ≤ most_scanned)

-- ---- its answer for a cell

-- a value is left out if only keys are asked for, or if its item alone would be too long
abbrev pub StaysUnsent : Bool → Cell → List ℕ → Type 0
StaysUnsent keys_only x value = (keys_only ≡ true) ⊎ (most_items < item_length (x, Valued value))

-- The answer for x agrees with a read of x by a session that began at s. A cell that isn't named has nothing.
abbrev pub IsReadAs : Cells → ℕ → Bool → Cell → Option Item → Type 0
IsReadAs cells s keys_only x None = IsFound cells x s Nothing
IsReadAs cells s keys_only x (Some (Valued value)) =
    ReadsValue cells x s value × ¬ StaysUnsent keys_only x value
IsReadAs cells s keys_only x (Some (Locked t)) = (t ≤ s) × IsThere cells x Lock t
IsReadAs cells s keys_only x (Some Unsent) =
    (value : List ℕ) × ReadsValue cells x s value × StaysUnsent keys_only x value

-- ---- how far it goes

-- This number of cells that have a key were looked at, in order, from the beginning of the range and none after its
-- end. The cell is the last of them; before the first, it is the one after which the range begins.
pub data LooksAt (cells : Cells) (range : Range) : ℕ → Option Cell → Type 0 where
  begins : LooksAt cells range 0 range.after
  goes_on : {n : ℕ} {last : Option Cell} {x : Cell} → LooksAt cells range n last
      → IsNextCell cells (option_map place_at last) (Some (place_at x)) → IsUpToRow range.end x.row
      → LooksAt cells range (n + 1) (Some x)

-- no cell of the range that has a key comes after the last one
abbrev pub IsLastCell : Cells → Range → Option Cell → Type 0
IsLastCell cells range last =
    (x : Cell) → IsAfterCell last x → HasCell cells (place_at x) → ¬ IsUpToRow range.end x.row

-- the next cell of the range has an item, which would make the items too long
pub record DoesNotFit (cells : Cells) (s : ℕ) (range : Range) (keys_only : Bool)
    (items : List (Cell × Item)) (last : Option Cell) : Type 0 where
  pub cell : Cell
  pub item : Item
  pub next : IsNextCell cells (option_map place_at last) (Some (place_at cell))
  pub up_to : IsUpToRow range.end cell.row
  pub family : IsOfFamily range.family cell.family
  pub read : IsReadAs cells s keys_only cell (Some item)
  pub long : most_items < items_length items + item_length (cell, item)

-- Why it stops: no cell of the range is left; or it has advanced by at least one cell, and has looked at its full count
-- of cells or the next item does not fit. It never looks at more cells than its count.
abbrev pub Stops : Cells → ℕ → Range → Bool → ℕ → List (Cell × Item) → Reach → Type 0
Stops cells s range keys_only count items ToEnd =
    (n : ℕ) × (last : Option Cell) × (n ≤ count) × LooksAt cells range n last
    × IsLastCell cells range last
Stops cells s range keys_only count items (UpTo x) =
    (n : ℕ) × (1 ≤ n) × (n ≤ count) × LooksAt cells range n (Some x)
    × ((n ≡ count) ⊎ DoesNotFit cells s range keys_only items (Some x))

-- The result of a scan of this range that may look at count cells.
pub record IsScanFound (cells : Cells) (s : ℕ) (range : Range) (keys_only : Bool) (count : ℕ)
    (items : List (Cell × Item)) (reach : Reach) : Type 0 where
  -- its answer for each cell that it covers agrees with a read
  pub said : (x : Cell) → Covers range reach x → (said : Option Item) → Says items x said
      → IsReadAs cells s keys_only x said
  -- it names only covered cells, each once and in order
  pub covered : (x : Cell) (item : Item) → (x, item) ∈ items → Covers range reach x
  pub rises : Rise range.after items
  pub few : length items ≤ count
  pub stops : Stops cells s range keys_only count items reach

-- the cells from the beginning of the range on are readable
abbrev pub IsScanReadable : {R : Type 0} → View R → R → Range → Type 0
IsScanReadable seen rows range = AreReadableFrom seen rows (option_map place_at range.after)

-- a cell of the range is damaged
abbrev pub IsScanDamaged : Cells → Range → ℕ → Type 0
IsScanDamaged cells range s = (x : Cell) × IsBetween range x × IsDamaged cells x s
