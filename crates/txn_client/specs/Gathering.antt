-- The state of a scan: its items and its progress.
use Rattle.std.specs.Prelude.{◌≡◌, ℕ, ◌≤◌, Bool, List, length, map, Option, Some, None, IsSome, option_map}
use Rattle.std.specs.List.{AllByRecursion, last_or}
use Rattle.std.specs.Option.{option_or}
use Rattle.cell_key.specs.Cells.{Cells}
use Rattle.cell_key.specs.Places.{IsNextCell}
use Rattle.si_model.specs.Machine.{Range, Item}
use Rattle.si_model.specs.Replies.{item_of}
use Rattle.si_model.specs.Scans.{IsAfterCell, IsBetween, IsOfFamily, IsUpToRow, Rise, Says, items_length, most_items, place_at}
use Rattle.si_model.specs.Sets.{◌∈◌}
use Rattle.si_model.specs.declared.replies.Cell.{Cell}
use Rattle.txn_client.specs.Ranges.{range_named}
use Rattle.txn_client.specs.Scans.{DoesNotFit, IsLastCell, IsReadAs, LooksAt}
use Rattle.si_model.specs.Takings.{IsNamed}
use Rattle.txn_client.specs.declared.scan.Batch.{Batch}
use Rattle.txn_client.specs.declared.scan.Batch.TheVariants.{Done, End, Full}
use Rattle.txn_client.specs.declared.scan.Gathered.{Gathered}
use Rattle.txn_client.specs.declared.scan.Scan.{Scan}

abbrev pub items_in : Gathered → List (Cell × Item)
items_in gathered = map item_of gathered.items.items

-- the last cell: the one skipped since the last item, or else the last item's
abbrev pub last_of : Gathered → Option Cell
last_of gathered =
    option_or gathered.passed (option_map (λ item. item.0) (last_or None (items_in gathered)))

-- its counts are right, and no limit is exceeded
pub record IsInLimits (gathered : Gathered) : Type 0 where
  pub bytes : gathered.bytes ≡ items_length (items_in gathered)
  pub short : gathered.bytes ≤ most_items
  pub names : AllByRecursion (λ item. IsNamed item.0) (items_in gathered)
  pub few : length (items_in gathered) ≤ gathered.looked
  pub looked : gathered.looked ≤ gathered.cells
  pub begun : 1 ≤ gathered.looked → IsSome (last_of gathered)
  pub last : (x : Cell) → last_of gathered ≡ Some x → IsNamed x

-- the cells of the range up to the last one were looked at, and the items say what reads find
pub record HasGathered (cells : Cells) (s : ℕ) (range : Range) (keys_only : Bool)
    (items : List (Cell × Item)) (looked : ℕ) (last : Option Cell) : Type 0 where
  pub said : (x : Cell) → IsAfterCell range.after x → ¬ IsAfterCell last x
      → IsOfFamily range.family x.family → (said : Option Item) → Says items x said
      → IsReadAs cells s keys_only x said
  pub between : (x : Cell) (item : Item) → (x, item) ∈ items → IsBetween range x
  pub family : (x : Cell) (item : Item) → (x, item) ∈ items → IsOfFamily range.family x.family
  pub passed : (x : Cell) (item : Item) → (x, item) ∈ items → ¬ IsAfterCell last x
  pub rises : Rise range.after items
  pub looks : LooksAt cells range looked last

-- the same for the state of this scan
abbrev pub Gathers : Cells → Scan → Gathered → Type 0
Gathers cells scan gathered =
    HasGathered cells scan.start (range_named scan.range) scan.keys_only (items_in gathered)
    gathered.looked (last_of gathered)

-- the cell is the next one, and is not after the end of the range
pub record IsNextIn (cells : Cells) (scan : Scan) (gathered : Gathered) (x : Cell) : Type 0 where
  pub next : IsNextCell cells (option_map place_at (last_of gathered)) (Some (place_at x))
  pub up_to : IsUpToRow scan.range.end x.row

-- the outcome of a batch
abbrev pub HasCome : Cells → Scan → Gathered → Batch → Type 0
HasCome cells scan gathered Done = Gathers cells scan gathered
HasCome cells scan gathered End =
    Gathers cells scan gathered × IsLastCell cells (range_named scan.range) (last_of gathered)
HasCome cells scan gathered Full =
    Gathers cells scan gathered
    × DoesNotFit cells scan.start (range_named scan.range) scan.keys_only (items_in gathered)
    (last_of gathered)
