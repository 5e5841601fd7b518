-- Cell maps stored as slots, some of which may be empty.
use Rattle.std.specs.Prelude.{◌≡◌, ◌≢◌, ℕ, List, [], ◌∷◌, Option, Some, None, IsSome}
use Rattle.std.specs.List.{AllByRecursion}
use Rattle.std.specs.declared.vec.Vec.{Vec}
use Rattle.std.specs.FinMap.{empty, insert, remove, get}
use Rattle.std.specs.Map.{lookup}
use Rattle.std.specs.BTreeMap.{is_at}
use Rattle.std.specs.BTreeMap.Range.{IsInRange}
use Rattle.std.specs.Borrow.{Bor}
use Rattle.std.specs.declared.ops.Bound.{Bound}
use Rattle.std.specs.declared.ops.Bound.TheVariants.{Excluded, Unbounded}
use Rattle.std.specs.declared.cmp.Ordering.TheVariants.{Less}
use Rattle.cell_key.specs.Keys.{key_cmp}
use Rattle.cell_key.specs.Cells.{Cells, edited_key, version}
use Rattle.cell_key.specs.declared.keys.CellKey.{CellKey}
use Rattle.cell_key.specs.declared.keys.Qualifier.TheVariants.{Write}
use Rattle.cell_key.specs.declared.edits.Edit.{Edit}
use Rattle.cell_key.specs.Places.{Place}
use Rattle.cell_key.specs.Versions.{HasLimits}

-- the first slot of a key decides; an empty one is no cell
abbrev pub slot_cells : {Z : Type 0} → List (CellKey × Option (Vec ℕ Z)) → Cells
slot_cells [] = empty
slot_cells ((key, None) ∷ slots) = remove (slot_cells slots) key
slot_cells ((key, Some value) ∷ slots) = insert (slot_cells slots) key value.items

-- the slot of a key
abbrev pub slot_at : {X : Type 0} → List (CellKey × X) → CellKey → Option X
slot_at slots key = lookup (is_at (key_cmp key)) slots

-- a key, and the key of an edit, has a slot
abbrev pub HasSlot : {X : Type 0} → List (CellKey × X) → CellKey → Type 0
HasSlot slots key = IsSome (slot_at slots key)

abbrev pub HasEdited : {X : Type 0} → List (CellKey × X) → Edit → Type 0
HasEdited slots edit = HasSlot slots (edited_key edit)

-- no slot is removed
abbrev pub KeepsSlots : {X : Type 0} → List (CellKey × X) → List (CellKey × X) → Type 0
KeepsSlots old new = (key : CellKey) → HasSlot old key → HasSlot new key

-- no slot of these keys has become empty
abbrev pub EmptiesNone : {X : Type 0}
    → (CellKey → Type 0) → List (CellKey × Option X) → List (CellKey × Option X) → Type 0
EmptiesNone IsOne old new =
    (key : CellKey) → IsOne key → slot_at new key ≡ Some None → slot_at old key ≡ Some None

-- no slot is empty
abbrev pub AreFilled : {X : Type 0} → List (CellKey × Option X) → Type 0
AreFilled slots = (key : CellKey) → slot_at slots key ≢ Some None

-- no slot is empty except those of these keys
abbrev pub IsFullBut : {X : Type 0} → List CellKey → List (CellKey × Option X) → Type 0
IsFullBut keys slots =
    (key : CellKey) → AllByRecursion (λ other. other ≢ key) keys → slot_at slots key ≢ Some None

-- between calls no slot is empty, and all cells are within the limits
pub record AreKept {Z : Type 0} (slots : List (CellKey × Option (Vec ℕ Z))) : Type 0 where
  pub full : AreFilled slots
  pub limits : HasLimits (slot_cells slots)

-- a key and the bytes of its value
abbrev pub keyed : {Z : Type 0} → Bor CellKey × Bor (Vec ℕ Z) → CellKey × List ℕ
keyed entry = (entry.0.now, entry.1.now.items)

-- `found` is the first key of a cell map between two bounds, with its value
abbrev pub IsFirstKey : Cells → Bound CellKey → Bound CellKey → Option (CellKey × List ℕ) → Type 0
IsFirstKey cells lo hi None = (key : CellKey) → IsInRange key_cmp lo hi key → get cells key ≡ None
IsFirstKey cells lo hi (Some found) =
    IsInRange key_cmp lo hi found.0 × (get cells found.0 ≡ Some found.1) × ((key : CellKey)
    → IsInRange key_cmp lo hi key → key_cmp key found.0 ≡ Less → get cells key ≡ None)

-- the bound at which the keys after a place begin: the last key of the place has the last qualifier and the least stamp
abbrev pub past : Option Place → Bound CellKey
past None = Unbounded
past (Some place) = Excluded (version place.0 place.1 Write 0)
