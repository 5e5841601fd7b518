-- Scans: the cells that they cover, and their possible answers.
use Rattle.std.specs.Prelude.{◌≡◌, ◌≢◌, ℕ, ◌+◌, ◌<◌, ◌≤◌, ◌⊎◌, ⊤, Bool, true, List, [], ◌∷◌, length, Option, Some, None}
use Rattle.std.specs.declared.cmp.Ordering.TheVariants.{Less}
use Rattle.cell_key.specs.Keys.{byte_cmp}
use Rattle.cell_key.specs.Names.{IsRow, IsFamily}
use Rattle.cell_key.specs.Places.{Place, IsAfter}
use Rattle.si_model.specs.Sets.{◌∈◌}
use Rattle.si_model.specs.Snapshots.{IsSnapshot}
use Rattle.si_model.specs.State.{State, Value, Commit, Range, Item, Valued, Locked, Unsent, Reach, ToEnd, UpTo, Marked}
use Rattle.si_model.specs.declared.replies.Cell.{Cell}

abbrev pub place_at : Cell → Place
place_at x = (x.row, x.family)

-- ---- the cells that it covers

-- x comes after the cell, or after the start
abbrev pub IsAfterCell : Option Cell → Cell → Type 0
IsAfterCell None x = ⊤
IsAfterCell (Some before) x = IsAfter (Some (place_at before)) (place_at x)

-- the row is at or before the end
abbrev pub IsUpToRow : Option (List ℕ) → List ℕ → Type 0
IsUpToRow None row = ⊤
IsUpToRow (Some end) row = byte_cmp end row ≢ Less

abbrev pub IsOfFamily : Option (List ℕ) → List ℕ → Type 0
IsOfFamily None family = ⊤
IsOfFamily (Some wanted) family = family ≡ wanted

-- x is between the ends of the range
pub record IsBetween (range : Range) (x : Cell) : Type 0 where
  pub after : IsAfterCell range.after x
  pub up_to : IsUpToRow range.end x.row

-- the scan has reached x
abbrev pub HasReached : Reach → Cell → Type 0
HasReached ToEnd x = ⊤
HasReached (UpTo last) x = ¬ IsAfter (Some (place_at last)) (place_at x)

-- a scan of the range that reached so far covered x
pub record Covers (range : Range) (reach : Reach) (x : Cell) : Type 0 where
  pub between : IsBetween range x
  pub family : IsOfFamily range.family x.family
  pub reached : HasReached reach x

-- the rows that the range names are within their limits
abbrev pub HasRows : Range → Type 0
HasRows range =
    ((before : Cell) → range.after ≡ Some before → IsRow before.row)
    × ((end : List ℕ) → range.end ≡ Some end → IsRow end)

-- the families that the range names are within their limits
abbrev pub HasFamilies : Range → Type 0
HasFamilies range =
    ((before : Cell) → range.after ≡ Some before → IsFamily before.family)
    × ((family : List ℕ) → range.family ≡ Some family → IsFamily family)

-- ---- its answers

-- the answer for x, given the named cells: an item, or None if x isn't named
abbrev pub Says : List (Cell × Item) → Cell → Option Item → Type 0
Says items x None = (item : Item) → ¬ ((x, item) ∈ items)
Says items x (Some item) = (x, item) ∈ items

-- The answer is right for x as of s: a cell that isn't named has nothing. An answer that x is locked says nothing about
-- its value.
abbrev pub IsSo : List Commit → ℕ → Cell → Option Item → Type 0
IsSo commits s x None = IsSnapshot commits s x None
IsSo commits s x (Some (Valued value)) = IsSnapshot commits s x (Some value)
IsSo commits s x (Some Unsent) = (value : Value) × IsSnapshot commits s x (Some value)
IsSo commits s x (Some (Locked t)) = ⊤

-- ---- its length

-- the bytes of an item without its names and its kind
abbrev pub found_length : Item → ℕ
found_length (Valued value) = 4 + length value
found_length (Locked t) = 8
found_length Unsent = 0

-- the bytes of an item: its row and its family, each after its length, a byte for its kind, and its content
abbrev pub item_length : Cell × Item → ℕ
item_length named = 9 + length named.0.row + length named.0.family + found_length named.1

abbrev pub items_length : List (Cell × Item) → ℕ
items_length [] = 0
items_length (named ∷ rest) = item_length named + items_length rest

-- the most bytes of items in one answer
abbrev pub most_items : ℕ
most_items = 61440

-- ---- its possible answers

-- x has no mark at or below s
abbrev pub IsFreeAt : State → ℕ → Cell → Type 0
IsFreeAt st s x = (t : ℕ) → Marked st x t → s < t

-- A scan with start s may give this answer for x: the right one, if no mark blocks x, or that a mark blocks it.
abbrev pub IsSaid : State → ℕ → Cell → Option Item → Type 0
IsSaid st s x (Some (Locked t)) = Marked st x t × (t ≤ s)
IsSaid st s x said = IsFreeAt st s x × IsSo st.commits s x said

-- the cells are sorted, and all come after this one
abbrev pub Rise : Option Cell → List (Cell × Item) → Type 0
Rise after [] = ⊤
Rise after (named ∷ rest) = IsAfterCell after named.0 × Rise (Some named.0) rest

-- A possible answer of a scan: it answers for each cell that it covers. No covered cell with a value is left out, and
-- no cell without one is named as having one.
pub record IsScanned (st : State) (s : ℕ) (range : Range) (keys_only : Bool) (cells : ℕ)
    (items : List (Cell × Item)) (reach : Reach) : Type 0 where
  pub said : (x : Cell) → Covers range reach x → (said : Option Item) → Says items x said
      → IsSaid st s x said
  -- it names only cells that it covers, each once and in order, and at most this number
  pub covered : (x : Cell) (item : Item) → (x, item) ∈ items → Covers range reach x
  pub rises : Rise range.after items
  pub few : length items ≤ cells
  -- it advances by at least one cell
  pub stops : (last : Cell) → reach ≡ UpTo last → IsBetween range last
  -- it sends no value if only keys are asked for, and otherwise each value whose item alone isn't too long
  pub unsent : keys_only ≡ true → (x : Cell) (value : Value) → ¬ ((x, Valued value) ∈ items)
  pub withheld : (x : Cell) → (x, Unsent) ∈ items → (keys_only ≡ true) ⊎ ((value : Value)
      × IsSnapshot st.commits s x (Some value) × (most_items < item_length (x, Valued value)))
