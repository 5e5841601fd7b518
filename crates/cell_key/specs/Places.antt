-- Places of cells, and the next cells after a place.
use Rattle.std.specs.Prelude.{◌≡◌, ◌≤◌, ◌-◌, ℕ, List, [], ◌∷◌, Option, Some, None, IsSome, ⊤}
use Rattle.std.specs.Borrow.{Bor}
use Rattle.std.specs.declared.cmp.Ordering.{Ordering}
use Rattle.std.specs.declared.cmp.Ordering.TheVariants.{Less}
use Rattle.std.specs.Ordering.{on, then_cmp}
use Rattle.std.specs.FinMap.{get}
use Rattle.cell_key.specs.Keys.{byte_cmp}
use Rattle.cell_key.specs.Cells.{Cells}
use Rattle.cell_key.specs.Names.{IsRow, IsFamily}
use Rattle.cell_key.specs.Texts.{place_text}
use Rattle.cell_key.specs.declared.keys.CellKey.{CellKey}

-- a row and a family
abbrev pub Place : Type 0
Place = List ℕ × List ℕ

-- the place of a row and a family
abbrev pub place_named : Bor (List ℕ) × Bor (List ℕ) → Place
place_named names = (names.0.now, names.1.now)

-- the place of a key's cell
abbrev pub place_of : CellKey → Place
place_of key = (key.row, key.family)

-- the bytes are the text of a row and a family within their limits
pub record IsPlaceText (bytes : List ℕ) : Type 0 where
  pub row : List ℕ
  pub family : List ℕ
  pub is_row : IsRow row
  pub is_family : IsFamily family
  pub is : bytes ≡ place_text row family

-- different places have different texts
abbrev pub OnePlaceAText : Type 0
OnePlaceAText =
    (row family row' family' : List ℕ) → IsFamily family → IsFamily family'
    → place_text row family ≡ place_text row' family'
    → (row ≡ row') × (family ≡ family')

-- the order of rows, and then of families
abbrev pub place_cmp : Place → Place → Ordering
place_cmp =
    then_cmp (on (λ (place : Place). place.0) byte_cmp) (on (λ (place : Place). place.1) byte_cmp)

-- a place comes after another one; all places come after None
abbrev pub IsAfter : Option Place → Place → Type 0
IsAfter None place = ⊤
IsAfter (Some before) place = place_cmp before place ≡ Less

-- a cell map has a key in a place
pub record HasCell (cells : Cells) (place : Place) : Type 0 where
  pub key : CellKey
  pub at : place_of key ≡ place
  pub some : IsSome (get cells key)

-- found is the first place after the given one in which a cell map has a key, or None if there is none
abbrev pub IsNextCell : Cells → Option Place → Option Place → Type 0
IsNextCell cells after None = (place : Place) → IsAfter after place → ¬ (HasCell cells place)
IsNextCell cells after (Some found) =
    IsAfter after found × HasCell cells found × ((place : Place) → IsAfter after place
    → place_cmp place found ≡ Less → ¬ (HasCell cells place))

-- Each place is the next after the one before it. There are `most` of them, or fewer if there is no next one.
abbrev pub AreNext : (Option Place → Option Place → Type 0) → Option Place → ℕ → List Place → Type 0
AreNext IsNext after most [] = 1 ≤ most → IsNext after None
AreNext IsNext after most (found ∷ rest) =
    (1 ≤ most) × IsNext after (Some found) × AreNext IsNext (Some found) (most - 1) rest

-- found are the next `most` cells after the given place, or all of them if there are fewer
abbrev pub AreNextCells : Cells → Option Place → ℕ → List Place → Type 0
AreNextCells cells = AreNext (IsNextCell cells)

-- the last of some places, or another one if there are none
abbrev pub last_or : Option Place → List Place → Option Place
last_or other [] = other
last_or other (place ∷ places) = last_or (Some place) places
