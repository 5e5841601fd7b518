-- Cells gathered from entries that arrive in order.
use Rattle.std.specs.Prelude.{◌≡◌, ◌⊎◌, ◌≤◌, ◌-◌, ℕ, Bool, true, List, ◌++◌, ◌∷◌, [], length, take, Option, None, Some, IfSome}
use Rattle.std.specs.List.{slice_get, AllByRecursion}
use Rattle.cell_key.specs.Entries.{Entry, IsEntryList, cells_of}
use Rattle.cell_key.specs.Keys.{text, IsStored}
use Rattle.cell_key.specs.Places.{AreNext, HasCell, Place, last_or, place_of}
use Rattle.cell_key.specs.Texts.{place_text}
use Rattle.cell_key.specs.declared.keys.CellKey.{CellKey}
use Rattle.cell_key.specs.declared.refusals.Refusal.{Refusal}
use Rattle.cell_key.specs.declared.refusals.Refusal.TheVariants as refused
use Rattle.rows.specs.Batches.{HasNewest, bytes_in, place_in, places_in}
use Rattle.tablet.specs.Reads.{IsNextIn, IsStoredPlace}
use Rattle.rows.specs.declared.batches.CellVersions.{CellVersions}
use Rattle.tablet.specs.declared.gathering.Gathering.{Gathering}

-- the refusals of gathering entries that were read: there is no memory, or a file is damaged
abbrev pub IsGatheringRefusal : Refusal → Type 0
IsGatheringRefusal refusal = (refusal ≡ refused.NoMemory) ⊎ (refusal ≡ refused.Damaged)

-- the entries have a key of the cell, and its versions are the newest at or below a stamp
pub record IsShown (es : List Entry) (hi : ℕ) (found : CellVersions) : Type 0 where
  pub some : HasCell (cells_of es) (place_in found)
  pub newest : HasNewest (cells_of es) hi found

-- These are the first cells of the entries, in order, with their newest versions at or below a stamp. If `is_last`, no
-- cell comes after them.
pub record AreVersionsIn (es : List Entry) (hi : ℕ) (found : List CellVersions)
    (is_last : Bool) : Type 0 where
  pub next : AreNext (IsNextIn es) None (length found) (places_in found)
  pub shown : AllByRecursion (IsShown es hi) found
  pub last : is_last ≡ true → IsNextIn es (last_or None (places_in found)) None

-- the bytes are the text of a key of the place
pub record IsTextOf (bytes : List ℕ) (place : Place) : Type 0 where
  pub key : CellKey
  pub stored : IsStored key
  pub at : place_of key ≡ place
  pub is : bytes ≡ text key

-- the bytes are the text of the cell's place
pub record HasPlaceText (cell : CellVersions) (bytes : List ℕ) : Type 0 where
  pub place : IsStoredPlace (place_in cell)
  pub text : bytes ≡ place_text cell.row cell.family

-- the bytes begin with `start`
abbrev pub BeginsWith : List ℕ → List ℕ → Type 0
BeginsWith start bytes = (rest : List ℕ) × (bytes ≡ start ++ rest)

-- the cell stays correct whatever entries follow
abbrev pub IsWhole : List Entry → ℕ → CellVersions → Type 0
IsWhole es hi found = (more : List Entry) → IsEntryList (es ++ more) → IsShown (es ++ more) hi found

-- the cell is correct for the entries up to now, and these bytes are the text of its place
pub record IsShownSoFar (es : List Entry) (hi : ℕ) (bytes : List ℕ) (cell : CellVersions) : Type 0 where
  pub text : HasPlaceText cell bytes
  pub shown : IsShown es hi cell

-- the last of some cells, and those before it
abbrev pub last_of : List CellVersions → Option CellVersions
last_of found = slice_get found (length found - 1)

abbrev pub before_last : List CellVersions → List CellVersions
before_last found = take (length found - 1) found

-- It gathered the cells of these entries in order. Each but the last is complete. The last one is correct for these
-- entries, and the text of its place is kept.
pub record Gathers (es : List Entry) (gathered : Gathering) : Type 0 where
  pub next : AreNext (IsNextIn es) None (length gathered.cells.items) (places_in gathered.cells.items)
  pub none : IsNextIn es (last_or None (places_in gathered.cells.items)) None
  pub whole : AllByRecursion (IsWhole es gathered.hi) (before_last gathered.cells.items)
  pub last : IfSome (last_of gathered.cells.items)
      (IsShownSoFar es gathered.hi gathered.place.items)

-- The cell of a key's text was appended, and the text of its place is kept. If no earlier entry has a key of the cell,
-- its versions are the newest of those entries and this value.
pub record Begins (bytes value : List ℕ) (old new : Gathering) : Type 0 where
  pub cell : CellVersions
  pub after : new.cells.items ≡ old.cells.items ++ cell ∷ []
  pub text : HasPlaceText cell new.place.items
  pub of : IsTextOf bytes (place_in cell)
  pub newest : (es : List Entry) → IsEntryList (es ++ (bytes, Some value) ∷ [])
      → ¬ HasCell (cells_of es) (place_in cell)
      → HasNewest (cells_of (es ++ (bytes, Some value) ∷ [])) new.hi cell

-- it has no more cells than its limit, and `room` is right
pub record IsWithin (gathered : Gathering) : Type 0 where
  pub cells : length gathered.cells.items ≤ gathered.limits.cells
  pub room : gathered.room ≡ gathered.limits.bytes - bytes_in (before_last gathered.cells.items)

-- its limits are unchanged
pub record KeepsLimits (old new : Gathering) : Type 0 where
  pub hi : new.hi ≡ old.hi
  pub limits : new.limits ≡ old.limits
