-- Views of rows, and the effects of calls on them.
use Rattle.std.specs.Prelude.{◌≡◌, ◌≢◌, ◌⊎◌, ℕ, List, ◌++◌, Option, None, Some, ⊤}
use Rattle.std.specs.List.{AllByRecursion}
use Rattle.std.specs.declared.cmp.Ordering.TheVariants.{Less}
use Rattle.cell_key.specs.Cells.{Cells, after_edits}
use Rattle.cell_key.specs.Keys.{byte_cmp}
use Rattle.cell_key.specs.Places.{Place}
use Rattle.cell_key.specs.declared.edits.Edit.{Edit}
use Rattle.rows.specs.Room.{TakesNoRoom}
use Rattle.rows.specs.RowEdits.{all_edits}
use Rattle.rows.specs.Storage.{Storage}
use Rattle.rows.specs.declared.row_edits.RowEdits.{RowEdits}

-- A view of rows, however they are stored.
pub record View (R : Type 0) : Type 1 where
  -- the premise under which answers have a meaning, for instance that each named file exists and is well-formed
  pub holds : R → Type 0
  -- a row can be read; under the premise every row can
  pub readable : R → List ℕ → Type 0
  pub each_readable : (rows : R) → holds rows → (row : List ℕ) → readable rows row
  -- their cells
  pub cells : R → Cells
  -- whether edits of a row would exceed a limit of the memory that holds it; edits of rows stored elsewhere don't count
  pub overfills : R → List ℕ → List Edit → Type 0
  -- the state below the rows in memory: files, names and the places of tablets
  pub storage : R → Storage

-- a row is at or after the row of a place; without a place, any row
abbrev pub IsRowFrom : Option Place → List ℕ → Type 0
IsRowFrom None row = ⊤
IsRowFrom (Some place) row = byte_cmp row place.0 ≢ Less

-- every row that a scan from a place may read can be read
abbrev pub AreReadableFrom : {R : Type 0} → View R → R → Option Place → Type 0
AreReadableFrom seen rows after = (row : List ℕ) → IsRowFrom after row → seen.readable rows row

-- every row that could be read still can
abbrev pub StaysReadable : {R : Type 0} → View R → R → R → Type 0
StaysReadable seen old new = (row : List ℕ) → seen.readable old row → seen.readable new row

-- Nothing is changed: the premise still holds if it did, and rows that could be read still can; the cells are the same,
-- whatever the files hold; no room is used, and the state below is unchanged.
pub record OnlyReads {R : Type 0} (seen : View R) (old new : R) : Type 0 where
  pub still : seen.holds old → seen.holds new
  pub readable : StaysReadable seen old new
  pub kept : seen.cells new ≡ seen.cells old
  pub room : TakesNoRoom seen.overfills old new
  pub stays : seen.storage new ≡ seen.storage old

-- Edits of a row are made: the premise still holds if it did, and rows that could be read still can; if this row could,
-- the cells are those after the edits; only the room of the edits is used, and the state below is unchanged.
pub record Applies {R : Type 0} (seen : View R) (row : List ℕ) (edits : List Edit)
    (old new : R) : Type 0 where
  pub still : seen.holds old → seen.holds new
  pub readable : StaysReadable seen old new
  pub made : seen.readable old row → seen.cells new ≡ after_edits (seen.cells old) edits
  pub room : (r : List ℕ) (later : List Edit) → seen.overfills new r later
      → seen.overfills old r later ⊎ seen.overfills old r (edits ++ later)
  pub stays : seen.storage new ≡ seen.storage old

-- Edits of several rows are made: the premise still holds if it did, and rows that could be read still can; if each of
-- these rows could, the cells are those after all edits, one row after the other; only the room of the edits is used,
-- and the state below is unchanged.
pub record AppliesAll {R : Type 0} (seen : View R) (changes : List RowEdits)
    (old new : R) : Type 0 where
  pub still : seen.holds old → seen.holds new
  pub readable : StaysReadable seen old new
  pub made : AllByRecursion (λ change. seen.readable old change.row) changes
      → seen.cells new ≡ after_edits (seen.cells old) (all_edits changes)
  pub room : (r : List ℕ) (later : List Edit) → seen.overfills new r later
      → seen.overfills old r later ⊎ seen.overfills old r (all_edits changes ++ later)
  pub stays : seen.storage new ≡ seen.storage old

-- edits of a row that are in the relation are made
pub record AppliesSuch {R : Type 0} (seen : View R)
    (Such : List ℕ → List Edit → Type 0) (old new : R) : Type 0 where
  pub row : List ℕ
  pub edits : List Edit
  pub such : Such row edits
  pub applied : Applies seen row edits old new

-- Cells may change, but the premise still holds if it did, rows that could be read still can, and the state below is
-- unchanged.
pub record KeepsBelow {R : Type 0} (seen : View R) (old new : R) : Type 0 where
  pub still : seen.holds old → seen.holds new
  pub readable : StaysReadable seen old new
  pub stays : seen.storage new ≡ seen.storage old
