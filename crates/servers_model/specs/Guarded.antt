-- What is trusted of the engine that keeps the rows, and what a server must do to read and change a row at one moment.
use Rattle.std.specs.FinMap.{get}
use Rattle.std.specs.List.{AllByRecursion}
use Rattle.std.specs.Prelude.{◌≡◌, ◌≢◌, ◌≤◌, ◌+◌, ℕ, List, Option, Some, slice_get}
use Rattle.cell_key.specs.Cells.{Cells, IsEditOf, IsNewest, after_edits, version}
use Rattle.cell_key.specs.declared.edits.Edit.{Edit}
use Rattle.cell_key.specs.declared.keys.CellKey.{CellKey}
use Rattle.cell_key.specs.declared.keys.Qualifier.{Qualifier}
use Rattle.si_model.specs.Machine.{Request, Reply}
use Rattle.servers_model.specs.Servers.{Server}
use Rattle.servers_model.specs.Serves.{Serves}

-- An engine: its cells and the guard of each row, at each moment. It is trusted that a guard never falls, and that a
-- row whose guard is unchanged is unchanged.
pub record Engine : Type 0 where
  pub cells : ℕ → Cells
  pub guard : ℕ → List ℕ → ℕ
  pub rises : (moment : ℕ) (row : List ℕ) → guard moment row ≤ guard (moment + 1) row
  pub guards : (moment : ℕ) (key : CellKey) → guard (moment + 1) key.row ≡ guard moment key.row
      → get (cells (moment + 1)) key ≡ get (cells moment) key

-- A server reads a row at some moments, and then changes it by edits, which may be none: its change is made only if at
-- that moment the row's guard is what it was at each reading. Otherwise nothing is changed and nothing is answered.
pub record ReadsThenChanges (engine : Engine) (row : List ℕ) (edits : List Edit)
    (readings : List ℕ) (moment : ℕ) : Type 0 where
  pub asks : (k reading : ℕ) → slice_get readings k ≡ Some reading
      → (reading ≤ moment) × (engine.guard moment row ≡ engine.guard reading row)
  pub under : AllByRecursion (IsEditOf row) edits
  pub makes : engine.cells (moment + 1) ≡ after_edits (engine.cells moment) edits

-- the row is the same in both
abbrev pub IsSameRow : List ℕ → Cells → Cells → Type 0
IsSameRow row old new = (key : CellKey) → key.row ≡ row → get new key ≡ get old key

-- What was read is so at the moment of the change. The row is then as the edits make what was read, and no other row
-- changes.
pub record IsOneMoment (engine : Engine) (row : List ℕ) (edits : List Edit) (reading moment : ℕ)
    : Type 0 where
  pub same : IsSameRow row (engine.cells reading) (engine.cells moment)
  pub reads : (family : List ℕ) (qualifier : Qualifier) (low high : ℕ)
      (found : Option (ℕ × List ℕ))
      → IsNewest (engine.cells reading) (version row family qualifier) low high found
      → IsNewest (engine.cells moment) (version row family qualifier) low high found
  pub changes : (key : CellKey) → key.row ≡ row
      → get (engine.cells (moment + 1)) key ≡ get (after_edits (engine.cells reading) edits) key
  pub others : (key : CellKey) → key.row ≢ row
      → get (engine.cells (moment + 1)) key ≡ get (engine.cells moment) key

-- each reading and the change are at one moment
abbrev pub OneMoment : Type 0
OneMoment =
    (engine : Engine) (row : List ℕ) (edits : List Edit) (readings : List ℕ) (moment : ℕ)
    → ReadsThenChanges engine row edits readings moment
    → (k reading : ℕ) → slice_get readings k ≡ Some reading
    → IsOneMoment engine row edits reading moment

-- A server's promise of a request that has read one row: it holds over all cells in which the row is as it was read.
abbrev pub ServesAsRead : Cells → List ℕ → List Edit → Server → ℕ → Request → Reply → Server → ℕ
    → Type 0
ServesAsRead read row edits server last q r server' last' =
    (cells : Cells) → IsSameRow row read cells
    → Serves cells server last q r (after_edits cells edits) server' last'

-- So the promise holds at the moment of the change, as `Merged` asks of each request.
abbrev pub ServedAtOneMoment : Type 0
ServedAtOneMoment =
    (engine : Engine) (row : List ℕ) (edits : List Edit) (readings : List ℕ) (moment : ℕ)
    (server server' : Server) (last last' : ℕ) (q : Request) (r : Reply)
    → ReadsThenChanges engine row edits readings moment
    → (k reading : ℕ) → slice_get readings k ≡ Some reading
    → ServesAsRead (engine.cells reading) row edits server last q r server' last'
    → Serves (engine.cells moment) server last q r (engine.cells (moment + 1)) server' last'
