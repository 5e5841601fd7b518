-- The other end of a wire: what is seen of it, and what its answers say.
use Rattle.std.specs.FinMap.{empty, get}
use Rattle.std.specs.Prelude.{◌≡◌, ◌+◌, ℕ, List, Option, Some, None, IfSome, ⊤}
use Rattle.cell_key.specs.Cells.{Cells, IsEditOf, after_edits, edited_key}
use Rattle.cell_key.specs.declared.edits.Edit.{Edit}
use Rattle.cell_key.specs.declared.keys.CellKey.{CellKey}
use Rattle.cell_key.specs.declared.refusals.Refusal.{Refusal}
use Rattle.cell_key.specs.declared.refusals.Refusal.TheVariants.{Device, NoMemory}
use Rattle.remote_rows.specs.declared.wire.FetchedRow.{FetchedRow}
use Rattle.remote_rows.specs.declared.wire.Swap.{Swap}
use Rattle.remote_rows.specs.declared.wire.Swap.TheVariants.{Done, Raced}

-- A view of the rows at the other end.
pub record WireView (W : Type 0) : Type 1 where
  -- their cells, if the other end tells them: then nobody else changes them
  pub cells : W → Option Cells
  -- the guard of each row
  pub guard : W → List ℕ → ℕ

-- no cell and no guard is changed
pub record KeepsRows {W : Type 0} (seen : WireView W) (old new : W) : Type 0 where
  pub cells : seen.cells new ≡ seen.cells old
  pub guard : (row : List ℕ) → seen.guard new row ≡ seen.guard old row

-- the row is the same in both
abbrev pub IsSameRow : List ℕ → Cells → Cells → Type 0
IsSameRow row a b = (key : CellKey) → key.row ≡ row → get b key ≡ get a key

-- a row as it is in the cells, with its guard: its edits make it from nothing
pub record IsRowOf (cells : Cells) (guard : ℕ) (row : List ℕ) (fetched : FetchedRow) : Type 0 where
  pub guard_is : fetched.guard ≡ guard
  pub same : IsSameRow row cells (after_edits empty fetched.edits.items)

-- an edit of any row, within the limits
abbrev pub IsEdit : Edit → Type 0
IsEdit edit = IsEditOf (edited_key edit).row edit

-- the edits were made
abbrev pub IsDone : Swap → Type 0
IsDone Done = ⊤
IsDone Raced = ⊥

-- if the guard is the row's, the cells are those after the edits
abbrev pub Makes : {W : Type 0} → WireView W → List ℕ → ℕ → List Edit → W → W → Type 0
Makes seen row guard edits old new =
    guard ≡ seen.guard old row
    → IfSome (seen.cells old) (λ cells. seen.cells new ≡ Some (after_edits cells edits))

-- the refusals of a wire: a device's fault, or no memory
abbrev pub IsWireRefusal : Refusal → Type 0
IsWireRefusal Device = ⊤
IsWireRefusal NoMemory = ⊤
IsWireRefusal _ = ⊥

-- A stamp is drawn at the other end. If nobody else draws there, it is the next one.
pub record DrawsNext (old : Option ℕ) (stamp : ℕ) (new : Option ℕ) : Type 0 where
  pub next : IfSome old (λ last. stamp ≡ last + 1)
  pub becomes : IfSome old (λ _. new ≡ Some stamp)
  pub untold : old ≡ None → new ≡ None
