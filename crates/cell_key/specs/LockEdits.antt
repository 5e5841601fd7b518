-- The edits that remove a lock, with or without a write record.
use Rattle.std.specs.Prelude.{◌≡◌, ℕ, List, [], ◌∷◌}
use Rattle.cell_key.specs.Cells.{version}
use Rattle.cell_key.specs.Columns.{record_text}
use Rattle.cell_key.specs.declared.columns.WriteKind.{WriteKind}
use Rattle.cell_key.specs.declared.edits.Edit.{Edit}
use Rattle.cell_key.specs.declared.edits.Edit.TheVariants.{Put, Erase}
use Rattle.cell_key.specs.declared.keys.CellKey.{CellKey}
use Rattle.cell_key.specs.declared.keys.Qualifier.TheVariants.{Lock, Write}

-- the effect of an edit: it puts bytes at a key, or erases the key
abbrev pub IsPut : Edit → CellKey → List ℕ → Type 0
IsPut (Put at value) key bytes = (at ≡ key) × (value.items ≡ bytes)
IsPut (Erase at) key bytes = ⊥

abbrev pub IsErase : Edit → CellKey → Type 0
IsErase (Erase at) key = at ≡ key
IsErase (Put at value) key = ⊥

-- the two edits that replace the lock of t of a row and a family by the write record of t at c
abbrev pub IsRecording : List ℕ → List ℕ → ℕ → ℕ → WriteKind → List Edit → Type 0
IsRecording row family t c kind (written ∷ lock ∷ []) =
    IsPut written (version row family Write c) (record_text t kind)
    × IsErase lock (version row family Lock t)
IsRecording row family t c kind edits = ⊥

-- the edit that erases such a lock without a write record
abbrev pub IsErasing : List ℕ → List ℕ → ℕ → List Edit → Type 0
IsErasing row family t (lock ∷ []) = IsErase lock (version row family Lock t)
IsErasing row family t edits = ⊥
