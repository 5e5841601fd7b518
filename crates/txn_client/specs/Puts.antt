-- The edits that put a write of a transaction with its record, and no lock.
use Rattle.std.specs.Prelude.{◌≡◌, ⊤, ℕ, List, [], ◌∷◌, Some, None}
use Rattle.cell_key.specs.Columns.{record_text}
use Rattle.cell_key.specs.LockEdits.{IsPut}
use Rattle.cell_key.specs.declared.edits.Edit.{Edit}
use Rattle.cell_key.specs.declared.refusals.Refusal.{Refusal}
use Rattle.cell_key.specs.declared.refusals.Refusal.TheVariants.{MemtableFull, Exhausted, Device, NoMemory}
use Rattle.cell_key.specs.declared.keys.Qualifier.TheVariants.{Data, Write}
use Rattle.rows.specs.declared.row_edits.RowEdits.{RowEdits}
use Rattle.si_model.specs.Machine.{Change, Writes}
use Rattle.si_model.specs.ShowsCells.{key_of, kind_of_change}
use Rattle.si_model.specs.declared.replies.Cell.{Cell}

-- the record at c of a change of x by s
abbrev pub IsRecord : Cell → ℕ → ℕ → Change → Edit → Type 0
IsRecord x s c v edit = IsPut edit (key_of x Write c) (record_text s (kind_of_change v))

-- the edits that put a change of x by s with its record at c: its data, if it is given a value, and the record
abbrev pub IsPutting : Cell → ℕ → ℕ → Change → List Edit → Type 0
IsPutting x s c (Some v) (value ∷ record_put ∷ []) =
    IsPut value (key_of x Data s) v × IsRecord x s c (Some v) record_put
IsPutting x s c None (record_put ∷ []) = IsRecord x s c None record_put
IsPutting x s c v edits = ⊥

-- the edits that put these writes by s with their records at c: those of one row for each write, in their order
abbrev pub ArePuttings : ℕ → ℕ → Writes → List RowEdits → Type 0
ArePuttings s c [] [] = ⊤
ArePuttings s c (w ∷ ws) (change ∷ changes) =
    (change.row ≡ w.0.row) × IsPutting w.0 s c w.1 change.edits.items × ArePuttings s c ws changes
ArePuttings s c [] (change ∷ changes) = ⊥
ArePuttings s c (w ∷ ws) [] = ⊥

-- why they aren't put
abbrev pub IsPutRefusal : Refusal → Type 0
IsPutRefusal MemtableFull = ⊤
IsPutRefusal Exhausted = ⊤
IsPutRefusal Device = ⊤
IsPutRefusal NoMemory = ⊤
IsPutRefusal _ = ⊥
