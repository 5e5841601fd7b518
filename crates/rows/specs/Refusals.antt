-- Refusals of the calls of rows.
use Rattle.std.specs.Prelude.{⊤}
use Rattle.cell_key.specs.declared.refusals.Refusal.{Refusal}
use Rattle.cell_key.specs.declared.refusals.Refusal.TheVariants.{MemtableFull, Device, NoMemory, Damaged}

-- the refusals of a read
abbrev pub IsReadRefusal : Refusal → Type 0
IsReadRefusal Device = ⊤
IsReadRefusal NoMemory = ⊤
IsReadRefusal Damaged = ⊤
IsReadRefusal _ = ⊥

-- the refusals of edits for want of room or of memory
abbrev pub IsApplyRefusal : Refusal → Type 0
IsApplyRefusal MemtableFull = ⊤
IsApplyRefusal NoMemory = ⊤
IsApplyRefusal _ = ⊥

-- the refusals of edits of any rows: the same, or a device's fault
abbrev pub IsEditRefusal : Refusal → Type 0
IsEditRefusal Device = ⊤
IsEditRefusal refusal = IsApplyRefusal refusal

-- the refusals of a read: damage only if the rows it reads can't be read
abbrev pub IsRefusalOfRead : Type 0 → Refusal → Type 0
IsRefusalOfRead Readable Damaged = ¬ Readable
IsRefusalOfRead Readable refusal = IsReadRefusal refusal
