-- The refusals of each call.
use Rattle.std.specs.Prelude.{⊤}
use Rattle.cell_key.specs.declared.refusals.Refusal.{Refusal}
use Rattle.cell_key.specs.declared.refusals.Refusal.TheVariants.{BadRow, BadColumn, TooManySessions, UnknownCleaner, MemtableFull, Exhausted, Device, NoMemory, Damaged}

abbrev pub IsBeginRefusal : Refusal → Type 0
IsBeginRefusal BadRow = ⊤
IsBeginRefusal BadColumn = ⊤
IsBeginRefusal TooManySessions = ⊤
IsBeginRefusal Exhausted = ⊤
IsBeginRefusal Device = ⊤
IsBeginRefusal NoMemory = ⊤
IsBeginRefusal Damaged = ⊤
IsBeginRefusal _ = ⊥

-- a step of one cleaner
abbrev pub IsAdvanceRefusal : Refusal → Type 0
IsAdvanceRefusal MemtableFull = ⊤
IsAdvanceRefusal Device = ⊤
IsAdvanceRefusal NoMemory = ⊤
IsAdvanceRefusal Damaged = ⊤
IsAdvanceRefusal _ = ⊥

abbrev pub IsStepRefusal : Refusal → Type 0
IsStepRefusal UnknownCleaner = ⊤
IsStepRefusal refusal = IsAdvanceRefusal refusal

-- The refusals of a row transaction: Damaged only if the row isn't readable.
abbrev pub IsRowRefusal : Type 0 → Refusal → Type 0
IsRowRefusal Readable MemtableFull = ⊤
IsRowRefusal Readable Device = ⊤
IsRowRefusal Readable NoMemory = ⊤
IsRowRefusal Readable Damaged = ¬ Readable
IsRowRefusal Readable _ = ⊥
