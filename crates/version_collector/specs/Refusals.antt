-- The refusals of each call.
use Rattle.std.specs.Prelude.{⊤}
use Rattle.cell_key.specs.declared.refusals.Refusal.{Refusal}
use Rattle.cell_key.specs.declared.refusals.Refusal.TheVariants.{TooManySessions, UnknownCollector, BadCount, MemtableFull, Exhausted, Device, NoMemory, Damaged}

abbrev pub IsBeginRefusal : Refusal → Type 0
IsBeginRefusal TooManySessions = ⊤
IsBeginRefusal Exhausted = ⊤
IsBeginRefusal NoMemory = ⊤
IsBeginRefusal _ = ⊥

-- one visit
abbrev pub IsVisitRefusal : Refusal → Type 0
IsVisitRefusal MemtableFull = ⊤
IsVisitRefusal Device = ⊤
IsVisitRefusal NoMemory = ⊤
IsVisitRefusal Damaged = ⊤
IsVisitRefusal _ = ⊥

abbrev pub IsStepRefusal : Refusal → Type 0
IsStepRefusal UnknownCollector = ⊤
IsStepRefusal BadCount = ⊤
IsStepRefusal refusal = IsVisitRefusal refusal
