use Rattle.std.proofs.Common.{sym, ap}
use Rattle.sorted_file.specs.Source.{fault_refusal}
use Rattle.sorted_file.proofs.source.refusal_of.Goals as goal

pub returns-in-Device : goal.returns-in-Device
returns-in-Device c = ap fault_refusal (sym c.in-Device.is)

pub returns-in-Memory : goal.returns-in-Memory
returns-in-Memory c = ap fault_refusal (sym c.in-Memory.is)
