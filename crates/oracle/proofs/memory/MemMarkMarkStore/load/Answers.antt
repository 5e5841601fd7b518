use Rattle.std.proofs.Common.{Ok, ap}
use Rattle.oracle.proofs.memory.MemMarkMarkStore.load.Goals as goal

pub returns-clause-number : goal.returns-clause-number
returns-clause-number c = ap Ok c.self.view_is
