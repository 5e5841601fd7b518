use Rattle.std.proofs.Common.{refl}
use Rattle.oracle.proofs.memory.MemMarkMarkStore.store.Goals as goal

pub returns-clause-number : goal.returns-clause-number
returns-clause-number c = refl
