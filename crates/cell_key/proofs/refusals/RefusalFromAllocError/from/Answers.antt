use Rattle.std.proofs.Common.{refl}
use Rattle.cell_key.proofs.refusals.RefusalFromAllocError.from.Goals as goal

pub returns : goal.returns
returns c = refl
