use Rattle.std.proofs.Common.{refl}
use Rattle.oracle.proofs.stamps.Oracle.open.Goals as goal

pub returns-in-Ok-clause-mark : goal.returns-in-Ok-clause-mark
returns-in-Ok-clause-mark g c = c.in-Ok.ensures.stored

pub returns-in-Ok-clause-range : goal.returns-in-Ok-clause-range
returns-in-Ok-clause-range g c = refl
