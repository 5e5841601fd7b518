use Rattle.std.proofs.Common.{refl}
use Rattle.oracle.proofs.stamps.Oracle.draw.Goals as goal

pub returns-clause-last : goal.returns-clause-last
returns-clause-last g c = refl
