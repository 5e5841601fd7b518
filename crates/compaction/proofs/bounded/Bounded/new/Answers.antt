use Rattle.std.proofs.Common.{refl}
use Rattle.compaction.proofs.bounded.Bounded.new.Goals as goal

pub returns-clause-source : goal.returns-clause-source
returns-clause-source g c = refl

pub returns-clause-end : goal.returns-clause-end
returns-clause-end g c = refl
