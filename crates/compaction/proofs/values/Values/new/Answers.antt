use Rattle.std.proofs.Common.{refl}
use Rattle.compaction.proofs.values.Values.new.Goals as goal

pub returns-clause-source : goal.returns-clause-source
returns-clause-source g c = refl

pub returns-clause-keep : goal.returns-clause-keep
returns-clause-keep g c = refl
