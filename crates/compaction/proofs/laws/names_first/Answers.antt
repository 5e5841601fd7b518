use Rattle.compaction.proofs.Written.{names_first}
use Rattle.compaction.proofs.laws.names_first.Goals as goal

pub returns : goal.returns
returns c = names_first c.merges_lists.ensures
