use Rattle.compaction.proofs.Written.{keeps_one_list}
use Rattle.compaction.proofs.laws.keeps_one_list.Goals as goal

pub returns : goal.returns
returns c = keeps_one_list c.merges_lists.ensures
