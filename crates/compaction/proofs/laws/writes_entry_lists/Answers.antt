use Rattle.compaction.proofs.Written.{writes_entry_lists}
use Rattle.compaction.proofs.laws.writes_entry_lists.Goals as goal

pub returns : goal.returns
returns c = writes_entry_lists
