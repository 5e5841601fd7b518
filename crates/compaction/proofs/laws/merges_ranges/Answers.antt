use Rattle.compaction.proofs.Ranges.{merges_ranges}
use Rattle.compaction.proofs.laws.merges_ranges.Goals as goal

pub returns : goal.returns
returns c = merges_ranges c.merges_lists.ensures
