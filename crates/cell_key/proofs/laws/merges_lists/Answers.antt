use Rattle.cell_key.proofs.EntryLaws.{merges_lists}
use Rattle.cell_key.proofs.laws.merges_lists.Goals as goal

pub returns : goal.returns
returns c = merges_lists
