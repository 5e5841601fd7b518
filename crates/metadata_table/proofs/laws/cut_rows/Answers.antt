use Rattle.metadata_table.proofs.RangeLemmas.{parts_range}
use Rattle.metadata_table.proofs.laws.cut_rows.Goals as goal

pub returns : goal.returns
returns c = parts_range
