use Rattle.std.proofs.Common.{None}
use Rattle.metadata_table.proofs.RangeLemmas.{tablet_range}
use Rattle.metadata_table.proofs.laws.one_range.Goals as goal

pub returns : goal.returns
returns c = λ ps table a b there also same. tablet_range None ps table.distinct a b there also same
