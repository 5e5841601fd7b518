use Rattle.metadata_table.proofs.RangeLemmas.{moved_ranges, filed_ranges}
use Rattle.metadata_table.proofs.laws.same_ranges.Goals as goal

pub returns : goal.returns
returns c = λ ps. record { moves = λ n server. moved_ranges n server ps; files = λ n names. filed_ranges n names ps }
