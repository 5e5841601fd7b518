use Rattle.std.proofs.Common.{None}
use Rattle.metadata_table.proofs.RangeLemmas.{cut_range}
use Rattle.metadata_table.proofs.laws.cut_ranges.Goals as goal

pub returns : goal.returns
returns c = λ ps ps' row n cut. cut_range row n None ps ps' tt cut
