use Rattle.sorted_file.proofs.Filtered.{is_bit}
use Rattle.sorted_file.proofs.filter.is_set.Goals as goal

pub returns : goal.returns
returns c = is_bit c.args.word c.args.bit c.requires
