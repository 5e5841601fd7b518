use Rattle.metadata_table.proofs.RootLaws as root
use Rattle.metadata_table.proofs.laws.one_measure.Goals as goal

pub returns : goal.returns
returns c = root.one_measure
