use Rattle.si_model.proofs.ScanLaws.{scans_as_gets}
use Rattle.si_model.proofs.laws.scans_as_gets.Goals as goal

pub returns : goal.returns
returns c = scans_as_gets
