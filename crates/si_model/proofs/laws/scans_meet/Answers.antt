use Rattle.si_model.proofs.ScanLaws.{scans_meet}
use Rattle.si_model.proofs.laws.scans_meet.Goals as goal

pub returns : goal.returns
returns c = scans_meet
