use Rattle.commit_log.proofs.Numbering.{damage}
use Rattle.commit_log.proofs.laws.damage_is_told.Goals as goal

pub returns : goal.returns
returns c = damage
