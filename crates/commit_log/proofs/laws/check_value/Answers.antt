use Rattle.std.proofs.Common.{refl}
use Rattle.commit_log.specs.Crc32.{crc32}
use Rattle.commit_log.proofs.laws.check_value.Goals as goal

pub returns : goal.returns
unfolding crc32
returns c = refl
