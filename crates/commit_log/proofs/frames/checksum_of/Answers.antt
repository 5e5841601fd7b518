use Rattle.std.proofs.Common.{rules}
use Rattle.commit_log.specs.Frames.{checksum}
use Rattle.commit_log.proofs.frames.checksum_of.Goals as goal

pub returns : goal.returns
unfolding checksum
returns c = search rules
