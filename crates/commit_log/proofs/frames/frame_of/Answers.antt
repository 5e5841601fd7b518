use Rattle.std.proofs.Common.{rules}
use Rattle.commit_log.specs.Frames.{frame}
use Rattle.commit_log.proofs.frames.frame_of.Goals as goal

pub returns : goal.returns
unfolding frame
returns c = search rules
