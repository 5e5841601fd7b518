use Rattle.std.proofs.Common.{◌≡◌, take}
use Rattle.commit_log.specs.Frames.{bytes_of}
use Rattle.commit_log.proofs.memory.copy_of.Given as goal

-- the first records are copied
abbrev pub invariant-loop-payload : goal.invariant-loop-payload
invariant-loop-payload l = bytes_of l.found.items ≡ bytes_of (take l.payload-index l.records)
