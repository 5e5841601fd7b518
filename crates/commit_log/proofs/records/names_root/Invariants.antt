use Rattle.std.proofs.Common.{take}
use Rattle.commit_log.specs.Frames.{bytes_of}
use Rattle.commit_log.specs.Records.{NamesRoot}
use Rattle.commit_log.proofs.records.names_root.Given as goal

-- the first records don't name the root
abbrev pub invariant-loop-record : goal.invariant-loop-record
invariant-loop-record l = ¬ NamesRoot (bytes_of (take l.record-index l.records)) l.top l.sum
