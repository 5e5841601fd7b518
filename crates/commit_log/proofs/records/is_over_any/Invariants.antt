use Rattle.std.proofs.Common.{take}
use Rattle.commit_log.specs.Frames.{bytes_of}
use Rattle.commit_log.specs.Records.{HasRecord, any_root}
use Rattle.commit_log.proofs.records.is_over_any.Given as goal

-- the first records don't say so
abbrev pub invariant-loop-record : goal.invariant-loop-record
invariant-loop-record l = ¬ HasRecord (bytes_of (take l.record-index l.records)) any_root
