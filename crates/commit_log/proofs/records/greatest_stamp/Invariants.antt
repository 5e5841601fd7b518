use Rattle.std.proofs.Common.{take}
use Rattle.commit_log.specs.Frames.{bytes_of}
use Rattle.commit_log.specs.Records.{IsGreatest}
use Rattle.commit_log.proofs.records.greatest_stamp.Given as goal

-- it is the greatest of the first records
abbrev pub invariant-loop-record : goal.invariant-loop-record
invariant-loop-record l = IsGreatest l.mark (bytes_of (take l.record-index l.records)) l.greatest
