use Rattle.std.proofs.Common.{◌≡◌, ◌++◌, length}
use Rattle.std.specs.List.{AllByRecursion}
use Rattle.commit_log.specs.Frames.{IsRecord, bytes_of, log_of}
use Rattle.commit_log.proofs.frames.read_log.Given as goal

-- the records so far and the remaining bytes are the whole log
abbrev pub invariant-loop-payload : goal.invariant-loop-payload
invariant-loop-payload l = record {
  spelled : l.bytes ≡ log_of (bytes_of l.records.items) ++ l.rest;
  each : AllByRecursion IsRecord (bytes_of l.records.items);
}

abbrev pub decreases-loop-payload : goal.decreases-loop-payload
decreases-loop-payload l = length l.rest
