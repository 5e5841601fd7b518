use Rattle.std.proofs.Common.{◌≡◌, ◌+◌, ◌*◌, ◌≤◌, ◌++◌, length}
use Rattle.std.specs.List.{AllByRecursion}
use Rattle.commit_log.specs.Frames.{bytes_of}
use Rattle.commit_log.specs.Numbered.{IsShort, frames_from}
use Rattle.commit_log.proofs.numbered.read_numbered.Given as goal

-- the records so far and the remaining bytes are all bytes
abbrev pub invariant-loop-payload : goal.invariant-loop-payload
invariant-loop-payload l = record {
  spelled : l.bytes ≡ frames_from l.first (bytes_of l.records.items) ++ l.rest;
  each : AllByRecursion IsShort (bytes_of l.records.items);
  counted : l.next ≡ l.first + length (bytes_of l.records.items);
  within : 16 * length (bytes_of l.records.items) + length l.rest ≤ length l.bytes;
}

abbrev pub decreases-loop-payload : goal.decreases-loop-payload
decreases-loop-payload l = length l.rest
