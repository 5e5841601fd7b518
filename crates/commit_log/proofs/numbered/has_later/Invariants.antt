use Rattle.std.proofs.Common.{length}
use Rattle.commit_log.specs.Numbered.{HasLater}
use Rattle.commit_log.proofs.numbered.has_later.Given as goal

-- a later frame in the bytes is in the remaining bytes
abbrev pub invariant-loop-place : goal.invariant-loop-place
invariant-loop-place l = record {
  ahead : HasLater l.next l.bytes → HasLater l.next l.rest;
  back : HasLater l.next l.rest → HasLater l.next l.bytes;
}

abbrev pub decreases-loop-place : goal.decreases-loop-place
decreases-loop-place l = length l.rest
