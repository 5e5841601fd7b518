use Rattle.std.proofs.Common.{◌≡◌, ◌≤◌, ◌+◌, length}
use Rattle.tablet_audit.specs.Verdicts.{Passes}
use Rattle.tablet_audit.proofs.judge.judge.Given as goal

abbrev pub invariant-pairs : goal.invariant-pairs
invariant-pairs l = record {
  passes : Passes l.sharing l.reopenings l.requests l.replies l.count l.recording.requests.now l.recording.replies.now l.judge;
  few : l.count + length l.recording.requests.now ≤ length l.requests;
}

abbrev pub decreases-pairs : goal.decreases-pairs
decreases-pairs l = length l.recording.requests.now
