use Rattle.std.proofs.Common.{◌≡◌, ◌+◌, take}
use Rattle.std.specs.List.{AllByRecursion}
use Rattle.commit_log.specs.Edits.{IsMarked}
use Rattle.commit_log.specs.Frames.{IsBody, bytes_of}
use Rattle.commit_log.specs.Numbered.{store_log, upgraded}
use Rattle.commit_log.proofs.store_log.upgrade_log.Given as goal

-- the first records are upgraded
abbrev pub invariant-loop-edits : goal.invariant-loop-edits
invariant-loop-edits l = record {
  spelled : l.made.items ≡ store_log l.store l.first (upgraded (bytes_of (take l.edits-index l.edits-items)));
  counted : l.number ≡ l.first + l.edits-index;
  each : AllByRecursion IsBody (bytes_of (take l.edits-index l.edits-items));
  marked : AllByRecursion (IsMarked l.mark) (bytes_of (take l.edits-index l.edits-items));
}
