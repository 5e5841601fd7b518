use Rattle.std.proofs.Common.{take}
use Rattle.std.specs.List.{AllByRecursion}
use Rattle.commit_log.specs.Edits.{HoldEdits, IsStoredEdit}
use Rattle.commit_log.specs.Frames.{bytes_of}
use Rattle.commit_log.proofs.edits.edits_in.Given as goal

-- the edits of the first records were read
abbrev pub invariant-loop-record : goal.invariant-loop-record
invariant-loop-record l = record {
  held : HoldEdits (bytes_of (take l.record-index l.records)) l.edits.items;
  stored : AllByRecursion IsStoredEdit l.edits.items;
}
