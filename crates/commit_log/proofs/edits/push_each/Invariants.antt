use Rattle.std.proofs.Common.{◌≡◌, ◌++◌, take}
use Rattle.std.specs.List.{AllByRecursion}
use Rattle.commit_log.specs.Edits.{IsStoredEdit, spelled_edits}
use Rattle.commit_log.proofs.edits.push_each.Given as goal

-- the bytes of the first edits were appended
abbrev pub invariant-loop-edit : goal.invariant-loop-edit
invariant-loop-edit l = record {
  spelled : l.out.items ≡ l.fn.out.items ++ spelled_edits (take l.edit-index l.edits);
  stored : AllByRecursion IsStoredEdit (take l.edit-index l.edits);
}
