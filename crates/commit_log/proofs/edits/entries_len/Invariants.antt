use Rattle.std.proofs.Common.{◌≡◌, ◌*◌, ◌≤◌, length, take}
use Rattle.commit_log.specs.Edits.{spelled_entries}
use Rattle.commit_log.proofs.edits.entries_len.Given as goal

-- the length of the first edits
abbrev pub invariant-loop-edit : goal.invariant-loop-edit
invariant-loop-edit l =
    record {
      counted : l.len ≡ length (spelled_entries (take l.edit-index l.edits));
      bound : l.len ≤ 73628 * l.edit-index;
    }
