use Rattle.std.proofs.Common.{◌≡◌, ◌++◌, drop}
use Rattle.std.specs.List.{flat_map}
use Rattle.remote_rows.specs.Messages.{edit_fields}
use Rattle.remote_rows.proofs.messages.push_edits.Given as goal

-- the edits so far, and then those that are left
abbrev pub invariant-loop-edit : goal.invariant-loop-edit
invariant-loop-edit l = l.out.items ++ flat_map edit_fields (drop l.edit-index l.edits) ≡ l.fn.out.items ++ flat_map edit_fields l.edits
