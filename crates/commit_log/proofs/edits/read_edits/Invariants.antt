use Rattle.std.proofs.Common.{◌≡◌, ◌++◌, List, length}
use Rattle.std.specs.List.{AllByRecursion, flat_map}
use Rattle.cell_key.specs.declared.edits.Edit.{Edit}
use Rattle.commit_log.specs.Edits.{IsStoredEdit, spelled_as}
use Rattle.commit_log.proofs.edits.read_edits.Given as goal

-- the edits read so far and the remaining bytes are the whole record
abbrev pub invariant-loop-rest : goal.invariant-loop-rest
invariant-loop-rest l =
    (more : List Edit) × (l.edits.items ≡ l.fn.edits.items ++ more) × (l.bytes ≡ flat_map (spelled_as l.form) more ++ l.rest) × AllByRecursion IsStoredEdit more

abbrev pub decreases-loop-rest : goal.decreases-loop-rest
decreases-loop-rest l = length l.rest
