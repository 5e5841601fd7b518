use Rattle.std.proofs.Common.{◌≡◌, map, take}
use Rattle.cell_key.specs.Cells.{edited_key}
use Rattle.rows.proofs.slots.keys_of.Given as goal

-- the keys so far
abbrev pub invariant-loop-edit : goal.invariant-loop-edit
invariant-loop-edit l = l.keys.items ≡ map edited_key (take l.edit-index l.edits)
