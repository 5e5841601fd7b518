use Rattle.std.proofs.Common.{◌≡◌, ◌++◌, ◌≤◌, length}
use Rattle.cell_key.specs.Texts.{escaped}
use Rattle.cell_key.proofs.decoding.copy_escaped.Given as goal

-- the bytes read are the text of the row so far, and there is room for a short row
abbrev pub invariant-loop-byte : goal.invariant-loop-byte
invariant-loop-byte l = (l.fn.bytes ≡ escaped l.row.items ++ l.left) × (32 ≤ l.row.capacity)

abbrev pub decreases-loop-byte : goal.decreases-loop-byte
decreases-loop-byte l = length l.left
