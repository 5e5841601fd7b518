use Rattle.std.proofs.Common.{◌≡◌, ◌+◌, ◌*◌, ◌≤◌, length}
use Rattle.cell_key.specs.Texts.{escaped}
use Rattle.cell_key.proofs.escapes.escaped_len.Given as goal

-- the zeros counted and those in the rest are all zeros
abbrev pub invariant-chunks : goal.invariant-chunks
invariant-chunks l =
    record {
      counted : l.len + length (escaped l.left) ≡ length (escaped l.bytes) + length l.left;
      bound : l.len + length l.left ≤ 2 * length l.bytes;
      shorter : length l.left ≤ length l.bytes;
    }

abbrev pub decreases-chunks : goal.decreases-chunks
decreases-chunks l = length l.left
