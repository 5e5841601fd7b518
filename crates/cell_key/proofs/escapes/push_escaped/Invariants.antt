use Rattle.std.proofs.Common.{◌≡◌, ◌+◌, ◌≤◌, ◌++◌, length, vec_len, vec_capacity}
use Rattle.cell_key.specs.Texts.{escaped}
use Rattle.cell_key.proofs.escapes.push_escaped.Given as goal

-- the bytes written and the rest are the whole, and there is room for the rest
abbrev pub invariant-chunks : goal.invariant-chunks
invariant-chunks l =
    record {
      written : l.out.items ++ escaped l.left ≡ l.fn.out.items ++ escaped l.bytes;
      counted : vec_len l.out + length (escaped l.left) ≡ vec_len l.fn.out + length (escaped l.bytes);
      room : vec_capacity l.fn.out ≤ vec_capacity l.out;
    }

abbrev pub decreases-chunks : goal.decreases-chunks
decreases-chunks l = length l.left
