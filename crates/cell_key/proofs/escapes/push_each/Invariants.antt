use Rattle.std.proofs.Common.{◌≡◌, ◌+◌, ◌≤◌, ◌++◌, length, drop, vec_len, vec_capacity}
use Rattle.cell_key.specs.Texts.{escaped}
use Rattle.cell_key.proofs.escapes.push_each.Given as goal

-- the bytes written and the rest are the whole, and there is room for the rest
abbrev pub invariant-loop-byte : goal.invariant-loop-byte
invariant-loop-byte l =
    record {
      written : l.out.items ++ escaped (drop l.byte-index l.bytes) ≡ l.fn.out.items ++ escaped l.bytes;
      counted : vec_len l.out + length (escaped (drop l.byte-index l.bytes)) ≡ vec_len l.fn.out + length (escaped l.bytes);
      room : vec_capacity l.fn.out ≤ vec_capacity l.out;
    }
