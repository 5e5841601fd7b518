use Rattle.std.proofs.Common.{◌≡◌, ◌+◌, ◌≤◌, length, drop}
use Rattle.cell_key.specs.Texts.{escaped}
use Rattle.commit_log.proofs.edits.zero_count.Given as goal

-- the zeros counted and those in the rest are all zeros
abbrev pub invariant-loop-byte : goal.invariant-loop-byte
invariant-loop-byte l =
    record {
      counted : (l.byte-index + l.count) + length (escaped (drop l.byte-index l.bytes)) ≡ length (escaped l.bytes);
      bound : l.count ≤ l.byte-index;
    }
