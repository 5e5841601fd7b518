use Rattle.std.proofs.Common.{◌≡◌, ◌≤◌, ◌++◌, ◌+◌, ◌-◌, ◌*◌, length, drop}
use Rattle.file_sums.specs.Pieces.{pieces}
use Rattle.file_sums.proofs.runs.whole_payloads.Given as goal

-- the payload so far, and the bytes behind its pieces
abbrev pub invariant-loop-rest : goal.invariant-loop-rest
invariant-loop-rest l = record {
  begun : l.first ≤ l.index;
  whole : length l.payload.items ≡ (l.index - l.first) * 1024;
  most : (l.index - l.first) * 1030 + length l.rest ≡ length l.bytes;
  rest : l.rest ≡ drop ((l.index - l.first) * 1030) l.bytes;
  pieces : l.bytes ≡ pieces l.name l.first l.payload.items (l.index - l.first) ++ l.rest;
}

abbrev pub decreases-loop-rest : goal.decreases-loop-rest
decreases-loop-rest l = length l.rest
