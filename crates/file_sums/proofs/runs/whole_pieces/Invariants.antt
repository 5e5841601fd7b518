use Rattle.std.proofs.Common.{◌≡◌, ◌≤◌, ◌+◌, ◌-◌, ◌*◌, length, drop}
use Rattle.file_sums.specs.Pieces.{pieces}
use Rattle.file_sums.proofs.runs.whole_pieces.Given as goal

-- the pieces so far, and the payload behind them
abbrev pub invariant-loop-rest : goal.invariant-loop-rest
invariant-loop-rest l = record {
  begun : l.first ≤ l.index;
  most : (l.index - l.first) * 1024 + length l.rest ≡ length l.payload;
  out : l.out.items ≡ pieces l.name l.first l.payload (l.index - l.first);
  rest : l.rest ≡ drop ((l.index - l.first) * 1024) l.payload;
}

abbrev pub decreases-loop-rest : goal.decreases-loop-rest
decreases-loop-rest l = length l.rest
