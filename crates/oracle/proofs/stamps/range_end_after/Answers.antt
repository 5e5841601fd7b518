use Rattle.std.proofs.Common.{arith}
use Rattle.oracle.proofs.stamps.range_end_after.Goals as goal

pub returns-then-range_end : goal.returns-then-range_end
returns-then-range_end c = omega arith
