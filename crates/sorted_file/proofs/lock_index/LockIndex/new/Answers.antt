use Rattle.std.proofs.Common.{ap, length, map, arith}
use Rattle.sorted_file.specs.LockIndexes.{stamp_of}
use Rattle.sorted_file.proofs.KeptLocks.{none_in}
use Rattle.sorted_file.proofs.lock_index.LockIndex.new.Goals as goal

pub invariant_of-result : goal.invariant_of-result
invariant_of-result c = (
  λ stamp there. absurd (none_in (map stamp_of c.new.result.items) (ap (map stamp_of) c.new.ensures.items) stamp there),
  λ stamp there. absurd (none_in c.new-2.result.items c.new-2.ensures.items stamp (c.new-3.ensures.only stamp there)),
  λ k d below. let size = ap length c.new.ensures.items in absurd (omega (arith, below, size)),
)
