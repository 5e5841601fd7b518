use Rattle.std.proofs.Common.{take}
use Rattle.sorted_file.specs.LockStamps.{IsLatestOf}
use Rattle.sorted_file.proofs.lock_stamps.latest_of.Given as goal

abbrev pub invariant-loop-lock : goal.invariant-loop-lock
invariant-loop-lock l = IsLatestOf (take l.lock-index l.fn.locks) l.fn.lo l.fn.hi l.latest
