use Rattle.std.proofs.Common.{◌≡◌, map, take}
use Rattle.sorted_file.specs.LockIndexes.{stamp_of}
use Rattle.sorted_file.proofs.lock_values.stamps_of.Given as goal

abbrev pub invariant-loop-lock : goal.invariant-loop-lock
invariant-loop-lock l = l.stamps.items ≡ map stamp_of (take l.lock-index l.locks)
