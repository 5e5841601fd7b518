use Rattle.std.proofs.Common.{◌≡◌, ◌++◌, take}
use Rattle.sorted_file.proofs.lock_values.push_copies.Given as goal

abbrev pub invariant-loop-lock : goal.invariant-loop-lock
invariant-loop-lock l = l.out.items ≡ l.initial.out.items ++ take l.lock-index l.locks
