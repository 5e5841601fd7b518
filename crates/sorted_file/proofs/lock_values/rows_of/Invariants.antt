use Rattle.std.proofs.Common.{take}
use Rattle.std.specs.Prelude.{All}
use Rattle.sorted_file.specs.LockIndexes.{HasRow}
use Rattle.sorted_file.proofs.lock_values.rows_of.Given as goal

abbrev pub invariant-loop-lock : goal.invariant-loop-lock
invariant-loop-lock l = All (HasRow l.rows.words.items) (take l.lock-index l.locks)
