use Rattle.std.proofs.Common.{Contains, take}
use Rattle.cell_key.specs.declared.keys.CellKey.{CellKey}
use Rattle.sorted_file.specs.Numbers.{IsAmong}
use Rattle.sorted_file.proofs.lock_values.copy_unnamed.Given as goal

abbrev pub invariant-loop-lock : goal.invariant-loop-lock
invariant-loop-lock l =
    ((key : CellKey) → Contains (take l.lock-index l.locks) key → ¬ Contains l.named key → Contains l.kept.items key)
    × IsAmong l.kept.items (take l.lock-index l.locks)
