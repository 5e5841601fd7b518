-- The names so far are listed.
use Rattle.std.proofs.Common.{take}
use Rattle.row_atomic.specs.MergeSteps.{AreListed}
use Rattle.row_atomic.proofs.cluster.Cluster.lists_sources.Given as goal

abbrev pub invariant-loop-name : goal.invariant-loop-name
invariant-loop-name g l = AreListed (take l.name-index l.name-items) l.self-inside.table
